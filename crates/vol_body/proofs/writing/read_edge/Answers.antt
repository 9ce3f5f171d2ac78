use Rattle.std.proofs.Common.{◌≡◌, ◌∙◌, ap, arith}
use Rattle.std.proofs.lemmas.Result.{IfOk-weaker}
use Rattle.std.proofs.lemmas.Grind.{common_steps}
use Rattle.vol_log.specs.Log.{view}
use Rattle.vol_body.specs.Body.{data_block, named, block_bytes}
use Rattle.vol_body.proofs.writing.read_edge.Goals as goal

pub returns-clause-bytes : goal.returns-clause-bytes
returns-clause-bytes g c last le h names mirrors partly =
    let content = view c.args.log.now in
    let number = c.sector_by-n.ensures.number content last le names mirrors in
    IfOk-weaker c.read_taken.result (λ image. image ≡ block_bytes content c.sector_by-n.result) (λ image. image ≡ block_bytes content (named content c.args.entry.now (data_block c.args.j)))
    (λ image read. read ∙ ap (block_bytes content) number) (c.read_taken.ensures.bytes h)

pub returns-then-j-end-clause-reads : goal.returns-then-j-end-clause-reads
returns-then-j-end-clause-reads c = grind (arith, common_steps)
