use Rattle.std.proofs.Common.{◌≡◌, ◌∙◌, ◌+◌, ◌<◌, sym, ap, length, drop, List, Bool, false}
use Rattle.std.proofs.lemmas.List.{drop_all}
use Rattle.vol_sector.specs.Crash.{written_since}
use Rattle.vol_sector.specs.declared.record.Operation.{Operation}
use Rattle.vol_sector.specs.declared.record.Operation.TheVariants.{Write, Sync}
use Rattle.vol_sector.proofs.Crash.{written_next, written_here, written_elsewhere}
use Rattle.vol_sector.proofs.memory.was_written.Goals as goal
use Rattle.vol_sector.proofs.memory.was_written.Goals.{in-Sync, in-Write+then-sector-n, in-Write+else-sector-n}

pub loop-operation-preserved : goal.loop-operation-preserved
loop-operation-preserved c =
    let n = c.args.n in
    let ops = c.args.operations.now in
    let i = c.loop-operation.operation-index in
    let lt : i < length ops = c.loop-operation-test.true in
    let so_far = c.loop-operation.written in
    let inv : written_since n so_far (drop i ops) ≡ written_since n false ops = c.loop-operation.invariant in
    elim c.match-operation.branch [
      | in-Sync w ↦ ap (λ (b : Bool). written_since n b (drop (i + 1) ops)) w.written-is ∙ sym (written_next n ops i Sync so_far lt w.in-Sync.is) ∙ inv
      | in-Write+then-sector-n w ↦ ap (λ (b : Bool). written_since n b (drop (i + 1) ops)) (w.written-is ∙ sym (written_here n w.in-Write.sector so_far w.if-sector-n.true)) ∙ sym (written_next n ops i (Write w.in-Write.sector _) so_far lt w.in-Write.is) ∙ inv
      | in-Write+else-sector-n w ↦ ap (λ (b : Bool). written_since n b (drop (i + 1) ops)) (w.written-is ∙ sym (written_elsewhere n w.in-Write.sector so_far w.if-sector-n.false)) ∙ sym (written_next n ops i (Write w.in-Write.sector _) so_far lt w.in-Write.is) ∙ inv
    ]

pub returns : goal.returns
returns c =
    let ops = c.args.operations.now in
    sym (ap (λ (l : List Operation). written_since c.args.n c.loop-operation.written l) (drop_all c.loop-operation.operation-index ops c.loop-operation-test.false)) ∙ c.loop-operation.invariant
