use Rattle.std.proofs.Common.{◌≡◌, ◌∙◌, ap, ℕ, ◌/◌, sym, arith}
use Rattle.vol_body.proofs.SurveyExits.{at_any_ok}
use Rattle.vol_log.proofs.Readings.{reads_then}
use Rattle.std.proofs.lemmas.Result.{IfOk-weaker, IfOk-from_err}
use Rattle.vol_sector.specs.Disk.{Image}
use Rattle.vol_log.specs.Log.{view}
use Rattle.vol_body.specs.Body.{data_block, named, block_bytes}
use Rattle.vol_body.proofs.holding.read_held.Goals as goal

pub returns-clause-bytes : goal.returns-clause-bytes
returns-clause-bytes g c h names is_held =
    let content = view c.args.log.now in
    let between = view c.hold_group.new.log in
    let e = c.args.entry.now in
    let j = c.args.j in
    let n = c.held_sector-n.result in
    let same : between ≡ content = c.in_ok-hold_group.ensures.reads.view h in
    let number : n ≡ named content e (data_block j) =
    c.held_sector-n.ensures.number content c.args.last c.requires.place names (c.in_ok-hold_group.ensures.held h names is_held) in
    IfOk-weaker c.read_taken.result (λ image. image ≡ block_bytes between n) (λ image. image ≡ block_bytes content (named content e (data_block j)))
    (λ image read. read ∙ (ap (λ (m : Image). block_bytes m n) same ∙ ap (block_bytes content) number)) (c.read_taken.ensures.bytes (c.hold_group.ensures.reads.honest.0 h))

pub hold_group-requires : goal.hold_group-requires
hold_group-requires g c = record { small = c.requires.small; there = c.requires.there; working = c.requires.working }

pub returns-in_err-hold_group : goal.returns-in_err-hold_group
returns-in_err-hold_group g c =
    let r = c.from_residual.result in
    let is_err_now = c.from_residual.ensures.0 in
    let e = c.in_err-hold_group.ensures in
    record {
      bytes = λ h names is_held. IfOk-from_err r _ is_err_now;
      held = λ h names is_held. IfOk-from_err r _ is_err_now;
      reads = e.reads;
      failed = e.failed ∙ sym is_err_now;
    }

pub held_sector-n-requires : goal.held_sector-n-requires
held_sector-n-requires g c = record {
  place = omega (arith, c.requires.place, c.requires.small);
  group = c.in_ok-hold_group.ensures.group ∙ ap (λ (x : ℕ). x / 128) c.saturating_sub-group.ensures;
}

pub read_taken-requires : goal.read_taken-requires
read_taken-requires g c =
    let e = c.in_ok-hold_group.ensures in
    record { taken = c.held_sector-n.ensures.taken; there = omega (arith, c.requires.there, e.reads.sectors); working = e.failed }

pub returns-clause-held : goal.returns-clause-held
returns-clause-held g c h names is_held = at_any_ok c.read_taken.result _ (c.in_ok-hold_group.ensures.held h names is_held)

pub returns-clause-reads : goal.returns-clause-reads
returns-clause-reads g c = reads_then c.args.log.now c.hold_group.new.log c.read_taken.new.log c.in_ok-hold_group.ensures.failed c.in_ok-hold_group.ensures.reads c.read_taken.ensures.reads

pub returns-clause-failed : goal.returns-clause-failed
returns-clause-failed g c = c.read_taken.ensures.failed
