use Rattle.std.proofs.Common.{◌≤◌, ℕ, List, length, take, sym, ap, ◌∙◌, inl, inr, subst, arith}
use Rattle.std.proofs.lemmas.Grind.{common_steps}
use Rattle.vol_body.specs.Source as source
use Rattle.vol_tree.specs.Opened.{geometry}
use Rattle.vol_tree.specs.Calls.{written}
use Rattle.wasi_bodies.proofs.checks.BufferArrays.{source_inside, source_taken}
use Rattle.wasi_bodies.proofs.files.WriteCalls.{unit_gives, unit_refuses}
use Rattle.wasi_bodies.proofs.files.writing.put_bytes.Goals as goal

pub gather-bytes-requires-clause-inside : goal.gather-bytes-requires-clause-inside
gather-bytes-requires-clause-inside g c = source_inside c.args.memory.now c.args.buffers.now c.requires.inside

pub gather-bytes-requires-clause-enough : goal.gather-bytes-requires-clause-enough
gather-bytes-requires-clause-enough g c =
    let taken = source_taken c.args.memory.now c.args.buffers.now c.min-len.result c.requires.inside (omega (arith, c.min-len.ensures, c.total_len.ensures)) in
    taken.0

pub returns-in-Ok : goal.returns-in-Ok
returns-in-Ok g c = record {
  written = λ h.
      let old = c.args.volume.now in
      let taken = source_taken c.args.memory.now c.args.buffers.now c.min-len.result c.requires.inside (omega (arith, c.min-len.ensures, c.total_len.ensures)) in
      let same = c.gather-bytes.ensures ∙ taken.1 in (
        taken.2,
        ap (written (geometry old.numbers) old.tree c.args.serial c.args.at) (sym same) ∙ unit_gives _ _ (c.in-Ok.ensures.answer h),
      );
  refused = λ h. tt;
  crash = c.in-Ok.ensures.crash;
  kept = c.in-Ok.ensures.kept;
  goes_on = c.in-Ok.ensures.goes_on;
}

pub returns-in-Err : goal.returns-in-Err
returns-in-Err g c = record {
  written = λ h. tt;
  refused = λ h.
      let old = c.args.volume.now in
      let taken = source_taken c.args.memory.now c.args.buffers.now c.min-len.result c.requires.inside (omega (arith, c.min-len.ensures, c.total_len.ensures)) in
      let same = c.gather-bytes.ensures ∙ taken.1 in
      let (tree, meant) = c.in-Err.ensures.answer h in (
        tree,
        elim meant [
          | inl is ↦ inl (ap (written (geometry old.numbers) old.tree c.args.serial c.args.at) (sym same) ∙ unit_refuses _ _ is)
          | inr io ↦ inr io
        ],
      );
  crash = c.in-Err.ensures.crash;
  kept = c.in-Err.ensures.kept;
  goes_on = c.in-Err.ensures.goes_on;
}

pub write_from-requires-clause-piece : goal.write_from-requires-clause-piece
write_from-requires-clause-piece c = grind (arith, common_steps)
