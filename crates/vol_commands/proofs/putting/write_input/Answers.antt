use Rattle.std.proofs.Common.{◌≡◌, ◌⊎◌, ◌+◌, ◌++◌, length, take, Ok, Err, false, subst, arith, rules, length-append, true}
use Rattle.std.proofs.lemmas.List.{length-take-le}
use Rattle.std.proofs.KnownBytes.{Consumes-trans}
use Rattle.std.proofs.lemmas.Grind.{common_steps}
use Rattle.vol_tree.specs.declared.superblock.Superblock.{Superblock}
use Rattle.vol_tree.specs.declared.errno.Errno.TheVariants as errno
use Rattle.vol_tree.specs.Calls.{with_unit, written}
use Rattle.vol_tree.specs.Opened.{geometry}
use Rattle.vol_commands.specs.Tasks.{HasBeginning}
use Rattle.vol_tree.proofs.GoingOn.{goes_then}
use Rattle.vol_tar.proofs.Kept.{keeps_then}
use Rattle.vol_commands.proofs.Asking.{works_after}
use Rattle.vol_tar.proofs.Moments.{any_then}
use Rattle.vol_tar.proofs.Filled.{file_there, piece_written}
use Rattle.vol_tar.proofs.Results.{consumed_begins}
use Rattle.vol_commands.proofs.Filled.{fill_refused}
use Rattle.vol_commands.proofs.Filled.{fill_stopped}
use Rattle.stream_answers.specs.Hearing.{Moves, stays}
use Rattle.stream_answers.proofs.Hearing.{then}
use Rattle.vol_tar.proofs.Blamed.{hears_none, hears_so}
use Rattle.vol_commands.proofs.Blamed.{blame}
use Rattle.vol_commands.specs.Blame.{blames_stream}
use Rattle.vol_commands.specs.declared.failure.Failure.TheVariants.{Stream, Tree}
use Rattle.vol_commands.proofs.putting.write_input.Goals as goal

pub returns-in_err-write-clause-fills : goal.returns-in_err-write-clause-fills
returns-in_err-write-clause-fills g c h =
    let before = c.loop-offset.invariant in
    let now = before.kept.honest.0 h in
    let so_far = before.filled h in
    let v = c.args.volume.now.numbers in
    let T = c.args.volume.now.tree in
    let p = take c.in_ok-count.count c.read_piece.new.piece in
    let at_numbers = λ (h : g.D.Device.honest c.loop-offset.volume.device). subst (λ (w : Superblock). (c.write.new.self.tree ≡ c.loop-offset.volume.tree)
    × ((with_unit (written (geometry w) c.loop-offset.volume.tree c.args.file c.loop-offset.offset p) ≡ Err c.in_err-write.field-0.0) ⊎ (c.in_err-write.field-0.0 ≡ errno.Io)))
    before.kept.numbers (c.in_err-write.ensures.answer h) in
    fill_refused (geometry v) T c.loop-offset.volume.tree c.write.new.self.tree c.args.file c.loop-offset.offset so_far.0 p
    (g.R.Read.remaining c.args.input.now) (g.R.Read.remaining c.loop-offset.input) (g.R.Read.remaining c.read_piece.new.input) c.in_err-write.field-0.0 c.from_residual-in_err-write.result
    (file_there T c.args.file (c.requires.file h).file) so_far.2 so_far.3 so_far.1 c.in_ok-count.ensures.bytes (at_numbers now) c.from_residual-in_err-write.ensures.1

pub returns-in_err-write-clause-crash : goal.returns-in_err-write-clause-crash
returns-in_err-write-clause-crash g c h =
    let before = c.loop-offset.invariant in
    let so_far = before.filled h in
    any_then (g.D.Device.disk c.args.volume.now.device) c.args.volume.now.numbers (HasBeginning c.args.volume.now.tree c.args.file (g.R.Read.remaining c.args.input.now))
    (g.D.Device.disk c.loop-offset.volume.device) (g.D.Device.disk c.write.new.self.device) c.loop-offset.volume.numbers c.loop-offset.volume.tree before.kept.numbers
    (so_far.0, consumed_begins (g.R.Read.remaining c.args.input.now) (g.R.Read.remaining c.loop-offset.input) so_far.0 so_far.1, so_far.2)
    (before.crash h) (c.in_err-write.ensures.crash (before.kept.honest.0 h))

pub returns-then-count-lt-PIECE-clause-crash : goal.returns-then-count-lt-PIECE-clause-crash
returns-then-count-lt-PIECE-clause-crash g c h =
    let before = c.loop-offset.invariant in
    let so_far = before.filled h in
    any_then (g.D.Device.disk c.args.volume.now.device) c.args.volume.now.numbers (HasBeginning c.args.volume.now.tree c.args.file (g.R.Read.remaining c.args.input.now))
    (g.D.Device.disk c.loop-offset.volume.device) (g.D.Device.disk c.write.new.self.device) c.loop-offset.volume.numbers c.loop-offset.volume.tree before.kept.numbers
    (so_far.0, consumed_begins (g.R.Read.remaining c.args.input.now) (g.R.Read.remaining c.loop-offset.input) so_far.0 so_far.1, so_far.2)
    (before.crash h) (c.in_ok-write.ensures.crash (before.kept.honest.0 h))

pub returns-then-count-lt-PIECE-clause-fills : goal.returns-then-count-lt-PIECE-clause-fills
returns-then-count-lt-PIECE-clause-fills g c h =
    let before = c.loop-offset.invariant in
    let so_far = before.filled h in
    let T = c.args.volume.now.tree in
    let p = take c.in_ok-count.count c.read_piece.new.piece in
    let answer = subst (λ (w : Superblock). with_unit (written (geometry w) c.loop-offset.volume.tree c.args.file c.loop-offset.offset p) ≡ Ok (c.write.new.self.tree, tt))
    before.kept.numbers (c.in_ok-write.ensures.answer (before.kept.honest.0 h)) in
    let fits = piece_written (geometry c.args.volume.now.numbers) T c.loop-offset.volume.tree c.args.file c.loop-offset.offset so_far.0 (file_there T c.args.file (c.requires.file h).file) so_far.2 so_far.3 p c.write.new.self.tree so_far.4 answer in
    let whole : length c.read_piece.new.piece ≡ 16384 = search rules in (
      so_far.0 ++ p,
      Consumes-trans (g.R.Read.remaining c.args.input.now) (g.R.Read.remaining c.loop-offset.input) (g.R.Read.remaining c.read_piece.new.input) so_far.0 p so_far.1 c.in_ok-count.ensures.bytes,
      c.in_ok-count.ensures.end (omega (arith, whole, c.if-count-lt-PIECE.true)),
      fits.is,
    )

pub loop-offset-init : goal.loop-offset-init
loop-offset-init g c = record {
  working = grind (arith, common_steps);
  heard = stays;
  kept = grind (arith, common_steps);
  goes = grind (arith, common_steps);
  filled = grind (arith, common_steps);
  crash = grind (arith, common_steps);
}

pub loop-offset-preserved : goal.loop-offset-preserved
loop-offset-preserved g c =
    let before = c.loop-offset.invariant in
    let kept = keeps_then g.D.Device.honest g.D.Device.size g.D.Device.failures c.args.volume.now c.loop-offset.volume c.write.new.self false before.kept c.in_ok-write.ensures.kept in
    let T = c.args.volume.now.tree in
    let p = take c.in_ok-count.count c.read_piece.new.piece in
    record {
      working = works_after g.D.Device.honest g.D.Device.size g.D.Device.failures c.loop-offset.volume c.write.new.self before.working c.in_ok-write.ensures.kept;
      heard = then before.heard c.in_ok-count.ensures.heard;
      kept = kept;
      goes = goes_then g.D.Device.goes_on c.args.volume.now c.loop-offset.volume c.write.new.self before.kept.numbers before.goes c.in_ok-write.ensures.goes_on;
      filled = λ h.
          let so_far = before.filled h in
          let answer = subst (λ (w : Superblock). with_unit (written (geometry w) c.loop-offset.volume.tree c.args.file c.loop-offset.offset p) ≡ Ok (c.write.new.self.tree, tt))
          before.kept.numbers (c.in_ok-write.ensures.answer (before.kept.honest.0 h)) in
          let fits = piece_written (geometry c.args.volume.now.numbers) T c.loop-offset.volume.tree c.args.file c.loop-offset.offset so_far.0 (file_there T c.args.file (c.requires.file h).file) so_far.2 so_far.3 p c.write.new.self.tree so_far.4 answer in
          let long : length p ≡ c.in_ok-count.count = length-take-le c.in_ok-count.count c.read_piece.new.piece c.in_ok-count.ensures.within in
          let all : length (so_far.0 ++ p) ≡ length so_far.0 + length p = length-append so_far.0 p in (
            so_far.0 ++ p,
            Consumes-trans (g.R.Read.remaining c.args.input.now) (g.R.Read.remaining c.loop-offset.input) (g.R.Read.remaining c.read_piece.new.input) so_far.0 p so_far.1 c.in_ok-count.ensures.bytes,
            fits.is,
            omega (arith, so_far.3, all, long, fits.small),
            fits.small,
          );
      crash = λ h.
          let so_far = before.filled h in
          any_then (g.D.Device.disk c.args.volume.now.device) c.args.volume.now.numbers (HasBeginning T c.args.file (g.R.Read.remaining c.args.input.now))
          (g.D.Device.disk c.loop-offset.volume.device) (g.D.Device.disk c.write.new.self.device) c.loop-offset.volume.numbers c.loop-offset.volume.tree before.kept.numbers
          (so_far.0, consumed_begins (g.R.Read.remaining c.args.input.now) (g.R.Read.remaining c.loop-offset.input) so_far.0 so_far.1, so_far.2)
          (before.crash h) (c.in_ok-write.ensures.crash (before.kept.honest.0 h));
    }

pub returns-then-count-lt-PIECE-clause-kept : goal.returns-then-count-lt-PIECE-clause-kept
returns-then-count-lt-PIECE-clause-kept c = grind (arith, common_steps)

pub returns-in_err-count-clause-fills : goal.returns-in_err-count-clause-fills
returns-in_err-count-clause-fills g c h =
    let so_far = c.loop-offset.invariant.filled h in
    let before = g.R.Read.remaining c.args.input.now in
    fill_stopped (geometry c.args.volume.now.numbers) c.args.volume.now.tree c.loop-offset.volume.tree c.args.file before (g.R.Read.remaining c.read_piece.new.input) c.from_residual.result
    (so_far.0, consumed_begins before (g.R.Read.remaining c.loop-offset.input) so_far.0 so_far.1, so_far.2) c.from_residual.ensures.1

pub returns-in_err-write-clause-goes_on : goal.returns-in_err-write-clause-goes_on
returns-in_err-write-clause-goes_on g c = goes_then g.D.Device.goes_on c.args.volume.now c.loop-offset.volume c.write.new.self c.loop-offset.invariant.kept.numbers c.loop-offset.invariant.goes c.in_err-write.ensures.goes_on

pub returns-then-count-lt-PIECE-clause-goes_on : goal.returns-then-count-lt-PIECE-clause-goes_on
returns-then-count-lt-PIECE-clause-goes_on g c = goes_then g.D.Device.goes_on c.args.volume.now c.loop-offset.volume c.write.new.self c.loop-offset.invariant.kept.numbers c.loop-offset.invariant.goes c.in_ok-write.ensures.goes_on

pub returns-in_err-count-clause-heard : goal.returns-in_err-count-clause-heard
returns-in_err-count-clause-heard g c =
    hears_so (Moves g.R.Inlet.gave) g.R.Inlet.refused (blames_stream c.from_residual.result) true (blame c.from_residual.result Stream c.from_residual.ensures.1) _ _ _ c.loop-offset.invariant.heard c.in_err-count.ensures.heard

pub returns-in_err-write-clause-heard : goal.returns-in_err-write-clause-heard
returns-in_err-write-clause-heard g c =
    hears_none (Moves g.R.Inlet.gave) g.R.Inlet.refused (blames_stream c.from_residual-in_err-write.result) (blame c.from_residual-in_err-write.result (Tree c.in_err-write.field-0.0) c.from_residual-in_err-write.ensures.1) _ _ (then c.loop-offset.invariant.heard c.in_ok-count.ensures.heard)

pub returns-then-count-lt-PIECE-clause-heard : goal.returns-then-count-lt-PIECE-clause-heard
returns-then-count-lt-PIECE-clause-heard g c = then c.loop-offset.invariant.heard c.in_ok-count.ensures.heard

pub returns-clause-heard : goal.returns-clause-heard
returns-clause-heard g c = c.loop-offset.invariant.heard

-- no file is longer
pub returns-clause-fills : goal.returns-clause-fills
returns-clause-fills g c h =
    let so_far = c.loop-offset.invariant.filled h in absurd (omega (arith, so_far.3, so_far.4, c.loop-offset-test.false))
