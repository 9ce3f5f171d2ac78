use Rattle.std.proofs.Common.{◌≡◌, ◌*◌, ◌++◌, ℕ, List, Ok, inr, length, take, drop, false, true, ap, subst, rules, arith}
use Rattle.std.proofs.lemmas.Grind.{common_steps}
use Rattle.vol_tree.specs.Tree.{Tree}
use Rattle.vol_tree.specs.Calls.{bytes_at}
use Rattle.path_walk.specs.Walk.{Asked}
use Rattle.path_walk.proofs.Chaining.{asked_then}
use Rattle.stream_answers.specs.Hearing.{Moves, Refuses, stays}
use Rattle.stream_answers.proofs.Hearing.{then}
use Rattle.vol_commands.proofs.Asking.{asked_on, works_on}
use Rattle.vol_commands.proofs.Blamed.{blame}
use Rattle.vol_tar.proofs.Blamed.{hears_none, hears_so}
use Rattle.vol_tar.proofs.ReadPieces.{piece_broken, piece_printed, pieces_so_far}
use Rattle.vol_commands.proofs.Printed.{stream_refused, tree_refused}
use Rattle.std.proofs.KnownBytes.{Keeps-refl}
use Rattle.vol_commands.specs.Blame.{blames_device, blames_stream}
use Rattle.vol_commands.specs.declared.failure.Failure.TheVariants as failure
use Rattle.stream_answers.proofs.Handed.{part_none}
use Rattle.vol_commands.proofs.printing.print_bytes.Goals as goal

pub loop-n-preserved : goal.loop-n-preserved
loop-n-preserved g c =
    let now = c.in_ok-read.ensures in
    let before = c.loop-n.invariant in
    let step : Asked g.D.Device.honest g.D.Device.disk g.D.Device.size g.D.Device.failures g.D.Device.goes_on c.loop-n.volume c.read.new.self false =
    record { tree = λ h. (now.answer h).2; crash = now.crash; kept = now.kept; goes = now.goes_on } in
    record {
      working = works_on g.D.Device.honest g.D.Device.disk g.D.Device.size g.D.Device.failures g.D.Device.goes_on c.loop-n.volume c.read.new.self before.working step;
      asked = asked_then g.D.Device.honest g.D.Device.disk g.D.Device.size g.D.Device.failures g.D.Device.goes_on c.args.volume.now c.loop-n.volume c.read.new.self false before.asked step;
      heard = then before.heard c.in_ok-print_all.ensures.heard;
      printed = λ h.
          let told = now.answer (before.asked.kept.honest.0 h) in
          let same : bytes_at c.loop-n.volume.tree c.args.file ≡ bytes_at c.args.volume.now.tree c.args.file = ap (λ (T : Tree). bytes_at T c.args.file) (before.asked.tree h) in
          let meant = λ (bytes : List ℕ). (c.in_ok-read.field-0 ≡ length (take (length c.loop-n.piece) (drop (c.from.result * 16384) bytes)))
          × (c.read.new.buffer ≡ take (length c.loop-n.piece) (drop (c.from.result * 16384) bytes) ++ drop c.in_ok-read.field-0 c.loop-n.piece) in
          let got = subst meant same (told.0, told.1) in
          piece_printed (g.W.Write.contents c.args.out.now) (g.W.Write.contents c.loop-n.out) (g.W.Write.contents c.print_all.new.out) (bytes_at c.args.volume.now.tree c.args.file)
          c.loop-n.piece c.read.new.buffer c.loop-n.n (c.from.result * 16384) (length c.loop-n.piece) c.in_ok-read.field-0 c.min-count.result
          (ap (λ (k : ℕ). k * 16384) c.from.ensures) (search rules) got.0 got.1 c.min-count.ensures (before.printed h) c.in_ok-print_all.ensures.all;
    }

pub loop-n-init : goal.loop-n-init
loop-n-init g c = record {
  working = grind (arith, common_steps);
  asked = grind (arith, common_steps);
  heard = stays;
  printed = grind (arith, common_steps);
}

pub read-requires-clause-last : goal.read-requires-clause-last
read-requires-clause-last c = grind (arith, common_steps)

pub returns-clause-prints : goal.returns-clause-prints
returns-clause-prints c = grind (arith, common_steps)

pub returns-in_err-read-clause-asked : goal.returns-in_err-read-clause-asked
returns-in_err-read-clause-asked g c =
    let now = c.in_err-read.ensures in
    asked_on g.D.Device.honest g.D.Device.disk g.D.Device.size g.D.Device.failures g.D.Device.goes_on blames_device c.from_residual-in_err-read.result (failure.Tree c.in_err-read.field-0.0) c.from_residual-in_err-read.ensures.1 c.args.volume.now c.read.new.self
    (asked_then g.D.Device.honest g.D.Device.disk g.D.Device.size g.D.Device.failures g.D.Device.goes_on c.args.volume.now c.loop-n.volume c.read.new.self _ c.loop-n.invariant.asked (record { tree = λ h. (now.answer h).1; crash = now.crash; kept = now.kept; goes = now.goes_on }))

pub slice_bounds-print_all-end : goal.slice_bounds-print_all-end
slice_bounds-print_all-end c = grind (arith, common_steps)

-- the device failed: the pieces so far are printed
pub returns-in_err-read-clause-prints : goal.returns-in_err-read-clause-prints
returns-in_err-read-clause-prints g c h =
    let before = c.loop-n.invariant in
    let bytes = bytes_at c.args.volume.now.tree c.args.file in
    let told = c.in_err-read.ensures.answer (before.asked.kept.honest.0 h) in
    tree_refused (Ok bytes) (g.W.Write.contents c.args.out.now) (g.W.Write.contents c.loop-n.out) c.in_err-read.field-0.0 c.from_residual-in_err-read.result
    (inr (told.0, pieces_so_far (g.W.Write.contents c.args.out.now) (g.W.Write.contents c.loop-n.out) bytes (c.loop-n.n * 16384) (before.printed h))) c.from_residual-in_err-read.ensures.1

-- the output failed: a part of this piece is printed, too
pub returns-in_err-print_all-clause-prints : goal.returns-in_err-print_all-clause-prints
returns-in_err-print_all-clause-prints g c h =
    let before = c.loop-n.invariant in
    let now = c.in_ok-read.ensures in
    let bytes = bytes_at c.args.volume.now.tree c.args.file in
    let told = now.answer (before.asked.kept.honest.0 h) in
    let same : bytes_at c.loop-n.volume.tree c.args.file ≡ bytes = ap (λ (T : Tree). bytes_at T c.args.file) (before.asked.tree h) in
    let meant = λ (bytes : List ℕ). (c.in_ok-read.field-0 ≡ length (take (length c.loop-n.piece) (drop (c.from.result * 16384) bytes)))
    × (c.read.new.buffer ≡ take (length c.loop-n.piece) (drop (c.from.result * 16384) bytes) ++ drop c.in_ok-read.field-0 c.loop-n.piece) in
    let got = subst meant same (told.0, told.1) in
    stream_refused bytes (g.W.Write.contents c.args.out.now) (g.W.Write.contents c.print_all.new.out) c.from_residual-in_err-print_all.result
    (piece_broken (g.W.Write.contents c.args.out.now) (g.W.Write.contents c.loop-n.out) (g.W.Write.contents c.print_all.new.out) bytes
    c.loop-n.piece c.read.new.buffer c.loop-n.n (c.from.result * 16384) (length c.loop-n.piece) c.in_ok-read.field-0 c.min-count.result
    (ap (λ (k : ℕ). k * 16384) c.from.ensures) (search rules) got.0 got.1 c.min-count.ensures (before.printed h) c.in_err-print_all.ensures.part)
    c.from_residual-in_err-print_all.ensures.1

pub returns-in_err-print_all-clause-asked : goal.returns-in_err-print_all-clause-asked
returns-in_err-print_all-clause-asked g c =
    let now = c.in_ok-read.ensures in
    asked_on g.D.Device.honest g.D.Device.disk g.D.Device.size g.D.Device.failures g.D.Device.goes_on blames_device c.from_residual-in_err-print_all.result failure.Stream c.from_residual-in_err-print_all.ensures.1 c.args.volume.now c.read.new.self
    (asked_then g.D.Device.honest g.D.Device.disk g.D.Device.size g.D.Device.failures g.D.Device.goes_on c.args.volume.now c.loop-n.volume c.read.new.self false c.loop-n.invariant.asked (record { tree = λ h. (now.answer h).2; crash = now.crash; kept = now.kept; goes = now.goes_on }))

-- the device failed before anything was printed
pub returns-in_err-size-clause-prints : goal.returns-in_err-size-clause-prints
returns-in_err-size-clause-prints g c h =
    let bytes = bytes_at c.args.volume.now.tree c.args.file in
    let out = g.W.Write.contents c.args.out.now in
    tree_refused (Ok bytes) out out c.in_err-size.field-0.0 c.from_residual.result (inr ((c.in_err-size.ensures.answer h).0, part_none out out bytes (Keeps-refl out))) c.from_residual.ensures.1

-- ---- what the output refused

pub returns-clause-heard : goal.returns-clause-heard
returns-clause-heard g c = c.loop-n.invariant.heard

pub returns-in_err-size-clause-heard : goal.returns-in_err-size-clause-heard
returns-in_err-size-clause-heard g c =
    hears_none (Moves g.W.Outlet.took) (Refuses g.W.Outlet.took g.W.Outlet.refused) (blames_stream c.from_residual.result) (blame c.from_residual.result (failure.Tree c.in_err-size.field-0.0) c.from_residual.ensures.1) _ _ stays

pub returns-in_err-read-clause-heard : goal.returns-in_err-read-clause-heard
returns-in_err-read-clause-heard g c =
    hears_none (Moves g.W.Outlet.took) (Refuses g.W.Outlet.took g.W.Outlet.refused) (blames_stream c.from_residual-in_err-read.result)
    (blame c.from_residual-in_err-read.result (failure.Tree c.in_err-read.field-0.0) c.from_residual-in_err-read.ensures.1) _ _ c.loop-n.invariant.heard

pub returns-in_err-print_all-clause-heard : goal.returns-in_err-print_all-clause-heard
returns-in_err-print_all-clause-heard g c =
    hears_so (Moves g.W.Outlet.took) (Refuses g.W.Outlet.took g.W.Outlet.refused) (blames_stream c.from_residual-in_err-print_all.result) true
    (blame c.from_residual-in_err-print_all.result failure.Stream c.from_residual-in_err-print_all.ensures.1) _ _ _ c.loop-n.invariant.heard c.in_err-print_all.ensures.heard
