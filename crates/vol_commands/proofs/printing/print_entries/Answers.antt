use Rattle.std.proofs.Common.{◌≡◌, ◌++◌, ℕ, List, drop, false, true, ap, sym, subst, ◌∙◌, append_assoc, append-nil, refl, arith}
use Rattle.std.specs.List.{flat_map}
use Rattle.std.specs.Io.KnownBytes.{Appends}
use Rattle.std.proofs.KnownBytes.{Appends-trans}
use Rattle.std.proofs.lemmas.Option.{same_Some}
use Rattle.std.proofs.lemmas.Grind.{common_steps}
use Rattle.vol_tree.specs.Tree.{Tree, Entry, entry}
use Rattle.vol_tree.specs.Stat.{IsStat}
use Rattle.vol_tree.specs.Calls.{next_child}
use Rattle.path_walk.specs.Walk.{Asked}
use Rattle.path_walk.proofs.Chaining.{asked_then}
use Rattle.stream_answers.specs.Hearing.{Moves, Refuses, stays}
use Rattle.stream_answers.proofs.Hearing.{then}
use Rattle.stream_answers.specs.Printing.{AppendsPart}
use Rattle.vol_commands.specs.Listing.{line_in, line_of, listing}
use Rattle.vol_commands.proofs.Asking.{works_on}
use Rattle.vol_commands.proofs.Listing.{next_child_is, no_child_left}
use Rattle.vol_tar.proofs.Blamed.{hears_none, hears_so}
use Rattle.stream_answers.proofs.Handed.{part_then}
use Rattle.vol_commands.specs.Blame.{blames_stream}
use Rattle.vol_commands.specs.declared.failure.Failure.TheVariants as failure
use Rattle.vol_commands.proofs.Blamed.{blame}
use Rattle.vol_commands.proofs.Printed.{stream_refused}
use Rattle.vol_commands.proofs.Texts.{line_told}
use Rattle.vol_commands.proofs.printing.print_entries.Goals as goal

pub loop-serial-preserved : goal.loop-serial-preserved
loop-serial-preserved g c =
    let before = c.loop-serial.invariant in
    let next = c.in_ok-serial.ensures in
    let told = c.in_ok-stat.ensures in
    let stat : Asked g.D.Device.honest g.D.Device.disk g.D.Device.size g.D.Device.failures g.D.Device.goes_on c.next_entry.new.volume c.stat.new.self false =
    record { tree = λ h. (told.answer h).1; crash = told.crash; kept = told.kept; goes = told.goes_on } in
    let two = asked_then g.D.Device.honest g.D.Device.disk g.D.Device.size g.D.Device.failures g.D.Device.goes_on c.loop-serial.volume c.next_entry.new.volume c.stat.new.self false next.asked stat in
    record {
      working = works_on g.D.Device.honest g.D.Device.disk g.D.Device.size g.D.Device.failures g.D.Device.goes_on c.loop-serial.volume c.stat.new.self before.working two;
      asked = asked_then g.D.Device.honest g.D.Device.disk g.D.Device.size g.D.Device.failures g.D.Device.goes_on c.args.volume.now c.loop-serial.volume c.stat.new.self false before.asked two;
      heard = then before.heard c.in_ok-print_entry.ensures.heard;
      printed = λ h.
          let T = c.args.volume.now.tree in
          let now : g.D.Device.honest c.loop-serial.volume.device = before.asked.kept.honest.0 h in
          let same : c.loop-serial.volume.tree ≡ T = before.asked.tree h in
          let found = rw c.in-Some.is at next.answer now in
          let child = next_child_is c.args.form T c.args.directory c.loop-serial.last c.in-Some.serial
          (ap (λ (t : Tree). next_child t c.args.directory c.loop-serial.last) (sym same) ∙ sym found.0) in
          let is = (told.answer (next.asked.kept.honest.0 now)).0 in
          let entry_same = same_Some is.0 child.entry_is
          (sym is.1 ∙ (ap (λ (t : Tree). entry t c.in-Some.serial) (next.asked.tree now ∙ same) ∙ child.there)) in
          let line = line_told c.args.form c.in-Some.serial child.entry_is c.in_ok-stat.stat (subst (λ (e : Entry). IsStat c.in-Some.serial e c.in_ok-stat.stat) entry_same is.2) in
          let so_far = before.printed h in
          let out = g.W.Write.contents in (
            so_far.0 ++ line_of c.args.form child.entry_is,
            Appends-trans (out c.args.out.now) (out c.loop-serial.out) (out c.print_entry.new.out) _ _ so_far.1
                (subst (λ (text : List ℕ). Appends (out c.loop-serial.out) (out c.print_entry.new.out) text) line c.in_ok-print_entry.ensures.all),
            rw c.number-last.ensures (so_far.2 ∙ (ap (λ (xs : List ℕ). so_far.0 ++ xs) child.lines_are ∙ sym (append_assoc so_far.0 (line_of c.args.form child.entry_is) _))),
          );
    }

-- the output failed: a part of this line is printed, too
pub returns-in_err-print_entry-clause-prints : goal.returns-in_err-print_entry-clause-prints
returns-in_err-print_entry-clause-prints g c h =
    let T = c.args.volume.now.tree in
    let before = c.loop-serial.invariant in
    let next = c.in_ok-serial.ensures in
    let now : g.D.Device.honest c.loop-serial.volume.device = before.asked.kept.honest.0 h in
    let same : c.loop-serial.volume.tree ≡ T = before.asked.tree h in
    let found = rw c.in-Some.is at next.answer now in
    let child = next_child_is c.args.form T c.args.directory c.loop-serial.last c.in-Some.serial
    (ap (λ (t : Tree). next_child t c.args.directory c.loop-serial.last) (sym same) ∙ sym found.0) in
    let is = (c.in_ok-stat.ensures.answer (next.asked.kept.honest.0 now)).0 in
    let entry_same = same_Some is.0 child.entry_is
    (sym is.1 ∙ (ap (λ (t : Tree). entry t c.in-Some.serial) (next.asked.tree now ∙ same) ∙ child.there)) in
    let line = line_told c.args.form c.in-Some.serial child.entry_is c.in_ok-stat.stat (subst (λ (e : Entry). IsStat c.in-Some.serial e c.in_ok-stat.stat) entry_same is.2) in
    let so_far = before.printed h in
    let out = g.W.Write.contents in
    let rest = flat_map (line_in c.args.form c.args.directory) (drop c.in-Some.serial T) in
    let all : so_far.0 ++ (line_of c.args.form child.entry_is ++ rest) ≡ listing c.args.form T c.args.directory = sym (so_far.2 ∙ ap (λ (xs : List ℕ). so_far.0 ++ xs) child.lines_are) in
    stream_refused (listing c.args.form T c.args.directory) (out c.args.out.now) (out c.print_entry.new.out) c.from_residual-in_err-print_entry.result
    (subst (λ (xs : List ℕ). AppendsPart (out c.args.out.now) (out c.print_entry.new.out) xs) all
    (part_then (out c.args.out.now) (out c.loop-serial.out) (out c.print_entry.new.out) so_far.0 (line_of c.args.form child.entry_is) rest so_far.1
    (subst (λ (text : List ℕ). AppendsPart (out c.loop-serial.out) (out c.print_entry.new.out) text) line c.in_err-print_entry.ensures.part)))
    c.from_residual-in_err-print_entry.ensures.1

pub returns-clause-prints : goal.returns-clause-prints
returns-clause-prints g c h =
    let before = c.loop-serial.invariant in
    let found = rw c.in_default.is at c.in_ok-serial.ensures.answer (before.asked.kept.honest.0 h) in
    let none = no_child_left c.args.form c.args.volume.now.tree c.args.directory c.loop-serial.last
    (ap (λ (t : Tree). next_child t c.args.directory c.loop-serial.last) (sym (before.asked.tree h)) ∙ sym found.0) in
    let so_far = before.printed h in
    let all = so_far.2 ∙ (ap (λ (xs : List ℕ). so_far.0 ++ xs) none ∙ append-nil so_far.0) in (
      listing c.args.form c.args.volume.now.tree c.args.directory,
      refl,
      subst (λ (text : List ℕ). Appends (g.W.Write.contents c.args.out.now) (g.W.Write.contents c.loop-serial.out) text) (sym all) so_far.1,
    )

pub loop-serial-init : goal.loop-serial-init
loop-serial-init g c = record {
  working = grind (arith, common_steps);
  asked = grind (arith, common_steps);
  heard = stays;
  printed = grind (arith, common_steps);
}

pub loop-serial-smaller : goal.loop-serial-smaller
loop-serial-smaller c = grind (arith, common_steps)

pub returns-clause-asked : goal.returns-clause-asked
returns-clause-asked c = grind (arith, common_steps)

-- ---- what the output refused

pub returns-clause-heard : goal.returns-clause-heard
returns-clause-heard g c = c.loop-serial.invariant.heard

pub returns-in_err-serial-clause-heard : goal.returns-in_err-serial-clause-heard
returns-in_err-serial-clause-heard g c =
    hears_none (Moves g.W.Outlet.took) (Refuses g.W.Outlet.took g.W.Outlet.refused) (blames_stream c.from_residual.result)
    (blame c.from_residual.result (failure.Tree c.in_err-serial.field-0.0) c.from_residual.ensures.1) _ _ c.loop-serial.invariant.heard

pub returns-in_err-stat-clause-heard : goal.returns-in_err-stat-clause-heard
returns-in_err-stat-clause-heard g c =
    hears_none (Moves g.W.Outlet.took) (Refuses g.W.Outlet.took g.W.Outlet.refused) (blames_stream c.from_residual-in_err-stat.result)
    (blame c.from_residual-in_err-stat.result (failure.Tree c.in_err-stat.field-0.0) c.from_residual-in_err-stat.ensures.1) _ _ c.loop-serial.invariant.heard

pub returns-in_err-print_entry-clause-heard : goal.returns-in_err-print_entry-clause-heard
returns-in_err-print_entry-clause-heard g c =
    hears_so (Moves g.W.Outlet.took) (Refuses g.W.Outlet.took g.W.Outlet.refused) (blames_stream c.from_residual-in_err-print_entry.result) true
    (blame c.from_residual-in_err-print_entry.result failure.Stream c.from_residual-in_err-print_entry.ensures.1) _ _ _ c.loop-serial.invariant.heard c.in_err-print_entry.ensures.heard
