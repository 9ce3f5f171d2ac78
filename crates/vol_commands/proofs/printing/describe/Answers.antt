use Rattle.std.proofs.Common.{false, true, List, ℕ, Ok, refl, inr, ap, subst, sym, ◌∙◌}
use Rattle.std.specs.Io.KnownBytes.{Appends}
use Rattle.std.proofs.KnownBytes.{Keeps-refl}
use Rattle.stream_answers.specs.Hearing.{Moves, Refuses, stays}
use Rattle.vol_tree.specs.Tree.{Tree, entry}
use Rattle.stream_answers.specs.Printing.{AppendsPart}
use Rattle.vol_commands.specs.Tasks.{facts_at, serial_named}
use Rattle.vol_commands.proofs.Described.{facts_told}
use Rattle.vol_tar.proofs.Blamed.{hears_none, hears_so}
use Rattle.stream_answers.proofs.Handed.{part_none}
use Rattle.vol_commands.proofs.Blamed.{blame}
use Rattle.vol_commands.proofs.Printed.{named_prints, stream_refused, tree_refused, walk_refused}
use Rattle.path_walk.proofs.Chaining.{asked_then}
use Rattle.vol_commands.specs.Blame.{blames_device, blames_stream}
use Rattle.vol_commands.specs.declared.failure.Failure.TheVariants as failure
use Rattle.vol_commands.proofs.Asking.{asked_on}
use Rattle.vol_commands.proofs.printing.describe.Goals as goal

-- the path names no entry
pub returns-in_err-serial-clause-prints : goal.returns-in_err-serial-clause-prints
returns-in_err-serial-clause-prints g c h =
    walk_refused (serial_named c.args.volume.now.tree c.args.path.now) (facts_at c.args.volume.now.tree) (g.W.Write.contents c.args.out.now) c.in_err-serial.field-0.0 c.from_residual.result
    (c.in_err-serial.ensures.answer h) c.from_residual.ensures.1

-- the device failed
pub returns-in_err-stat-clause-prints : goal.returns-in_err-stat-clause-prints
returns-in_err-stat-clause-prints g c h =
    let T = c.args.volume.now.tree in
    let out = g.W.Write.contents c.args.out.now in
    let named = c.in_ok-serial.ensures in
    let s = c.in_ok-serial.serial in
    let io = (c.in_err-stat.ensures.answer (named.asked.kept.honest.0 h)).0 in
    named_prints (serial_named T c.args.path.now) (facts_at T) s out out c.from_residual-in_err-stat.result (named.answer h)
    (tree_refused (Ok (facts_at T s)) out out c.in_err-stat.field-0.0 c.from_residual-in_err-stat.result (inr (io, part_none out out (facts_at T s) (Keeps-refl out))) c.from_residual-in_err-stat.ensures.1)

-- the output failed
pub returns-in_err-print_facts-clause-prints : goal.returns-in_err-print_facts-clause-prints
returns-in_err-print_facts-clause-prints g c h =
    let T = c.args.volume.now.tree in
    let out = g.W.Write.contents in
    let named = c.in_ok-serial.ensures in
    let s = c.in_ok-serial.serial in
    let is = (c.in_ok-stat.ensures.answer (named.asked.kept.honest.0 h)).0 in
    let told = facts_told T s is.0 c.in_ok-stat.stat (ap (λ (U : Tree). entry U s) (sym (named.asked.tree h)) ∙ is.1) is.2 in
    let r = c.from_residual-in_err-print_facts.result in
    named_prints (serial_named T c.args.path.now) (facts_at T) s (out c.args.out.now) (out c.print_facts.new.out) r (named.answer h)
    (stream_refused (facts_at T s) (out c.args.out.now) (out c.print_facts.new.out) r
    (subst (λ (text : List ℕ). AppendsPart (out c.args.out.now) (out c.print_facts.new.out) text) told c.in_err-print_facts.ensures.part) c.from_residual-in_err-print_facts.ensures.1)

pub returns-clause-prints : goal.returns-clause-prints
returns-clause-prints g c h =
    let T = c.args.volume.now.tree in
    let out = g.W.Write.contents in
    let named = c.in_ok-serial.ensures in
    let s = c.in_ok-serial.serial in
    let is = (c.in_ok-stat.ensures.answer (named.asked.kept.honest.0 h)).0 in
    let told = facts_told T s is.0 c.in_ok-stat.stat (ap (λ (U : Tree). entry U s) (sym (named.asked.tree h)) ∙ is.1) is.2 in
    named_prints (serial_named T c.args.path.now) (facts_at T) s (out c.args.out.now) (out c.print_facts.new.out) (Ok tt) (named.answer h)
    (facts_at T s, refl, subst (λ (text : List ℕ). Appends (out c.args.out.now) (out c.print_facts.new.out) text) told c.in_ok-print_facts.ensures.all)

pub returns-clause-asked : goal.returns-clause-asked
returns-clause-asked g c =
    let told = c.in_ok-stat.ensures in
    asked_then g.D.Device.honest g.D.Device.disk g.D.Device.size g.D.Device.failures g.D.Device.goes_on c.args.volume.now c.serial_named.new.volume c.stat.new.self false c.in_ok-serial.ensures.asked (record { tree = λ h. (told.answer h).1; crash = told.crash; kept = told.kept; goes = told.goes_on })

pub returns-in_err-stat-clause-asked : goal.returns-in_err-stat-clause-asked
returns-in_err-stat-clause-asked g c =
    let told = c.in_err-stat.ensures in
    asked_on g.D.Device.honest g.D.Device.disk g.D.Device.size g.D.Device.failures g.D.Device.goes_on blames_device c.from_residual-in_err-stat.result (failure.Tree c.in_err-stat.field-0.0) c.from_residual-in_err-stat.ensures.1 c.args.volume.now c.stat.new.self
    (asked_then g.D.Device.honest g.D.Device.disk g.D.Device.size g.D.Device.failures g.D.Device.goes_on c.args.volume.now c.serial_named.new.volume c.stat.new.self _ c.in_ok-serial.ensures.asked (record { tree = λ h. (told.answer h).1; crash = told.crash; kept = told.kept; goes = told.goes_on }))

-- ---- what the output refused

pub returns-clause-heard : goal.returns-clause-heard
returns-clause-heard g c = c.in_ok-print_facts.ensures.heard

pub returns-in_err-serial-clause-heard : goal.returns-in_err-serial-clause-heard
returns-in_err-serial-clause-heard g c =
    hears_none (Moves g.W.Outlet.took) (Refuses g.W.Outlet.took g.W.Outlet.refused) (blames_stream c.from_residual.result)
    (blame c.from_residual.result (failure.Tree c.in_err-serial.field-0.0) c.from_residual.ensures.1) _ _ stays

pub returns-in_err-stat-clause-heard : goal.returns-in_err-stat-clause-heard
returns-in_err-stat-clause-heard g c =
    hears_none (Moves g.W.Outlet.took) (Refuses g.W.Outlet.took g.W.Outlet.refused) (blames_stream c.from_residual-in_err-stat.result)
    (blame c.from_residual-in_err-stat.result (failure.Tree c.in_err-stat.field-0.0) c.from_residual-in_err-stat.ensures.1) _ _ stays

pub returns-in_err-print_facts-clause-heard : goal.returns-in_err-print_facts-clause-heard
returns-in_err-print_facts-clause-heard g c =
    hears_so (Moves g.W.Outlet.took) (Refuses g.W.Outlet.took g.W.Outlet.refused) (blames_stream c.from_residual-in_err-print_facts.result) true
    (blame c.from_residual-in_err-print_facts.result failure.Stream c.from_residual-in_err-print_facts.ensures.1) _ _ _ stays c.in_err-print_facts.ensures.heard
