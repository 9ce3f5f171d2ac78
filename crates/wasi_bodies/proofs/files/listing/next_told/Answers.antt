use Rattle.std.proofs.Common.{◌≡◌, Some, sym, ◌∙◌, ap, subst, IsSome}
use Rattle.vol_tree.specs.Tree.{Tree, entry}
use Rattle.vol_tree.specs.Calls.{next_child}
use Rattle.wasi_bodies.proofs.files.Dirents.{list_ends}
use Rattle.wasi_bodies.proofs.files.DirectoryLists.{next_used, told_next}
use Rattle.wasi_bodies.proofs.bodies.AskingCalls.{asked_on}
use Rattle.wasi_bodies.proofs.files.listing.next_told.Goals as goal

pub stat-requires-clause-used : goal.stat-requires-clause-used
stat-requires-clause-used g c = λ h.
    let T : Tree = c.args.volume.now.tree in
    let before = c.in-Ok-Some.ensures.kept.honest.1 h in
    let told = c.in-Ok-Some.ensures.answer before in
    let next : next_child T c.args.directory c.args.after ≡ Some c.in-Ok-Some.serial = sym told.0 ∙ c.in-Ok-Some.field-0-is in
    subst (λ (T : Tree). IsSome (entry T c.in-Ok-Some.serial)) (sym told.1) (next_used T c.args.directory c.args.after c.in-Ok-Some.serial next)

pub returns-in-Ok : goal.returns-in-Ok
returns-in-Ok g c = record {
  asked = let next = c.in-Ok-Some.ensures in
      let told = c.in-Ok.ensures in
      asked_on g.D.Device.honest g.D.Device.disk g.D.Device.size g.D.Device.failures g.D.Device.goes_on c.args.volume.now c.list_next.new.self c.stat.new.self _ (record { kept = next.kept; tree = λ h. (next.answer h).1; crash = next.crash; goes = next.goes_on })
      (record { tree = λ h. (told.answer h).1; crash = told.crash; kept = told.kept; goes = told.goes_on });
  told = λ h.
      let T : Tree = c.args.volume.now.tree in
      let serial = c.in-Ok-Some.serial in
      let told = c.in-Ok-Some.ensures.answer h in
      let next : next_child T c.args.directory c.args.after ≡ Some serial = sym told.0 ∙ c.in-Ok-Some.field-0-is in
      let stat = (c.in-Ok.ensures.answer (c.in-Ok-Some.ensures.kept.honest.0 h)).0 in
      told_next T c.args.directory c.args.after serial stat.0 c.describe.result next (ap (λ (T : Tree). entry T serial) (sym told.1) ∙ stat.1)
      c.describe.ensures.serial (c.describe.ensures.told stat.0 stat.2);
  least = c.describe.ensures.least;
  most = c.describe.ensures.most;
}

pub returns-in-Ok-None : goal.returns-in-Ok-None
returns-in-Ok-None g c = record {
  asked = let told = c.in-Ok-None.ensures in record { tree = λ h. (told.answer h).1; crash = told.crash; kept = told.kept; goes = told.goes_on };
  told = λ h. list_ends c.args.volume.now.tree c.args.directory c.args.after (sym (c.in-Ok-None.ensures.answer h).0 ∙ c.in-Ok-None.field-0-is);
  least = tt;
  most = tt;
}

pub returns-in-Err-stat : goal.returns-in-Err-stat
returns-in-Err-stat g c = record {
  asked = let next = c.in-Ok-Some.ensures in
      let told = c.in-Err-stat.ensures in
      asked_on g.D.Device.honest g.D.Device.disk g.D.Device.size g.D.Device.failures g.D.Device.goes_on c.args.volume.now c.list_next.new.self c.stat.new.self _ (record { kept = next.kept; tree = λ h. (next.answer h).1; crash = next.crash; goes = next.goes_on })
      (record { tree = λ h. (told.answer h).1; crash = told.crash; kept = told.kept; goes = told.goes_on });
  told = λ h. (c.in-Err-stat.ensures.answer (c.in-Ok-Some.ensures.kept.honest.0 h)).0;
  least = tt;
  most = tt;
}

pub returns-in-Err : goal.returns-in-Err
returns-in-Err g c = record {
  asked = let told = c.in-Err.ensures in record { tree = λ h. (told.answer h).1; crash = told.crash; kept = told.kept; goes = told.goes_on };
  told = λ h. (c.in-Err.ensures.answer h).0;
  least = tt;
  most = tt;
}
