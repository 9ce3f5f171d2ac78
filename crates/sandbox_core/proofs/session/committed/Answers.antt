use Rattle.std.proofs.Common.{◌≡◌, refl, sym, ◌∙◌, ap, subst, inl, inr, Bool, false, Result, Ok, Err, OnOk}
use Rattle.std.proofs.lemmas.Bool.{false≢true}
use Rattle.vol_tree.specs.declared.errno.Errno.{Errno}
use Rattle.vol_tree.specs.Tree.{Tree}
use Rattle.vol_tree.specs.Calls.{with_unit}
use Rattle.vol_tree.specs.Clauses.{Answers, is_io}
use Rattle.vol_tree.specs.Opened.{Keeps}
use Rattle.vol_tree.specs.Stands.{StandsAs}
use Rattle.vol_tree.specs.declared.superblock.Superblock.{Superblock}
use Rattle.sandbox_core.proofs.session.committed.Goals as goal

ok_err : {T : Tree} {e : Errno} → ◌≡◌ {A = Result (Tree × Unit {0}) Errno} (Ok (T, tt)) (Err e) → ⊥
ok_err h = cc

abbrev tree_in : Result (Tree × Unit {0}) Errno → Tree → Tree
tree_in (Ok p) T = p.0
tree_in (Err e) T = T

-- a sync leaves the tree
same_tree : (T U : Tree) (r : Result (Unit {0}) Errno) → Answers (with_unit (Ok T)) T U r → U ≡ T
same_tree T U (Ok tt) is = sym (ap (λ (r : Result (Tree × Unit {0}) Errno). tree_in r T) is)
same_tree T U (Err e) is = is.0

-- after an answer that leaves the volume working all is as after success
as_at_success : (T U : Tree) (r : Result (Unit {0}) Errno) (P : Type 0) → Answers (with_unit (Ok T)) T U r → is_io r ≡ false → OnOk r P → P
as_at_success T U (Ok tt) P is works p = p
as_at_success T U (Err e) P (same, inl meant) works p = absurd (ok_err meant)
as_at_success T U (Err e) P (same, inr io) works p = absurd (false≢true (sym works ∙ ap (λ (e : Errno). is_io {X = Unit {0}} (Err e)) io))

-- the volume has failed: its device is handed back
pub returns-then-failed : goal.returns-then-failed
returns-then-failed g c =
    let told = c.sync-answer.ensures in
    record {
      new = c.sync-answer.new.self;
      handed_back = (c.into_device.ensures, refl);
      kept = subst (λ (b : Bool). Keeps g.D.Device.honest g.D.Device.size g.D.Device.failures c.args.volume c.sync-answer.new.self b)
          (sym told.kept.failed ∙ (sym c.failed.ensures ∙ c.if-failed.true)) told.kept;
      tree = λ is. same_tree c.args.volume.tree c.sync-answer.new.self.tree c.sync-answer.result (told.answer is);
      crash = told.crash;
      goes = told.goes_on;
      durable = λ is never. cc;
    }

-- the volume works
pub returns : goal.returns
returns g c =
    let told = c.sync-answer.ensures in
    let works : is_io c.sync-answer.result ≡ false = sym told.kept.failed ∙ (sym c.failed.ensures ∙ c.if-failed.false) in
    record {
      new = c.sync-answer.new.self;
      handed_back = refl;
      kept = subst (λ (b : Bool). Keeps g.D.Device.honest g.D.Device.size g.D.Device.failures c.args.volume c.sync-answer.new.self b) works told.kept;
      tree = λ is. same_tree c.args.volume.tree c.sync-answer.new.self.tree c.sync-answer.result (told.answer is);
      crash = told.crash;
      goes = told.goes_on;
      durable = λ is fine image may.
          let there = as_at_success c.args.volume.tree c.sync-answer.new.self.tree c.sync-answer.result _ (told.answer is) works (told.durable is) image may in
          let numbered = subst (λ (v : Superblock). StandsAs image v c.sync-answer.new.self.tree) told.kept.numbers there in
          subst (λ (T : Tree). StandsAs image c.args.volume.numbers T) (same_tree c.args.volume.tree c.sync-answer.new.self.tree c.sync-answer.result (told.answer is)) numbered;
    }
