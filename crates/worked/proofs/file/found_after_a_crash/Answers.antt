use Rattle.std.proofs.Common.{◌≡◌, ◌∷◌, [], Result, Ok, sym, subst}
use Rattle.std.specs.Prelude.{MatchResult}
use Rattle.vol_tree.specs.Tree.{Tree, File}
use Rattle.vol_tree.specs.PathLaws.{Maps}
use Rattle.worked.proofs.file.found_after_a_crash.Goals as goal

-- what holds of a result that is known to be an Ok
of_ok : {A B : Type 0} (P : A → Type 0) (Q : B → Type 0) (r : Result A B) (a : A) → r ≡ Ok a → MatchResult r P Q → P a
of_ok {A} {B} P Q r a is m = subst (λ (s : Result A B). MatchResult s P Q) is m

pub returns-in-Ok-Ok : goal.returns-in-Ok-Ok
returns-in-Ok-Ok c =
    let same = of_ok _ _ _ _ c.in-Ok-Ok.field-0-is (c.in-Ok-Ok.ensures c.in-Ok-store.ensures.lasts) in (
      c.in-Ok-store.field-0,
      subst (λ (T : Tree). Maps T (c.args.name.now ∷ []) c.in-Ok-store.field-0 (File c.args.bytes.now)) (sym same.1) c.in-Ok-store.ensures.found,
    )
