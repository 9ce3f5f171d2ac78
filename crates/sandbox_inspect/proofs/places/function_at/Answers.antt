use Rattle.std.proofs.Common.{◌≡◌, ℕ, List, Option, Some, None, sym, subst}
use Rattle.std.proofs.lemmas.Result.{IfOk-weaker}
use Rattle.wasm_syntax.specs.declared.profile.Profile.{Profile}
use Rattle.wasm_syntax.specs.Module.{SpellsWith}
use Rattle.sandbox_inspect.specs.Places.{IsFunctionAt, own_function_at, up_to_imports}
use Rattle.sandbox_inspect.specs.internal.Counting.{IsCountedAfter}
use Rattle.sandbox_inspect.proofs.places.function_at.Goals as goal

-- a function that is counted after the imports
counted : (p : Profile) (bytes imports : List ℕ) (offset own : ℕ) (f : Option ℕ) → imports ≡ up_to_imports bytes → own_function_at bytes offset ≡ Some own
    → IsCountedAfter p imports own f → IsFunctionAt p bytes offset f
counted p bytes imports offset own (Some f) ends found (m, spells, is) = (m, subst (λ (b : List ℕ). SpellsWith p b m) ends spells, own, found, is)
counted p bytes imports offset own None ends found none = λ m spells. absurd (none m (subst (λ (b : List ℕ). SpellsWith p b m) (sym ends) spells))

pub returns-in-Some : goal.returns-in-Some
returns-in-Some c =
    IfOk-weaker c.counted_after_imports.result _ _
    (λ f is. counted c.args.profile c.args.bytes.now c.up_to_imports.result.now c.args.offset c.in-Some.own f c.up_to_imports.ensures (sym c.in-Some.ensures) is)
    c.counted_after_imports.ensures
