use Rattle.std.proofs.Common.{◌≡◌, ◌∙◌, ℕ, List, Option, Some, None, IsSome, refl, sym, ap}
use Rattle.std.specs.Prelude.{IfNone, slice_get}
use Rattle.std.proofs.lemmas.Option.{slice_get-get_or}
use Rattle.wasm_syntax.specs.declared.module.Body.{Body}
use Rattle.sandbox_inspect.specs.Places.{own_entry}
use Rattle.sandbox_inspect.proofs.Spelled.{spelled_instruction}
use Rattle.sandbox_inspect.proofs.sites.own_offset.Goals as goal

-- none only for a reason that is refuted
never_none : (o : Option ℕ) (Reason : Type 0) → IfNone o Reason → (Reason → ⊥) → IsSome o
never_none None Reason given refuted = absurd (refuted given)
never_none (Some x) Reason given refuted = refl

pub returns-clause-told : goal.returns-clause-told
returns-clause-told c = λ p spells within.
    let m = c.args.«module».now in
    let body = c.in_ok-body.body.now in
    let found = c.in_ok-body.ensures.lookup.3 in
    let there : slice_get m.bodies c.args.own ≡ Some body =
    ap (λ (bs : List Body). slice_get bs c.args.own) (sym c.as_slice.ensures) ∙ slice_get-get_or c.as_slice.result.now c.args.own body found.0 ∙ ap Some (sym (found.1 body)) in
    let entry = spelled_instruction p c.args.bytes.now m c.args.own body c.args.index spells there in
    never_none c.instruction_offset.result ((behind : List ℕ) → own_entry c.args.bytes.now c.args.own ≡ Some (body.bytes, behind) → ⊥) c.instruction_offset.ensures.missing
    (λ never. never entry.0 entry.1)
