use Rattle.std.proofs.Common.{◌≡◌, ℕ, List, None, Some, ◌∙◌, sym, ap, arith}
use Rattle.std.specs.Prelude.{slice_get}
use Rattle.std.proofs.lemmas.Option.{slice_get-get_or}
use Rattle.wasm_syntax.specs.declared.module.Body.{Body}
use Rattle.wasm_syntax.specs.declared.module.Module.{Module}
use Rattle.wasm_module.proofs.Laws.{some_is}
use Rattle.sandbox_inspect.proofs.Spelled.{spelled_instruction}
use Rattle.sandbox_host.proofs.frames.offset_of.Goals as goal

pub returns-in-Some-instruction_offset-clause-told : goal.returns-in-Some-instruction_offset-clause-told
returns-in-Some-instruction_offset-clause-told c = λ p spells.
    let m = c.args.module.now in
    let body = c.in-Some.body.now in
    let found = c.in-Some.ensures.lookup.3 in
    let bodies : c.as_slice.result.now ≡ m.bodies = c.as_slice.ensures ∙ ap (λ (m : Module). m.bodies) c.«module».ensures.value in
    let at : slice_get c.as_slice.result.now c.args.own ≡ Some body = slice_get-get_or c.as_slice.result.now c.args.own body found.0 ∙ ap Some (sym (found.1 body)) in
    let there : slice_get m.bodies c.args.own ≡ Some body = ap (λ (bs : List Body). slice_get bs c.args.own) (sym bodies) ∙ at in
    let entry = spelled_instruction p c.args.bytes.now m c.args.own body c.args.instruction spells there in
    let told = c.in-Some-instruction_offset.ensures.found entry.0 entry.1 in
    let same : c.in-Some-instruction_offset.offset ≡ told.0 = some_is _ _ told.1 in
    rw there (told.0, told.2, omega (arith, same, c.in_four_bytes.ensures))

-- the entry of a body is found
is_found : (n : ℕ) → None ≡ Some n → ◌≡◌ {A = ℕ} 0 1
is_found n e = cc

pub returns-in-None-clause-told : goal.returns-in-None-clause-told
returns-in-None-clause-told c = λ p spells.
    let m = c.args.module.now in
    let body = c.in-Some.body.now in
    let found = c.in-Some.ensures.lookup.3 in
    let bodies : c.as_slice.result.now ≡ m.bodies = c.as_slice.ensures ∙ ap (λ (m : Module). m.bodies) c.«module».ensures.value in
    let at : slice_get c.as_slice.result.now c.args.own ≡ Some body = slice_get-get_or c.as_slice.result.now c.args.own body found.0 ∙ ap Some (sym (found.1 body)) in
    let there : slice_get m.bodies c.args.own ≡ Some body = ap (λ (bs : List Body). slice_get bs c.args.own) (sym bodies) ∙ at in
    let entry = spelled_instruction p c.args.bytes.now m c.args.own body c.args.instruction spells there in
    let told = c.in-None.ensures.found entry.0 entry.1 in
    absurd (omega (arith, is_found told.0 told.1))
