use Rattle.std.proofs.Common.{◌≡◌, ℕ, ◌≤◌, List, ◌++◌, length, Some, false, not, ap, sym, ◌∙◌, arith, length-append}
use Rattle.std.specs.Prelude.{nat_eq}
use Rattle.std.specs.Cmp.Lexicographic.{pointwise, same_text}
use Rattle.std.proofs.lemmas.Bool.{not-false}
use Rattle.wasm_syntax.specs.declared.profile.Profile.{Profile}
use Rattle.wasm_syntax.specs.declared.module.Body.{Body}
use Rattle.wasm_valid.specs.Offsets.{StandsBehind}
use Rattle.sandbox_inspect.proofs.Entries.{held}
use Rattle.sandbox_inspect.proofs.places.instruction_offset.Goals as goal

pub overflow_sub-front : goal.overflow_sub-front
overflow_sub-front c =
    let h = held c.args.bytes.now c.args.own c.in_ok-content.content.now c.in_ok-content.behind c.in_ok-content.ensures in
    omega (arith, h.2, h.5)

pub overflow_sub-front-2 : goal.overflow_sub-front-2
overflow_sub-front-2 c =
    let h = held c.args.bytes.now c.args.own c.in_ok-content.content.now c.in_ok-content.behind c.in_ok-content.ensures in
    omega (arith, h.2, h.5)

same_bytes : (xs ys : List ℕ) → false ≡ not (pointwise nat_eq xs ys) → xs ≡ ys
same_bytes xs ys n = same_text xs ys (sym (not-false (pointwise nat_eq xs ys) (sym n)))

-- what stands before an instruction is no longer than the body
within : (p : Profile) (b : Body) (index : ℕ) (before : List ℕ) → StandsBehind p b index before → length before ≤ length b.bytes
within p b index before s = omega (arith, ap length s.bytes, length-append before s.after)

pub returns-clause-found : goal.returns-clause-found
returns-clause-found c =
    let h = held c.args.bytes.now c.args.own c.in_ok-content.content.now c.in_ok-content.behind c.in_ok-content.ensures in
    let same : c.in_ok-content.content.now ≡ c.args.body.now.bytes = same_bytes c.in_ok-content.content.now c.as_slice.result.now c.if-ne.ensures ∙ c.as_slice.ensures in
    record {
      front = h.3;
      behind = h.0;
      entry = h.1 ∙ ap (λ (x : List ℕ). Some (x, h.0)) same;
      parts = h.4 ∙ ap (λ (x : List ℕ). h.3 ++ (x ++ h.0)) same;
      offset_is = λ p before s.
          omega (arith, c.saturating_add.ensures, c.instruction_place.ensures p before s, within p c.args.body.now c.args.index before s, h.2, h.5, ap length same, c.type_inv.bytes);
    }
