use Rattle.std.proofs.Common.{◌≡◌, ◌+◌, ◌≤◌, ◌∙◌, ℕ, List, Option, Some, ◌++◌, length, map, take, drop, arith, sym, ap, subst, rules}
use Rattle.std.proofs.lemmas.List.{length-map}
use Rattle.wasm_store.proofs.Parts.{part_replaced}
use Rattle.wasm_store.proofs.table.Table.set.Goals as goal

pub returns-clause-inside : goal.returns-clause-inside
returns-clause-inside c =
    let elements = c.self.inside.elements in
    let functions = c.args.functions.now in
    let as_many : length (map Some functions) ≡ length functions = length-map functions Some in
    let inside : c.args.start + length functions ≤ length elements.items = omega (arith, elements.ok.0) in (
      subst (λ (l : List (Option ℕ)). c.args.start + length functions ≤ length l) c.self.view_is inside,
      rw (← c.self.view_is, c.set_all.ensures, c.as_mut_slice.ensures.value) (
          part_replaced elements.len c.args.start (length functions) elements.items (map Some functions) elements.ok.0 (sym as_many) inside
          ∙ ap (λ (n : ℕ). take c.args.start elements.items ++ (map Some functions ++ drop (c.args.start + n) elements.items)) as_many),
    )

pub returns-then-len-clause-outside : goal.returns-then-len-clause-outside
returns-then-len-clause-outside c = search rules
