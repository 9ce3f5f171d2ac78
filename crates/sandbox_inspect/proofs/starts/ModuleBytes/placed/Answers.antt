use Rattle.std.proofs.Common.{rules, ◌≡◌, ℕ, ◌≤◌, List, length, Some, subst}
use Rattle.std.specs.Prelude.{slice_get}
use Rattle.wasm_module.proofs.Laws.{some_is}
use Rattle.sandbox_inspect.specs.Places.{IsInstructionAt}
use Rattle.sandbox_inspect.specs.internal.Bodies.{ArePlaces}
use Rattle.sandbox_inspect.proofs.Placed.{instruction_placed, looked_up, some_holds}
use Rattle.sandbox_inspect.proofs.starts.ModuleBytes.placed.Goals as goal

pub returns : goal.returns
returns c = record {
  found = λ place behind is entry.
      let tables = c.self.inside.bodies in
      let places = c.in_ok-places.places.now in
      let row = c.in_ok-places.ensures.lookup.3 in
      let item = c.in_ok-place.ensures.lookup.3 in
      let second : slice_get tables.items c.args.own ≡ Some places = looked_up tables.items c.as_slice-2.result.now c.args.own places c.as_slice-2.ensures.value row.0 (row.1 places) in
      let third : slice_get places.items c.args.index ≡ Some c.in_ok-place.place.now = looked_up places.items c.as_slice-3.result.now c.args.index c.in_ok-place.place.now c.as_slice-3.ensures.value item.0 (item.1 c.in_ok-place.place.now) in
      let within : c.args.index ≤ length c.args.body.now.code = search rules in
      let all = c.self.invariant.1 in
      let are = some_holds _ (slice_get tables.items c.args.own) places (all c.args.own) second in
      let here = subst (λ (bytes : List ℕ). ArePlaces bytes c.args.own places.items) c.self.view_is are in
      subst (IsInstructionAt c.args.self.now c.args.own c.args.body.now c.args.index) (some_is _ _ is)
      (instruction_placed c.args.self.now c.args.own places.items c.args.index c.in_ok-place.place.now c.args.body.now behind here third within entry);
}
