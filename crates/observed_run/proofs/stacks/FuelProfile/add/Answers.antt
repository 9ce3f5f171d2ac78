use Rattle.std.proofs.Common.{◌≡◌, ◌<◌, ◌+◌, ◌^◌, ℕ, List, length, slice_set, sum, sym, ap, subst, arith}
use Rattle.observed_run.specs.Stacks.{Stacks, AddsUnits}
use Rattle.observed_run.proofs.Trees.{adds, units_fit}
use Rattle.observed_run.proofs.stacks.FuelProfile.add.Goals as goal

pub overflow_add-index_mut : goal.overflow_add-index_mut
overflow_add-index_mut c =
    let is : c.args.self.now.units ≡ c.self.inside.units.items = ap (λ (s : Stacks). s.units) (sym c.self.view_is) in
    let small = subst (λ (us : List ℕ). c.args.node < length us) is c.requires.there in
    let few = subst (λ (us : List ℕ). sum us + c.args.units < 2 ^ 64) is c.requires.few in
    record { fits = omega (arith, units_fit c.self.inside.units.items c.args.node c.index_mut.result.now c.args.units small c.index_mut.ensures.value few) }

pub returns : goal.returns
returns c =
    let units = c.self.inside.units.items in
    let small = subst (λ (s : Stacks). c.args.node < length s.units) (sym c.self.view_is) c.requires.there in
    let new : Stacks = record { calls = c.self.inside.calls.keys; units = slice_set units c.args.node (c.index_mut.result.now + c.args.units); is_cut = c.self.inside.is_cut; room = c.self.inside.room } in
    subst (λ (old : Stacks). AddsUnits old new c.args.node c.args.units) c.self.view_is
    (adds c.self.inside.calls.keys units c.self.inside.is_cut c.self.inside.room c.args.node c.index_mut.result.now c.args.units small c.index_mut.ensures.value)
