use Rattle.std.proofs.Common.{sym, ap, ℕ, ◌∙◌, List, [], ◌∷◌, ◌++◌, arith, subst, ◌≡◌, ◌<◌, length, Some, not, slice_get, is_some, rules}
use Rattle.observed_run.specs.Stacks.{Stacks}
use Rattle.observed_run.proofs.Trees.{found_at, grown, grown_tree, goes_last}
use Rattle.observed_run.proofs.stacks.FuelProfile.called.Goals as goal

-- a node that was there
pub returns-in-Some-clause-found : goal.returns-in-Some-clause-found
returns-in-Some-clause-found c =
    let keys = found_at _ c.self.inside.calls.keys c.in-Some.index c.args.call (sym c.get_index_of.ensures.index ∙ c.in-Some.is) (λ x e. search rules) in
    (c.in-Some.index, omega arith, subst (λ (s : Stacks). slice_get s.calls c.in-Some.index ≡ Some c.args.call) c.self.view_is keys)

-- a node more
pub returns-in-Ok-clause-grows : goal.returns-in-Ok-clause-grows
returns-in-Ok-clause-grows c =
    let last = goes_last _ _ _ _ c.in-Ok.ensures.keys (ap not (sym (ap is_some c.in_default.is) ∙ c.get_index_of.ensures.found)) in
    grown c.args.self.now _ c.args.call c.args.depth (last ∙ ap (λ (s : Stacks). s.calls ++ c.args.call ∷ []) c.self.view_is)
    (c.push_reserved.ensures.items ∙ ap (λ (units : List ℕ). units ++ 0 ∷ []) (c.reserve.ensures.items ∙ ap (λ (s : Stacks). s.units) c.self.view_is))
    (ap (λ (s : Stacks). s.is_cut) c.self.view_is) c.requires.some
    (omega (arith, c.if-depth-self.false, ap (λ (s : Stacks). s.room) c.self.view_is))

pub invariant_of-self-in-Ok : goal.invariant_of-self-in-Ok
invariant_of-self-in-Ok c =
    let last = goes_last _ _ _ _ c.in-Ok.ensures.keys (ap not (sym (ap is_some c.in_default.is) ∙ c.get_index_of.ensures.found)) in
    let below = subst (λ (s : Stacks). c.args.call.caller < length s.units) (sym c.self.view_is) c.requires.called in
    grown_tree c.self.inside.calls.keys _ c.self.inside.units.items _ c.args.call last (c.push_reserved.ensures.items ∙ ap (λ (units : List ℕ). units ++ 0 ∷ []) c.reserve.ensures.items)
    c.self.invariant.0 c.self.invariant.1 below

pub returns-in-Ok-clause-there : goal.returns-in-Ok-clause-there
returns-in-Ok-clause-there c = omega (arith, c.in-Ok.ensures.within, (invariant_of-self-in-Ok c).0)
