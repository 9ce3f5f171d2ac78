use Rattle.std.proofs.Common.{ℕ, List, sym, subst}
use Rattle.sandbox_inspect.specs.internal.Bodies.{ArePlaces}
use Rattle.sandbox_inspect.proofs.Placed.{each_set}
use Rattle.sandbox_inspect.proofs.starts.ModuleBytes.keep.Goals as goal

pub invariant_of-self : goal.invariant_of-self
invariant_of-self c =
    let bytes = c.self.inside.bytes.now in
    let here : ArePlaces bytes c.args.own c.args.places.items = subst (λ (x : List ℕ). ArePlaces x c.args.own c.args.places.items) (sym c.self.view_is) c.requires in (
      c.self.invariant.0,
      λ own. rw c.put.ensures (each_set (λ k places. ArePlaces bytes k places.items) c.self.inside.bodies.items c.args.own c.args.places c.self.invariant.1 here own),
    )
