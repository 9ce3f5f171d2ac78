use Rattle.std.specs.Prelude.{slice_get}
use Rattle.std.proofs.lemmas.Option.{IfSome_then}
use Rattle.sandbox_inspect.proofs.Placed.{none_yet}
use Rattle.sandbox_inspect.proofs.starts.ModuleBytes.make_room.Goals as goal

pub invariant_of-self : goal.invariant_of-self
invariant_of-self c = (
  c.self.invariant.0,
  λ own. IfSome_then (slice_get c.in-Ok.tables.items own) (c.in-Ok.ensures own) (λ places e. none_yet c.self.inside.bytes.now own places.items e),
)
