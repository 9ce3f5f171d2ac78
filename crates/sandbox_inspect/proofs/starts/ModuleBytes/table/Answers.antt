use Rattle.std.proofs.Common.{◌≡◌, ◌-◌, ℕ, List, drop, length, Some, sym, subst}
use Rattle.sandbox_inspect.specs.Places.{own_entry}
use Rattle.sandbox_inspect.specs.internal.Bodies.{places_from, ArePlaces}
use Rattle.sandbox_inspect.specs.internal.Skipping.{after_locals}
use Rattle.sandbox_inspect.proofs.Placed.{are_places}
use Rattle.sandbox_inspect.proofs.starts.ModuleBytes.table.Goals as goal

pub keep-requires : goal.keep-requires
keep-requires c =
    let bytes = c.make_room.new.self in
    let begins : (content behind : List ℕ) → own_entry bytes c.args.own ≡ Some (content, behind) → Some c.args.start ≡ Some (length bytes - length behind - length content) =
    subst (λ (x : List ℕ). (content behind : List ℕ) → own_entry x c.args.own ≡ Some (content, behind) → Some c.args.start ≡ Some (length x - length behind - length content)) (sym c.make_room.ensures) c.requires in
    let made : c.in-Ok.places.items ≡ places_from (length bytes) c.args.count (after_locals (drop c.args.start bytes)) =
    subst (λ (x : List ℕ). c.in-Ok.places.items ≡ places_from (length x) c.args.count (after_locals (drop c.args.start x))) c.self.view_is c.in-Ok.ensures in
    subst (ArePlaces bytes c.args.own) (sym made) (are_places bytes c.args.own c.args.start c.args.count begins)
