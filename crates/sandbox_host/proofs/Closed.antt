-- What has nothing has nothing.
use Rattle.std.proofs.Common.{◌≡◌, Option, Some, None, true, refl}
use Rattle.std.proofs.lemmas.Bool.{false≢true}
use Rattle.std.specs.Option.{is_none}

pub none_of : {X : Type 0} (o : Option X) → is_none o ≡ true → o ≡ None
none_of None h = refl
none_of (Some x) h = absurd (false≢true h)
