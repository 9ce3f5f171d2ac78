use Rattle.std.proofs.Common.{Option, inl, refl, sym, subst}
use Rattle.std.specs.Borrow.{Bor}
use Rattle.sandbox_args.specs.Request.{Text}
use Rattle.sandbox_places.specs.Places.{Chain, Reads, reads_of}
use Rattle.sandbox_command.proofs.Chains.{named_refused}
use Rattle.sandbox_command.proofs.opening.memory_of.Goals as goal

-- nothing but the reading of the image is asked for
pub returns-in-Some-clause-asked : goal.returns-in-Some-clause-asked
returns-in-Some-clause-asked g c =
    subst (λ (image : Option (Bor Text)). Chain g.P.Places.asked (reads_of image) c.args.places.now c.image.new.self) (sym c.in-Some.is) (_, c.image.ensures.asked, refl)

pub returns-in-Some-clause-refused : goal.returns-in-Some-clause-refused
returns-in-Some-clause-refused g c =
    named_refused g.P.Places.asked g.P.Places.refused Reads _ c.args.run.now.image c.in-Some.file c.args.places.now c.image.new.self c.image.result c.in-Some.is c.image.ensures.asked c.image.ensures.refused (λ e refused. inl refused)
