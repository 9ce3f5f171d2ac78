use Rattle.vol_body.proofs.Needed.{length-positions_of, place_is_there}
use Rattle.vol_body.proofs.laws.names_at_most_what_it_needs.Goals as goal

pub returns-clause-length : goal.returns-clause-length
returns-clause-length c size = length-positions_of size

pub returns-clause-places : goal.returns-clause-places
returns-clause-places c content e p body there names = place_is_there content e p body there names
