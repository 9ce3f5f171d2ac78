-- What is heard of a stream, one call after another.
use Rattle.stream_answers.specs.Hearing.{Goes, stays, goes}

-- first these, then those
pub then : {S : Type 0} {went : S → S → Type 0} {a b c : S} → Goes went a b → Goes went b c → Goes went a c
then first stays = first
then first (goes more one) = goes (then first more) one
