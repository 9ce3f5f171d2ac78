use Rattle.std.proofs.Common.{ℕ, List, take, arith}
use Rattle.std.proofs.lemmas.List.{length-take-le}
use Rattle.std.proofs.lemmas.Grind.{common_steps}
use Rattle.sandbox_places.proofs.reading.read_more.Goals as goal

pub returns-clause-gave : goal.returns-clause-gave
returns-clause-gave g c =
    let more : List ℕ = take c.in_ok-count.count c.read_piece.new.piece in
    (more, length-take-le c.in_ok-count.count c.read_piece.new.piece c.in_ok-count.ensures.few, c.in_ok-count.ensures.gave, grind (arith, common_steps))
