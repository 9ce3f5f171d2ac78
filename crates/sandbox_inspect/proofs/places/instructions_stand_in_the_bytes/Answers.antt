use Rattle.sandbox_inspect.proofs.Spelled.{spelled_instruction}
use Rattle.sandbox_inspect.proofs.places.instructions_stand_in_the_bytes.Goals as goal

pub returns : goal.returns
returns c = λ p bytes m own b index spells is. spelled_instruction p bytes m own b index spells is
