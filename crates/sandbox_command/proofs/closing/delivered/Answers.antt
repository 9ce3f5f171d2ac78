use Rattle.std.proofs.Common.{refl}
use Rattle.sandbox_telling.proofs.Lines.{lines_then}
use Rattle.sandbox_command.proofs.closing.delivered.Goals as goal

pub returns-clause-hands : goal.returns-clause-hands
returns-clause-hands g c = record {
  handing = c.handed_out-ending.result.status;
  told = c.handed_out-ending.result.summary;
  handed = c.handed_out-ending.new.places;
  hands = c.handed_out-ending.ensures.hands;
  gives = c.given-device.ensures.gives;
}

pub returns-clause-rest : goal.returns-clause-rest
returns-clause-rest g c = (c.given-device.new.err, refl, lines_then _ _ _ c.handed_out-ending.ensures.lines c.given-device.ensures.lines)
