use Rattle.std.proofs.Common.{refl, sym, ◌∙◌, arith}
use Rattle.std.proofs.lemmas.Bool.{false≢true}
use Rattle.stream_answers.specs.Hearing.{stays}
use Rattle.wasi_bodies.proofs.streams.ReaderBytes.{came_none}
use Rattle.wasi_bodies.proofs.streams.inputs.fill_next.Goals as goal

pub returns-then-input : goal.returns-then-input
returns-then-input g c = record {
  long = refl;
  came = came_none _ c.args.memory.now c.args.buffer.pointer c.args.buffer.len;
  full = λ goes_on. absurd (false≢true (sym goes_on ∙ c.if-input.true));
  short = λ goes_on. absurd (false≢true (sym goes_on ∙ c.if-input.true));
  still = tt;
  small = omega arith;
  none = λ ended. (refl, ended);
  end = c.requires.end;
  broke = tt;
  mark = refl;
  heard = stays;
}
