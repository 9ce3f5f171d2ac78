use Rattle.std.proofs.Common.{◌∙◌, arith, ◌+◌, ◌-◌, subst, refl, sym}
use Rattle.std.proofs.lemmas.Bool.{false≢true}
use Rattle.stream_answers.specs.Hearing.{stays}
use Rattle.stream_answers.proofs.Hearing.{then}
use Rattle.wasi_bodies.proofs.streams.ReaderBytes.{came_more, came_end, came_none, came_fails}
use Rattle.wasi_bodies.specs.internal.streams.Inputs.{Came}
use Rattle.wasi_bodies.proofs.streams.inputs.fill.Goals as goal

pub loop-filled-preserved : goal.loop-filled-preserved
loop-filled-preserved g c =
    let before = c.loop-filled.invariant in
    let more = c.in-Ok.ensures.came in
    record {
      long = c.in-Ok.ensures.long ∙ before.long;
      few = omega (arith, more.few);
      goes_on = before.goes_on;
      mark = before.mark;
      heard = then before.heard c.in-Ok.ensures.heard;
      came = came_more _ _ _ c.args.memory.now c.loop-filled.memory c.read_some.new.memory c.args.start c.args.len c.loop-filled.filled c.in-Ok.count c.requires.inside before.few before.came more;
    }

pub returns-in-Ok-eq0 : goal.returns-in-Ok-eq0
returns-in-Ok-eq0 g c = record {
  long = c.in-Ok-eq0.ensures.long ∙ c.loop-filled.invariant.long;
  came = let was = c.loop-filled.invariant in
      let none = subst (Came (g.R.Read.remaining c.loop-filled.input.reader) (g.R.Read.remaining c.read_some.new.reader) c.loop-filled.memory (c.args.start + c.loop-filled.filled) (c.args.len - c.loop-filled.filled) c.read_some.new.memory)
      c.in-Ok-eq0.field-0-test c.in-Ok-eq0.ensures.came in
      came_end _ _ _ c.args.memory.now c.loop-filled.memory c.read_some.new.memory c.args.start c.args.len c.loop-filled.filled c.requires.inside was.few was.came none;
  full = λ goes_on. absurd (false≢true (sym goes_on));
  short = λ ended. c.loop-filled-test.true;
  still = tt;
  end = λ ended. c.in-Ok-eq0.ensures.end c.in-Ok-eq0.field-0-test;
  broke = tt;
  mark = c.loop-filled.invariant.mark;
  heard = then c.loop-filled.invariant.heard c.in-Ok-eq0.ensures.heard;
}

pub loop-filled-init : goal.loop-filled-init
loop-filled-init g c =
    record { long = refl; few = omega arith; goes_on = c.requires.goes_on; mark = refl; heard = stays; came = came_none _ c.args.memory.now c.args.start c.args.len }

pub returns-in-Err : goal.returns-in-Err
returns-in-Err g c = record {
  long = c.in-Err.ensures.long ∙ c.loop-filled.invariant.long;
  came = tt;
  full = tt;
  short = tt;
  still = c.loop-filled.invariant.goes_on;
  end = λ ended. absurd (false≢true (sym c.loop-filled.invariant.goes_on ∙ ended));
  broke = came_fails _ _ _ c.args.memory.now c.loop-filled.memory c.read_some.new.memory c.args.start c.args.len c.loop-filled.filled c.loop-filled.invariant.came c.in-Err.ensures.broke c.in-Err.ensures.kept;
  mark = c.loop-filled.invariant.mark;
  heard = let told = c.in-Err.ensures.heard in (told.0, then c.loop-filled.invariant.heard told.1, told.2);
}

pub returns : goal.returns
returns g c = record {
  long = c.loop-filled.invariant.long;
  came = c.loop-filled.invariant.came;
  full = λ goes_on. omega (arith, c.loop-filled.invariant.few, c.loop-filled-test.false);
  short = λ ended. absurd (false≢true (sym c.loop-filled.invariant.goes_on ∙ ended));
  still = tt;
  end = λ ended. absurd (false≢true (sym c.loop-filled.invariant.goes_on ∙ ended));
  broke = tt;
  mark = c.loop-filled.invariant.mark;
  heard = c.loop-filled.invariant.heard;
}
