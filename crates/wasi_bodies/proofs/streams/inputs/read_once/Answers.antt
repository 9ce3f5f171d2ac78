use Rattle.std.proofs.Common.{◌≡◌, ◌+◌, ◌≤◌, length, min, refl, sym, ◌∙◌, arith}
use Rattle.std.proofs.lemmas.Bool.{false≢true}
use Rattle.vol_body.specs.declared.source.MemorySpan.{MemorySpan}
use Rattle.stream_answers.specs.Hearing.{stays}
use Rattle.wasi_bodies.specs.internal.checks.Buffers.{list_of}
use Rattle.wasi_bodies.proofs.checks.BufferArrays.{inside_at}
use Rattle.wasi_bodies.proofs.streams.ShortReads.{dealt_once, nothing_dealt, untouched, room_at}
use Rattle.wasi_bodies.proofs.streams.inputs.read_once.Goals as goal

abbrev no_buffer : MemorySpan
no_buffer = record { pointer = 0; len = 0 }

pub returns-then-input : goal.returns-then-input
returns-then-input g c = record {
  long = refl;
  dealt = untouched _ c.args.memory.now (list_of c.args.buffers.now);
  some = λ goes_on. absurd (false≢true (sym goes_on ∙ c.if-input.true));
  short = λ goes_on. absurd (false≢true (sym goes_on ∙ c.if-input.true));
  still = tt;
  none = λ ended. (refl, ended);
  end = c.requires.end;
  broke = tt;
  mark = refl;
  heard = stays;
}

pub returns-in_default : goal.returns-in_default
returns-in_default g c = record {
  long = refl;
  dealt = untouched _ c.args.memory.now (list_of c.args.buffers.now);
  some = λ goes_on. omega (arith, c.in_default.ensures);
  short = λ goes_on ended. absurd (false≢true (sym goes_on ∙ ended));
  still = tt;
  none = λ ended. (refl, ended);
  end = c.requires.end;
  broke = tt;
  mark = refl;
  heard = stays;
}

pub read_some-requires-clause-inside : goal.read_some-requires-clause-inside
read_some-requires-clause-inside g c =
    inside_at c.args.memory.now c.args.buffers.now c.in-Some.index no_buffer c.requires.inside c.in-Some.ensures.inside

pub returns-in-Ok-eq0 : goal.returns-in-Ok-eq0
returns-in-Ok-eq0 g c = record {
  long = c.in-Ok-eq0.ensures.long;
  dealt = let first = c.in-Some.ensures in
      dealt_once _ _ c.args.memory.now c.read_some.new.memory c.args.buffers.now c.in-Some.index 0 no_buffer first.inside first.before
      (rw c.in-Ok-eq0.field-0-test at c.in-Ok-eq0.ensures.came);
  some = λ goes_on. absurd (false≢true (sym goes_on));
  short = λ goes_on ended. let first = c.in-Some.ensures in let room = room_at c.args.buffers.now c.in-Some.index no_buffer first.inside in omega (arith, room, first.room);
  still = tt;
  none = λ ended. absurd (false≢true (sym c.if-input.false ∙ ended));
  end = λ ended. c.in-Ok-eq0.ensures.end c.in-Ok-eq0.field-0-test;
  broke = tt;
  mark = refl;
  heard = c.in-Ok-eq0.ensures.heard;
}

pub returns-in-Ok : goal.returns-in-Ok
returns-in-Ok g c = record {
  long = c.in-Ok.ensures.long;
  dealt = let first = c.in-Some.ensures in
      dealt_once _ _ c.args.memory.now c.read_some.new.memory c.args.buffers.now c.in-Some.index c.in-Ok.count no_buffer first.inside first.before c.in-Ok.ensures.came;
  some = λ goes_on. omega (arith, c.in-Ok.count-test.1);
  short = λ goes_on ended. absurd (false≢true (sym goes_on ∙ ended));
  still = tt;
  none = λ ended. absurd (false≢true (sym c.if-input.false ∙ ended));
  end = λ ended. absurd (false≢true (sym c.if-input.false ∙ ended));
  broke = tt;
  mark = refl;
  heard = c.in-Ok.ensures.heard;
}

pub returns-in-Err : goal.returns-in-Err
returns-in-Err g c = record {
  long = c.in-Err.ensures.long;
  dealt = tt;
  some = tt;
  short = tt;
  still = c.if-input.false;
  none = λ ended. absurd (false≢true (sym c.if-input.false ∙ ended));
  end = λ ended. absurd (false≢true (sym c.if-input.false ∙ ended));
  broke = nothing_dealt _ _ c.args.memory.now c.read_some.new.memory (list_of c.args.buffers.now) c.in-Err.ensures.broke c.in-Err.ensures.kept;
  mark = refl;
  heard = c.in-Err.ensures.heard;
}
