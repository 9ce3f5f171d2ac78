use Rattle.std.proofs.lemmas.List.{take_all}
use Rattle.std.proofs.Common.{◌≡◌, ◌<◌, ◌⊎◌, [], take, inl, inr, refl, sym, ◌∙◌, arith, List, Ok, ap, subst}
use Rattle.std.proofs.lemmas.Bool.{false≢true}
use Rattle.vol_body.specs.declared.source.MemorySpan.{MemorySpan}
use Rattle.stream_answers.specs.Hearing.{stays}
use Rattle.stream_answers.proofs.Hearing.{then}
use Rattle.wasi_bodies.specs.Checks.{total}
use Rattle.wasi_bodies.specs.internal.checks.Buffers.{list_of}
use Rattle.wasi_bodies.proofs.checks.BufferArrays.{inside_at, total_more}
use Rattle.wasi_bodies.proofs.streams.ReaderBytes.{dealt_more, dealt_fails, ended_or, same_count, no_count}
use Rattle.wasi_bodies.proofs.streams.ShortReads.{untouched}
use Rattle.wasi_bodies.specs.internal.streams.Inputs.{Dealt}
use Rattle.wasi_bodies.proofs.streams.inputs.fill_buffers.Goals as goal

abbrev no_buffer : MemorySpan
no_buffer = record { pointer = 0; len = 0 }

pub fill_next-requires-clause-inside : goal.fill_next-requires-clause-inside
fill_next-requires-clause-inside g c =
    let inside = inside_at c.args.memory.now c.args.buffers.now c.loop-buffer.buffer-index no_buffer c.requires.inside c.loop-buffer-test.true in
    omega (arith, inside, c.loop-buffer.invariant.long)

pub overflow_add-count : goal.overflow_add-count
overflow_add-count g c = omega (arith, c.loop-buffer.invariant.small, c.in-Ok.ensures.small)

pub returns-in-Err : goal.returns-in-Err
returns-in-Err g c = record {
  long = c.in-Err.ensures.long ∙ c.loop-buffer.invariant.long;
  dealt = tt;
  full = tt;
  short = tt;
  still = c.in-Err.ensures.still;
  none = λ ended. absurd (no_count c.in-Err.failed 0 (c.in-Err.ensures.none (c.loop-buffer.invariant.none ended).1).0);
  end = c.in-Err.ensures.end;
  broke = let before = c.loop-buffer.invariant in
      dealt_fails _ _ _ c.args.memory.now c.loop-buffer.memory c.fill_next.new.memory c.args.buffers.now c.loop-buffer.buffer-index c.loop-buffer.count no_buffer c.loop-buffer-test.true
      before.dealt c.in-Err.ensures.broke (elim (ended_or c.loop-buffer.input.ended) [
        | inl is ↦ absurd (no_count c.in-Err.failed 0 (c.in-Err.ensures.none is).0)
        | inr goes_on ↦ before.full goes_on
      ]);
  mark = c.in-Err.ensures.mark ∙ c.loop-buffer.invariant.mark;
  heard = let said = c.in-Err.ensures.heard in (said.0, then c.loop-buffer.invariant.heard said.1, said.2);
}

pub loop-buffer-init : goal.loop-buffer-init
loop-buffer-init g c = record {
  long = refl;
  small = omega arith;
  dealt = untouched _ c.args.memory.now [];
  full = λ goes_on. refl;
  short = λ began ended. absurd (false≢true (sym began ∙ ended));
  none = λ ended. (refl, ended);
  end = c.requires.end;
  mark = refl;
  heard = stays;
}

pub loop-buffer-preserved : goal.loop-buffer-preserved
loop-buffer-preserved g c =
    let before = c.loop-buffer.invariant in
    let told = c.in-Ok.ensures in
    let bs = c.args.buffers.now in
    let i = c.loop-buffer.buffer-index in
    let sum = total_more bs i no_buffer c.loop-buffer-test.true in
    let full : (c.loop-buffer.count ≡ total (list_of (take i bs))) ⊎ (c.in-Ok.more ≡ 0) = elim (ended_or c.loop-buffer.input.ended) [
      | inl is ↦ inr (same_count c.in-Ok.more 0 (told.none is).0)
      | inr goes_on ↦ inl (before.full goes_on)
    ] in
    record {
      long = told.long ∙ before.long;
      small = omega (arith, before.small, told.small);
      dealt = dealt_more _ _ _ c.args.memory.now c.loop-buffer.memory c.fill_next.new.memory bs i c.loop-buffer.count c.in-Ok.more no_buffer c.loop-buffer-test.true before.dealt told.came full;
      full = λ goes_on. elim (ended_or c.loop-buffer.input.ended) [
        | inl is ↦ absurd (false≢true (sym goes_on ∙ (told.none is).1))
        | inr not_yet ↦ omega (arith, sum, before.full not_yet, told.full goes_on)
      ];
      short = λ began ended. elim (ended_or c.loop-buffer.input.ended) [
        | inl is ↦ omega (arith, sum, before.short began is, same_count c.in-Ok.more 0 (told.none is).0)
        | inr not_yet ↦ omega (arith, sum, before.full not_yet, told.short not_yet ended)
      ];
      none = λ ended. let was = before.none ended in let now = told.none was.1 in (omega (arith, was.0, same_count c.in-Ok.more 0 now.0), now.1);
      end = told.end;
      mark = told.mark ∙ before.mark;
      heard = then before.heard told.heard;
    }

pub returns : goal.returns
returns g c = record {
  long = c.loop-buffer.invariant.long;
  dealt = subst (λ (l : List MemorySpan). Dealt (g.R.Read.remaining c.args.input.now.reader) (g.R.Read.remaining c.loop-buffer.input.reader) c.args.memory.now (list_of l) c.loop-buffer.memory c.loop-buffer.count) (take_all c.loop-buffer.buffer-index c.args.buffers.now c.loop-buffer-test.false) c.loop-buffer.invariant.dealt;
  full = λ goes_on. c.loop-buffer.invariant.full goes_on ∙ ap (λ (l : List MemorySpan). total (list_of l)) (take_all c.loop-buffer.buffer-index c.args.buffers.now c.loop-buffer-test.false);
  short = λ began ended.
      subst (λ (l : List MemorySpan). c.loop-buffer.count < total (list_of l)) (take_all c.loop-buffer.buffer-index c.args.buffers.now c.loop-buffer-test.false) (c.loop-buffer.invariant.short began ended);
  still = tt;
  none = λ ended. (ap Ok (c.loop-buffer.invariant.none ended).0, (c.loop-buffer.invariant.none ended).1);
  end = c.loop-buffer.invariant.end;
  broke = tt;
  mark = c.loop-buffer.invariant.mark;
  heard = c.loop-buffer.invariant.heard;
}
