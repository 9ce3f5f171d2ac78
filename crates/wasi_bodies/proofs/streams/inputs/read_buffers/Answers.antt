use Rattle.std.proofs.Common.{◌≡◌, ◌<◌, ◌≤◌, false, Bool, ℕ, Result, IfOk, OnErr, true, sym, subst}
use Rattle.wasi_bodies.specs.World.{least_read}
use Rattle.wasi_bodies.specs.Checks.{total}
use Rattle.wasi_bodies.specs.internal.checks.Buffers.{list_of}
use Rattle.wasi_bodies.specs.internal.streams.Inputs.{Broke}
use Rattle.wasi_bodies.proofs.streams.ShortReads.{all_least, broke_long, broke_short}
use Rattle.wasi_bodies.proofs.streams.inputs.read_buffers.Goals as goal

pub returns-then-short : goal.returns-then-short
returns-then-short g c = record {
  long = c.read_once.ensures.long;
  dealt = c.read_once.ensures.dealt;
  full = subst (λ (b : Bool). IfOk c.read_once.result (λ (n : ℕ). c.read_once.new.input.ended ≡ false → least_read b (total (list_of c.args.buffers.now)) ≤ n)) (sym c.if-short.true) c.read_once.ensures.some;
  fewer = subst (λ (b : Bool). IfOk c.read_once.result (λ (n : ℕ). c.args.input.now.ended ≡ false → c.read_once.new.input.ended ≡ true → n < least_read b (total (list_of c.args.buffers.now)))) (sym c.if-short.true) c.read_once.ensures.short;
  still = c.read_once.ensures.still;
  none = c.read_once.ensures.none;
  end = c.read_once.ensures.end;
  broke = subst (λ (b : Bool). OnErr c.read_once.result (Broke b (g.R.Read.remaining c.args.input.now.reader) (g.R.Read.remaining c.read_once.new.input.reader) c.args.memory.now (list_of c.args.buffers.now) c.read_once.new.memory)) (sym c.if-short.true)
      (broke_short c.read_once.result _ _ _ _ _ c.read_once.ensures.broke);
  mark = c.read_once.ensures.mark;
  heard = c.read_once.ensures.heard;
}

pub returns-else-short : goal.returns-else-short
returns-else-short g c = record {
  long = c.fill_buffers.ensures.long;
  dealt = c.fill_buffers.ensures.dealt;
  full = subst (λ (b : Bool). IfOk c.fill_buffers.result (λ (n : ℕ). c.fill_buffers.new.input.ended ≡ false → least_read b (total (list_of c.args.buffers.now)) ≤ n)) (sym c.if-short.false)
      (all_least c.fill_buffers.result _ _ c.fill_buffers.ensures.full);
  fewer = subst (λ (b : Bool). IfOk c.fill_buffers.result (λ (n : ℕ). c.args.input.now.ended ≡ false → c.fill_buffers.new.input.ended ≡ true → n < least_read b (total (list_of c.args.buffers.now)))) (sym c.if-short.false) c.fill_buffers.ensures.short;
  still = c.fill_buffers.ensures.still;
  none = c.fill_buffers.ensures.none;
  end = c.fill_buffers.ensures.end;
  broke = subst (λ (b : Bool). OnErr c.fill_buffers.result (Broke b (g.R.Read.remaining c.args.input.now.reader) (g.R.Read.remaining c.fill_buffers.new.input.reader) c.args.memory.now (list_of c.args.buffers.now) c.fill_buffers.new.memory)) (sym c.if-short.false)
      (broke_long c.fill_buffers.result _ _ _ _ _ c.fill_buffers.ensures.broke);
  mark = c.fill_buffers.ensures.mark;
  heard = c.fill_buffers.ensures.heard;
}
