use Rattle.std.proofs.Common.{◌≡◌, ◌-◌, ℕ, List, length, take, drop, inl, inr, sym, subst, arith}
use Rattle.std.proofs.lemmas.List.{take_all, length-drop}
use Rattle.std.proofs.lemmas.Grind.{common_steps}
use Rattle.stream_answers.specs.Hearing.{stays, goes}
use Rattle.wasi_bodies.proofs.streams.WriterBytes.{Begun, begun, begun_all, begun_refused, begun_stuck, begun_write}
use Rattle.wasi_bodies.proofs.streams.outputs.hand.Goals as goal

-- `&rest[n..]` is what is left after n bytes
tail_of : (rest : List ℕ) (n : ℕ) → drop n rest ≡ take (length rest - n) (drop n rest)
tail_of rest n = sym (take_all (length rest - n) (drop n rest) (omega (arith, length-drop n rest)))

pub loop-rest-init : goal.loop-rest-init
loop-rest-init g c = record { begun = begun _ _; heard = stays }

-- one write more
pub loop-rest-preserved : goal.loop-rest-preserved
loop-rest-preserved g c =
    let rest = c.loop-rest.rest.now in
    let n = c.in-Ok.taken in
    let contents = g.W.Write.contents in
    let more = begun_write (contents c.args.writer.now) (contents c.loop-rest.writer) (contents c.try_write.new.self) c.args.bytes.now rest n
    c.loop-rest.invariant.begun c.in-Ok.ensures.bytes in
    record {
      begun = subst (Begun (contents c.args.writer.now) (contents c.try_write.new.self) c.args.bytes.now) (tail_of rest n) more;
      heard = goes c.loop-rest.invariant.heard (_, c.in-Ok.ensures.told);
    }

-- a write took none
pub returns-in-Ok-eq0 : goal.returns-in-Ok-eq0
returns-in-Ok-eq0 g c = record {
  all = tt;
  some = begun_stuck _ _ _ _ _ c.loop-rest.invariant.begun (rw c.in-Ok-eq0.field-0-test at c.in-Ok-eq0.ensures.bytes);
  heard = (c.loop-rest.writer, c.loop-rest.invariant.heard, inr (rw c.in-Ok-eq0.field-0-test at c.in-Ok-eq0.ensures.told));
}

-- or was refused
pub returns-in-Err : goal.returns-in-Err
returns-in-Err g c = record {
  all = tt;
  some = begun_refused _ _ _ _ _ c.loop-rest.invariant.begun c.in-Err.ensures.bytes;
  heard = (c.loop-rest.writer, c.loop-rest.invariant.heard, inl c.in-Err.ensures.told);
}

pub returns : goal.returns
returns g c = record {
  all = grind (arith, common_steps, begun_all);
  some = tt;
  heard = c.loop-rest.invariant.heard;
}
