use Rattle.std.proofs.Common.{ℕ, List, Bool, sym, ap, ◌∙◌, refl, subst}
use Rattle.std.proofs.lemmas.Bool.{false≢true}
use Rattle.byteorder.specs.Endian.{little_bytes}
use Rattle.wasm_store.specs.Bytes.{written}
use Rattle.stream_answers.specs.Hearing.{Hears, Moves, Refuses}
use Rattle.wasi_bodies.specs.internal.checks.Buffers.{list_of}
use Rattle.wasi_bodies.proofs.checks.BufferArrays.{gathered_length}
use Rattle.wasi_bodies.proofs.streams.outputs.write_stream.Goals as goal

pub returns-in-Ok : goal.returns-in-Ok
returns-in-Ok g c = record {
  idle = λ failed. absurd (false≢true (sym c.if-output.false ∙ failed));
  took = let m = c.args.memory.now in (
    c.if-output.false,
    c.if-output.false,
    rw c.lend_buffers-bytes.ensures.bytes at c.in-Ok.ensures.all,
    c.write_bytes.ensures.bytes ∙ ap (λ (l : List ℕ). written l c.args.result_at c.le32.result) c.lend_buffers-bytes.follows.holds-at-none ∙ ap (written m c.args.result_at) (c.le32.ensures ∙ ap (little_bytes 4) (c.total_len-len.ensures ∙ sym (gathered_length m (list_of c.args.buffers.now) c.requires.usable.inside))),
  );
  broke = tt;
  answer = tt;
  heard = λ worked. subst (λ (b : Bool). Hears (Moves g.W.Outlet.took) (Refuses g.W.Outlet.took g.W.Outlet.refused) b c.args.output.now.writer c.hand_buffers.new.writer) (sym worked) c.in-Ok.ensures.heard;
}

pub returns-then-output : goal.returns-then-output
returns-then-output g c = record {
  idle = λ failed. (refl, refl);
  took = tt;
  broke = λ worked. absurd (false≢true (sym worked ∙ c.if-output.true));
  answer = (refl, refl);
  heard = λ worked. absurd (false≢true (sym worked ∙ c.if-output.true));
}

pub returns-in-Err : goal.returns-in-Err
returns-in-Err g c = record {
  idle = λ failed. absurd (false≢true (sym c.if-output.false ∙ failed));
  took = tt;
  broke = λ worked. (refl, rw c.lend_buffers-bytes.ensures.bytes at c.in-Err.ensures.some);
  answer = (refl, c.lend_buffers-bytes.follows.holds-at-none);
  heard = λ worked. c.in-Err.ensures.heard;
}
