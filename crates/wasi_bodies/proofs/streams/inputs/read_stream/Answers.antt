use Rattle.std.proofs.Common.{◌≡◌, Bool, false, inl, inr, refl, ap, sym, subst, ◌∙◌}
use Rattle.std.proofs.lemmas.Bool.{false≢true}
use Rattle.stream_answers.specs.Hearing.{Hears, Moves}
use Rattle.wasi_bodies.proofs.streams.ReaderBytes.{ended_or, ended_so, no_count, same_count}
use Rattle.wasm_store.specs.Bytes.{written}
use Rattle.wasi_bodies.proofs.streams.inputs.read_stream.Goals as goal

pub returns-in-Err : goal.returns-in-Err
returns-in-Err g c = record {
  idle = λ failed. absurd (false≢true (sym c.if-input.false ∙ failed));
  took = tt;
  broke = λ worked.
      let goes_on : c.args.input.now.ended ≡ false = elim (ended_or c.args.input.now.ended) [
        | inl is ↦ absurd (no_count c.in-Err.field-0 0 (c.in-Err.ensures.none is).0)
        | inr not_yet ↦ not_yet
      ] in
      (refl, goes_on, c.in-Err.ensures.still, c.in-Err.ensures.broke);
  answer = refl;
  end = c.in-Err.ensures.end;
  heard = λ worked. c.in-Err.ensures.heard;
}

pub returns-then-input : goal.returns-then-input
returns-then-input g c = record {
  idle = λ failed. (refl, refl, refl);
  took = tt;
  broke = λ worked. absurd (false≢true (sym worked ∙ c.if-input.true));
  answer = refl;
  end = c.requires.end;
  heard = λ worked. absurd (false≢true (sym worked ∙ c.if-input.true));
}

pub returns-in-Ok : goal.returns-in-Ok
returns-in-Ok g c = record {
  idle = λ failed. absurd (false≢true (sym c.if-input.false ∙ failed));
  took =
      record {
        worked = c.if-input.false;
        works = c.in-Ok.ensures.mark ∙ c.if-input.false;
        count = c.in-Ok.count;
        filled = c.read_buffers.new.memory;
        dealt = c.in-Ok.ensures.dealt;
        full = c.in-Ok.ensures.full;
        none = λ ended. same_count c.in-Ok.count 0 (c.in-Ok.ensures.none ended).0;
        ended = ended_so _ _ _ _ (λ is. (c.in-Ok.ensures.none is).1) c.in-Ok.ensures.fewer c.in-Ok.ensures.full;
        stand = c.write_bytes.ensures.bytes ∙ ap (written c.read_buffers.new.memory c.args.result_at) c.le32.ensures;
      };
  broke = tt;
  answer = tt;
  end = c.in-Ok.ensures.end;
  heard = λ worked. subst (λ (b : Bool). Hears (Moves g.R.Inlet.gave) g.R.Inlet.refused b c.args.input.now.reader c.read_buffers.new.input.reader)
      (sym (c.in-Ok.ensures.mark ∙ worked)) c.in-Ok.ensures.heard;
}
