use Rattle.std.proofs.Common.{◌≡◌, ◌+◌, List, get_or, drop, sym, ap, ◌∙◌, arith}
use Rattle.std.proofs.lemmas.List.{drop-set-lt, drop-drop}
use Rattle.vol_body.specs.declared.source.MemorySpan.{MemorySpan}
use Rattle.wasi_bodies.proofs.files.OverlappingBuffers.{cut_more}
use Rattle.wasi_bodies.proofs.files.reading.cut_to.Goals as goal

pub loop-index-preserved : goal.loop-index-preserved
loop-index-preserved c =
    let i = c.loop-index.index in
    let bs = c.loop-index.buffers in
    let bs0 = c.args.buffers.now in
    let d : MemorySpan = record { pointer = 0; len = 0 } in
    let next : drop (i + 1) bs ≡ drop (i + 1) bs0 = sym (drop-drop 1 i bs) ∙ (ap (λ (l : List MemorySpan). drop 1 l) c.loop-index.invariant.rest ∙ drop-drop 1 i bs0) in
    record {
      rest = drop-set-lt (i + 1) bs i _ (omega arith) ∙ next;
      done = cut_more bs bs0 i c.loop-index.left _ _ d (omega arith) (omega arith) c.loop-index.invariant.rest
          (λ j. record (get_or bs i d) { len = c.min-taken.ensures j }) (omega (arith, c.min-taken.ensures))
          ∙ c.loop-index.invariant.done;
    }
