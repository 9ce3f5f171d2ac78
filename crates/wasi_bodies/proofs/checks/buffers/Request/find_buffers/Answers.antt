use Rattle.std.proofs.Common.{List, Ok, sym, ap, ◌∙◌, arith}
use Rattle.std.proofs.lemmas.Bool.{leb-true}
use Rattle.vol_body.specs.declared.source.MemorySpan.{MemorySpan}
use Rattle.wasi_bodies.specs.internal.checks.Buffers.{list_of, fit}
use Rattle.wasi_bodies.proofs.checks.Chains.{goes_on, stops}
use Rattle.wasi_bodies.proofs.checks.BufferArrays.{found_row}
use Rattle.wasi_bodies.proofs.checks.buffers.Request.find_buffers.Goals as goal

pub returns-in-Err-check_buffers-clause-found : goal.returns-in-Err-check_buffers-clause-found
returns-in-Err-check_buffers-clause-found c =
    let q = c.args.self.now in
    let m = c.args.memory.now in
    let all = list_of c.read_array.new.room.items in
    found_row m q.iovs q.count q.result_at all c.in_default.ensures.meaning c.in_default-check_range.ensures.range c.read_array.ensures.read
    ∙ stops _ _ _ (ap (λ (bs : List MemorySpan). fit m (list_of bs)) (sym c.as_slice.ensures.value) ∙ c.in-Err-check_buffers.ensures.fit)

pub returns-in-Ok-clause-found : goal.returns-in-Ok-clause-found
returns-in-Ok-clause-found c =
    let q = c.args.self.now in
    let m = c.args.memory.now in
    let all = list_of c.read_array.new.room.items in
    found_row m q.iovs q.count q.result_at all c.in_default.ensures.meaning c.in_default-check_range.ensures.range c.read_array.ensures.read
    ∙ (goes_on _ _ all (ap (λ (bs : List MemorySpan). fit m (list_of bs)) (sym c.as_slice.ensures.value)
    ∙ (c.in_default-check_buffers.ensures.fit ∙ ap (λ (bs : List MemorySpan). Ok (list_of bs)) c.as_slice.ensures.value))
    ∙ goes_on _ _ tt c.in-Ok.ensures.range)

pub returns-in-Err-check_range-2-clause-found : goal.returns-in-Err-check_range-2-clause-found
returns-in-Err-check_range-2-clause-found c =
    let q = c.args.self.now in
    let m = c.args.memory.now in
    let all = list_of c.read_array.new.room.items in
    found_row m q.iovs q.count q.result_at all c.in_default.ensures.meaning c.in_default-check_range.ensures.range c.read_array.ensures.read
    ∙ (goes_on _ _ all (ap (λ (bs : List MemorySpan). fit m (list_of bs)) (sym c.as_slice.ensures.value)
    ∙ (c.in_default-check_buffers.ensures.fit ∙ ap (λ (bs : List MemorySpan). Ok (list_of bs)) c.as_slice.ensures.value))
    ∙ stops _ _ _ c.in-Err-check_range-2.ensures.range)

pub returns-in-Err-check_range-clause-found : goal.returns-in-Err-check_range-clause-found
returns-in-Err-check_range-clause-found c = stops _ _ _ (goes_on _ _ tt c.in_default.ensures.meaning ∙ stops _ _ _ c.in-Err-check_range.ensures.range)

pub returns-in-Err-clause-found : goal.returns-in-Err-clause-found
returns-in-Err-clause-found c = stops _ _ _ (stops _ _ _ c.in-Err.ensures.meaning)

pub returns-in-Ok-clause-few : goal.returns-in-Ok-clause-few
returns-in-Ok-clause-few c =
    let few = leb-true _ _ c.in_default.ensures.passed in
    omega (arith, few, c.read_array.ensures.len)
