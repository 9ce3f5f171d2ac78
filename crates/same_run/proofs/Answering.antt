-- A world answers the same to the same question, and what has failed in it stays failed.
use Rattle.std.proofs.Common.{◌≡◌, ℕ, Bool, true, false, ◌||◌, List, Ok, Err, refl, sym, ◌∙◌, ap}
use Rattle.std.proofs.lemmas.Bool.{false≢true}
use Rattle.wasm_store.specs.declared.call.HostCall.{HostCall}
use Rattle.wasm_store.specs.declared.call.HostCall.TheVariants as call
use Rattle.wasm_store.specs.declared.call.Errno.{Errno}
use Rattle.wasm_store.specs.declared.call.Answer.{Answer}
use Rattle.wasm_store.specs.declared.call.Answer.TheVariants.{Value as value}
use Rattle.wasi_bodies.specs.World.{World}
use Rattle.wasi_bodies.specs.Checks.{Checked, Done, put}
use Rattle.wasi_bodies.specs.Errnos.{SUCCESS}
use Rattle.wasi_bodies.specs.Calls.{row, Answers, Answered, by_row, volume_fails, input_fails, output_fails, errors_fail, Calls}
use Rattle.same_run.specs.Failures.{has_failed, FailuresStay}
use Rattle.same_run.specs.NextStep.{AnswersOnce}
use Rattle.same_run.specs.SameWorld.{unplaced_world, IsSameWorld}
use Rattle.same_run.proofs.Marks.{Yields, row_keeps}
use Rattle.same_run.proofs.Unplaced.{Both, IsUnplaced, row_unplaced}

-- ---- a call in which something failed leaves its mark

or_true : (b : Bool) → (b || true) ≡ true
or_true true = refl
or_true false = refl

input_marked : (a b c : Bool) → (a || ((true || b) || c)) ≡ true
input_marked a b c = or_true a

output_marked : (a b c : Bool) → (a || ((b || true) || c)) ≡ true
output_marked a b c = ap (λ x. a || (x || c)) (or_true b) ∙ or_true a

errors_marked : (a b : Bool) → (a || (b || true)) ≡ true
errors_marked a b = ap (λ x. a || x) (or_true b) ∙ or_true a

contradicts : (w v : World) → w ≡ v → has_failed v ≡ true → has_failed w ≡ false → ⊥
contradicts w v is failed sound = false≢true (sym sound ∙ (ap has_failed is ∙ failed))

-- ---- by the row

abbrev pub world_after : Checked Done → World → World
world_after (Ok done) w = done.world
world_after (Err e) w = w

abbrev pub memory_after : Checked Done → List ℕ → List ℕ
memory_after (Ok done) memory = put (put memory done.fills) done.results
memory_after (Err e) memory = memory

abbrev pub number_after : Checked Done → ℕ
number_after (Ok done) = SUCCESS
number_after (Err e) = e

pub record IsRowOf (result : Checked Done) (w : World) (memory : List ℕ) (w' : World) (memory' : List ℕ) (errno : ℕ) : Type 0 where
  pub world_is : w' ≡ world_after result w
  pub memory_is : memory' ≡ memory_after result memory
  pub number_is : errno ≡ number_after result

of_row : (result : Checked Done) (w w' : World) (memory memory' : List ℕ) (errno : ℕ) → Answers result w memory w' memory' errno → IsRowOf result w memory w' memory' errno
of_row (Ok done) w w' memory memory' errno (number, world, bytes) = record { world_is = world; memory_is = bytes; number_is = number }
of_row (Err e) w w' memory memory' errno (number, world, bytes) = record { world_is = world; memory_is = bytes; number_is = number }

-- where nothing has failed afterwards, it is the row that answered
is_row : (run : World → Checked Done) (w w' : World) (memory memory' : List ℕ) (errno : ℕ) → Answered run w memory w' memory' errno → has_failed w' ≡ false
    → IsRowOf (run w) w memory w' memory' errno
is_row run w w' memory memory' errno (by_row answers) sound = of_row (run w) w w' memory memory' errno answers
is_row run w w' memory memory' errno (volume_fails f) sound = absurd (contradicts w' _ f.after refl sound)
is_row run w w' memory memory' errno (input_fails f) sound = absurd (contradicts w' _ f.after (input_marked w.volume_failed w.output_failed w.errors_failed) sound)
is_row run w w' memory memory' errno (output_fails f) sound = absurd (contradicts w' _ f.after (output_marked w.volume_failed w.input_failed w.errors_failed) sound)
is_row run w w' memory memory' errno (errors_fail f) sound = absurd (contradicts w' _ f.after (errors_marked w.volume_failed (w.input_failed || w.output_failed)) sound)

-- ---- two answers

abbrev Same : World → World → List ℕ → List ℕ → Answer → Answer → Type 0
Same w1 w2 memory1 memory2 answer1 answer2 = (w1 ≡ w2) × (memory1 ≡ memory2) × (answer1 ≡ answer2)

same_errno : (e1 e2 : Errno) → e1.0 ≡ e2.0 → e1 ≡ e2
same_errno e1 e2 is = λ i. record { 0 = is i }

answered_once : (run : World → Checked Done) (w w1 w2 : World) (memory memory1 memory2 : List ℕ) (answer1 answer2 : Answer)
    → ((e : Errno) × (answer1 ≡ value e) × Answered run w memory w1 memory1 e.0) → ((e : Errno) × (answer2 ≡ value e) × Answered run w memory w2 memory2 e.0)
    → has_failed w1 ≡ false → has_failed w2 ≡ false → Same w1 w2 memory1 memory2 answer1 answer2
answered_once run w w1 w2 memory memory1 memory2 answer1 answer2 (e1, is1, answered1) (e2, is2, answered2) sound1 sound2 =
    let a = is_row run w w1 memory memory1 e1.0 answered1 sound1 in
    let b = is_row run w w2 memory memory2 e2.0 answered2 sound2 in (
      a.world_is ∙ sym b.world_is,
      a.memory_is ∙ sym b.memory_is,
      is1 ∙ (ap (λ (e : Errno). value e) (same_errno e1 e2 (a.number_is ∙ sym b.number_is)) ∙ sym is2),
    )

pub answers_once : AnswersOnce World Calls has_failed
answers_once w w1 w2 memory memory1 memory2 used call.ProcExit args answer1 answer2 (is1, same1, bytes1) (is2, same2, bytes2) sound1 sound2 =
    (same1 ∙ sym same2, bytes1 ∙ sym bytes2, is1 ∙ sym is2)
answers_once w w1 w2 memory memory1 memory2 used other args answer1 answer2 one two sound1 sound2 =
    answered_once (λ v. row other v memory used args) w w1 w2 memory memory1 memory2 answer1 answer2 one two sound1 sound2

-- ---- what failed stays failed

row_fails_not : (result : Checked Done) (w : World) → Yields (λ (d : Done). has_failed d.world ≡ has_failed w) result → has_failed (world_after result w) ≡ has_failed w
unfolding Yields
row_fails_not (Ok done) w keeps = keeps
row_fails_not (Err e) w keeps = refl

sound_before : (c : HostCall) (w w' : World) (memory memory' : List ℕ) (used : ℕ) (args : List ℕ) (errno : ℕ)
    → Answered (λ v. row c v memory used args) w memory w' memory' errno → has_failed w' ≡ false → has_failed w ≡ false
sound_before c w w' memory memory' used args errno answered sound =
    let a = is_row (λ v. row c v memory used args) w w' memory memory' errno answered sound in
    sym (row_fails_not (row c w memory used args) w (row_keeps (has_failed w) c w memory used args refl)) ∙ (sym (ap has_failed a.world_is) ∙ sound)

pub failures_stay : FailuresStay World Calls has_failed
failures_stay w w' memory memory' used call.ProcExit args answer (is, same, bytes) sound = sym (ap has_failed same) ∙ sound
failures_stay w w' memory memory' used other args answer (e, is, answered) sound = sound_before other w w' memory memory' used args e.0 answered sound

-- ---- worlds that are the same for a guest

unplaced_row : (result result' : Checked Done) (w w' : World) (memory memory' : List ℕ) (errno : ℕ) → Both IsUnplaced result result' → IsRowOf result w memory w' memory' errno
    → IsRowOf result' (unplaced_world w) memory (unplaced_world w') memory' errno
unfolding Both
unplaced_row (Ok d) (Ok e) w w' memory memory' errno is row = record {
  world_is = ap unplaced_world row.world_is ∙ sym (ap (λ (d : Done). d.world) is);
  memory_is = row.memory_is ∙ sym (ap (λ (d : Done). put (put memory d.fills) d.results) is);
  number_is = row.number_is;
}
unplaced_row (Err x) (Err y) w w' memory memory' errno is row = record {
  world_is = ap unplaced_world row.world_is;
  memory_is = row.memory_is;
  number_is = row.number_is ∙ is;
}
unplaced_row (Ok d) (Err y) w w' memory memory' errno is row = absurd is
unplaced_row (Err x) (Ok e) w w' memory memory' errno is row = absurd is

unplaced_answer : (c : HostCall) (w w' : World) (memory memory' : List ℕ) (used : ℕ) (args : List ℕ) (errno : ℕ)
    → Answered (λ v. row c v memory used args) w memory w' memory' errno → has_failed w' ≡ false
    → IsRowOf (row c (unplaced_world w) memory used args) (unplaced_world w) memory (unplaced_world w') memory' errno
unplaced_answer c w w' memory memory' used args errno answered sound =
    unplaced_row (row c w memory used args) (row c (unplaced_world w) memory used args) w w' memory memory' errno (row_unplaced c w memory used args)
    (is_row (λ v. row c v memory used args) w w' memory memory' errno answered sound)

answered_alike : (c : HostCall) (w v w1 v1 : World) (memory memory1 memory2 : List ℕ) (used : ℕ) (args : List ℕ) (answer1 answer2 : Answer) → IsSameWorld w v
    → ((e : Errno) × (answer1 ≡ value e) × Answered (λ x. row c x memory used args) w memory w1 memory1 e.0)
    → ((e : Errno) × (answer2 ≡ value e) × Answered (λ x. row c x memory used args) v memory v1 memory2 e.0)
    → has_failed w1 ≡ false → has_failed v1 ≡ false → IsSameWorld w1 v1 × (memory1 ≡ memory2) × (answer1 ≡ answer2)
answered_alike c w v w1 v1 memory memory1 memory2 used args answer1 answer2 same (e1, is1, answered1) (e2, is2, answered2) sound1 sound2 =
    let a = unplaced_answer c w w1 memory memory1 used args e1.0 answered1 sound1 in
    let b = unplaced_answer c v v1 memory memory2 used args e2.0 answered2 sound2 in (
      a.world_is ∙ (ap (λ (x : World). world_after (row c x memory used args) x) same ∙ sym b.world_is),
      a.memory_is ∙ (ap (λ (x : World). memory_after (row c x memory used args) memory) same ∙ sym b.memory_is),
      is1 ∙ (ap (λ (e : Errno). value e) (same_errno e1 e2 (a.number_is ∙ (ap (λ (x : World). number_after (row c x memory used args)) same ∙ sym b.number_is))) ∙ sym is2),
    )

pub answers_alike : (w v w1 v1 : World) (memory memory1 memory2 : List ℕ) (used : ℕ) (c : HostCall) (args : List ℕ) (answer1 answer2 : Answer) → IsSameWorld w v
    → Calls w memory used c args w1 memory1 answer1 → Calls v memory used c args v1 memory2 answer2 → has_failed w1 ≡ false → has_failed v1 ≡ false
    → IsSameWorld w1 v1 × (memory1 ≡ memory2) × (answer1 ≡ answer2)
answers_alike w v w1 v1 memory memory1 memory2 used call.ProcExit args answer1 answer2 same (is1, still1, bytes1) (is2, still2, bytes2) sound1 sound2 =
    (ap unplaced_world still1 ∙ (same ∙ sym (ap unplaced_world still2)), bytes1 ∙ sym bytes2, is1 ∙ sym is2)
answers_alike w v w1 v1 memory memory1 memory2 used other args answer1 answer2 same one two sound1 sound2 =
    answered_alike other w v w1 v1 memory memory1 memory2 used args answer1 answer2 same one two sound1 sound2
