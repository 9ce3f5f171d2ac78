-- Calls whose checks have passed.
use Rattle.std.proofs.Common.{◌≡◌, ℕ, ◌+◌, ◌≤◌, ◌++◌, List, length, take, true, Ok, refl, sym, ap, ◌∙◌, subst}
use Rattle.std.proofs.Math.Seq.{take-append_seam}
use Rattle.wasi_fd.specs.declared.descriptor.Stream.{Stream as StreamValue}
use Rattle.wasi_fd.specs.declared.descriptor.Stream.TheVariants.{Input, Output, Error}
use Rattle.wasi_bodies.specs.World.{World, with_volume_failed, with_stream_failed}
use Rattle.wasi_bodies.specs.Checks.{Checked, Done, Buffer, and_then, buffers, range, Refusals, get, of_kind, has, descriptor}
use Rattle.wasi_fd.specs.declared.descriptor.Descriptor.{Descriptor}
use Rattle.wasi_bodies.proofs.checks.Chains.{bound, paired, passed}
use Rattle.wasi_bodies.proofs.checks.Passing.{same_Ok}
use Rattle.wasi_bodies.specs.Calls.{Answers, Answered, Reaches, IsMixed, VolumeFails, InputFails, OutputFails, by_row, volume_fails, input_fails, output_fails, errors_fail, filled, input_left, output_after, with_all}
use Rattle.wasi_bodies.specs.internal.checks.Buffers.{usable}

-- ---- rows that are the same in each world with this table

module _ (run r : World → Checked Done) (w : World) (same : (v : World) → v.table ≡ w.table → v.tree ≡ w.tree → run v ≡ r v) where
  reaches_so : (marked : World) → marked.table ≡ w.table → marked.tree ≡ w.tree → Reaches (r w) (r marked) → Reaches (run w) (run marked)
  reaches_so marked table tree h = record { refused = same marked table tree ∙ h.refused; only_so = λ is. h.only_so (sym (same w refl refl) ∙ is) }

  fails_so : (m : List ℕ) (w' : World) (m' : List ℕ) (e : ℕ) → VolumeFails r w m w' m' e → VolumeFails run w m w' m' e
  fails_so m w' m' e f = record {
    reaches = reaches_so (with_volume_failed w) refl refl f.reaches;
    answer = f.answer;
    after = f.after;
    bytes = subst (λ (x : Checked Done). IsMixed m (filled x m) m') (sym (same w refl refl)) f.bytes;
  }

  input_so : (m : List ℕ) (w' : World) (m' : List ℕ) (e : ℕ) → InputFails r w m w' m' e → InputFails run w m w' m' e
  input_so m w' m' e f = record {
    reaches = reaches_so (with_stream_failed Input w) refl refl f.reaches;
    goes_on = f.goes_on;
    answer = f.answer;
    count = f.count;
    no_more = subst (λ (x : Checked Done). f.count + length (input_left x w) ≤ length w.input) (sym (same w refl refl)) f.no_more;
    after = f.after;
    bytes = f.bytes ∙ ap (λ (x : Checked Done). filled x m) (sym (same (record w { input = take f.count w.input }) refl refl));
  }

  output_so : (s : StreamValue) → (with_stream_failed s w).table ≡ w.table → (with_stream_failed s w).tree ≡ w.tree → (m : List ℕ) (w' : World) (m' : List ℕ) (e : ℕ) → OutputFails s r w m w' m' e → OutputFails s run w m w' m' e
  output_so s table tree m w' m' e f = record {
    reaches = reaches_so (with_stream_failed s w) table tree f.reaches;
    answer = f.answer;
    count = f.count;
    at_least = f.at_least;
    after = f.after ∙ ap (λ (x : Checked Done). with_stream_failed s (with_all s w (take f.count (output_after s x w)))) (sym (same w refl refl));
    bytes = f.bytes;
  }

  pub answered_so : (m : List ℕ) (w' : World) (m' : List ℕ) (e : ℕ) → Answered r w m w' m' e → Answered run w m w' m' e
  answered_so m w' m' e (by_row h) = by_row (subst (λ (x : Checked Done). Answers x w m w' m' e) (sym (same w refl refl)) h)
  answered_so m w' m' e (volume_fails f) = volume_fails (fails_so m w' m' e f)
  answered_so m w' m' e (input_fails f) = input_fails (input_so m w' m' e f)
  answered_so m w' m' e (output_fails f) = output_fails (output_so Output refl refl m w' m' e f)
  answered_so m w' m' e (errors_fail f) = errors_fail (output_so Error refl refl m w' m' e f)

-- ---- buffers and the place of the result are checked together

pub usable_row : {X : Type 0} (m : List ℕ) (iovs count result : ℕ) (k : List Buffer → Checked X)
    → and_then (buffers m iovs count) (λ bs. and_then (range m result 4) (λ _. k bs)) ≡ and_then (usable m iovs count result) k
usable_row m iovs count result k = paired (buffers m iovs count) (range m result 4) k

-- ---- room

-- a vector's elements after they were written through a slice of all of them
pub refilled : {X : Type 0} (n : ℕ) (ws zs : List X) → length ws ≡ n → take n (ws ++ zs) ≡ ws
refilled n ws zs h = ap (λ (k : ℕ). take k (ws ++ zs)) (sym h) ∙ take-append_seam ws zs

-- ---- rights

pub has_right : (w : World) (fd : ℕ) (r : Refusals) (rights : ℕ) (d : Descriptor) → descriptor w fd r rights ≡ Ok d → has d rights ≡ true
has_right w fd r rights d h =
    let one = bound (get w fd) _ d h in
    let two = bound (of_kind r one.0) _ d one.2 in
    let three = passed (has one.0 rights) 76 _ d two.2 in
    subst (λ (d : Descriptor). has d rights ≡ true) (same_Ok one.0 d three.1) three.0
