-- One resume more after others.
use Rattle.std.proofs.Common.{◌≡◌, ℕ, ◌+◌, ◌-◌, ◌^◌, min, Bool, true, false, if◌then◌else◌, List, [], ◌∷◌, ◌++◌, refl, sym, ◌∙◌, ap, subst, zero-add, true≢false, arith}
use Rattle.std.specs.Prelude.{◌<◌, length, replicate, slice_index, suc, zero}
use Rattle.std.specs.List.{count_by}
use Rattle.std.proofs.lemmas.List.Sums.{sum_by-append}
use Rattle.wasm_steps.specs.declared.pause.Pause.{Pause}
use Rattle.wasm_steps.specs.declared.pause.Pause.TheVariants.{Called, Spent, Ended}
use Rattle.wasi_bodies.specs.host.Worlds.{HearsStreams}
use Rattle.wasi_calls.proofs.bodies.StreamsHeard.{unheard}
use Rattle.wasi_calls.proofs.runs.StreamsKeep.{streams_then}
use Rattle.sandbox_core.specs.declared.tally.Tally.{Tally}
use Rattle.sandbox_core.specs.Devices.{Devices}
use Rattle.wasm_operands.specs.Snapshots.{StandsFor}
use Rattle.sandbox_core.specs.Sessions.{FollowBy}
use Rattle.sandbox_core.specs.Session.{SessionState, Resumes, History, Follow, is_answered, is_called, is_synced}
use Rattle.sandbox_core.specs.Tally.{Tallies, no_tally}
use Rattle.sandbox_core.specs.internal.Running.{Followed}
use Rattle.sandbox_core.specs.internal.Tallying.{TalliesPause, counted}

-- a count that stops at a greatest one
stops : (n b most : ℕ) → min (min n most + b) most ≡ min (n + b) most
stops n b most = omega arith

one_more : {X : Type 0} (p : X → Bool) (xs : List X) (x : X) → count_by p (xs ++ x ∷ []) ≡ count_by p xs + (if p x then 1 else 0)
one_more p xs x = sum_by-append (λ y. if p y then 1 else 0) xs (x ∷ []) ∙ ap (λ n. count_by p xs + n) (zero-add (if p x then 1 else 0))

-- one more of a count that stops there
counted_is : (is_so : Bool) (n a : ℕ) → a ≡ min n (2 ^ 64 - 1) → counted is_so a ≡ min (a + (if is_so then 1 else 0)) (2 ^ 64 - 1)
counted_is true n a was = refl
counted_is false n a was = omega (arith, was)

-- one pause more is tallied
pub tallied_on : {S : Type 0} (rs : History S) (p : Pause) (u : S) (old new : Tally) → Tallies rs old → TalliesPause p old new → Tallies (rs ++ (p, u) ∷ []) new
tallied_on {S} rs p u old new tallies added = record {
  calls = on (λ (r : Pause × S). is_called r.0) old.calls new.calls tallies.calls added.calls;
  syncs = on (λ (r : Pause × S). is_synced r.0) old.syncs new.syncs tallies.syncs added.syncs;
  errnos = added.errnos ∙ tallies.errnos;
  answers = λ k small. on (λ (r : Pause × S). is_answered k r.0) (slice_index old.answers k) (slice_index new.answers k) (tallies.answers k small)
      (added.answers k (subst (λ (n : ℕ). k < n) (sym tallies.errnos) small)
      ∙ counted_is (is_answered k p) (count_by (λ (r : Pause × S). is_answered k r.0) rs) (slice_index old.answers k) (tallies.answers k small));
}
  where
    on : (is : Pause × S → Bool) (a b : ℕ) → a ≡ min (count_by is rs) (2 ^ 64 - 1) → b ≡ min (a + (if is (p, u) then 1 else 0)) (2 ^ 64 - 1) → b ≡ min (count_by is (rs ++ (p, u) ∷ [])) (2 ^ 64 - 1)
    on is a b was more =
        more ∙ ap (λ (n : ℕ). min (n + (if is (p, u) then 1 else 0)) (2 ^ 64 - 1)) was ∙ stops (count_by is rs) (if is (p, u) then 1 else 0) (2 ^ 64 - 1)
        ∙ ap (λ (n : ℕ). min n (2 ^ 64 - 1)) (sym (one_more is rs (p, u)))

-- what is no call has no answer
unanswered : (p : Pause) → is_called p ≡ false → (k : ℕ) → is_answered k p ≡ false
unanswered (Called c e) is k = absurd (true≢false is)
unanswered Spent is k = refl
unanswered (Ended o) is k = refl

-- of no resume
none_answered : (n k : ℕ) → slice_index (replicate n 0) k ≡ 0
none_answered zero k = refl
none_answered (suc n) zero = refl
none_answered (suc n) (suc k) = none_answered n k

pub none_tallied : {S : Type 0} (tally : Tally) → tally ≡ no_tally → Tallies {S = S} [] tally
none_tallied {S} tally is = subst (λ (t : Tally). Tallies {S = S} [] t) (sym is) (record {
  calls = refl;
  syncs = refl;
  errnos = refl;
  answers = λ k small. none_answered 77 k;
})

-- a pause that is no call adds nothing
pub adds_nothing : {S : Type 0} (rs : History S) (p : Pause) (tally : Tally) → Tallies rs tally → is_called p ≡ false → is_synced p ≡ false → TalliesPause p tally tally
adds_nothing {S} rs p tally tallies uncalled unsynced = record {
  calls = same (count_by (λ (r : Pause × S). is_called r.0) rs) tally.calls (is_called p) tallies.calls uncalled;
  syncs = same (count_by (λ (r : Pause × S). is_synced r.0) rs) tally.syncs (is_synced p) tallies.syncs unsynced;
  errnos = refl;
  answers = λ k there. ap (λ (b : Bool). counted b (slice_index tally.answers k)) (sym (unanswered p uncalled k));
}
  where
    same : (n a : ℕ) (b : Bool) → a ≡ min n (2 ^ 64 - 1) → b ≡ false → a ≡ min (a + (if b then 1 else 0)) (2 ^ 64 - 1)
    same n a true is isnt = absurd (true≢false isnt)
    same n a false is isnt = omega (arith, is)

module _ {D R W1 W2 : Type 0} (on : Devices D R W1 W2) where
  abbrev S : Type 0
  S = SessionState D R W1 W2

  abbrev Resumed : S → S → ℕ → Pause → Type 0
  Resumed s t units p = Resumes on s t units p

  pub follow_on : (rs : History S) (s t u : S) (units : ℕ) (p : Pause) → Follow on s rs t → Resumed t u units p
      → Follow on s (rs ++ (p, u) ∷ []) u
  follow_on [] s t u units p same more = ((units, subst (λ (x : S). Resumed x u units p) same more), refl)
  follow_on (r ∷ rs) s t u units p (first, rest) more = (first, follow_on rs r.1 t u units p rest more)

  -- a pause that adds what the tally has more
  pub followed_on : (s t u : S) (units : ℕ) (p : Pause) (tally after : Tally) → Followed on s t tally → Resumed t u units p
      → TalliesPause p tally after → Followed on s u after
  followed_on s t u units p tally after (rs, follow, tallies) more added = (rs ++ (p, u) ∷ [], follow_on rs s t u units p follow more, tallied_on rs p u tally after tallies added)

  -- the last pause, which adds nothing
  pub followed_to_end : (s t u : S) (units : ℕ) (p : Pause) (tally : Tally) → Followed on s t tally → Resumed t u units p
      → is_called p ≡ false → is_synced p ≡ false → Followed on s u tally
  followed_to_end s t u units p tally (rs, follow, tallies) more uncalled unsynced =
      (rs ++ (p, u) ∷ [], follow_on rs s t u units p follow more, tallied_on rs p u tally tally tallies (adds_nothing rs p tally tallies uncalled unsynced))

  -- the streams are heard in all of them
  pub heard_follow : (Stands : StandsFor) (rs : History S) (s t : S) → FollowBy Stands on s rs t → HearsStreams on.ear s.host t.host
  heard_follow Stands [] s t same = unheard on.ear s.host t.host (ap (λ (x : S). x.host.input) same) (ap (λ (x : S). x.host.out) same) (ap (λ (x : S). x.host.err) same)
  heard_follow Stands (r ∷ rs) s t ((units, more), rest) = streams_then on.ear s.host r.1.host t.host more.heard (heard_follow Stands rs r.1 t rest)
