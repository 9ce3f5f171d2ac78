-- Bytes that are handed over, the end of them, and a read of more than there are.
use Rattle.std.proofs.Common.{◌≡◌, ℕ, Bool, true, false, true≢false, List, [], ◌∷◌, ◌++◌, length, ◌<◌, Result, Ok, Err, if◌then◌else◌, refl, sym, ap, subst, ◌∙◌}
use Rattle.std.specs.Prelude.{IfErr, IfOk}
use Rattle.plugin_session.specs.States.{InstanceState}
use Rattle.fed_input.specs.declared.fed.NotFed.{NotFed}
use Rattle.fed_input.specs.Feeding.{Fed, IsNotFed, fed, left_of}
use Rattle.plugin_session.specs.Deferring.{Wants}
use Rattle.fed_session.specs.Feeding.{Ends, FedState, Feeds, Starves, with_input}

is_empty : List ℕ → Bool
is_empty [] = true
is_empty (x ∷ xs) = false

-- with one more byte behind it, something is left
something : (bytes : List ℕ) → bytes ++ (0 ∷ []) ≡ [] → ⊥
unfolding is_empty
something [] e = true≢false (sym (ap is_empty e))
something (x ∷ xs) e = true≢false (sym (ap is_empty e))

left_going_on : (f : Fed) → f.ended ≡ false → left_of f ≡ f.bytes ++ (0 ∷ [])
left_going_on f still = ap (λ (b : Bool). f.bytes ++ (if b then [] else (0 ∷ []))) still

-- what stands in for the input has nothing left
pub nothing_left : (f g : Fed) → f ≡ record { bytes = []; ended = false } → g ≡ record { bytes = f.bytes; ended = true } → left_of g ≡ []
nothing_left f g none is = ap left_of is ∙ ap (λ (z : Fed). z.bytes ++ []) none

-- once the guest has seen the end, nothing comes
pub still_at_end : (r : Result (Unit {0}) NotFed) (f g : Fed) (bytes : List ℕ) (seen : Bool) → (seen ≡ true → left_of f ≡ []) → IfOk r (λ u. (f.ended ≡ false) × (g ≡ fed bytes f)) → IfErr r (λ e. (g ≡ f) × IsNotFed f e)
    → seen ≡ true → left_of g ≡ []
still_at_end (Ok u) f g bytes seen before (still, is) other at = absurd (something f.bytes (sym (left_going_on f still) ∙ before at))
still_at_end (Err e) f g bytes seen before ok (same, why) at = ap left_of same ∙ before at

pub ended_left : (f g : Fed) (seen : Bool) → (seen ≡ true → left_of f ≡ []) → g ≡ record { bytes = f.bytes; ended = true } → seen ≡ true → left_of g ≡ []
ended_left f g seen before is at = ap left_of is ∙ by_end f.ended f.bytes (before at) where
  by_end : (b : Bool) (bytes : List ℕ) → bytes ++ (if b then [] else (0 ∷ [])) ≡ [] → bytes ++ [] ≡ []
  by_end true bytes e = e
  by_end false bytes e = absurd (something bytes e)

module _ {D W1 W2 : Type 0} where
  abbrev pub fed_state : Bool → InstanceState D Fed W1 W2 → FedState D W1 W2
  fed_state goes_on s = record { instance = s; goes_on = goes_on }

  -- a call that is refused changes nothing
  pub nothing_done : {A E : Type 0} (goes_on : Bool) (s u : InstanceState D Fed W1 W2) (P Q : E → Type 0) (r : Result A E) → ((e : E) → P e → Q e) → IfErr r (λ e. (u ≡ s) × P e)
      → IfErr r (λ e. (fed_state goes_on u ≡ fed_state goes_on s) × Q e)
  nothing_done goes_on s u P Q (Ok x) f k = tt
  nothing_done goes_on s u P Q (Err e) f k = (ap (fed_state goes_on) k.0, f e k.1)

  pub nothing_let_go : {A E : Type 0} (goes_on : Bool) (s u : InstanceState D Fed W1 W2) (O : Type 0) (Q : E → Type 0) (r : Result A E) → IfErr r (λ e. (u ≡ s) × O × Q e)
      → IfErr r (λ e. (fed_state goes_on u ≡ fed_state goes_on s) × Q e)
  nothing_let_go goes_on s u O Q (Ok x) k = tt
  nothing_let_go goes_on s u O Q (Err e) k = (ap (fed_state goes_on) k.0, k.2)

  -- whether the guest has seen the end doesn't hang on the reader
  pub seen_before : (s t : InstanceState D Fed W1 W2) (f : Fed) (P : Type 0) → t ≡ with_input s f → (s.host.input.ended ≡ true → P) → t.host.input.ended ≡ true → P
  seen_before s t f P is h e = h (sym (ap (λ (z : InstanceState D Fed W1 W2). z.host.input.ended) is) ∙ e)

  -- the input is another one in the end
  pub twice : (s t u : InstanceState D Fed W1 W2) (f g : Fed) → t ≡ with_input s f → u ≡ with_input t g → u ≡ with_input s g
  twice s t u f g first then_ = then_ ∙ ap (λ (z : InstanceState D Fed W1 W2). with_input z g) first

  pub feeds : (r : Result (Unit {0}) NotFed) (s u : InstanceState D Fed W1 W2) (f g : Fed) (bytes : List ℕ) (P : Type 0) → P → f ≡ s.host.input.reader → u ≡ with_input s g → IfOk r (λ x. (f.ended ≡ false) × (g ≡ fed bytes f))
      → IfOk r (λ x. Feeds s u bytes × P)
  feeds (Ok x) s u f g bytes P p same is (still, more) = (record { goes_on = ap (λ (z : Fed). z.ended) (sym same) ∙ still; is = is ∙ ap (λ (z : Fed). with_input s z) (more ∙ ap (fed bytes) same) }, p)
  feeds (Err e) s u f g bytes P p same is k = tt

  pub feeds_nothing : (r : Result (Unit {0}) NotFed) (s u : InstanceState D Fed W1 W2) (f g : Fed) (goes_on : Bool) → f ≡ s.host.input.reader → u ≡ with_input s g → IfErr r (λ e. (g ≡ f) × IsNotFed f e)
      → IfErr r (λ e. (fed_state goes_on u ≡ fed_state goes_on s) × IsNotFed s.host.input.reader e)
  feeds_nothing (Ok x) s u f g goes_on same is k = tt
  feeds_nothing (Err e) s u f g goes_on same is (kept, why) = (ap (fed_state goes_on) (is ∙ ap (λ (z : Fed). with_input s z) (kept ∙ same)), subst (λ (z : Fed). IsNotFed z e) same why)

  pub ends : (s u : InstanceState D Fed W1 W2) (f g : Fed) → f ≡ s.host.input.reader → u ≡ with_input s g → g ≡ record { bytes = f.bytes; ended = true } → Ends s u
  ends s u f g same is all = is ∙ ap (λ (z : Fed). with_input s z) (all ∙ ap (λ (z : Fed). record { bytes = z.bytes; ended = true }) same)

  -- fewer bytes are there than are asked for
  pub starved : (s t : InstanceState D Fed W1 W2) (f : Fed) (count held : ℕ) (ended : Bool) → t ≡ s → f ≡ t.host.input.reader → Wants s count → ended ≡ f.ended → held ≡ length f.bytes → ended ≡ false → held < count → Starves s count
  starved s t f count held ended same is wants at there still few =
      let e : f ≡ s.host.input.reader = is ∙ ap (λ (z : InstanceState D Fed W1 W2). z.host.input.reader) same in
      record {
        wants = wants;
        too_few = subst (λ (n : ℕ). n < count) (there ∙ ap (λ (z : Fed). length z.bytes) e) few;
        goes_on = ap (λ (z : Fed). z.ended) (sym e) ∙ sym at ∙ still;
      }
