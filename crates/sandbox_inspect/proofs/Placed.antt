-- The table of where the instructions of a body begin, as a loop makes it, and what it has at an index.
use Rattle.std.proofs.Common.{◌≡◌, ℕ, zero, suc, ◌+◌, ◌-◌, ◌<◌, ◌≤◌, List, [], ◌∷◌, ◌++◌, length, take, drop, Option, Some, None, sym, ap, subst, ◌∙◌, arith, append_assoc, length-append}
use Rattle.std.specs.Prelude.{IfSome, get_or, slice_get, slice_set}
use Rattle.std.proofs.lemmas.List.{drop_at, length-take-le}
use Rattle.std.proofs.lemmas.Option.{slice_get-get_or}
use Rattle.wasm_syntax.specs.declared.profile.Profile.{Profile}
use Rattle.wasm_syntax.specs.declared.module.Body.{Body}
use Rattle.wasm_valid.specs.Offsets.{StandsBehind}
use Rattle.wasm_module.proofs.Laws.{some_is}
use Rattle.sandbox_inspect.specs.Places.{own_entry, IsInstructionAt}
use Rattle.sandbox_inspect.specs.internal.Skipping.{after_instruction, after_instructions, after_locals}
use Rattle.sandbox_inspect.specs.internal.Bodies.{places_from, ArePlaces}
use Rattle.sandbox_inspect.proofs.Skipped.{locals_skipped, instructions_skipped}
use Rattle.sandbox_inspect.proofs.Entries.{own_ends}

-- of `count` turns the one after the first i
pub places_on : (most count i : ℕ) (text : List ℕ) → i < count → places_from most (count - i) text ≡ (most - length text) ∷ places_from most (count - (i + 1)) (after_instruction text)
places_on most count i text h =
    let one_less : count - i ≡ suc (count - (i + 1)) = omega (arith, h) in
    ap (λ n. places_from most n text) one_less

places_at : (most n index place : ℕ) (text : List ℕ) → slice_get (places_from most n text) index ≡ Some place → place ≡ most - length (after_instructions index text)
places_at most zero index place text has = cc
places_at most (suc n) zero place text has = sym (some_is _ _ has)
places_at most (suc n) (suc index) place text has = places_at most n index place (after_instruction text) has

-- behind the locals of a body and its first instructions comes the rest of it
rest_of_body : (p : Profile) (b : Body) (index : ℕ) (before rest : List ℕ) → index ≤ length b.code → (k : StandsBehind p b index before) → after_instructions index (after_locals (b.bytes ++ rest)) ≡ k.after ++ rest
rest_of_body p b index before rest within k =
    let parts : b.bytes ++ rest ≡ k.locals ++ (k.instructions ++ (k.after ++ rest)) =
    ap (λ z. z ++ rest) (k.bytes ∙ ap (λ z. z ++ k.after) k.before_is) ∙ append_assoc (k.locals ++ k.instructions) k.after rest ∙ append_assoc k.locals k.instructions (k.after ++ rest) in
    ap (λ z. after_instructions index (after_locals z)) parts
    ∙ ap (after_instructions index) (locals_skipped p b.locals k.locals (k.instructions ++ (k.after ++ rest)) k.spells_locals)
    ∙ ap (λ n. after_instructions n (k.instructions ++ (k.after ++ rest))) (sym (length-take-le index b.code within))
    ∙ instructions_skipped p (take index b.code) k.instructions (k.after ++ rest) k.spells_instructions

-- the table that is made from where a function's entry begins
pub are_places : (bytes : List ℕ) (own start count : ℕ) → ((content behind : List ℕ) → own_entry bytes own ≡ Some (content, behind) → Some start ≡ Some (length bytes - length behind - length content))
    → ArePlaces bytes own (places_from (length bytes) count (after_locals (drop start bytes)))
are_places bytes own start count begins p index place b behind before has entry within k =
    let ends = own_ends bytes own b.bytes behind entry in
    let sum : length bytes ≡ length ends.0 + (length b.bytes + length behind) = ap length ends.1 ∙ length-append ends.0 (b.bytes ++ behind) ∙ ap (λ n. length ends.0 + n) (length-append b.bytes behind) in
    let front : length ends.0 ≡ start = omega (arith, sum, some_is _ _ (begins b.bytes behind entry)) in
    let text : drop start bytes ≡ b.bytes ++ behind = ap (drop start) ends.1 ∙ drop_at ends.0 (b.bytes ++ behind) start front in
    let left : after_instructions index (after_locals (drop start bytes)) ≡ k.after ++ behind = ap (λ z. after_instructions index (after_locals z)) text ∙ rest_of_body p b index before behind within k in
    omega (arith, sum, places_at (length bytes) count index place (after_locals (drop start bytes)) has, ap length left, length-append k.after behind, ap length k.bytes, length-append before k.after)

-- what a table has of an instruction of a body
pub instruction_placed : (bytes : List ℕ) (own : ℕ) (places : List ℕ) (index place : ℕ) (b : Body) (behind : List ℕ) → ArePlaces bytes own places → slice_get places index ≡ Some place
    → index ≤ length b.code → own_entry bytes own ≡ Some (b.bytes, behind) → IsInstructionAt bytes own b index place
instruction_placed bytes own places index place b behind are has within entry =
    let ends = own_ends bytes own b.bytes behind entry in
    let sum : length bytes ≡ length ends.0 + (length b.bytes + length behind) = ap length ends.1 ∙ length-append ends.0 (b.bytes ++ behind) ∙ ap (λ n. length ends.0 + n) (length-append b.bytes behind) in
    record {
      front = ends.0;
      behind = behind;
      entry = entry;
      parts = ends.1;
      offset_is = λ p before k. omega (arith, sum, are p index place b behind before has entry within k);
    }

-- what `get` finds
pub looked_up : {X : Type 0} (xs ys : List X) (i : ℕ) (x : X) → ys ≡ xs → i < length ys → x ≡ get_or ys i x → slice_get xs i ≡ Some x
looked_up xs ys i x e within is = ap (λ zs. slice_get zs i) (sym e) ∙ slice_get-get_or ys i x within ∙ ap Some (sym is)

pub some_holds : {X : Type 0} (P : X → Type 0) (o : Option X) (x : X) → IfSome o P → o ≡ Some x → P x
some_holds P None x h e = cc
some_holds P (Some y) x h e = subst P (some_is y x e) h

-- a table that has nothing says nothing
pub none_yet : (bytes : List ℕ) (own : ℕ) (places : List ℕ) → places ≡ [] → ArePlaces bytes own places
none_yet bytes own [] e p index place b behind before has entry within k = cc
none_yet bytes own (x ∷ places) e p index place b behind before has entry within k = cc

-- ---- lists of tables

-- all of a list are so, and one that is put in is too
pub each_set : {X : Type 0} (P : ℕ → X → Type 0) (xs : List X) (i : ℕ) (x : X) → ((k : ℕ) → IfSome (slice_get xs k) (P k)) → P i x → (k : ℕ) → IfSome (slice_get (slice_set xs i x) k) (P k)
each_set P [] i x all is k = all k
each_set P (y ∷ ys) zero x all is zero = is
each_set P (y ∷ ys) zero x all is (suc k) = all (suc k)
each_set P (y ∷ ys) (suc i) x all is zero = all zero
each_set P (y ∷ ys) (suc i) x all is (suc k) = each_set (λ n. P (suc n)) ys i x (λ n. all (suc n)) is k

pub each_pushed : {X : Type 0} (P : X → Type 0) (xs : List X) (x : X) → ((k : ℕ) → IfSome (slice_get xs k) P) → P x → (k : ℕ) → IfSome (slice_get (xs ++ x ∷ []) k) P
each_pushed P [] x all is zero = is
each_pushed P [] x all is (suc k) = tt
each_pushed P (y ∷ ys) x all is zero = all zero
each_pushed P (y ∷ ys) x all is (suc k) = each_pushed P ys x (λ n. all (suc n)) is k
