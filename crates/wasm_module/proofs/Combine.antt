-- The laws of readers that are put together.
use Rattle.std.proofs.Common.{eq-eqb, ◌≡◌, ℕ, zero, suc, ◌≤◌, Bool, true, false, cond, eqb, leb, List, [], ◌∷◌, ◌++◌, length, take, drop, Option, Some, None, refl, sym, ap, subst, ◌∙◌, append_assoc, arith}
use Rattle.std.proofs.lemmas.Bool.{eqb-true, leb-true, le-leb}
use Rattle.std.proofs.lemmas.List.{append-nil, take_at, drop_at, take-append-drop, length-append, length-take, nil_from_length}
use Rattle.wasm_syntax.specs.declared.number.Sign.TheVariants.{Unsigned}
use Rattle.std.specs.Str.{IsUtf8, is_utf8}
use Rattle.std.proofs.lemmas.Str.{IsUtf8-from_is_utf8, is_utf8-from_IsUtf8}
use Rattle.wasm_syntax.specs.Grammar.{Byte, Then, Each, U32, Vector, Sized, Raw, Utf8Text, SpellsName}
use Rattle.wasm_syntax.specs.Reading.{◌>>=◌, Reader, WholeReader, raw_of, utf8_text_of, name_at, byte_at, then_at, map_at, many_at, u32_at, vector_at, piece_at, whole, sized_at}
use Rattle.wasm_module.proofs.Laws.{bind_some, guard_some, some_is, Front, Reads, ReadsWhole, reads_number}

-- one byte
pub reads_byte : (b : ℕ) → Reads (Unit {0}) (Byte b) (byte_at b)
reads_byte b = record { takes = byte_takes b; again = byte_again b } where
  byte_takes : (b : ℕ) (bytes : List ℕ) (x : Unit {0}) (rest : List ℕ) → byte_at b bytes ≡ Some (x, rest) → Front (Unit {0}) (Byte b) bytes x rest
  byte_takes b [] x rest e = absurd cc
  byte_takes b (c ∷ bs) x rest e =
      let g = guard_some (eqb c b) (tt, bs) (x, rest) e in
      let c-is : c ≡ b = eqb-true _ _ g.0 in
      let rest-is : bs ≡ rest = ap (λ (q : Unit {0} × List ℕ). q.1) g.1 in
      record { text = b ∷ []; spells = refl; parts = rw (c-is, rest-is) refl }

  byte_again : (b : ℕ) (text : List ℕ) (x : Unit {0}) (rest : List ℕ) → Byte b text x → byte_at b (text ++ rest) ≡ Some (x, rest)
  byte_again b text x rest e = rw (e, eq-eqb b b refl) refl

-- what is read of two readers, one after the other, is spelled so
pub then_takes : {X Y : Type 0} {A : List ℕ → X → Type 0} {B : List ℕ → Y → Type 0} {a : Reader X} {b : Reader Y}
    → ((bytes : List ℕ) (x : X) (rest : List ℕ) → a bytes ≡ Some (x, rest) → Front X A bytes x rest)
    → ((bytes : List ℕ) (y : Y) (rest : List ℕ) → b bytes ≡ Some (y, rest) → Front Y B bytes y rest)
    → (bytes : List ℕ) (x : X × Y) (rest : List ℕ) → then_at a b bytes ≡ Some (x, rest) → Front (X × Y) (Then A B) bytes x rest
then_takes {X} {Y} {A} {B} {a} {b} a_takes b_takes bytes x rest e =
    let s = bind_some (a bytes) (λ u. b u.1 >>= λ v. Some ((u.0, v.0), v.1)) (x, rest) e in
    let t = bind_some (b s.0.1) (λ v. Some ((s.0.0, v.0), v.1)) (x, rest) s.2 in
    let p = some_is ((s.0.0, t.0.0), t.0.1) (x, rest) t.2 in
    let fa = a_takes bytes s.0.0 s.0.1 s.1 in
    let fb = b_takes s.0.1 t.0.0 t.0.1 t.1 in
    let made : Front (X × Y) (Then A B) bytes (s.0.0, t.0.0) t.0.1 = record { text = fa.text ++ fb.text; spells = (fa.text, fb.text, fa.spells, fb.spells, refl); parts = fa.parts ∙ ap (λ (r : List ℕ). fa.text ++ r) fb.parts ∙ sym (append_assoc fa.text fb.text t.0.1) } in
    subst (λ (q : (X × Y) × List ℕ). Front (X × Y) (Then A B) bytes q.0 q.1) p made

-- two readers, one after the other
pub reads_then : {X Y : Type 0} {A : List ℕ → X → Type 0} {B : List ℕ → Y → Type 0} {a : Reader X} {b : Reader Y} → Reads X A a → Reads Y B b → Reads (X × Y) (Then A B) (then_at a b)
reads_then ra rb = record {
  takes = then_takes ra.takes rb.takes;
  again = λ text x rest h.
      let regrouped : text ++ rest ≡ h.0 ++ (h.1 ++ rest) = rw h.4 (append_assoc h.0 h.1 rest) in
      rw (regrouped, ra.again h.0 x.0 (h.1 ++ rest) h.2, rb.again h.1 x.1 rest h.3) refl;
}

-- a record in place of a tuple
pub reads_as : {X Y : Type 0} {A : List ℕ → X → Type 0} {a : Reader X} → Reads X A a → (f : X → Y) (g : Y → X) → ((x : X) → g (f x) ≡ x) → ((y : Y) → f (g y) ≡ y) → Reads Y (λ text y. A text (g y)) (map_at f a)
reads_as {X} {Y} {A} {a} ra f g gf fg = record {
  takes = λ bytes y rest e.
      let s = bind_some (a bytes) (λ u. Some (f u.0, u.1)) (y, rest) e in
      let p = some_is (f s.0.0, s.0.1) (y, rest) s.2 in
      let fa = ra.takes bytes s.0.0 s.0.1 s.1 in
      let made : Front Y (λ text y. A text (g y)) bytes (f s.0.0) s.0.1 = record { text = fa.text; spells = subst (A fa.text) (sym (gf s.0.0)) fa.spells; parts = fa.parts } in
      subst (λ (q : Y × List ℕ). Front Y (λ text y. A text (g y)) bytes q.0 q.1) p made;
  again = λ text y rest h. rw (ra.again text (g y) rest h, fg y) refl;
}

-- ---- vectors

-- this many items that are read are spelled one after the other
many_takes : (X : Type 0) (A : List ℕ → X → Type 0) (a : Reader X) → Reads X A a → (n : ℕ) (bytes : List ℕ) (xs : List X) (rest : List ℕ) → many_at a n bytes ≡ Some (xs, rest) → Front (List X) (Each A) bytes xs rest × (length xs ≡ n)
unfolding many_at
many_takes X A a ra zero bytes xs rest e =
    let none : List X = [] in
    let made : Front (List X) (Each A) bytes [] bytes = record { text = []; spells = refl; parts = refl } in
    subst (λ (q : List X × List ℕ). Front (List X) (Each A) bytes q.0 q.1 × (length q.0 ≡ 0)) (some_is (none, bytes) (xs, rest) e) (made, refl)
many_takes X A a ra (suc n) bytes xs rest e =
    let s = bind_some (a bytes) (λ u. many_at a n u.1 >>= λ v. Some (u.0 ∷ v.0, v.1)) (xs, rest) e in
    let t = bind_some (many_at a n s.0.1) (λ v. Some (s.0.0 ∷ v.0, v.1)) (xs, rest) s.2 in
    let p = some_is (s.0.0 ∷ t.0.0, t.0.1) (xs, rest) t.2 in
    let fa = ra.takes bytes s.0.0 s.0.1 s.1 in
    let fb = many_takes X A a ra n s.0.1 t.0.0 t.0.1 t.1 in
    let made : Front (List X) (Each A) bytes (s.0.0 ∷ t.0.0) t.0.1 = record { text = fa.text ++ fb.0.text; spells = (fa.text, fb.0.text, fa.spells, fb.0.spells, refl); parts = fa.parts ∙ ap (λ (r : List ℕ). fa.text ++ r) fb.0.parts ∙ sym (append_assoc fa.text fb.0.text t.0.1) } in
    subst (λ (q : List X × List ℕ). Front (List X) (Each A) bytes q.0 q.1 × (length q.0 ≡ suc n)) p (made, ap suc fb.1)

-- items that are spelled one after the other are read
many_again : (X : Type 0) (A : List ℕ → X → Type 0) (a : Reader X) → Reads X A a → (text : List ℕ) (xs : List X) (rest : List ℕ) → Each A text xs → many_at a (length xs) (text ++ rest) ≡ Some (xs, rest)
unfolding many_at
many_again X A a ra text [] rest h = rw h refl
many_again X A a ra text (x ∷ xs) rest h =
    let regrouped : text ++ rest ≡ h.0 ++ (h.1 ++ rest) = rw h.4 (append_assoc h.0 h.1 rest) in
    rw (regrouped, ra.again h.0 x (h.1 ++ rest) h.2, many_again X A a ra h.1 xs rest h.3) refl

-- unsigned numbers of 32 bits
pub reads_u32 : Reads ℕ U32 u32_at
unfolding u32_at
reads_u32 = reads_number Unsigned 32

-- a vector of what is read
pub reads_vector : {X : Type 0} {A : List ℕ → X → Type 0} {a : Reader X} → Reads X A a → Reads (List X) (Vector A) (vector_at a)
unfolding vector_at
reads_vector {X} {A} {a} ra = record {
  takes = λ bytes xs rest e.
      let s = bind_some (u32_at bytes) (λ n. many_at a n.0 n.1) (xs, rest) e in
      let fa = reads_u32.takes bytes s.0.0 s.0.1 s.1 in
      let fb = many_takes X A a ra s.0.0 s.0.1 xs rest s.2 in
      record { text = fa.text ++ fb.0.text; spells = (fa.text, fb.0.text, subst (U32 fa.text) (sym fb.1) fa.spells, fb.0.spells, refl); parts = fa.parts ∙ ap (λ (r : List ℕ). fa.text ++ r) fb.0.parts ∙ sym (append_assoc fa.text fb.0.text rest) };
  again = λ text xs rest h.
      let regrouped : text ++ rest ≡ h.0 ++ (h.1 ++ rest) = rw h.4 (append_assoc h.0 h.1 rest) in
      rw (regrouped, reads_u32.again h.0 (length xs) (h.1 ++ rest) h.2) (many_again X A a ra h.1 xs rest h.3);
}

-- ---- sizes

-- what fills the bytes
pub reads_whole : {X : Type 0} {A : List ℕ → X → Type 0} {a : Reader X} → Reads X A a → ReadsWhole X A (whole a)
reads_whole {X} {A} {a} ra = record {
  takes = λ bytes x e.
      let s = bind_some (a bytes) (λ u. cond (eqb (length u.1) 0) (Some u.0) None) x e in
      let g = guard_some (eqb (length s.0.1) 0) s.0.0 x s.2 in
      let fa = ra.takes bytes s.0.0 s.0.1 s.1 in
      let nothing : s.0.1 ≡ [] = nil_from_length s.0.1 (eqb-true _ _ g.0) in
      let all : fa.text ≡ bytes = sym (fa.parts ∙ ap (λ (r : List ℕ). fa.text ++ r) nothing ∙ append-nil fa.text) in
      subst (λ (t : List ℕ). A t x) all (subst (A fa.text) g.1 fa.spells);
  again = λ text x h.
      let read : a text ≡ Some (x, []) = ap a (sym (append-nil text)) ∙ ra.again text x [] h in
      rw read refl;
}

-- what is read after its size
pub reads_sized : {X : Type 0} {A : List ℕ → X → Type 0} {w : WholeReader X} → ReadsWhole X A w → Reads X (Sized A) (sized_at w)
unfolding sized_at
reads_sized {X} {A} {w} rw_ = record {
  takes = λ bytes x rest e.
      let s = bind_some (u32_at bytes) (λ n. piece_at n.0 n.1 >>= λ p. w p.0 >>= λ x. Some (x, p.1)) (x, rest) e in
      let n = s.0.0 in
      let after = s.0.1 in
      let t = bind_some (piece_at n after) (λ p. w p.0 >>= λ x. Some (x, p.1)) (x, rest) s.2 in
      let u = bind_some (w t.0.0) (λ x. Some (x, t.0.1)) (x, rest) t.2 in
      let g = guard_some (leb n (length after)) (take n after, drop n after) t.0 t.1 in
      let p = some_is (u.0, t.0.1) (x, rest) u.2 in
      let content : A t.0.0 u.0 = rw_.takes t.0.0 u.0 u.1 in
      let le : n ≤ length after = leb-true _ _ g.0 in
      let len : length t.0.0 ≡ n = ap (λ (q : List ℕ × List ℕ). length q.0) (sym g.1) ∙ omega (arith, length-take n after) in
      let fa = reads_u32.takes bytes n after s.1 in
      let split : after ≡ t.0.0 ++ t.0.1 = sym (take-append-drop n after) ∙ ap (λ (q : List ℕ × List ℕ). q.0 ++ q.1) g.1 in
      let made : Front X (Sized A) bytes u.0 t.0.1 = record { text = fa.text ++ t.0.0; spells = (fa.text, t.0.0, subst (U32 fa.text) (sym len) fa.spells, content, refl); parts = fa.parts ∙ ap (λ (r : List ℕ). fa.text ++ r) split ∙ sym (append_assoc fa.text t.0.0 t.0.1) } in
      subst (λ (q : X × List ℕ). Front X (Sized A) bytes q.0 q.1) p made;
  again = λ text x rest h.
      let regrouped : text ++ rest ≡ h.0 ++ (h.1 ++ rest) = rw h.4 (append_assoc h.0 h.1 rest) in
      let long : leb (length h.1) (length (h.1 ++ rest)) ≡ true = le-leb _ _ (omega (arith, length-append h.1 rest)) in
      let piece : piece_at (length h.1) (h.1 ++ rest) ≡ Some (h.1, rest) = rw (long, take_at h.1 rest (length h.1) refl, drop_at h.1 rest (length h.1) refl) refl in
      rw (regrouped, reads_u32.again h.0 (length h.1) (h.1 ++ rest) h.2, piece, rw_.again h.1 x h.3) refl;
}

-- ---- names

-- text in UTF-8
pub reads_text : ReadsWhole (List ℕ) Utf8Text utf8_text_of
unfolding utf8_text_of
reads_text = record {
  takes = λ bytes x e. let g = guard_some (is_utf8 bytes) bytes x e in (g.1, subst IsUtf8 g.1 (IsUtf8-from_is_utf8 bytes g.0));
  again = λ bytes x h. let valid : is_utf8 bytes ≡ true = is_utf8-from_IsUtf8 bytes (subst IsUtf8 (sym h.0) h.1) in rw (valid, h.0) refl;
}

-- names
pub reads_name : Reads (List ℕ) SpellsName name_at
unfolding name_at
reads_name = reads_sized reads_text

-- any bytes
pub reads_raw : ReadsWhole (List ℕ) Raw raw_of
unfolding raw_of
reads_raw = record { takes = λ bytes x e. some_is bytes x e; again = λ bytes x h. ap (λ (r : List ℕ). Some r) h }

-- ---- what begins with a byte that says how it goes on

-- a byte says how it goes on, or the bytes are read otherwise
pub choice : {X : Type 0} {S : List ℕ → X → Type 0} {b : ℕ} {rest : List ℕ} {x : X} {after : List ℕ} (code : ℕ) (f g : Reader X) → (b ≡ code → f rest ≡ Some (x, after) → Front X S (b ∷ rest) x after) → (g rest ≡ Some (x, after) → Front X S (b ∷ rest) x after) → cond (eqb b code) f g rest ≡ Some (x, after) → Front X S (b ∷ rest) x after
choice {X} {S} {b} {rest} {x} {after} code f g yes_ no_ e = by_test (eqb b code) refl e where
  by_test : (t : Bool) → eqb b code ≡ t → cond t f g rest ≡ Some (x, after) → Front X S (b ∷ rest) x after
  by_test true is e = yes_ (eqb-true _ _ is) e
  by_test false is e = no_ e

-- a value for which no byte is read
abbrev read_as : {X : Type 0} → X → List ℕ → Option (X × List ℕ)
read_as x rest = Some (x, rest)

-- a byte says all
alone : {X : Type 0} {S : List ℕ → X → Type 0} {b : ℕ} {rest : List ℕ} {x : X} {after : List ℕ} (y : X) (code : ℕ) → S (code ∷ []) y → b ≡ code → read_as y rest ≡ read_as x after → Front X S (b ∷ rest) x after
alone {X} {S} {b} {rest} {x} {after} y code spells is e =
    subst (λ (q : X × List ℕ). Front X S (b ∷ rest) q.0 q.1) (some_is (y, rest) (x, after) e) (record { text = code ∷ []; spells = spells; parts = ap (λ (c : ℕ). c ∷ rest) is })

-- what is read follows a byte
pub operand : {X Y : Type 0} {S : List ℕ → X → Type 0} {A : List ℕ → Y → Type 0} {a : Reader Y} {b : ℕ} {rest : List ℕ} {x : X} {after : List ℕ} (f : Y → X) (code : ℕ) → Reads Y A a → ((text : List ℕ) (y : Y) → A text y → S (code ∷ text) (f y)) → b ≡ code → map_at f a rest ≡ Some (x, after) → Front X S (b ∷ rest) x after
operand {X} {Y} {S} {A} {a} {b} {rest} {x} {after} f code ra spells is e =
    let s = bind_some (a rest) (λ u. Some (f u.0, u.1)) (x, after) e in
    let fa = ra.takes rest s.0.0 s.0.1 s.1 in
    let made : Front X S (b ∷ rest) (f s.0.0) s.0.1 = record { text = code ∷ fa.text; spells = spells fa.text s.0.0 fa.spells; parts = ap (λ (c : ℕ). c ∷ rest) is ∙ ap (λ (r : List ℕ). code ∷ r) fa.parts } in
    subst (λ (q : X × List ℕ). Front X S (b ∷ rest) q.0 q.1) (some_is (f s.0.0, s.0.1) (x, after) s.2) made

-- a byte says all, or the bytes are read otherwise
pub alone_then : {X : Type 0} {S : List ℕ → X → Type 0} {b : ℕ} {rest : List ℕ} {x : X} {after : List ℕ} (y : X) (code : ℕ) (g : Reader X) → S (code ∷ []) y → (g rest ≡ Some (x, after) → Front X S (b ∷ rest) x after) → cond (eqb b code) (read_as y) g rest ≡ Some (x, after) → Front X S (b ∷ rest) x after
alone_then y code g spells = choice code (read_as y) g (alone y code spells)

-- what is read follows a byte, or the bytes are read otherwise
pub operand_then : {X Y : Type 0} {S : List ℕ → X → Type 0} {A : List ℕ → Y → Type 0} {a : Reader Y} {b : ℕ} {rest : List ℕ} {x : X} {after : List ℕ} (f : Y → X) (code : ℕ) (g : Reader X) → Reads Y A a → ((text : List ℕ) (y : Y) → A text y → S (code ∷ text) (f y)) → (g rest ≡ Some (x, after) → Front X S (b ∷ rest) x after) → cond (eqb b code) (map_at f a) g rest ≡ Some (x, after) → Front X S (b ∷ rest) x after
operand_then {a = a} f code g ra spells = choice code (map_at f a) g (operand f code ra spells)

-- what follows the byte is read again
pub reread : {X Y : Type 0} {A : List ℕ → Y → Type 0} {a : Reader Y} {text operands : List ℕ} (f : Y → X) (r : Reader X) (code : ℕ) (y : Y) (rest : List ℕ) → Reads Y A a → ((s : List ℕ) → r (code ∷ s) ≡ map_at f a s) → text ≡ code ∷ operands → A operands y → r (text ++ rest) ≡ Some (f y, rest)
reread {text = text} {operands = operands} f r code y rest ra is text-is h =
    let whole_text : text ++ rest ≡ code ∷ (operands ++ rest) = rw text-is refl in
    ap r whole_text ∙ is (operands ++ rest) ∙ rw (ra.again operands y rest h) refl

-- a byte before what is spelled
pub tagged : {Y : Type 0} (A : List ℕ → Y → Type 0) (code : ℕ) (text : List ℕ) (y : Y) → A text y → Then (Byte code) A (code ∷ text) (tt, y)
tagged A code text y h = (code ∷ [], text, refl, h, refl)

-- what is spelled after a byte begins with it
pub untagged : {Y : Type 0} (A : List ℕ → Y → Type 0) (code : ℕ) (text : List ℕ) (y : Y) → (h : Then (Byte code) A text (tt, y)) → text ≡ code ∷ h.1
untagged A code text y h = rw (h.4, h.2) refl
