-- What is read of a key.
use Rattle.std.proofs.Common.{◌≡◌, inl, inr, ℕ, zero, suc, ◌-◌, ◌≤◌, ◌<◌, ◌^◌, List, [], ◌∷◌, ◌++◌, length, drop, take, replicate, get_or, refl, sym, ◌∙◌, ap, subst, arith}
use Rattle.std.proofs.lemmas.List.{drop-replicate}
use Rattle.std.proofs.lemmas.Bool.{cases_eq}
use Rattle.std.specs.List.{Contains}
use Rattle.byteorder.specs.Numbers.{big_number-reads_back}
use Rattle.byteorder.specs.Endian.{big_bytes, big_number}
use borrow.Rule.Slice.PartMut.{put_mid}
use Rattle.vol_inode.specs.declared.entry.Entry.{Entry}
use Rattle.vol_inode.specs.Name.{IsName}
use Rattle.vol_inode.specs.Entry.{HasName, name_of}
use Rattle.vol_dirs.specs.Key.{key_of, IsPlain}
use Rattle.vol_dirs.specs.internal.Key.{before_zero, parent_in, name_in, IsKey}

-- a name copied into a key of a serial and zeros
pub name_written : (a b c d k : ℕ) (name : List ℕ) → k ≡ length name → put_mid 4 k (a ∷ b ∷ c ∷ d ∷ replicate 255 0) name ≡ a ∷ b ∷ c ∷ d ∷ (name ++ replicate (255 - length name) 0)
name_written a b c d k name long =
    let beyond = drop-replicate k 255 0 ∙ ap (λ (q : ℕ). replicate (255 - q) 0) long in
    ap (λ (l : List ℕ). a ∷ b ∷ c ∷ d ∷ (name ++ l)) beyond

zeros_end : (k : ℕ) → before_zero (replicate k 0) ≡ []
zeros_end zero = refl
zeros_end (suc k) = refl

before_zeros : (name : List ℕ) (k : ℕ) → (Contains name 0 → ⊥) → before_zero (name ++ replicate k 0) ≡ name
before_zeros [] k none = zeros_end k
before_zeros (zero ∷ name) k none = absurd (none (0, omega arith, refl))
before_zeros (suc b ∷ name) k none = ap (λ (l : List ℕ). suc b ∷ l) (before_zeros name k (λ has. none (suc has.0, omega (arith, has.1), has.2)))

beyond : (b : ℕ) (rest : List ℕ) → (Contains rest 0 → ⊥) → (k : ℕ) → k < length (suc b ∷ rest) → get_or (suc b ∷ rest) k 0 ≡ 0 → ⊥
beyond b rest none zero lt is = omega arith
beyond b rest none (suc k) lt is = none (k, omega arith, is)

no_zero_before : (bytes : List ℕ) → Contains (before_zero bytes) 0 → ⊥
no_zero_before [] has = omega (arith, has.1)
no_zero_before (zero ∷ bytes) has = omega (arith, has.1)
no_zero_before (suc b ∷ bytes) has = beyond b (before_zero bytes) (no_zero_before bytes) has.0 has.1 has.2

module _ (p : ℕ) (n : List ℕ) (narrow : p < 2 ^ 32) (plain : IsPlain n) where
  pub parent_of_key : parent_in (key_of p n) ≡ p
  parent_of_key = big_number-reads_back 4 p (n ++ replicate (255 - length n) 0) narrow

  pub name_of_key : name_in (key_of p n) ≡ n
  name_of_key = before_zeros n (255 - length n) plain.no_zero

  pub key_is : IsKey (key_of p n)
  key_is = record {
    narrow = subst (λ (q : ℕ). q < 2 ^ 32) (sym parent_of_key) narrow;
    short = subst (λ (m : List ℕ). length m ≤ 255) (sym name_of_key) plain.short;
    spelled = λ i. key_of (parent_of_key i) (name_of_key i);
  }

-- the directory's bytes come first
pub child_of_key : (p : ℕ) (n : List ℕ) → take 4 (key_of p n) ≡ big_bytes 4 p
child_of_key p n = refl

-- and they tell the directory
pub parent_by_child : (p : ℕ) (key : List ℕ) → p < 2 ^ 32 → take 4 key ≡ big_bytes 4 p → IsKey key → parent_in key ≡ p
parent_by_child p key narrow is formed =
    let own : take 4 key ≡ big_bytes 4 (parent_in key) = ap (λ (l : List ℕ). take 4 l) (sym formed.spelled) ∙ child_of_key (parent_in key) (name_in key) in
    let same : big_bytes 4 (parent_in key) ≡ big_bytes 4 p = sym own ∙ is in
    sym (big_number-reads_back 4 (parent_in key) [] formed.narrow) ∙ ap (λ (l : List ℕ). big_number 4 (l ++ [])) same ∙ big_number-reads_back 4 p [] narrow

pub plain_in_key : (key : List ℕ) → IsKey key → IsPlain (name_in key)
plain_in_key key is = record { short = is.short; no_zero = no_zero_before (drop 4 key) }

-- two names with the same key
pub same_key : (p q : ℕ) (n m : List ℕ) → p < 2 ^ 32 → q < 2 ^ 32 → IsPlain n → IsPlain m → key_of p n ≡ key_of q m → (p ≡ q) × (n ≡ m)
same_key p q n m p_narrow q_narrow n_plain m_plain same = (
  sym (parent_of_key p n p_narrow n_plain) ∙ ap parent_in same ∙ parent_of_key q m q_narrow m_plain,
  sym (name_of_key p n p_narrow n_plain) ∙ ap name_in same ∙ name_of_key q m q_narrow m_plain,
)

pub plain_name : (name : List ℕ) → IsName name → IsPlain name
plain_name name is = record { short = is.short; no_zero = is.no_nul }

-- an entry's name is plain, the root's too
pub plain_name_of : (e : Entry) → HasName e → IsPlain (name_of e)
plain_name_of e named = elim (cases_eq e.parent 0) [
  | inl root ↦
      let none : name_of e ≡ [] = ap (λ (k : ℕ). take k e.name) (named.root_name root) in
      record {
        short = subst (λ (l : List ℕ). length l ≤ 255) (sym none) (omega arith);
        no_zero = λ has. let h = subst (λ (l : List ℕ). Contains l 0) none has in omega (arith, h.1);
      }
  | inr other ↦ plain_name (name_of e) (named.name other)
]
