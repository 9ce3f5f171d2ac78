-- The rules of branches and returns once more, as functions: where a branch or a return comes next, and what it keeps.
use Rattle.std.proofs.Common.{◌≡◌, ◌≢◌, ℕ, suc, cond, List, [], ◌∷◌, ◌++◌, length, take, Option, Some, None, slice_get, refl, sym, ◌∙◌, ap, arith}
use Rattle.std.specs.Prelude.{nat_eq}
use Rattle.std.proofs.Math.Seq.{take-append_seam}
use Rattle.std.proofs.lemmas.Bool.{eq-eqb, ne_eqb}
use Rattle.std.proofs.lemmas.Option.{slice_get_past}
use Rattle.wasm_syntax.specs.declared.instruction.Instruction.{Instruction}
use Rattle.wasm_syntax.specs.declared.instruction.Instruction.TheVariants as op
use Rattle.wasm_syntax.specs.Nested.{Instructions, plain}
use Rattle.wasm_steps.specs.Configuration.{Val, number_of, Code, code, label, frame, stopped}
use Rattle.wasm_steps.specs.Steps.{AsksFor, always, if_set, listed, past, Jumps, Returns, here, out}

-- the number of the top value, and the values below it
abbrev pub top : List Val → ℕ
top [] = 0
top (v ∷ vs) = number_of v

abbrev pub below : List Val → List Val
below [] = []
below (v ∷ vs) = vs

-- the first values, where there are that many
pub kept_of : (n : ℕ) (kept rest all : List Val) → all ≡ kept ++ rest → length kept ≡ n → take n all ≡ kept
kept_of n kept rest all is count =
    ap (λ (k : ℕ). take k all) (sym count) ∙ (ap (λ (vs : List Val). take (length kept) vs) is ∙ take-append_seam kept rest)

-- ---- the label that an instruction asks for, and the values that it leaves

abbrev pub or_else : Option ℕ → ℕ → ℕ
or_else (Some k) l = k
or_else None l = l

abbrev pub asked : Instruction → List Val → Option (ℕ × List Val)
asked (op.Br l) vs = Some (l, vs)
asked (op.BrIf l) vs = cond (nat_eq (top vs) 0) None (Some (l, below vs))
asked (op.BrTable b) vs = Some (or_else (slice_get b.0 (top vs)) b.1, below vs)
asked other vs = None

asks : {i : Instruction} {l : ℕ} {vs ws : List Val} → AsksFor i vs l ws → asked i vs ≡ Some (l, ws)
asks (always {l = l} {vs = vs}) = refl
asks (if_set {l = l} {c = c} {vs = vs} set) = ap (λ b. cond b None (Some (l, vs))) (ne_eqb c 0 set)
asks (listed {l = l} {vs = vs} there) = ap (λ o. Some (or_else o l, vs)) there
asks (past {ls = ls} {l = l} {c = c} {vs = vs} over) = ap (λ o. Some (or_else o l, vs)) (slice_get_past ls c over)

-- ---- a branch so many labels out

abbrev pub kept_to : ℕ → ℕ → Option (ℕ × List Val) → Option (List Val)
kept_to l n None = None
kept_to l n (Some a) = cond (nat_eq a.0 l) (Some (take n a.1)) None

abbrev pub asked_first : List Val → Instructions → Option (ℕ × List Val)
asked_first vs (plain i rest) = asked i vs
asked_first vs other = None

abbrev pub jump_of : ℕ → Code → ℕ → Option (List Val)
jump_of l (code vs is) n = kept_to l n (asked_first vs is)
jump_of l (label vs m k inner rest) n = jump_of (suc l) inner n
jump_of l (frame vs m f inner rest) n = None
jump_of l (stopped w) n = None

pub jumps : {l n : ℕ} {c : Code} {kept : List Val} → Jumps l c n kept → jump_of l c n ≡ Some kept
jumps (here {i = i} {l = l} {n = n} {vs = vs} {ws = ws} {kept = kept} rest asks_for is count) =
    ap (kept_to l n) (asks asks_for) ∙ (ap (λ b. cond b (Some (take n ws)) None) (eq-eqb l l refl) ∙ ap (λ (vs : List Val). Some vs) (kept_of n kept rest ws is count))
jumps (out j) = jumps j

-- and no other
pub jumps_so_far : {l n : ℕ} {c : Code} {kept : List Val} → Jumps l c n kept → (k m : ℕ) → l ≢ k → jump_of k c m ≡ None
jumps_so_far (here {i = i} {l = l} {vs = vs} {ws = ws} rest asks_for is count) k m apart =
    ap (kept_to k m) (asks asks_for) ∙ ap (λ b. cond b (Some (take m ws)) None) (ne_eqb l k apart)
jumps_so_far (out {l = l} j) k m apart = jumps_so_far j (suc k) m (λ same. apart (suc_same l k same))
  where
    suc_same : (a b : ℕ) → suc a ≡ suc b → a ≡ b
    suc_same a b is = omega (arith, is)

-- ---- a return

abbrev pub return_first : List Val → Instructions → ℕ → Option (List Val)
return_first vs (plain op.Return rest) n = Some (take n vs)
return_first vs other n = None

abbrev pub return_of : Code → ℕ → Option (List Val)
return_of (code vs is) n = return_first vs is n
return_of (label vs m k inner rest) n = return_of inner n
return_of (frame vs m f inner rest) n = None
return_of (stopped w) n = None

pub returns_so : {n : ℕ} {c : Code} {kept : List Val} → Returns c n kept → return_of c n ≡ Some kept
returns_so (here {n = n} {vs = vs} {kept = kept} rest is count) = ap (λ (vs : List Val). Some vs) (kept_of n kept rest vs is count)
returns_so (out r) = returns_so r

-- what branches doesn't return
pub jumps_not_returns : {l n : ℕ} {c : Code} {kept : List Val} → Jumps l c n kept → (m : ℕ) → return_of c m ≡ None
jumps_not_returns (here rest always is count) m = refl
jumps_not_returns (here rest (if_set set) is count) m = refl
jumps_not_returns (here rest (listed there) is count) m = refl
jumps_not_returns (here rest (past over) is count) m = refl
jumps_not_returns (out j) m = jumps_not_returns j m
