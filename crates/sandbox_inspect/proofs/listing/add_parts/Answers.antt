use Rattle.std.proofs.Common.{◌≡◌, ◌∙◌, ◌++◌, List, ℕ, Option, Result, Ok, Err, OnOk, ap, append_assoc}
use Rattle.std.specs.List.{list_any}
use Rattle.wasm_syntax.specs.declared.module.Limits.{Limits}
use Rattle.wasm_valid.specs.Spaces.{functions_of}
use Rattle.sandbox_inspect.specs.Survey.{counts_text, entry_text, is_entry, sizes_text}
use Rattle.sandbox_inspect.proofs.listing.add_parts.Goals as goal

on_ok : {T E P Q : Type 0} (r : Result T E) → (P → Q) → OnOk r P → OnOk r Q
on_ok (Ok x) follows p = follows p
on_ok (Err e) follows p = tt

-- two texts, each known by an equation
two : (a b d s s' k k' : List ℕ) → b ≡ a ++ s → d ≡ b ++ k → s ≡ s' → k ≡ k' → d ≡ a ++ (s' ++ k')
two a b d s s' k k' first second p q =
    second ∙ ap (λ (t : List ℕ). t ++ k) first ∙ append_assoc a s k ∙ ap (λ (t : List ℕ). a ++ (t ++ k)) p ∙ ap (λ (t : List ℕ). a ++ (s' ++ t)) q

same_sizes : (a a' b b' : List Limits) → a ≡ a' → b ≡ b' → sizes_text a b ≡ sizes_text a' b'
same_sizes a a' b b' p q = ap (λ (x : List Limits). sizes_text x b) p ∙ ap (λ (x : List Limits). sizes_text a' x) q

same_counts : (m m' n n' : ℕ) (s : Option ℕ) (e e' : List ℕ) → m ≡ m' → n ≡ n' → e ≡ e' → counts_text m n s e ≡ counts_text m' n' s e'
same_counts m m' n n' s e e' p q r =
    ap (λ (x : ℕ). counts_text x n s e) p ∙ ap (λ (x : ℕ). counts_text m' x s e) q ∙ ap (λ (x : List ℕ). counts_text m' n' s x) r

pub returns : goal.returns
returns c =
    let m = c.args.«module».now in
    let entry = c.has_entry-entry.ensures
    ∙ ap (λ (types : _). list_any (is_entry types c.as_slice-2.result.now) c.as_slice-3.result.now) c.as_slice.ensures
    ∙ ap (λ (functions : List ℕ). list_any (is_entry m.types functions) c.as_slice-3.result.now) (c.as_slice-2.ensures.value ∙ c.in_ok-functions.ensures)
    ∙ ap (λ (exports : _). list_any (is_entry m.types (functions_of m)) exports) c.as_slice-3.ensures in
    on_ok c.add_counts.result (λ added. two c.args.text.now.items _ _ _ _ _ _ c.in_ok-add_sizes.ensures added
    (same_sizes _ _ _ _ c.as_slice-4.ensures c.as_slice-5.ensures)
    (same_counts _ _ _ _ m.start _ _ c.len.ensures c.len-2.ensures (c.entry_text.ensures ∙ ap entry_text entry))) c.add_counts.ensures
