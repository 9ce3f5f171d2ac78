-- An exported function, by its name.
use Rattle.std.proofs.Common.{◌≡◌, ℕ, ◌+◌, ◌<◌, ◌≤◌, List, length, Some, refl, sym, ap, ◌∙◌, arith, inl, inr, get_or}
use Rattle.std.specs.Prelude.{slice_get, ◌⊎◌, Contains}
use Rattle.std.proofs.Math.Nat.{eq-or-lt_of_le}
use Rattle.std.proofs.lemmas.Option.{slice_get_read, slice_get-get_or}
use Rattle.wasm_syntax.specs.declared.module.Export.{Export}
use Rattle.wasm_syntax.specs.declared.module.ExportKind.TheVariants as exports

abbrev export_of : List ℕ → ℕ → Export
export_of name x = record { name = name; kind = exports.Function x }

-- no export before this one is a function by this name
pub record NoneBefore (name : List ℕ) (es : List Export) (k : ℕ) : Type 0 where
  pub none : (j x : ℕ) → j < k → slice_get es j ≡ Some (export_of name x) → ⊥

-- before the first export
pub none_first : (name : List ℕ) (es : List Export) → NoneBefore name es 0
none_first name es = record { none = λ j x l s. omega arith }

-- an export more that is another one
pub none_next : (name : List ℕ) (es : List Export) (k : ℕ) (e : Export) → slice_get es k ≡ Some e → ((x : ℕ) → e ≡ record { name = name; kind = exports.Function x } → ⊥) → NoneBefore name es k → NoneBefore name es (k + 1)
none_next name es k e s other n = record { none = λ j x l t. by_order j x t (eq-or-lt_of_le {n = j} {m = k} (omega arith)) } where
  by_order : (j x : ℕ) → slice_get es j ≡ Some (export_of name x) → ((j ≡ k) ⊎ (j < k)) → ⊥
  by_order j x t (inr l) = n.none j x l t
  by_order j x t (inl q) =
      let same : e ≡ export_of name x = cc (s, t, ap (slice_get es) q) in
      other x same

-- at the end there is none
pub no_export : (name : List ℕ) (es : List Export) (k : ℕ) → length es ≤ k → NoneBefore name es k → (x : ℕ) → Contains es (record { name = name; kind = exports.Function x }) → ⊥
no_export name es k l n x s = n.none s.0 x (omega (arith, l, s.1)) (slice_get-get_or es s.0 (export_of name x) s.1 ∙ ap Some s.2)

-- an element that the code reads
pub item_at : (xs ys : List Export) (k : ℕ) (x : Export) → xs ≡ ys → k < length xs → x ≡ get_or xs k x → slice_get ys k ≡ Some x
item_at xs ys k x e l r = ap (λ (y : List Export). slice_get y k) (sym e) ∙ slice_get_read xs (length xs) k x refl l r
