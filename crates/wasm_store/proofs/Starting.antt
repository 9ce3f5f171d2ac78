-- An exported function, by its name.
use Rattle.std.proofs.Common.{◌≡◌, ℕ, suc, ◌+◌, ◌<◌, ◌≤◌, List, [], ◌∷◌, length, Some, refl, sym, ap, ◌∙◌, subst, arith, inl, inr, Bool, true, false, not, nat_eq, ◌==◌, get_or}
use Rattle.std.specs.Prelude.{slice_get, ◌⊎◌}
use Rattle.std.proofs.Math.Nat.{eq-or-lt_of_le}
use Rattle.std.specs.Cmp.Lexicographic.{pointwise, same_text}
use Rattle.std.proofs.lemmas.Bool.{eqb-true}
use Rattle.std.proofs.lemmas.Option.{slice_get_within, slice_get_read, get_or_from_slice_get, slice_get-get_or}
use Rattle.wasm_syntax.specs.declared.module.FuncType.{FuncType}
use Rattle.wasm_syntax.specs.declared.module.Export.{Export}
use Rattle.wasm_syntax.specs.declared.module.ExportKind.TheVariants as exports
use Rattle.wasm_syntax.specs.declared.module.Module.{Module}
use Rattle.wasm_store.specs.Instantiation.{IsExportedAs}
use Rattle.wasm_store.specs.internal.Finding.{HasType, ExportsAs, export_of}

-- no export before this one has this name
pub record NoneBefore (name : List ℕ) (m : Module) (k : ℕ) : Type 0 where
  pub none : (j x : ℕ) (e : Export) → j < k → slice_get m.exports j ≡ Some e → ExportsAs name m e x → ⊥

-- before the first export
pub none_first : (name : List ℕ) (m : Module) → NoneBefore name m 0
none_first name m = record { none = λ j x e l s h. omega arith }

-- an export more that is another one
pub none_next : (name : List ℕ) (m : Module) (k : ℕ) (e : Export) → slice_get m.exports k ≡ Some e → ((x : ℕ) → ExportsAs name m e x → ⊥) → NoneBefore name m k → NoneBefore name m (k + 1)
none_next name m k e s other n = record { none = λ j x f l t h. by_order j x f t h (eq-or-lt_of_le {n = j} {m = k} (omega arith)) } where
  by_order : (j x : ℕ) (f : Export) → slice_get m.exports j ≡ Some f → ExportsAs name m f x → ((j ≡ k) ⊎ (j < k)) → ⊥
  by_order j x f t h (inr l) = n.none j x f l t h
  by_order j x f t h (inl q) =
      let same : f ≡ e = cc (s, t, ap (slice_get m.exports) q) in
      other x (subst (λ y. ExportsAs name m y x) same h)

-- at the end there is none
pub no_export : (name : List ℕ) (m : Module) (k : ℕ) → length m.exports ≤ k → NoneBefore name m k → (x : ℕ) → IsExportedAs name m x → ⊥
no_export name m k l n x s =
    let at = slice_get-get_or m.exports s.exported.0 (export_of name x) s.exported.1 in
    n.none s.exported.0 x (export_of name x) (omega (arith, l, s.exported.1)) (at ∙ ap Some s.exported.2)
    (record { is = refl; has_type = record { type_index = s.type_index; function = s.function; type_is = s.type_is } })

-- an export that has this name
pub export_at : (name : List ℕ) (m : Module) (k : ℕ) (e : Export) (x : ℕ) → slice_get m.exports k ≡ Some e → ExportsAs name m e x → IsExportedAs name m x
export_at name m k e x s h = record {
  exported = (k, slice_get_within m.exports k e s, get_or_from_slice_get m.exports k e (export_of name x) s ∙ h.is);
  type_index = h.has_type.type_index;
  function = h.has_type.function;
  type_is = h.has_type.type_is;
}

-- an element that the code reads
pub item_at : {X : Type 0} (xs ys : List X) (k : ℕ) (x : X) → xs ≡ ys → k < length xs → x ≡ get_or xs k x → slice_get ys k ≡ Some x
item_at xs ys k x e l r = ap (λ y. slice_get y k) (sym e) ∙ slice_get_read xs (length xs) k x refl l r

-- a test that was negated
not_false : (b : Bool) → false ≡ not b → true ≡ b
not_false true e = refl
not_false false e = cc

-- a list of no elements is empty
pub no_elements : {X : Type 0} (xs : List X) → true ≡ (length xs == 0) → xs ≡ []
no_elements [] e = refl
no_elements (x ∷ xs) e = let l : suc (length xs) ≡ 0 = eqb-true (suc (length xs)) 0 (sym e) in absurd (omega arith)

-- what the code tests of an export
pub is_export : (name : List ℕ) (m : Module) (e : Export) (x : ℕ) (text : List ℕ) (f : FuncType) → text ≡ e.name → false ≡ not (pointwise nat_eq text name) → e.kind ≡ exports.Function x → HasType m x f → true ≡ (length f.params == 0) → true ≡ (length f.results == 0) → ExportsAs name m e x
is_export name m e x text f t n k h p r =
    let named : e.name ≡ name = sym t ∙ same_text text name (not_false (pointwise nat_eq text name) n) in
    let params = no_elements f.params p in
    let results = no_elements f.results r in
    let type : f ≡ record { params = []; results = [] } = ap (λ y. record { params = y; results = f.results }) params ∙ ap (λ y. record { params = []; results = y }) results in
    let is : e ≡ export_of name x = ap (λ y. record { name = y; kind = e.kind }) named ∙ ap (λ y. record { name = name; kind = y }) k in
    record { is = is; has_type = subst (HasType m x) type h }
