-- The bodies of a module, one after the other.
use Rattle.std.proofs.Common.{◌≡◌, ℕ, suc, ◌+◌, ◌<◌, ◌≤◌, List, [], ◌∷◌, length, drop, get_or, sym, ◌∙◌, ap, refl, subst, ◌↔◌}
use Rattle.std.proofs.lemmas.List.{drop_more, drop_all}
use Rattle.wasm_syntax.specs.declared.module.FuncType.{FuncType}
use Rattle.wasm_syntax.specs.declared.module.Body.{Body}
use Rattle.wasm_syntax.specs.declared.module.Module.{Module}
use Rattle.wasm_valid.specs.declared.module_context.ModuleContext.{ModuleContext}
use Rattle.wasm_valid.specs.Typing.{Context}
use Rattle.wasm_valid.specs.Validity.{FunctionsTyped}
use Rattle.wasm_valid.specs.internal.Bodies.{BodyTyped}
use Rattle.wasm_valid.specs.internal.Contexts.{IsModuleContext}

-- the bodies from i on say what all of them say
abbrev pub Remaining : ModuleContext → List FuncType → List ℕ → List Body → ℕ → Type 0
Remaining module_context types xs bs i =
    (c : Context) → IsModuleContext module_context c → (FunctionsTyped c types (drop i xs) (drop i bs) ↔ FunctionsTyped c types xs bs)

pub same_length : (c : Context) (types : List FuncType) (xs : List ℕ) (bs : List Body) → FunctionsTyped c types xs bs → length xs ≡ length bs
same_length c types [] [] h = refl
same_length c types [] (b ∷ bs) h = absurd h
same_length c types (x ∷ xs) [] h = absurd h
same_length c types (x ∷ xs) (b ∷ bs) h = ap suc (same_length c types xs bs h.1)

-- those from i on are the one at i and those after it
split : (types : List FuncType) (xs : List ℕ) (bs : List Body) (i x : ℕ) (b : Body) → i < length xs → i < length bs → x ≡ get_or xs i x → b ≡ get_or bs i b
    → (c : Context) → FunctionsTyped c types (drop i xs) (drop i bs) ↔ (BodyTyped c types x b × FunctionsTyped c types (drop (i + 1) xs) (drop (i + 1) bs))
split types xs bs i x b in_xs in_bs is_x is_b c =
    let first : drop i xs ≡ x ∷ drop (i + 1) xs = drop_more xs i x in_xs ∙ ap (λ y. y ∷ drop (i + 1) xs) (sym is_x) in
    let second : drop i bs ≡ b ∷ drop (i + 1) bs = drop_more bs i b in_bs ∙ ap (λ y. y ∷ drop (i + 1) bs) (sym is_b) in (
      (λ h.
          let g = subst (λ ys. FunctionsTyped c types ys (drop i bs)) first h in
          let k = subst (λ ds. FunctionsTyped c types (x ∷ drop (i + 1) xs) ds) second g in
          (k.0, k.1)),
      (λ h.
          let k : FunctionsTyped c types (x ∷ drop (i + 1) xs) (b ∷ drop (i + 1) bs) = (h.0, h.1) in
          let g = subst (λ ds. FunctionsTyped c types (x ∷ drop (i + 1) xs) ds) (sym second) k in
          subst (λ ys. FunctionsTyped c types ys (drop i bs)) (sym first) g),
    )

pub Remaining-more : (module_context : ModuleContext) (types : List FuncType) (xs : List ℕ) (bs : List Body) (i x : ℕ) (b : Body) → i < length xs → i < length bs → x ≡ get_or xs i x → b ≡ get_or bs i b
    → Remaining module_context types xs bs i → ((c : Context) → IsModuleContext module_context c → BodyTyped c types x b) → Remaining module_context types xs bs (i + 1)
Remaining-more module_context types xs bs i x b in_xs in_bs is_x is_b before typed = λ c at.
    let s = split types xs bs i x b in_xs in_bs is_x is_b c in
    ((λ h. (before c at).0 (s.1 (typed c at, h))), (λ h. (s.0 ((before c at).1 h)).1))

-- a body that isn't typed
pub Remaining-stops : (module_context : ModuleContext) (types : List FuncType) (xs : List ℕ) (bs : List Body) (i x : ℕ) (b : Body) → i < length xs → i < length bs → x ≡ get_or xs i x → b ≡ get_or bs i b
    → Remaining module_context types xs bs i → ((c : Context) → IsModuleContext module_context c → BodyTyped c types x b → ⊥) → (c : Context) → IsModuleContext module_context c → FunctionsTyped c types xs bs → ⊥
Remaining-stops module_context types xs bs i x b in_xs in_bs is_x is_b before typed c at h =
    let s = split types xs bs i x b in_xs in_bs is_x is_b c in
    typed c at (s.0 ((before c at).1 h)).0

-- all bodies are typed
pub Remaining-none : (module_context : ModuleContext) (types : List FuncType) (xs : List ℕ) (bs : List Body) (i : ℕ) → length xs ≤ i → length bs ≤ i
    → Remaining module_context types xs bs i → (c : Context) → IsModuleContext module_context c → FunctionsTyped c types xs bs
Remaining-none module_context types xs bs i past_xs past_bs before c at =
    let none : FunctionsTyped c types [] [] = tt in
    let k = subst (λ ds. FunctionsTyped c types [] ds) (sym (drop_all i bs past_bs)) none in
    (before c at).0 (subst (λ ys. FunctionsTyped c types ys (drop i bs)) (sym (drop_all i xs past_xs)) k)

-- said of the lists of a module
pub in_module : (F : Type 0 → Type 0) (module_context : ModuleContext) (types : List FuncType) (xs : List ℕ) (bs : List Body) (m : Module) → types ≡ m.types → xs ≡ m.functions → bs ≡ m.bodies
    → ((c : Context) → IsModuleContext module_context c → F (FunctionsTyped c types xs bs)) → (c : Context) → IsModuleContext module_context c → F (FunctionsTyped c m.types m.functions m.bodies)
in_module F module_context types xs bs m of_types of_xs of_bs h =
    let b = subst (λ ts. (c : Context) → IsModuleContext module_context c → F (FunctionsTyped c ts xs bs)) of_types h in
    let e = subst (λ ys. (c : Context) → IsModuleContext module_context c → F (FunctionsTyped c m.types ys bs)) of_xs b in
    subst (λ ds. (c : Context) → IsModuleContext module_context c → F (FunctionsTyped c m.types m.functions ds)) of_bs e
