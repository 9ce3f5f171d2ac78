-- The list of calls, by its parts and by what the code finds in it.
use Rattle.std.proofs.Common.{◌≡◌, ℕ, false, not, List, ◌++◌, Option, Some, None, refl, sym, ◌∙◌, ap, bytes_eq, codes}
use Rattle.std.specs.Prelude.{if◌then◌else◌}
use Rattle.std.specs.List.{find}
use Rattle.std.specs.Option.{option_map, option_or, option_map_or}
use Rattle.std.proofs.lemmas.Bool.{cond-false}
use Rattle.std.proofs.lemmas.List.Folds.{find-append}
use Rattle.wasm_syntax.specs.declared.module.FuncType.{FuncType}
use Rattle.wasm_store.specs.declared.call.HostCall.{HostCall}
use Rattle.wasm_store.specs.declared.call.HostCall.TheVariants as call
use Rattle.wasi_calls.specs.host.Links.{Listed, calls, are_types, link}
use Rattle.wasi_calls.specs.internal.host.Linking.{Typed, typed, typed_in, of_type}

typed_or : (a b : Option Listed) → option_map typed (option_or a b) ≡ option_or (option_map typed a) (option_map typed b)
typed_or None b = refl
typed_or (Some c) b = refl

-- first in one part, then in the rest
parts : (xs ys : List Listed) (name : List ℕ) → typed_in (xs ++ ys) name ≡ option_or (typed_in xs name) (typed_in ys name)
parts xs ys name =
    ap (option_map typed) (find-append (λ (c : Listed). bytes_eq name c.0) xs ys)
    ∙ typed_or (find (λ (c : Listed). bytes_eq name c.0) xs) (find (λ (c : Listed). bytes_eq name c.0) ys)

pub in_first : (xs ys : List Listed) (name : List ℕ) (t : Typed) → typed_in xs name ≡ Some t → typed_in (xs ++ ys) name ≡ Some t
in_first xs ys name t is = parts xs ys name ∙ ap (λ (o : Option Typed). option_or o (typed_in ys name)) is

pub in_rest : (xs ys : List Listed) (name : List ℕ) → typed_in xs name ≡ None → typed_in (xs ++ ys) name ≡ typed_in ys name
in_rest xs ys name none = parts xs ys name ∙ ap (λ (o : Option Typed). option_or o (typed_in ys name)) none

without_name : (found : Option Listed) (t : FuncType) (other : Option HostCall)
    → option_map_or (of_type t) (option_map typed found) other ≡ option_map_or (λ (c : Listed). of_type t (typed c)) found other
without_name None t other = refl
without_name (Some c) t other = refl

-- the call that is found is linked, where it has the type
pub linked : (module_name name : List ℕ) (t : FuncType) (c : Typed) → not (bytes_eq module_name (codes "wasi_snapshot_preview1")) ≡ false
    → Some c ≡ typed_in calls name → of_type t c ≡ link module_name name t
linked module_name name t c same is =
    let other : Option HostCall = if are_types (codes "i") t.results then Some call.Nosys else None in
    ap (λ (o : Option Typed). option_map_or (of_type t) o other) is
    ∙ (without_name (find (λ (c : Listed). bytes_eq name c.0) calls) t other ∙ sym (cond-false _ None _ same))
