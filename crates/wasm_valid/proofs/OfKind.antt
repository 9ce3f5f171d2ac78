-- What is imported of one kind.
use Rattle.std.proofs.Common.{◌≡◌, List, [], ◌∷◌, Option, refl, ap}
use Rattle.std.specs.List.{filter_map, cons_option}
use Rattle.wasm_syntax.specs.declared.module.Import.{Import}
use Rattle.wasm_syntax.specs.declared.module.ImportKind.{ImportKind}
use Rattle.wasm_valid.specs.Spaces.{kinds_of}

-- told by the kinds, or by the imports
pub of_kind : {X : Type 0} (f : ImportKind → Option X) (is : List Import) → filter_map (λ i. f i.kind) is ≡ filter_map f (kinds_of is)
of_kind f [] = refl
of_kind {X} f (i ∷ is) = ap (λ (xs : List X). cons_option (f i.kind) xs) (of_kind f is)
