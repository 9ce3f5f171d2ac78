-- A valid module has one instance by allocation, and begins in one way.
use Rattle.std.proofs.Common.{◌≡◌, ℕ, suc, ◌*◌, List, [], ◌∷◌, ◌++◌, Option, Some, None, slice_get, replicate, codes, refl, sym, ◌∙◌, ap}
use Rattle.std.proofs.lemmas.Option.{same_Some}
use Rattle.wasm_syntax.specs.declared.module.FuncType.{FuncType}
use Rattle.wasm_syntax.specs.declared.module.Import.{Import}
use Rattle.wasm_syntax.specs.declared.module.ImportKind.TheVariants as imports
use Rattle.wasm_syntax.specs.declared.module.Module.{Module}
use Rattle.wasm_valid.specs.Validity.{IsValid}
use Rattle.wasm_store.specs.Values.{Val}
use Rattle.wasm_store.specs.Instances.{Callee, callee_of, Instance, Store}
use Rattle.wasm_store.specs.Instantiation.{minimum, with_elements, with_data}
use Rattle.wasm_store.specs.Allocation.{AllLinks, AreLinkedTo, Allocates, HasInitializer}
use Rattle.same_run.proofs.OneStart.{globals_once, own_once}
use Rattle.same_instance.proofs.Answering.{exported_once}

linked_once : (links : AllLinks) (types : List FuncType) (n : ℕ) (is : List Import) (cs ds : List Callee) → AreLinkedTo links types n is cs → AreLinkedTo links types n is ds → cs ≡ ds
linked_once links types n [] [] [] l m = refl
linked_once links types n [] [] (d ∷ ds) l m = absurd m
linked_once links types n [] (c ∷ cs) ds l m = absurd l
linked_once links types n (i ∷ is) [] ds l m = absurd l
linked_once links types n (i ∷ is) (c ∷ cs) [] l m = absurd m
linked_once links types n (i ∷ is) (c ∷ cs) (d ∷ ds) (l, ls) (m, ms) = λ k. callee k ∷ linked_once links types (suc n) is cs ds ls ms k
  where
    function_is : (x y : ℕ) → imports.Function x ≡ imports.Function y → x ≡ y
    function_is x y is = cc

    index : l.index ≡ m.index
    index = function_is l.index m.index (sym l.kind ∙ m.kind)

    type : l.func_type ≡ m.func_type
    type = same_Some l.func_type m.func_type (sym l.type_is ∙ (ap (slice_get types) index ∙ m.type_is))

    link : l.linked ≡ m.linked
    link = same_Some l.linked m.linked (sym l.links_to ∙ (ap (links n i.module_name i.name) type ∙ m.links_to))

    callee : c ≡ d
    callee = l.callee ∙ ((λ k. callee_of (type k) (link k)) ∙ sym m.callee)

pub initializer_once : (m : Module) → IsValid m → (a b : Option ℕ) → HasInitializer m a → HasInitializer m b → a ≡ b
initializer_once m valid None None has also = refl
initializer_once m valid None (Some y) has also = absurd (has y also)
initializer_once m valid (Some x) None has also = absurd (also x has)
initializer_once m valid (Some x) (Some y) has also = ap (λ (n : ℕ). Some n) (exported_once m valid (codes "_initialize") x y has.exported also.exported)

pub allocated_once : (links : AllLinks) (pages : ℕ) (m : Module) (i j : Instance) (s t : Store) → Allocates links pages m i s → Allocates links pages m j t → (i ≡ j) × (s ≡ t)
allocated_once links pages m i j s t a b =
    let linked = linked_once links m.types 0 m.imports a.linked b.linked a.are_linked b.are_linked in
    let owned = own_once m.types m.functions m.bodies a.owned b.owned a.are_own b.are_own in
    let globals = globals_once m.globals s.globals t.globals a.globals b.globals in
    let types : i.func_types ≡ j.func_types = a.func_types ∙ sym b.func_types in
    let callees : i.callees ≡ j.callees = a.callees ∙ ((λ k. linked k ++ owned k) ∙ sym b.callees) in
    let limit : i.page_limit ≡ j.page_limit = a.limit ∙ sym b.limit in
    let table : s.table ≡ t.table = a.table ∙ (ap (λ (gs : List Val). with_elements gs (replicate (minimum m.tables) None) m.element_segments) globals ∙ sym b.table) in
    let memory : s.memory ≡ t.memory = a.memory ∙ (ap (λ (gs : List Val). with_data gs (replicate (minimum m.memories * 65536) 0) m.data_segments) globals ∙ sym b.memory) in
    let used : s.used ≡ t.used = a.used ∙ sym b.used in (
      λ k. record { func_types = types k; callees = callees k; page_limit = limit k },
      λ k. record { memory = memory k; table = table k; globals = globals k; used = used k },
    )
