-- What was made is an instance, or there is a reason why it wasn't.
use Rattle.std.proofs.Common.{◌≡◌, ◌∙◌, ℕ, zero, suc, ◌*◌, ◌<◌, ◌≤◌, List, [], ◌∷◌, ◌++◌, replicate, Option, Some, None, Result, Ok, Err, IfOk, IfErr, IfSome, IfNone, refl, sym, ap, subst, inl, inr}
use Rattle.std.specs.Prelude.{◌⊎◌, slice_get}
use Rattle.std.specs.Result.{IsErrAnd}
use Rattle.std.specs.Option.{option_to_list}
use Rattle.wasm_syntax.specs.declared.module.FuncType.{FuncType}
use Rattle.wasm_syntax.specs.declared.module.Import.{Import}
use Rattle.wasm_syntax.specs.declared.module.Module.{Module}
use Rattle.wasm_valid.specs.Validity.{IsValid}
use Rattle.wasm_store.specs.declared.instantiation.Instantiated.{Instantiated}
use Rattle.wasm_store.specs.declared.instantiation.Allocated.{Allocated}
use Rattle.wasm_store.specs.declared.fault.InstanceFault.{InstanceFault}
use Rattle.wasm_store.specs.declared.fault.InstanceFault.TheVariants as faults
use Rattle.wasm_store.specs.Values.{Val, numbers}
use Rattle.wasm_store.specs.NotStarting.{CanStart, RefusedFor}
use Rattle.wasm_store.specs.Instantiation.{LinksOf, IsStart, minimum, page_limit, ElementsInside, DataInside, with_elements, with_data}
use Rattle.wasm_store.specs.internal.Finding.{AreFound, NotFound, HaveFirst, NotStored}
use Rattle.wasm_store.specs.Instantiating.{AreCallees, IsInstantiated}
use Rattle.wasm_store.specs.Instances.{Callee, callee_of, outside}
use Rattle.wasm_store.specs.declared.linked.Linked.{Linked}
use Rattle.wasm_store.specs.declared.linked.Linked.TheVariants.{Embedder}
use Rattle.wasm_store.specs.Allocation.{AllLinks, HasInitializer, IsInitializer}
use Rattle.wasm_store.specs.Allocating.{EntersFirst, all_by_host, AllLinked, IsAllocated, NotAllocated}
use Rattle.wasm_store.proofs.Functions.{own_callees}
use Rattle.wasm_store.proofs.Imports.{by_host_linked, by_host_unlinked}

-- what the parts of an instantiation give
pub record Parts (links : LinksOf) (pages : ℕ) (m : Module) (r : Instantiated) : Type 0 where
  pub found : AreFound (all_by_host links) m r.calls.items
  pub is_start : IsStart m r.main
  pub within_limit : minimum m.memories ≤ pages
  pub first : HaveFirst m r.globals
  pub elements_inside : (vs : List Val) → numbers vs ≡ r.globals → ElementsInside vs (minimum m.tables) m.element_segments
  pub data_inside : (vs : List Val) → numbers vs ≡ r.globals → DataInside vs (minimum m.memories * 65536) m.data_segments
  pub limit : r.page_limit ≡ page_limit pages m.memories
  pub table : (vs : List Val) → numbers vs ≡ r.globals → r.table ≡ with_elements vs (replicate (minimum m.tables) None) m.element_segments
  pub memory : (vs : List Val) → numbers vs ≡ r.globals → r.memory ≡ with_data vs (replicate (minimum m.memories * 65536) 0) m.data_segments
  pub start : r.start ≡ m.start

-- they make an instance
pub made : (links : LinksOf) (pages : ℕ) (m : Module) (r : Instantiated) → IsValid m → Parts links pages m r → IsInstantiated links pages m r
made links pages m r v p =
    let owned = own_callees m.types m.functions m.bodies v.context v.functions in
    let values = p.first.values in
    let are = p.first.numbers_are in
    record {
      instance = record { func_types = m.types; callees = p.found.linked ++ owned.0; page_limit = r.page_limit };
      store = record { memory = r.memory; table = r.table; globals = values; used = 0 };
      instantiates = record {
        linked = p.found.linked;
        owned = owned.0;
        main = r.main;
        are_linked = by_host_linked links m.types 0 m.imports p.found.linked p.found.are_linked;
        are_own = owned.1;
        is_start = p.is_start;
        within_limit = p.within_limit;
        elements_inside = p.elements_inside values are;
        data_inside = p.data_inside values are;
        func_types = refl;
        callees = refl;
        limit = p.limit;
        globals = p.first.are_first;
        table = p.table values are;
        memory = p.memory values are;
        used = refl;
        entered = ap (λ y. option_to_list y ++ r.main ∷ []) p.start;
      };
      calls = p.found.are_callees;
      memory = refl;
      limit = refl;
      table = refl;
      globals = are;
      in_range = p.first.in_range;
      start = p.start;
      main = refl;
    }

-- an import that the host has no call for is the reason
unlinked_for : (links : LinksOf) (pages : ℕ) (m : Module) (e : InstanceFault) → NotFound (all_by_host links) m e → RefusedFor links pages m e
unlinked_for links pages m e (inl memory) = subst (RefusedFor links pages m) (sym memory) tt
unlinked_for links pages m e (inr (import, some)) = subst (RefusedFor links pages m) (sym import) (by_host_unlinked links m.types 0 m.imports some)

pub not_linked : (links : LinksOf) (pages : ℕ) (m : Module) (r : Result Instantiated InstanceFault) (e : InstanceFault) → IsErrAnd r (λ d. d ≡ e) → NotFound (all_by_host links) m e → IfErr r (λ d. RefusedFor links pages m d)
not_linked links pages m (Ok x) e is h = absurd is
not_linked links pages m (Err d) e is h = subst (λ (f : InstanceFault). RefusedFor links pages m f) (sym is) (unlinked_for links pages m e h)

-- nor is there one where memory begins with too many pages
pub past_the_limit : (links : LinksOf) (pages : ℕ) (m : Module) (r : Result Instantiated InstanceFault) (e : InstanceFault) → IsErrAnd r (λ d. d ≡ e) → CanStart links m → e ≡ faults.PageLimit → pages < minimum m.memories → IfErr r (λ d. RefusedFor links pages m d)
past_the_limit links pages m (Ok x) e is can limit less = absurd is
past_the_limit links pages m (Err d) e is can limit less = subst (λ (f : InstanceFault). RefusedFor links pages m f) (sym (is ∙ limit)) (can, less)

-- where a segment is outside, there is no instance for that reason
refused_for : (links : LinksOf) (pages : ℕ) (m : Module) (e : InstanceFault) → CanStart links m → minimum m.memories ≤ pages → NotStored m e → RefusedFor links pages m e
refused_for links pages m faults.ElementOutOfBounds can within h = (can, within, h)
refused_for links pages m faults.DataOutOfBounds can within h = (can, within, h)
refused_for links pages m faults.Memory can within h = tt
refused_for links pages m e can within h = absurd h

-- the reason is handed on
pub not_stored : (links : LinksOf) (pages : ℕ) (m : Module) (r : Result Instantiated InstanceFault) (e : InstanceFault) → IsErrAnd r (λ d. d ≡ e) → CanStart links m → minimum m.memories ≤ pages → NotStored m e → IfErr r (λ d. RefusedFor links pages m d)
not_stored links pages m (Ok x) e is can within h = absurd is
not_stored links pages m (Err d) e is can within h = subst (λ (f : InstanceFault). RefusedFor links pages m f) (sym is) (refused_for links pages m e can within h)

-- an error says nothing of what is made
pub none_made : {X : Type 0} (P : X → Type 0) (r : Result X InstanceFault) (e : InstanceFault) → IsErrAnd r (λ d. d ≡ e) → IfOk r P
none_made P (Ok x) e is = absurd is
none_made P (Err d) e is = tt

-- ---- instances without a `_start`

-- what the parts of an allocation give
pub record AllocatedParts (links : AllLinks) (pages : ℕ) (m : Module) (r : Allocated) : Type 0 where
  pub found : AreFound links m r.calls.items
  pub within_limit : minimum m.memories ≤ pages
  pub first : HaveFirst m r.globals
  pub elements_inside : (vs : List Val) → numbers vs ≡ r.globals → ElementsInside vs (minimum m.tables) m.element_segments
  pub data_inside : (vs : List Val) → numbers vs ≡ r.globals → DataInside vs (minimum m.memories * 65536) m.data_segments
  pub limit : r.page_limit ≡ page_limit pages m.memories
  pub table : (vs : List Val) → numbers vs ≡ r.globals → r.table ≡ with_elements vs (replicate (minimum m.tables) None) m.element_segments
  pub memory : (vs : List Val) → numbers vs ≡ r.globals → r.memory ≡ with_data vs (replicate (minimum m.memories * 65536) 0) m.data_segments
  pub start : r.start ≡ m.start
  pub initializer : HasInitializer m r.initializer
  pub enters : (x k : ℕ) → (r.start ≡ Some x) ⊎ (r.initializer ≡ Some x) → slice_get r.calls.items x ≡ Some (Embedder k) → ⊥

pub allocated : (links : AllLinks) (pages : ℕ) (m : Module) (r : Allocated) → IsValid m → AllocatedParts links pages m r → IsAllocated links pages m r
allocated links pages m r v p =
    let owned = own_callees m.types m.functions m.bodies v.context v.functions in
    let values = p.first.values in
    let are = p.first.numbers_are in
    record {
      instance = record { func_types = m.types; callees = p.found.linked ++ owned.0; page_limit = r.page_limit };
      store = record { memory = r.memory; table = r.table; globals = values; used = 0 };
      allocates = record {
        linked = p.found.linked;
        owned = owned.0;
        are_linked = p.found.are_linked;
        are_own = owned.1;
        within_limit = p.within_limit;
        elements_inside = p.elements_inside values are;
        data_inside = p.data_inside values are;
        func_types = refl;
        callees = refl;
        limit = p.limit;
        globals = p.first.are_first;
        table = p.table values are;
        memory = p.memory values are;
        used = refl;
      };
      calls = p.found.are_callees;
      memory = refl;
      limit = refl;
      table = refl;
      globals = are;
      in_range = p.first.in_range;
      start = p.start;
      initializer = p.initializer;
      enters = p.enters;
    }

-- an exported function by this name, or that there is none
pub initializer_of : (m : Module) (o : Option ℕ) → IfSome o (λ x. IsInitializer m x) → IfNone o ((x : ℕ) → IsInitializer m x → ⊥) → HasInitializer m o
initializer_of m None some none = none
initializer_of m (Some x) some none = some

not_all_linked : (links : AllLinks) (pages : ℕ) (m : Module) (e : InstanceFault) → NotFound links m e → NotAllocated links pages m e
not_all_linked links pages m e (inl memory) = subst (NotAllocated links pages m) (sym memory) tt
not_all_linked links pages m e (inr (import, some)) = subst (NotAllocated links pages m) (sym import) (inl some)

-- what an import of the embedder is as a callee
embeds_at : (types : List FuncType) (is : List Import) (calls : List Linked) (cs : List Callee) → AreCallees types is calls cs → (x k : ℕ) → slice_get calls x ≡ Some (Embedder k) → (f : FuncType) × (slice_get cs x ≡ Some (outside f k))
embeds_at types [] [] [] a x k e = cc
embeds_at types [] [] (c ∷ cs) a x k e = absurd a
embeds_at types [] (l ∷ ls) cs a x k e = absurd a
embeds_at types (i ∷ is) [] cs a x k e = absurd a
embeds_at types (i ∷ is) (l ∷ ls) [] a x k e = absurd a
embeds_at types (i ∷ is) (l ∷ ls) (c ∷ cs) a zero k e =
    let same : l ≡ Embedder k = cc in
    (a.0.func_type, ap Some (a.0.callee ∙ ap (callee_of a.0.func_type) same))
embeds_at types (i ∷ is) (l ∷ ls) (c ∷ cs) a (suc x) k e = embeds_at types is ls cs a.1 x k e

pub entered_first : (m : Module) (start initializer : Option ℕ) (x : ℕ) → start ≡ m.start → IfSome initializer (λ y. IsInitializer m y) → (start ≡ Some x) ⊎ (initializer ≡ Some x) → EntersFirst m x
entered_first m start initializer x same some (inl e) = inl (sym same ∙ e)
entered_first m start initializer x same some (inr e) = inr (subst (λ (o : Option ℕ). IfSome o (λ y. IsInitializer m y)) e some)

-- one that is entered first is refused
pub enters_embedders : (links : AllLinks) (pages : ℕ) (m : Module) (calls : List Linked) (x k : ℕ) → AreFound links m calls → EntersFirst m x → slice_get calls x ≡ Some (Embedder k) → NotAllocated links pages m faults.Import
enters_embedders links pages m calls x k found first e =
    let at = embeds_at m.types m.imports calls found.linked found.are_callees x k e in
    inr (x, first, record { linked = found.linked; are_linked = found.are_linked; func_type = at.0; number = k; is_callee = at.1 })

pub some_unanswered : (links : AllLinks) (pages : ℕ) (m : Module) (r : Result Allocated InstanceFault) (e : InstanceFault) → IsErrAnd r (λ d. d ≡ e) → NotFound links m e → IfErr r (λ d. NotAllocated links pages m d)
some_unanswered links pages m (Ok x) e is h = absurd is
some_unanswered links pages m (Err d) e is h = subst (λ (f : InstanceFault). NotAllocated links pages m f) (sym is) (not_all_linked links pages m e h)

pub too_many_pages : (links : AllLinks) (pages : ℕ) (m : Module) (r : Result Allocated InstanceFault) (e : InstanceFault) → IsErrAnd r (λ d. d ≡ e) → AllLinked links m → e ≡ faults.PageLimit → pages < minimum m.memories → IfErr r (λ d. NotAllocated links pages m d)
too_many_pages links pages m (Ok x) e is can limit less = absurd is
too_many_pages links pages m (Err d) e is can limit less = subst (λ (f : InstanceFault). NotAllocated links pages m f) (sym (is ∙ limit)) (can, less)

no_room_for : (links : AllLinks) (pages : ℕ) (m : Module) (e : InstanceFault) → AllLinked links m → minimum m.memories ≤ pages → NotStored m e → NotAllocated links pages m e
no_room_for links pages m faults.ElementOutOfBounds can within h = (can, within, h)
no_room_for links pages m faults.DataOutOfBounds can within h = (can, within, h)
no_room_for links pages m faults.Memory can within h = tt
no_room_for links pages m e can within h = absurd h

pub not_placed : (links : AllLinks) (pages : ℕ) (m : Module) (r : Result Allocated InstanceFault) (e : InstanceFault) → IsErrAnd r (λ d. d ≡ e) → AllLinked links m → minimum m.memories ≤ pages → NotStored m e → IfErr r (λ d. NotAllocated links pages m d)
not_placed links pages m (Ok x) e is can within h = absurd is
not_placed links pages m (Err d) e is can within h = subst (λ (f : InstanceFault). NotAllocated links pages m f) (sym is) (no_room_for links pages m e can within h)
