-- Imports and the host's calls.
use Rattle.std.proofs.Common.{◌≡◌, ◌∙◌, ℕ, List, [], ◌∷◌, Some, length, suc, refl, sym, ap, subst}
use Rattle.std.specs.Prelude.{slice_get}
use Rattle.wasm_syntax.specs.declared.module.FuncType.{FuncType}
use Rattle.wasm_syntax.specs.declared.module.Import.{Import}
use Rattle.wasm_store.specs.declared.linked.Linked.{Linked}
use Rattle.wasm_store.specs.declared.linked.Linked.TheVariants.{Host, Embedder}
use Rattle.wasm_store.specs.declared.instantiation.Allocated.{Allocated}
use Rattle.wasm_store.specs.declared.instantiation.Instantiated.{Instantiated}
use Rattle.wasm_store.specs.Allocation.{AllLinks, AreLinkedTo, IsLinkedTo}
use Rattle.wasm_store.specs.Allocating.{IsAllocated}
use Rattle.wasm_store.specs.Instantiation.{LinksOf, IsLinked, AreLinked}
use Rattle.wasm_store.specs.Instantiating.{IsCallee, IsInstantiated}
use Rattle.wasm_steps.specs.Configuration.{Callee, signature_of}
use Rattle.wasm_store.specs.Instances.{callee_of}
use Rattle.wasm_interp.specs.declared.begin.Begun.{Begun}
use Rattle.wasm_places.specs.declared.tables.Prepared.{Prepared}
use Rattle.wasm_interp.specs.internal.Begun.{HasBegun, HasOpened, IsReady, IsReadyToOpen}
use Rattle.wasm_interp.specs.Shared.{AreCallsOf, AreLinksOf}
use Rattle.wasm_syntax.specs.declared.module.Module.{Module}
use Rattle.wasm_interp.specs.Stands.{AreCallees}

-- the type of an import's function instance
pub signature_linked : (f : FuncType) (l : Linked) → signature_of (callee_of f l) ≡ f
signature_linked f (Host c) = refl
signature_linked f (Embedder k) = refl

-- an import is answered in one way
pub same_link : (f g : FuncType) (h l : Linked) → callee_of f h ≡ callee_of g l → h ≡ l
same_link f g (Host c) (Host d) e = cc
same_link f g (Host c) (Embedder k) e = cc
same_link f g (Embedder k) (Host d) e = cc
same_link f g (Embedder j) (Embedder k) e = cc

-- there are as many calls and function instances as imports
pub calls_length : (types : List FuncType) (is : List Import) (calls : List Linked) (cs : List Callee) → AreCallees types is calls cs → (length calls ≡ length is) × (length cs ≡ length is)
calls_length types [] [] [] a = (refl, refl)
calls_length types [] [] (c ∷ cs) a = absurd a
calls_length types [] (h ∷ hs) cs a = absurd a
calls_length types (i ∷ is) [] cs a = absurd a
calls_length types (i ∷ is) (h ∷ hs) [] a = absurd a
calls_length types (i ∷ is) (h ∷ hs) (c ∷ cs) a = let r = calls_length types is hs cs a.1 in (ap suc r.0, ap suc r.1)

-- the links give an import one call
same_call : (links : LinksOf) (types : List FuncType) (i : Import) (c d : Callee) (h g : Linked) → IsLinked links types i c → IsLinked links types i d → IsCallee types i h c → IsCallee types i g d → h ≡ g
same_call links types i c d h g lc ld hc gd =
    let k = lc.kind in
    let l = ld.kind in
    let index : lc.index ≡ ld.index = cc in
    let t : Some lc.func_type ≡ Some ld.func_type = sym lc.type_is ∙ ap (slice_get types) index ∙ ld.type_is in
    let same : lc.func_type ≡ ld.func_type = cc in
    let call : Some lc.call ≡ Some ld.call = sym lc.links_to ∙ ap (links i.module_name i.name) same ∙ ld.links_to in
    let calls : lc.call ≡ ld.call = cc in
    let a : Host lc.call ≡ h = same_link lc.func_type hc.func_type (Host lc.call) h (sym lc.callee ∙ hc.callee) in
    let b : Host ld.call ≡ g = same_link ld.func_type gd.func_type (Host ld.call) g (sym ld.callee ∙ gd.callee) in
    sym a ∙ ap Host calls ∙ b

-- and so all of them
same_calls : (links : LinksOf) (types : List FuncType) (is : List Import) (cs ds : List Callee) (hs gs : List Linked) → AreLinked links types is cs → AreLinked links types is ds → AreCallees types is hs cs → AreCallees types is gs ds → hs ≡ gs
same_calls links types [] (c ∷ cs) ds hs gs lc ld hc gd = absurd lc
same_calls links types [] [] (d ∷ ds) hs gs lc ld hc gd = absurd ld
same_calls links types [] [] [] (h ∷ hs) gs lc ld hc gd = absurd hc
same_calls links types [] [] [] [] (g ∷ gs) lc ld hc gd = absurd gd
same_calls links types [] [] [] [] [] lc ld hc gd = refl
same_calls links types (i ∷ is) [] ds hs gs lc ld hc gd = absurd lc
same_calls links types (i ∷ is) (c ∷ cs) [] hs gs lc ld hc gd = absurd ld
same_calls links types (i ∷ is) (c ∷ cs) (d ∷ ds) [] gs lc ld hc gd = absurd hc
same_calls links types (i ∷ is) (c ∷ cs) (d ∷ ds) (h ∷ hs) [] lc ld hc gd = absurd gd
same_calls links types (i ∷ is) (c ∷ cs) (d ∷ ds) (h ∷ hs) (g ∷ gs) lc ld hc gd =
    ap (λ y. y ∷ hs) (same_call links types i c d h g lc.0 ld.0 hc.0 gd.0) ∙ ap (λ ys. g ∷ ys) (same_calls links types is cs ds hs gs lc.1 ld.1 hc.1 gd.1)

-- the calls that a machine begins with are those of its links
pub calls_of_begun : (links : LinksOf) (pages : ℕ) (m : Module) (b : Begun) → HasBegun links pages m b → AreCallsOf links m b.tables.calls.items
calls_of_begun links pages m b k = record {
  linked = k.instantiated.instantiates.linked;
  are_linked = k.instantiated.instantiates.are_linked;
  are_callees = subst (λ ys. AreCallees m.types m.imports ys k.instantiated.instantiates.linked) (sym k.calls) k.instantiated.calls;
}

-- a module that is instantiated again, by the same calls and for as many pages, goes by the same tables
pub calls_again : (links : LinksOf) (pages : ℕ) (r : Prepared) (made : Instantiated) → AreCallsOf links r.valid r.tables.calls.items → IsInstantiated links pages r.valid made → r.tables.calls.items ≡ made.calls.items
calls_again links pages r made q i =
    same_calls links r.valid.types r.valid.imports q.linked i.instantiates.linked r.tables.calls.items made.calls.items q.are_linked i.instantiates.are_linked q.are_callees i.calls

pub limit_again : (links : LinksOf) (pages : ℕ) (r : Prepared) (made : Instantiated) → IsReady r pages → IsInstantiated links pages r.valid made → r.tables.page_limit ≡ made.page_limit
limit_again links pages r made ready i =
    let k = ready.begun in
    k.limit ∙ sym k.instantiated.limit ∙ k.instantiated.instantiates.limit ∙ sym i.instantiates.limit ∙ i.limit

-- ---- the same of instances whose exports are called

same_link_to : (links : AllLinks) (types : List FuncType) (n : ℕ) (i : Import) (c d : Callee) (h g : Linked) → IsLinkedTo links types n i c → IsLinkedTo links types n i d → IsCallee types i h c → IsCallee types i g d → h ≡ g
same_link_to links types n i c d h g lc ld hc gd =
    let k = lc.kind in
    let l = ld.kind in
    let index : lc.index ≡ ld.index = cc in
    let t : Some lc.func_type ≡ Some ld.func_type = sym lc.type_is ∙ ap (slice_get types) index ∙ ld.type_is in
    let same : lc.func_type ≡ ld.func_type = cc in
    let link : Some lc.linked ≡ Some ld.linked = sym lc.links_to ∙ ap (links n i.module_name i.name) same ∙ ld.links_to in
    let linked : lc.linked ≡ ld.linked = cc in
    let a : lc.linked ≡ h = same_link lc.func_type hc.func_type lc.linked h (sym lc.callee ∙ hc.callee) in
    let b : ld.linked ≡ g = same_link ld.func_type gd.func_type ld.linked g (sym ld.callee ∙ gd.callee) in
    sym a ∙ linked ∙ b

same_links : (links : AllLinks) (types : List FuncType) (n : ℕ) (is : List Import) (cs ds : List Callee) (hs gs : List Linked) → AreLinkedTo links types n is cs → AreLinkedTo links types n is ds → AreCallees types is hs cs → AreCallees types is gs ds → hs ≡ gs
same_links links types n [] (c ∷ cs) ds hs gs lc ld hc gd = absurd lc
same_links links types n [] [] (d ∷ ds) hs gs lc ld hc gd = absurd ld
same_links links types n [] [] [] (h ∷ hs) gs lc ld hc gd = absurd hc
same_links links types n [] [] [] [] (g ∷ gs) lc ld hc gd = absurd gd
same_links links types n [] [] [] [] [] lc ld hc gd = refl
same_links links types n (i ∷ is) [] ds hs gs lc ld hc gd = absurd lc
same_links links types n (i ∷ is) (c ∷ cs) [] hs gs lc ld hc gd = absurd ld
same_links links types n (i ∷ is) (c ∷ cs) (d ∷ ds) [] gs lc ld hc gd = absurd hc
same_links links types n (i ∷ is) (c ∷ cs) (d ∷ ds) (h ∷ hs) [] lc ld hc gd = absurd gd
same_links links types n (i ∷ is) (c ∷ cs) (d ∷ ds) (h ∷ hs) (g ∷ gs) lc ld hc gd =
    ap (λ y. y ∷ hs) (same_link_to links types n i c d h g lc.0 ld.0 hc.0 gd.0) ∙ ap (λ ys. g ∷ ys) (same_links links types (suc n) is cs ds hs gs lc.1 ld.1 hc.1 gd.1)

-- what an instance begins with is what its links say
pub links_of_opened : (links : AllLinks) (pages : ℕ) (m : Module) (b : Begun) → HasOpened links pages m b → AreLinksOf links m b.tables.calls.items
links_of_opened links pages m b k = record {
  linked = k.allocated.allocates.linked;
  are_linked = k.allocated.allocates.are_linked;
  are_callees = subst (λ ys. AreCallees m.types m.imports ys k.allocated.allocates.linked) (sym k.calls) k.allocated.calls;
}

pub links_again : (links : AllLinks) (pages : ℕ) (r : Prepared) (made : Allocated) → AreLinksOf links r.valid r.tables.calls.items → IsAllocated links pages r.valid made → r.tables.calls.items ≡ made.calls.items
links_again links pages r made q i =
    same_links links r.valid.types 0 r.valid.imports q.linked i.allocates.linked r.tables.calls.items made.calls.items q.are_linked i.allocates.are_linked q.are_callees i.calls

pub limit_opened : (links : AllLinks) (pages : ℕ) (r : Prepared) (made : Allocated) → IsReadyToOpen r pages → IsAllocated links pages r.valid made → r.tables.page_limit ≡ made.page_limit
limit_opened links pages r made ready i =
    let k = ready.opened in
    k.limit ∙ sym k.allocated.limit ∙ k.allocated.allocates.limit ∙ sym i.allocates.limit ∙ i.limit
