-- What the loop over imports keeps: from what is left it follows for the whole.
use Rattle.std.proofs.Common.{◌≡◌, ℕ, suc, ◌+◌, ◌≤◌, List, [], ◌∷◌, ◌++◌, length, drop, Option, Some, None, refl, sym, ap, ◌∙◌, subst, arith, inl, inr, append_assoc, append-nil, length-append}
use Rattle.std.specs.Prelude.{slice_get}
use Rattle.std.specs.Option.{option_map}
use Rattle.wasm_syntax.specs.declared.module.FuncType.{FuncType}
use Rattle.wasm_syntax.specs.declared.module.Import.{Import}
use Rattle.wasm_syntax.specs.declared.module.ImportKind.TheVariants as imports
use Rattle.wasm_syntax.specs.declared.module.Module.{Module}
use Rattle.wasm_store.specs.declared.call.HostCall.{HostCall}
use Rattle.wasm_store.specs.declared.linked.Linked.{Linked}
use Rattle.wasm_store.specs.declared.linked.Linked.TheVariants.{Host}
use Rattle.wasm_store.specs.Instances.{Callee, callee_of}
use Rattle.wasm_store.specs.NotStarting.{SomeUnlinked}
use Rattle.wasm_store.specs.Instantiation.{LinksOf, IsLinked, AreLinked}
use Rattle.wasm_store.specs.Instantiating.{AreCallees}
use Rattle.wasm_store.specs.Allocation.{AllLinks, IsLinkedTo, AreLinkedTo}
use Rattle.wasm_store.specs.Allocating.{SomeUnlinkedTo, all_by_host}
use Rattle.wasm_store.specs.internal.Finding.{AreFound}
use Rattle.wasm_store.proofs.Functions.{left_from, nothing_left}

module _ (links : AllLinks) (m : Module) where
  -- if the imports that are left are linked, all are; if one of them is not, one of all is not
  pub record LinkedTo (k : ℕ) (calls : List Linked) : Type 0 where
    pub count : length calls ≡ k
    pub goes_on : (more : List Linked) (cs : List Callee) → AreLinkedTo links m.types k (drop k m.imports) cs → AreCallees m.types (drop k m.imports) more cs → AreFound links m (calls ++ more)
    pub fails : SomeUnlinkedTo links m.types k (drop k m.imports) → SomeUnlinkedTo links m.types 0 m.imports

  -- before the first import
  pub linked_none : LinkedTo 0 []
  linked_none = record { count = refl; goes_on = λ more cs a b. record { linked = cs; are_linked = a; are_callees = b }; fails = λ h. h }

  -- an import more that is linked
  pub linked_next : (k : ℕ) (calls : List Linked) (i : Import) (index : ℕ) (f : FuncType) (call : Linked) → slice_get m.imports k ≡ Some i → i.kind ≡ imports.Function index → slice_get m.types index ≡ Some f → links k i.module_name i.name f ≡ Some call → LinkedTo k calls → LinkedTo (k + 1) (calls ++ call ∷ [])
  linked_next k calls i index f call e kind t s l =
      let left = left_from m.imports k i e in
      let one : k + 1 ≡ suc k = omega arith in
      record {
        count = omega (arith, length-append calls (call ∷ []), l.count);
        goes_on = λ more cs a b.
            subst (AreFound links m) (sym (append_assoc calls (call ∷ []) more))
            (l.goes_on (call ∷ more) (callee_of f call ∷ cs)
            (subst (λ y. AreLinkedTo links m.types k y (callee_of f call ∷ cs)) (sym left) (
              record { index = index; func_type = f; linked = call; kind = kind; type_is = t; links_to = s; callee = refl },
              subst (λ n. AreLinkedTo links m.types n (drop (k + 1) m.imports) cs) one a,
            ))
            (subst (λ y. AreCallees m.types y (call ∷ more) (callee_of f call ∷ cs)) (sym left) (record { index = index; func_type = f; kind = kind; type_is = t; callee = refl }, b)));
        fails = λ h. l.fails (subst (SomeUnlinkedTo links m.types k) (sym left) (inr (subst (λ n. SomeUnlinkedTo links m.types n (drop (k + 1) m.imports)) one h)));
      }

  -- at the end all are linked
  pub linked_all : (k : ℕ) (calls : List Linked) → length m.imports ≤ k → LinkedTo k calls → AreFound links m calls
  linked_all k calls l h =
      let n = nothing_left m.imports k l in
      subst (AreFound links m) (append-nil calls) (h.goes_on [] [] (subst (λ y. AreLinkedTo links m.types k y []) (sym n) tt) (subst (λ y. AreCallees m.types y [] []) (sym n) tt))

  -- an import that nobody answers
  pub one_unlinked : (k : ℕ) (calls : List Linked) (i : Import) (index : ℕ) (f : FuncType) → slice_get m.imports k ≡ Some i → i.kind ≡ imports.Function index → slice_get m.types index ≡ Some f → links k i.module_name i.name f ≡ None → LinkedTo k calls → SomeUnlinkedTo links m.types 0 m.imports
  one_unlinked k calls i index f e q t s l =
      l.fails (subst (SomeUnlinkedTo links m.types k) (sym (left_from m.imports k i e)) (inl not_linked)) where
        not_linked : (c : Callee) → IsLinkedTo links m.types k i c → ⊥
        not_linked c h =
            let kind : index ≡ h.index = cc (q, h.kind) in
            let type : f ≡ h.func_type = cc (t, h.type_is, ap (slice_get m.types) kind) in
            cc (ap (links k i.module_name i.name) type, h.links_to)

  -- an import that is no function
  pub one_other : (k : ℕ) (calls : List Linked) (i : Import) → slice_get m.imports k ≡ Some i → ((index : ℕ) → i.kind ≡ imports.Function index → ⊥) → LinkedTo k calls → SomeUnlinkedTo links m.types 0 m.imports
  one_other k calls i e other l =
      l.fails (subst (SomeUnlinkedTo links m.types k) (sym (left_from m.imports k i e)) (inl (λ c h. other h.index h.kind)))

-- ---- where the host answers all

-- what it links to is one of its calls
host_call : (links : LinksOf) (types : List FuncType) (n : ℕ) (i : Import) (c : Callee) → IsLinkedTo (all_by_host links) types n i c → IsLinked links types i c
host_call links types n i c h = by_link (links i.module_name i.name h.func_type) refl where
  by_link : (o : Option HostCall) → links i.module_name i.name h.func_type ≡ o → IsLinked links types i c
  by_link None e = let f : None ≡ Some h.linked = ap (option_map Host) (sym e) ∙ h.links_to in cc
  by_link (Some call) e =
      let is : Some (Host call) ≡ Some h.linked = ap (option_map Host) (sym e) ∙ h.links_to in
      let same : Host call ≡ h.linked = cc in
      record { index = h.index; func_type = h.func_type; call = call; kind = h.kind; type_is = h.type_is; links_to = e; callee = h.callee ∙ ap (callee_of h.func_type) (sym same) }

pub by_host_linked : (links : LinksOf) (types : List FuncType) (n : ℕ) (is : List Import) (cs : List Callee) → AreLinkedTo (all_by_host links) types n is cs → AreLinked links types is cs
by_host_linked links types n [] [] a = tt
by_host_linked links types n [] (c ∷ cs) a = absurd a
by_host_linked links types n (i ∷ is) [] a = absurd a
by_host_linked links types n (i ∷ is) (c ∷ cs) a = (host_call links types n i c a.0, by_host_linked links types (suc n) is cs a.1)

-- its call is what it links to
of_host_call : (links : LinksOf) (types : List FuncType) (n : ℕ) (i : Import) (c : Callee) → IsLinked links types i c → IsLinkedTo (all_by_host links) types n i c
of_host_call links types n i c h = record { index = h.index; func_type = h.func_type; linked = Host h.call; kind = h.kind; type_is = h.type_is; links_to = ap (option_map Host) h.links_to; callee = h.callee }

pub by_host_unlinked : (links : LinksOf) (types : List FuncType) (n : ℕ) (is : List Import) → SomeUnlinkedTo (all_by_host links) types n is → SomeUnlinked links types is
by_host_unlinked links types n [] h = absurd h
by_host_unlinked links types n (i ∷ is) (inl none) = inl (λ c h. none c (of_host_call links types n i c h))
by_host_unlinked links types n (i ∷ is) (inr rest) = inr (by_host_unlinked links types (suc n) is rest)
