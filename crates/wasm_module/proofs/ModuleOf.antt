-- The module of sections, by its parts.
use Rattle.std.proofs.Common.{◌≡◌, ◌∙◌, ℕ, List, [], Option, Some, None, unwrap_or, refl, sym, ap}
use Rattle.wasm_syntax.specs.declared.profile.Profile.{Profile}
use Rattle.wasm_syntax.specs.declared.module.FuncType.{FuncType}
use Rattle.wasm_syntax.specs.declared.module.Limits.{Limits}
use Rattle.wasm_syntax.specs.declared.module.Import.{Import}
use Rattle.wasm_syntax.specs.declared.module.Export.{Export}
use Rattle.wasm_syntax.specs.declared.module.GlobalEntry.{GlobalEntry}
use Rattle.wasm_syntax.specs.declared.module.ElementSegment.{ElementSegment}
use Rattle.wasm_syntax.specs.declared.module.Body.{Body}
use Rattle.wasm_syntax.specs.declared.module.DataSegment.{DataSegment}
use Rattle.wasm_syntax.specs.Module.{module_of}
use Rattle.wasm_syntax.specs.internal.TypesReading.{func_type_at, limits_at, table_at}
use Rattle.wasm_module.specs.internal.ModuleReading.{import_at, global_at, export_at, elements_at, body_at, data_at, Held, sections_of, sections_at, module_and_count, list_at, code_parts_at, start_parts_at, link_parts_at, storage_parts_at, Parts, parts_at, decoded_of}
use Rattle.wasm_syntax.specs.Reading.{◌>>=◌, Reader, then_at, map_at, u32_at, vector_at, whole, customs_at, section_at}
use Rattle.wasm_module.proofs.Laws.{some_is}

-- one reader reads what another does, and sees it so
record Sees {X Y : Type 0} (f : X → Y) (a : Reader X) (b : Reader Y) : Type 0 where
  pub at : (bytes : List ℕ) → b bytes ≡ map_at f a bytes

-- what is read is itself
same : {X : Type 0} (o : Option (X × List ℕ)) → o ≡ (o >>= λ x. Some (x.0, x.1))
same (Some x) = refl
same None = refl

-- what is seen as it is
kept : {X : Type 0} (a : Reader X) → Sees (λ (x : X). x) a a
kept a = record { at = λ bytes. same (a bytes) }

-- a list that may be absent
list : {X : Type 0} (id : ℕ) (a : Reader X) → Sees (λ (o : Option (List X)). unwrap_or o []) (section_at id (whole (vector_at a))) (list_at id a)
unfolding list_at
list id a = record { at = λ bytes. refl }

-- what was read, seen so
abbrev seen : {X Y : Type 0} → (X → Y) → Option (X × List ℕ) → Option (Y × List ℕ)
seen f o = o >>= λ x. Some (f x.0, x.1)

-- what was read after x, and x
abbrev paired : {X Y : Type 0} → X → Option (Y × List ℕ) → Option ((X × Y) × List ℕ)
paired x o = o >>= λ y. Some ((x, y.0), y.1)

-- what was read, and what is read after it
abbrev followed : {X Y : Type 0} → Option (X × List ℕ) → Reader Y → Option ((X × Y) × List ℕ)
followed o b = o >>= λ x. paired x.0 (b x.1)

-- one after the other
both : {X Y U V : Type 0} {f : X → Y} {g : U → V} {a : Reader X} {c : Reader Y} {b : Reader U} {d : Reader V} → Sees f a c → Sees g b d → Sees (λ (p : X × U). (f p.0, g p.1)) (then_at a b) (then_at c d)
both {X} {Y} {U} {V} {f} {g} {a} {c} {b} {d} first second = record { at = λ bytes. rw (first.at bytes) (by_first (a bytes)) } where
  by_second : (x : X) (o : Option (U × List ℕ)) → paired (f x) (seen g o) ≡ seen (λ (p : X × U). (f p.0, g p.1)) (paired x o)
  by_second x None = refl
  by_second x (Some u) = refl

  by_first : (o : Option (X × List ℕ)) → followed (seen f o) d ≡ seen (λ (p : X × U). (f p.0, g p.1)) (followed o b)
  by_first None = refl
  by_first (Some x) = rw (second.at x.1) (by_second x.0 (b x.1))

-- what the sections that have a place in the order hold
abbrev pub HeldInOrder : Type 0
HeldInOrder = Option (List FuncType) × (Option (List Import) × (Option (List ℕ) × (Option (List Limits) × (Option (List Limits) × (Option (List GlobalEntry) × (Option (List Export) × (Option ℕ × (Option (List ElementSegment) × (Option ℕ × (Option (List Body) × (Option (List DataSegment))))))))))))

-- what the sections hold; one that is absent is empty
abbrev parts_of : Held → Parts
parts_of p = (p.0, (unwrap_or p.1.0 [], (unwrap_or p.1.1.0 [], (unwrap_or p.1.1.1.0 [], (unwrap_or p.1.1.1.1.0 [], (unwrap_or p.1.1.1.1.1.0 [], (unwrap_or p.1.1.1.1.1.1.0 [], (unwrap_or p.1.1.1.1.1.1.1.0 [], (p.1.1.1.1.1.1.1.1.0, (unwrap_or p.1.1.1.1.1.1.1.1.1.0 [], (p.1.1.1.1.1.1.1.1.1.1.0, (unwrap_or p.1.1.1.1.1.1.1.1.1.1.1.0 [], unwrap_or p.1.1.1.1.1.1.1.1.1.1.1.1 []))))))))))))

module _ (profile : Profile) where
  -- their reader
  abbrev pub in_order : Reader HeldInOrder
  in_order =
      then_at (section_at 1 (whole (vector_at (func_type_at profile)))) (
      then_at (section_at 2 (whole (vector_at (import_at profile)))) (
      then_at (section_at 3 (whole (vector_at u32_at))) (
      then_at (section_at 4 (whole (vector_at table_at))) (
      then_at (section_at 5 (whole (vector_at limits_at))) (
      then_at (section_at 6 (whole (vector_at (global_at profile)))) (
      then_at (section_at 7 (whole (vector_at export_at))) (
      then_at (section_at 8 (whole u32_at)) (
      then_at (section_at 9 (whole (vector_at (elements_at profile)))) (
      then_at (section_at 12 (whole u32_at)) (
      then_at (section_at 10 (whole (vector_at (body_at profile))))
      (section_at 11 (whole (vector_at (data_at profile))))))))))))))

  -- the reader of all sections
  abbrev pub held_at : Reader Held
  held_at = then_at customs_at in_order

  -- the parts are what the sections hold
  parts_are : Sees parts_of held_at (parts_at profile)
  unfolding parts_at storage_parts_at link_parts_at start_parts_at code_parts_at
  parts_are =
      both (kept customs_at) (
      both (list 1 (func_type_at profile)) (
      both (list 2 (import_at profile)) (
      both (list 3 u32_at) (
      both (list 4 table_at) (
      both (list 5 limits_at) (
      both (list 6 (global_at profile)) (
      both (list 7 export_at) (
      both (kept (section_at 8 (whole u32_at))) (
      both (list 9 (elements_at profile)) (
      both (kept (section_at 12 (whole u32_at))) (
      both (list 10 (body_at profile))
      (list 11 (data_at profile)))))))))))))

  -- where the parts are read, their module is
  pub parts_read : (bytes rest : List ℕ) (q : Parts) → parts_at profile bytes ≡ Some (q, rest) → map_at module_and_count (sections_at profile) bytes ≡ Some (decoded_of q, rest)
  unfolding sections_at module_of
  parts_read bytes rest q e = by_held (held_at bytes) (sym (parts_are.at bytes) ∙ e) where
    by_held : (o : Option (Held × List ℕ)) → seen parts_of o ≡ Some (q, rest) → seen module_and_count (seen sections_of o) ≡ Some (decoded_of q, rest)
    by_held None e = absurd cc
    by_held (Some h) e = ap (λ (p : Parts × List ℕ). Some (decoded_of p.0, p.1)) (some_is (parts_of h.0, h.1) (q, rest) e)

  -- where the parts can't be read, no module can
  pub parts_refused : (bytes : List ℕ) → parts_at profile bytes ≡ None → map_at module_and_count (sections_at profile) bytes ≡ None
  unfolding sections_at
  parts_refused bytes e = by_held (held_at bytes) (sym (parts_are.at bytes) ∙ e) where
    by_held : (o : Option (Held × List ℕ)) → seen parts_of o ≡ None → seen module_and_count (seen sections_of o) ≡ None
    by_held None e = refl
    by_held (Some h) e = absurd cc
