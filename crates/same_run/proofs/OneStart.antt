-- A valid module has one first configuration.
use Rattle.std.proofs.Common.{◌≡◌, ◌≢◌, ℕ, zero, suc, ◌*◌, ◌<◌, List, [], ◌∷◌, ◌++◌, length, replicate, map, None, slice_get, codes, refl, sym, ◌∙◌, ap, arith, append_assoc, append-nil}
use Rattle.std.specs.Prelude.{get_or}
use Rattle.std.specs.List.{AllByRecursion}
use Rattle.std.specs.Option.{option_to_list}
use Rattle.std.proofs.lemmas.Option.{same_Some}
use Rattle.wasm_syntax.specs.declared.instruction.Instruction.{Instruction}
use Rattle.wasm_syntax.specs.declared.instruction.Instruction.TheVariants as op
use Rattle.wasm_syntax.specs.declared.instruction.BlockType.{BlockType}
use Rattle.wasm_syntax.specs.declared.module.FuncType.{FuncType}
use Rattle.wasm_syntax.specs.declared.module.Import.{Import}
use Rattle.wasm_syntax.specs.declared.module.ImportKind.TheVariants as imports
use Rattle.wasm_syntax.specs.declared.module.Export.{Export}
use Rattle.wasm_syntax.specs.declared.module.ExportKind.TheVariants as exports
use Rattle.wasm_syntax.specs.declared.module.Body.{Body}
use Rattle.wasm_syntax.specs.declared.module.GlobalEntry.{GlobalEntry}
use Rattle.wasm_syntax.specs.declared.module.Module.{Module}
use Rattle.wasm_syntax.specs.Nested.{Instructions, done, plain, block, loop, if_then, if_else, invoke, IsPlain, flatten, IsWritten, Nests}
use Rattle.wasm_valid.specs.Spaces.{local_types}
use Rattle.wasm_valid.specs.Validity.{AreApart, IsValid}
use Rattle.wasm_store.specs.Values.{Val}
use Rattle.wasm_store.specs.Instances.{Callee, imported, own, Instance, Store}
use Rattle.wasm_store.specs.Instantiation.{LinksOf, AreLinked, AreOwn, IsStart, AreFirst, minimum, with_elements, with_data, Instantiates}

-- ---- instructions nest in one way

-- what ends a list of instructions: no plain instruction does
abbrev Ends : Instruction → Type 0
Ends op.End = Unit {0}
Ends op.Else = Unit {0}
Ends other = ⊥

-- which kind of instruction begins a list
abbrev kind : Instruction → ℕ
kind (op.Block t) = 1
kind (op.Loop t) = 2
kind (op.If t) = 3
kind op.Else = 4
kind op.End = 4
kind other = 0

plain_kind : (i : Instruction) → IsPlain i → kind i ≡ 0
plain_kind (op.Block t) p = absurd p
plain_kind (op.Loop t) p = absurd p
plain_kind (op.If t) p = absurd p
plain_kind op.Else p = absurd p
plain_kind op.End p = absurd p
plain_kind other p = refl

ends_kind : (i : Instruction) → Ends i → kind i ≡ 4
ends_kind op.End e = refl
ends_kind op.Else e = refl
ends_kind other e = absurd e

tails : {X : Type 0} (x y : X) (xs ys : List X) → x ∷ xs ≡ y ∷ ys → xs ≡ ys
tails x y xs ys same = cc

heads_of : {X : Type 0} (x y : X) (xs ys : List X) → x ∷ xs ≡ y ∷ ys → x ≡ y
heads_of x y xs ys same = cc

abbrev shape : Instructions → ℕ
shape done = 4
shape (plain i rest) = 0
shape (block t body rest) = 1
shape (loop t body rest) = 2
shape (if_then t body rest) = 3
shape (if_else t body other rest) = 3
shape (invoke x rest) = 5

-- the shape is told by what is first
shape_told : (c : Instructions) (l : Instruction) (r : List Instruction) → IsWritten c → Ends l → (i : Instruction) × (is : List Instruction) × (flatten l c ++ r ≡ i ∷ is) × (kind i ≡ shape c)
shape_told done l r w e = (l, r, refl, ends_kind l e)
shape_told (plain i rest) l r w e = (i, flatten l rest ++ r, refl, plain_kind i w.0)
shape_told (block t body rest) l r w e = (op.Block t, (flatten op.End body ++ flatten l rest) ++ r, refl, refl)
shape_told (loop t body rest) l r w e = (op.Loop t, (flatten op.End body ++ flatten l rest) ++ r, refl, refl)
shape_told (if_then t body rest) l r w e = (op.If t, (flatten op.End body ++ flatten l rest) ++ r, refl, refl)
shape_told (if_else t body other rest) l r w e = (op.If t, (flatten op.Else body ++ flatten op.End other ++ flatten l rest) ++ r, refl, refl)
shape_told (invoke x rest) l r w e = absurd w

same_shape : (c d : Instructions) (l m : Instruction) (r s : List Instruction) → IsWritten c → IsWritten d → Ends l → Ends m → flatten l c ++ r ≡ flatten m d ++ s → shape c ≡ shape d
same_shape c d l m r s w v e f same =
    let (i, is, is_c, kind_c) = shape_told c l r w e in
    let (j, js, is_d, kind_d) = shape_told d m s v f in
    sym kind_c ∙ (ap kind (heads_of i j is js (sym is_c ∙ (same ∙ is_d))) ∙ kind_d)

-- one part and then another, on both sides
parts_of : (a b c x y z : List Instruction) → (a ++ b) ++ c ≡ (x ++ y) ++ z → a ++ (b ++ c) ≡ x ++ (y ++ z)
parts_of a b c x y z same = sym (append_assoc a b c) ∙ (same ∙ append_assoc x y z)

-- the same of three parts
three_parts : (a b c z : List Instruction) → ((a ++ b) ++ c) ++ z ≡ a ++ ((b ++ c) ++ z)
three_parts a b c z = ap (λ (is : List Instruction). is ++ z) (append_assoc a b c) ∙ append_assoc a (b ++ c) z

abbrev SameLists : Instructions → Instructions → Instruction → Instruction → List Instruction → List Instruction → Type 0
SameLists c d l m r s = (c ≡ d) × (l ≡ m) × (r ≡ s)

one_nesting : (c d : Instructions) (l m : Instruction) (r s : List Instruction) → IsWritten c → IsWritten d → Ends l → Ends m → flatten l c ++ r ≡ flatten m d ++ s → SameLists c d l m r s
one_nesting done done l m r s w v e f same = (refl, heads_of l m r s same, tails l m r s same)
one_nesting (plain i c) (plain j d) l m r s w v e f same =
    let rest = one_nesting c d l m r s w.1 v.1 e f (tails i j _ _ same) in
    ((λ k. plain (heads_of i j _ _ same k) (rest.0 k)), rest.1, rest.2)
one_nesting (block t b c) (block u x d) l m r s w v e f same =
    let type : t ≡ u = block_type t u (heads_of _ _ _ _ same) in
    let body = one_nesting b x op.End op.End (flatten l c ++ r) (flatten m d ++ s) w.0 v.0 tt tt (parts_of (flatten op.End b) (flatten l c) r (flatten op.End x) (flatten m d) s (tails _ _ _ _ same)) in
    let rest = one_nesting c d l m r s w.1 v.1 e f body.2 in
    ((λ k. block (type k) (body.0 k) (rest.0 k)), rest.1, rest.2)
  where
    block_type : (t u : BlockType) → op.Block t ≡ op.Block u → t ≡ u
    block_type t u is = cc
one_nesting (loop t b c) (loop u x d) l m r s w v e f same =
    let type : t ≡ u = loop_type t u (heads_of _ _ _ _ same) in
    let body = one_nesting b x op.End op.End (flatten l c ++ r) (flatten m d ++ s) w.0 v.0 tt tt (parts_of (flatten op.End b) (flatten l c) r (flatten op.End x) (flatten m d) s (tails _ _ _ _ same)) in
    let rest = one_nesting c d l m r s w.1 v.1 e f body.2 in
    ((λ k. loop (type k) (body.0 k) (rest.0 k)), rest.1, rest.2)
  where
    loop_type : (t u : BlockType) → op.Loop t ≡ op.Loop u → t ≡ u
    loop_type t u is = cc
one_nesting (if_then t b c) (if_then u x d) l m r s w v e f same =
    let type : t ≡ u = if_type t u (heads_of _ _ _ _ same) in
    let body = one_nesting b x op.End op.End (flatten l c ++ r) (flatten m d ++ s) w.0 v.0 tt tt (parts_of (flatten op.End b) (flatten l c) r (flatten op.End x) (flatten m d) s (tails _ _ _ _ same)) in
    let rest = one_nesting c d l m r s w.1 v.1 e f body.2 in
    ((λ k. if_then (type k) (body.0 k) (rest.0 k)), rest.1, rest.2)
  where
    if_type : (t u : BlockType) → op.If t ≡ op.If u → t ≡ u
    if_type t u is = cc
one_nesting (if_else t b o c) (if_else u x p d) l m r s w v e f same =
    let type : t ≡ u = if_type t u (heads_of _ _ _ _ same) in
    let body = one_nesting b x op.Else op.Else ((flatten op.End o ++ flatten l c) ++ r) ((flatten op.End p ++ flatten m d) ++ s) w.0 v.0 tt tt
    (sym (three_parts (flatten op.Else b) (flatten op.End o) (flatten l c) r) ∙ (tails _ _ _ _ same ∙ three_parts (flatten op.Else x) (flatten op.End p) (flatten m d) s)) in
    let other = one_nesting o p op.End op.End (flatten l c ++ r) (flatten m d ++ s) w.1 v.1 tt tt (parts_of (flatten op.End o) (flatten l c) r (flatten op.End p) (flatten m d) s body.2) in
    let rest = one_nesting c d l m r s w.2 v.2 e f other.2 in
    ((λ k. if_else (type k) (body.0 k) (other.0 k) (rest.0 k)), rest.1, rest.2)
  where
    if_type : (t u : BlockType) → op.If t ≡ op.If u → t ≡ u
    if_type t u is = cc
one_nesting (if_then t b c) (if_else u x p d) l m r s w v e f same =
    let body = one_nesting b x op.End op.Else (flatten l c ++ r) ((flatten op.End p ++ flatten m d) ++ s) w.0 v.0 tt tt
    (sym (append_assoc (flatten op.End b) (flatten l c) r) ∙ (tails _ _ _ _ same ∙ three_parts (flatten op.Else x) (flatten op.End p) (flatten m d) s)) in
    absurd (apart body.1)
  where
    apart : op.End ≡ op.Else → ⊥
    apart is = cc
one_nesting (if_else t b o c) (if_then u x d) l m r s w v e f same =
    let body = one_nesting b x op.Else op.End ((flatten op.End o ++ flatten l c) ++ r) (flatten m d ++ s) w.0 v.0 tt tt
    (sym (three_parts (flatten op.Else b) (flatten op.End o) (flatten l c) r) ∙ (tails _ _ _ _ same ∙ append_assoc (flatten op.End x) (flatten m d) s)) in
    absurd (apart body.1)
  where
    apart : op.Else ≡ op.End → ⊥
    apart is = cc
one_nesting (invoke x c) d l m r s w v e f same = absurd w
one_nesting c (invoke y d) l m r s w v e f same = absurd v
one_nesting c d l m r s w v e f same = absurd (omega (arith, same_shape c d l m r s w v e f same))

-- ---- functions

nested_once : (flat : List Instruction) (c d : Instructions) → Nests flat c → Nests flat d → c ≡ d
nested_once flat c d n p = (one_nesting c d op.End op.End [] [] n.0 p.0 tt tt (append-nil (flatten op.End c) ∙ (n.1 ∙ (sym p.1 ∙ sym (append-nil (flatten op.End d)))))).0

linked_once : (links : LinksOf) (types : List FuncType) (is : List Import) (cs ds : List Callee) → AreLinked links types is cs → AreLinked links types is ds → cs ≡ ds
linked_once links types [] [] [] l m = refl
linked_once links types [] [] (d ∷ ds) l m = absurd m
linked_once links types [] (c ∷ cs) ds l m = absurd l
linked_once links types (i ∷ is) [] ds l m = absurd l
linked_once links types (i ∷ is) (c ∷ cs) [] l m = absurd m
linked_once links types (i ∷ is) (c ∷ cs) (d ∷ ds) (l, ls) (m, ms) = λ k. callee k ∷ linked_once links types is cs ds ls ms k
  where
    function_is : (x y : ℕ) → imports.Function x ≡ imports.Function y → x ≡ y
    function_is x y is = cc

    index : l.index ≡ m.index
    index = function_is l.index m.index (sym l.kind ∙ m.kind)

    type : l.func_type ≡ m.func_type
    type = same_Some l.func_type m.func_type (sym l.type_is ∙ (ap (slice_get types) index ∙ m.type_is))

    call : l.call ≡ m.call
    call = same_Some l.call m.call (sym l.links_to ∙ (ap (links i.module_name i.name) type ∙ m.links_to))

    callee : c ≡ d
    callee = l.callee ∙ ((λ k. imported (type k) (call k)) ∙ sym m.callee)

pub own_once : (types : List FuncType) (xs : List ℕ) (bs : List Body) (cs ds : List Callee) → AreOwn types xs bs cs → AreOwn types xs bs ds → cs ≡ ds
own_once types [] [] [] [] o p = refl
own_once types (x ∷ xs) (b ∷ bs) (c ∷ cs) (d ∷ ds) (o, os) (p, ps) = λ k. callee k ∷ own_once types xs bs cs ds os ps k
  where
    type : o.func_type ≡ p.func_type
    type = same_Some o.func_type p.func_type (sym o.type_is ∙ p.type_is)

    code : o.code ≡ p.code
    code = nested_once b.code o.code p.code o.nests p.nests

    callee : c ≡ d
    callee = o.callee ∙ ((λ k. own (type k) (record { locals = local_types b.locals; code = code k })) ∙ sym p.callee)
own_once types [] [] [] (d ∷ ds) o p = absurd p
own_once types [] [] (c ∷ cs) ds o p = absurd o
own_once types [] (b ∷ bs) cs ds o p = absurd o
own_once types (x ∷ xs) [] cs ds o p = absurd o
own_once types (x ∷ xs) (b ∷ bs) [] ds o p = absurd o
own_once types (x ∷ xs) (b ∷ bs) (c ∷ cs) [] o p = absurd p

-- ---- globals

pub globals_once : (gs : List GlobalEntry) (vs us : List Val) → AreFirst gs vs → AreFirst gs us → vs ≡ us
globals_once [] [] [] f g = refl
globals_once [] [] (u ∷ us) f g = absurd g
globals_once [] (v ∷ vs) us f g = absurd f
globals_once (e ∷ es) [] us f g = absurd f
globals_once (e ∷ es) (v ∷ vs) [] f g = absurd g
globals_once (e ∷ es) (v ∷ vs) (u ∷ us) (f, fs) (g, gs) = λ k. same_Some v u (sym f ∙ g) k ∷ globals_once es vs us fs gs k

-- ---- the export `_start`

-- of names that are apart no other is the first one
not_later : (n : List ℕ) (es : List Export) (k : ℕ) (d : Export) → AllByRecursion (λ (x : List ℕ). x ≢ n) (map (λ (e : Export). e.name) es) → k < length es → (get_or es k d).name ≡ n → ⊥
not_later n [] k d all low is = omega (arith, low)
not_later n (e ∷ es) zero d (first, rest) low is = first is
not_later n (e ∷ es) (suc k) d (first, rest) low is = not_later n es k d rest (omega (arith, low)) is

pub one_place : (es : List Export) → AreApart (map (λ (e : Export). e.name) es) → (a b : Export) → a.name ≡ b.name → (j k : ℕ) → j < length es → k < length es → get_or es j a ≡ a → get_or es k b ≡ b → a ≡ b
one_place [] apart a b same j k low below is also = absurd (omega (arith, low))
one_place (e ∷ es) apart a b same zero zero low below is also = sym is ∙ also
one_place (e ∷ es) apart a b same zero (suc k) low below is also =
    absurd (not_later e.name es k b apart.0 (omega (arith, below)) (ap (λ (e : Export). e.name) also ∙ (sym same ∙ ap (λ (e : Export). e.name) (sym is))))
one_place (e ∷ es) apart a b same (suc j) zero low below is also =
    absurd (not_later e.name es j a apart.0 (omega (arith, low)) (ap (λ (e : Export). e.name) is ∙ (same ∙ ap (λ (e : Export). e.name) (sym also))))
one_place (e ∷ es) apart a b same (suc j) (suc k) low below is also =
    one_place es apart.1 a b same j k (omega (arith, low)) (omega (arith, below)) is also

started_once : (m : Module) → IsValid m → (x y : ℕ) → IsStart m x → IsStart m y → x ≡ y
started_once m valid x y s t =
    let same = one_place m.exports valid.names_apart (record { name = codes "_start"; kind = exports.Function x }) (record { name = codes "_start"; kind = exports.Function y }) refl
    s.exported.0 t.exported.0 s.exported.1 t.exported.1 s.exported.2 t.exported.2 in
    function_is x y (ap (λ (e : Export). e.kind) same)
  where
    function_is : (x y : ℕ) → exports.Function x ≡ exports.Function y → x ≡ y
    function_is x y is = cc

-- ---- the whole

pub started_alike : (links : LinksOf) (pages : ℕ) (m : Module) (i j : Instance) (s t : Store) (xs ys : List ℕ) → IsValid m
    → Instantiates links pages m i s xs → Instantiates links pages m j t ys → (i ≡ j) × (s ≡ t) × (xs ≡ ys)
started_alike links pages m i j s t xs ys valid a b =
    let linked = linked_once links m.types m.imports a.linked b.linked a.are_linked b.are_linked in
    let owned = own_once m.types m.functions m.bodies a.owned b.owned a.are_own b.are_own in
    let main = started_once m valid a.main b.main a.is_start b.is_start in
    let globals = globals_once m.globals s.globals t.globals a.globals b.globals in
    let types : i.func_types ≡ j.func_types = a.func_types ∙ sym b.func_types in
    let callees : i.callees ≡ j.callees = a.callees ∙ ((λ k. linked k ++ owned k) ∙ sym b.callees) in
    let limit : i.page_limit ≡ j.page_limit = a.limit ∙ sym b.limit in
    let table : s.table ≡ t.table = a.table ∙ (ap (λ (gs : List Val). with_elements gs (replicate (minimum m.tables) None) m.element_segments) globals ∙ sym b.table) in
    let memory : s.memory ≡ t.memory = a.memory ∙ (ap (λ (gs : List Val). with_data gs (replicate (minimum m.memories * 65536) 0) m.data_segments) globals ∙ sym b.memory) in
    let used : s.used ≡ t.used = a.used ∙ sym b.used in (
      λ k. record { func_types = types k; callees = callees k; page_limit = limit k },
      λ k. record { memory = memory k; table = table k; globals = globals k; used = used k },
      a.entered ∙ (ap (λ (x : ℕ). option_to_list m.start ++ x ∷ []) main ∙ sym b.entered),
    )
