-- What is spelled without floats has none.
use Rattle.std.proofs.Common.{◌≡◌, ℕ, List, [], ◌∷◌, ◌++◌, Option, Some, None, unwrap_or, sym, subst}
use Rattle.std.specs.List.{AllByRecursion}
use Rattle.wasm_syntax.specs.declared.profile.Profile.TheVariants.{Integers, Floats}
use Rattle.wasm_syntax.specs.declared.instruction.ValueType.{ValueType}
use Rattle.wasm_syntax.specs.declared.instruction.ValueType.TheVariants.{I32, I64, F32, F64}
use Rattle.wasm_syntax.specs.declared.instruction.BlockType.{BlockType}
use Rattle.wasm_syntax.specs.declared.instruction.BlockType.TheVariants.{Empty, Value}
use Rattle.wasm_syntax.specs.declared.instruction.Instruction.{Instruction}
use Rattle.wasm_syntax.specs.declared.instruction.Instruction.TheVariants as op
use Rattle.wasm_syntax.specs.declared.module.FuncType.{FuncType}
use Rattle.wasm_syntax.specs.declared.module.ImportKind.{ImportKind}
use Rattle.wasm_syntax.specs.declared.module.ImportKind.TheVariants as imported
use Rattle.wasm_syntax.specs.declared.module.Import.{Import}
use Rattle.wasm_syntax.specs.declared.module.GlobalEntry.{GlobalEntry}
use Rattle.wasm_syntax.specs.declared.module.ElementSegment.{ElementSegment}
use Rattle.wasm_syntax.specs.declared.module.Locals.{Locals}
use Rattle.wasm_syntax.specs.declared.module.Body.{Body}
use Rattle.wasm_syntax.specs.declared.module.DataSegment.{DataSegment}
use Rattle.wasm_syntax.specs.declared.module.Module.{Module}
use Rattle.wasm_syntax.specs.Grammar.{Each, Vector, Sized}
use Rattle.wasm_syntax.specs.Profile.{TakesType}
use Rattle.wasm_syntax.specs.Types.{SpellsValueType, SpellsBlockType, SpellsFuncType}
use Rattle.wasm_syntax.specs.Nested.{Instructions, done, plain, block, loop, if_then, if_else, invoke, flatten}
use Rattle.wasm_syntax.specs.Instructions.{SpellsInstruction, SpellsUpTo, SpellsExpression}
use Rattle.wasm_syntax.specs.Sections.{Section, SpellsImportKind, SpellsImport, SpellsGlobal, SpellsElements, SpellsLocals, BodyContent, SpellsData}
use Rattle.wasm_syntax.specs.Module.{Sections, SpellsSections, Spells, module_of}
use Rattle.wasm_syntax.specs.Floatless.{IsInteger, LeavesIntegers, IsFloatless, AreFloatless, HasIntegers, ImportsIntegers, IsFloatlessGlobal, IsFloatlessBody, HasNoFloat}

-- ---- what is put together

each_has : {X : Type 0} (A : List ℕ → X → Type 0) (P : X → Type 0) → ((text : List ℕ) (x : X) → A text x → P x) → (text : List ℕ) (xs : List X) → Each A text xs → AllByRecursion P xs
each_has A P has text [] h = tt
each_has A P has text (x ∷ xs) h = (has h.0 x h.2, each_has A P has h.1 xs h.3)

section_has : {X : Type 0} (id : ℕ) (A : List ℕ → X → Type 0) (P : X → Type 0) → ((text : List ℕ) (x : X) → A text x → P x) → (text : List ℕ) (o : Option (List X)) → Section id (Vector A) text o → AllByRecursion P (unwrap_or o [])
section_has id A P has text None h = tt
section_has id A P has text (Some xs) h = let v = h.2.3.3 in each_has A P has v.1 xs v.3

both_have : {X : Type 0} (P : X → Type 0) (xs ys : List X) → AllByRecursion P xs → AllByRecursion P ys → AllByRecursion P (xs ++ ys)
both_have P [] ys h k = k
both_have P (x ∷ xs) ys h k = (h.0, both_have P xs ys h.1 k)

-- ---- types

apart : Integers ≡ Floats → ⊥
apart e = cc

taken_integer : (t : ValueType) → TakesType Integers t → IsInteger t
taken_integer I32 h = tt
taken_integer I64 h = tt
taken_integer F32 h = apart h
taken_integer F64 h = apart h

value_type_is : (text : List ℕ) (t : ValueType) → SpellsValueType Integers text t → IsInteger t
value_type_is text I32 h = tt
value_type_is text I64 h = tt
value_type_is text F32 h = apart h.0
value_type_is text F64 h = apart h.0

block_type_is : (text : List ℕ) (t : BlockType) → SpellsBlockType Integers text t → LeavesIntegers t
block_type_is text Empty h = tt
block_type_is text (Value t) h = value_type_is text t h

func_type_is : (text : List ℕ) (t : FuncType) → SpellsFuncType Integers text t → HasIntegers t
func_type_is text t h =
    let p = h.3.2 in
    let r = h.3.3 in
    (each_has (SpellsValueType Integers) IsInteger value_type_is p.1 t.params p.3, each_has (SpellsValueType Integers) IsInteger value_type_is r.1 t.results r.3)

-- ---- instructions

instruction_is : (i : Instruction) (text : List ℕ) → SpellsInstruction Integers text i → IsFloatless i
instruction_is (op.Block t) text h = block_type_is h.0 t h.1
instruction_is (op.Loop t) text h = block_type_is h.0 t h.1
instruction_is (op.If t) text h = block_type_is h.0 t h.1
instruction_is (op.Load o m) text h = taken_integer _ h.1.0
instruction_is (op.Store o m) text h = taken_integer _ h.1.0
instruction_is (op.F32Const n) text h = apart h.1.0
instruction_is (op.F64Const n) text h = apart h.1.0
instruction_is (op.Float o) text h = apart h.1.0
instruction_is i text h = tt

code_is : (code : Instructions) (last : ℕ) (end : Instruction) (text : List ℕ) → IsFloatless end → SpellsUpTo Integers last text code → AreFloatless (flatten end code)
code_is done last end text e h = (e, tt)
code_is (plain i rest) last end text e h = (instruction_is i h.0 h.3, code_is rest last end h.1 e h.4)
code_is (block t body rest) last end text e h =
    (instruction_is (op.Block t) h.0 h.3, both_have IsFloatless (flatten op.End body) (flatten end rest) (code_is body 0x0B op.End h.1 tt h.4) (code_is rest last end h.2 e h.5))
code_is (loop t body rest) last end text e h =
    (instruction_is (op.Loop t) h.0 h.3, both_have IsFloatless (flatten op.End body) (flatten end rest) (code_is body 0x0B op.End h.1 tt h.4) (code_is rest last end h.2 e h.5))
code_is (if_then t body rest) last end text e h =
    (instruction_is (op.If t) h.0 h.3, both_have IsFloatless (flatten op.End body) (flatten end rest) (code_is body 0x0B op.End h.1 tt h.4) (code_is rest last end h.2 e h.5))
code_is (if_else t body other rest) last end text e h = (
  instruction_is (op.If t) h.0 h.4,
  both_have IsFloatless (flatten op.Else body ++ flatten op.End other) (flatten end rest)
      (both_have IsFloatless (flatten op.Else body) (flatten op.End other) (code_is body 0x05 op.Else h.1 tt h.5) (code_is other 0x0B op.End h.2 tt h.6))
      (code_is rest last end h.3 e h.7),
)
code_is (invoke x rest) last end text e h = absurd h

expression_is : (text : List ℕ) (flat : List Instruction) → SpellsExpression Integers text flat → AreFloatless flat
expression_is text flat h = subst AreFloatless h.2 (code_is h.0 0x0B op.End text tt h.1)

-- ---- parts of sections

import_is : (text : List ℕ) (i : Import) → SpellsImport Integers text i → ImportsIntegers i.kind
import_is text i h = by_kind i.kind h.3.1 h.3.3 where
  by_kind : (k : ImportKind) (text : List ℕ) → SpellsImportKind Integers text k → ImportsIntegers k
  by_kind (imported.Function x) text h = tt
  by_kind (imported.Table l) text h = tt
  by_kind (imported.Memory l) text h = tt
  by_kind (imported.Global g) text h = value_type_is h.3.0 g.value_type h.3.2

global_is : (text : List ℕ) (g : GlobalEntry) → SpellsGlobal Integers text g → IsFloatlessGlobal g
global_is text g h = (value_type_is h.2.0 g.global_type.value_type h.2.2, expression_is h.1 g.init h.3)

elements_are : (text : List ℕ) (e : ElementSegment) → SpellsElements Integers text e → AreFloatless e.offset
elements_are text e h = expression_is h.3.0 e.offset h.3.2

locals_are : (text : List ℕ) (l : Locals) → SpellsLocals Integers text l → IsInteger l.value_type
locals_are text l h = value_type_is h.1 l.value_type h.3

body_is : (text : List ℕ) (b : Body) → Sized (BodyContent Integers) text b → IsFloatlessBody b
body_is text b h =
    let c = h.3.1 in
    (each_has (SpellsLocals Integers) (λ l. IsInteger l.value_type) locals_are c.2.1 b.locals c.2.3, expression_is c.1 b.code c.3)

data_is : (text : List ℕ) (d : DataSegment) → SpellsData Integers text d → AreFloatless d.offset
data_is text d h = expression_is h.3.0 d.offset h.3.2

-- ---- the module

sections_are : (text : List ℕ) (s : Sections) → SpellsSections Integers text s → HasNoFloat (module_of s)
unfolding module_of
sections_are text s h = record {
  types = section_has 1 (SpellsFuncType Integers) HasIntegers func_type_is h.types s.types h.types_are;
  imports = section_has 2 (SpellsImport Integers) (λ i. ImportsIntegers i.kind) import_is h.imports s.imports h.imports_are;
  globals = section_has 6 (SpellsGlobal Integers) IsFloatlessGlobal global_is h.globals s.globals h.globals_are;
  element_segments = section_has 9 (SpellsElements Integers) (λ e. AreFloatless e.offset) elements_are h.element_segments s.element_segments h.element_segments_are;
  bodies = section_has 10 (Sized (BodyContent Integers)) IsFloatlessBody body_is h.bodies s.bodies h.bodies_are;
  data_segments = section_has 11 (SpellsData Integers) (λ d. AreFloatless d.offset) data_is h.data_segments s.data_segments h.data_segments_are;
}

pub module_floatless : (bytes : List ℕ) (m : Module) → Spells bytes m → HasNoFloat m
module_floatless bytes m h = subst HasNoFloat (sym h.2) (sections_are h.1.text h.0 h.1.sections)
