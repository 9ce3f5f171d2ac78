-- What is spelled without floats is spelled so where they are taken.
use Rattle.std.proofs.Common.{◌≡◌, ℕ, List, [], ◌∷◌, Some, None, refl, subst, sym, arith}
use Rattle.wasm_syntax.specs.declared.profile.Profile.TheVariants.{Integers, Floats}
use Rattle.wasm_syntax.specs.declared.instruction.ValueType.{ValueType}
use Rattle.wasm_syntax.specs.declared.instruction.ValueType.TheVariants.{I32, I64, F32, F64}
use Rattle.wasm_syntax.specs.declared.instruction.BlockType.{BlockType}
use Rattle.wasm_syntax.specs.declared.instruction.BlockType.TheVariants.{Empty, Value}
use Rattle.wasm_syntax.specs.declared.instruction.Instruction.{Instruction}
use Rattle.wasm_syntax.specs.declared.instruction.Instruction.TheVariants as op
use Rattle.wasm_syntax.specs.declared.module.FuncType.{FuncType}
use Rattle.wasm_syntax.specs.declared.module.GlobalType.{GlobalType}
use Rattle.wasm_syntax.specs.declared.module.ImportKind.{ImportKind}
use Rattle.wasm_syntax.specs.declared.module.ImportKind.TheVariants as imported
use Rattle.wasm_syntax.specs.declared.module.Import.{Import}
use Rattle.wasm_syntax.specs.declared.module.Locals.{Locals}
use Rattle.wasm_syntax.specs.declared.module.Body.{Body}
use Rattle.wasm_syntax.specs.declared.module.Module.{Module}
use Rattle.wasm_syntax.specs.Grammar.{Then, Each, U32, Vector, Sized}
use Rattle.wasm_syntax.specs.Profile.{TakesType}
use Rattle.wasm_syntax.specs.Types.{SpellsValueType, SpellsBlockType, SpellsFuncType, SpellsGlobalType}
use Rattle.wasm_syntax.specs.Nested.{Instructions, done, plain, block, loop, if_then, if_else, invoke}
use Rattle.wasm_syntax.specs.Instructions.{SpellsOnlyTable, SpellsImmediates, SpellsInstruction, SpellsUpTo, SpellsExpression}
use Rattle.wasm_syntax.specs.Sections.{Section, SpellsImportKind, SpellsImport, SpellsGlobal, SpellsElements, SpellsLocals, BodyContent, SpellsData}
use Rattle.wasm_syntax.specs.Module.{Sections, SpellsSections, SpellsParts, Spells, SpellsWith}

-- ---- what is put together

-- each spelling of the one is one of the other
abbrev Widens : {X : Type 0} → (List ℕ → X → Type 0) → (List ℕ → X → Type 0) → Type 0
Widens {X} A B = (text : List ℕ) (x : X) → A text x → B text x

then_widens : {X Y : Type 0} {A A' : List ℕ → X → Type 0} {B B' : List ℕ → Y → Type 0} → Widens A A' → Widens B B' → Widens (Then A B) (Then A' B')
then_widens a b text x h = (h.0, h.1, a h.0 x.0 h.2, b h.1 x.1 h.3, h.4)

each_widens : {X : Type 0} {A A' : List ℕ → X → Type 0} → Widens A A' → (text : List ℕ) (xs : List X) → Each A text xs → Each A' text xs
each_widens a text [] h = h
each_widens a text (x ∷ xs) h = (h.0, h.1, a h.0 x h.2, each_widens a h.1 xs h.3, h.4)

vector_widens : {X : Type 0} {A A' : List ℕ → X → Type 0} → Widens A A' → Widens (Vector A) (Vector A')
vector_widens a text xs h = (h.0, h.1, h.2, each_widens a h.1 xs h.3, h.4)

sized_widens : {X : Type 0} {A A' : List ℕ → X → Type 0} → Widens A A' → Widens (Sized A) (Sized A')
sized_widens a text x h = (h.0, h.1, h.2, a h.1 x h.3, h.4)

section_widens : {X : Type 0} {A A' : List ℕ → X → Type 0} (id : ℕ) → Widens A A' → Widens (Section id A) (Section id A')
section_widens id a text None h = h
section_widens id a text (Some x) h = (h.0, h.1, (h.2.0, h.2.1, h.2.2, sized_widens a h.2.1 x h.2.3, h.2.4), h.3, h.4)

-- ---- types

apart : Integers ≡ Floats → ⊥
apart e = cc

type_widens : (t : ValueType) → TakesType Integers t → TakesType Floats t
type_widens I32 h = tt
type_widens I64 h = tt
type_widens F32 h = absurd (apart h)
type_widens F64 h = absurd (apart h)

value_type_widens : Widens (SpellsValueType Integers) (SpellsValueType Floats)
value_type_widens text I32 h = h
value_type_widens text I64 h = h
value_type_widens text F32 h = absurd (apart h.0)
value_type_widens text F64 h = absurd (apart h.0)

block_type_widens : Widens (SpellsBlockType Integers) (SpellsBlockType Floats)
block_type_widens text Empty h = h
block_type_widens text (Value t) h = value_type_widens text t h

func_type_widens : Widens (SpellsFuncType Integers) (SpellsFuncType Floats)
func_type_widens text t h =
    (h.0, h.1, h.2, then_widens (vector_widens value_type_widens) (vector_widens value_type_widens) h.1 (t.params, t.results) h.3, h.4)

global_type_widens : Widens (SpellsGlobalType Integers) (SpellsGlobalType Floats)
global_type_widens text g h = (h.0, h.1, value_type_widens h.0 g.value_type h.2, h.3, h.4)

-- ---- instructions

-- the byte 00 is a number
only_table_widens : Widens (SpellsOnlyTable Integers) (SpellsOnlyTable Floats)
only_table_widens text x h = subst (λ (t : List ℕ). U32 t 0) (sym h) (omega arith, (omega arith, refl))

immediates_widen : (i : Instruction) (text : List ℕ) → SpellsImmediates Integers text i → SpellsImmediates Floats text i
immediates_widen (op.Block t) text h = block_type_widens text t h
immediates_widen (op.Loop t) text h = block_type_widens text t h
immediates_widen (op.If t) text h = block_type_widens text t h
immediates_widen (op.CallIndirect x) text h = (h.0, h.1, h.2, only_table_widens h.1 tt h.3, h.4)
immediates_widen (op.Load o m) text h = (type_widens _ h.0, h.1)
immediates_widen (op.Store o m) text h = (type_widens _ h.0, h.1)
immediates_widen (op.F32Const n) text h = absurd (apart h.0)
immediates_widen (op.F64Const n) text h = absurd (apart h.0)
immediates_widen (op.Float o) text h = absurd (apart h.0)
immediates_widen i text h = h

instruction_widens : Widens (SpellsInstruction Integers) (SpellsInstruction Floats)
instruction_widens text i h = (h.0, immediates_widen i h.0 h.1, h.2)

up_to_widens : (code : Instructions) (last : ℕ) (text : List ℕ) → SpellsUpTo Integers last text code → SpellsUpTo Floats last text code
up_to_widens done last text h = h
up_to_widens (plain i rest) last text h = (h.0, h.1, h.2, instruction_widens h.0 i h.3, up_to_widens rest last h.1 h.4, h.5)
up_to_widens (block t body rest) last text h =
    (h.0, h.1, h.2, instruction_widens h.0 (op.Block t) h.3, up_to_widens body 0x0B h.1 h.4, up_to_widens rest last h.2 h.5, h.6)
up_to_widens (loop t body rest) last text h =
    (h.0, h.1, h.2, instruction_widens h.0 (op.Loop t) h.3, up_to_widens body 0x0B h.1 h.4, up_to_widens rest last h.2 h.5, h.6)
up_to_widens (if_then t body rest) last text h =
    (h.0, h.1, h.2, instruction_widens h.0 (op.If t) h.3, up_to_widens body 0x0B h.1 h.4, up_to_widens rest last h.2 h.5, h.6)
up_to_widens (if_else t body other rest) last text h =
    (h.0, h.1, h.2, h.3, instruction_widens h.0 (op.If t) h.4, up_to_widens body 0x05 h.1 h.5, up_to_widens other 0x0B h.2 h.6, up_to_widens rest last h.3 h.7, h.8)
up_to_widens (invoke x rest) last text h = h

expression_widens : Widens (SpellsExpression Integers) (SpellsExpression Floats)
expression_widens text flat h = (h.0, up_to_widens h.0 0x0B text h.1, h.2)

-- ---- parts of sections

import_kind_widens : Widens (SpellsImportKind Integers) (SpellsImportKind Floats)
import_kind_widens text (imported.Function x) h = h
import_kind_widens text (imported.Table l) h = h
import_kind_widens text (imported.Memory l) h = h
import_kind_widens text (imported.Global g) h = (h.0, h.1, h.2, global_type_widens h.1 g h.3, h.4)

import_widens : Widens (SpellsImport Integers) (SpellsImport Floats)
import_widens text i h = (h.0, h.1, h.2, (h.3.0, h.3.1, h.3.2, import_kind_widens h.3.1 i.kind h.3.3, h.3.4), h.4)

global_widens : Widens (SpellsGlobal Integers) (SpellsGlobal Floats)
global_widens text g h = (h.0, h.1, global_type_widens h.0 g.global_type h.2, expression_widens h.1 g.init h.3, h.4)

elements_widen : Widens (SpellsElements Integers) (SpellsElements Floats)
elements_widen text e h = (h.0, h.1, h.2, (h.3.0, h.3.1, expression_widens h.3.0 e.offset h.3.2, h.3.3, h.3.4), h.4)

locals_widen : Widens (SpellsLocals Integers) (SpellsLocals Floats)
locals_widen text l h = (h.0, h.1, h.2, value_type_widens h.1 l.value_type h.3, h.4)

body_widens : Widens (BodyContent Integers) (BodyContent Floats)
body_widens text b h = (h.0, then_widens (vector_widens locals_widen) expression_widens text (b.locals, b.code) h.1)

data_widens : Widens (SpellsData Integers) (SpellsData Floats)
data_widens text d h = (h.0, h.1, h.2, (h.3.0, h.3.1, expression_widens h.3.0 d.offset h.3.2, h.3.3, h.3.4), h.4)

-- ---- the module

sections_widen : (text : List ℕ) (s : Sections) → SpellsSections Integers text s → SpellsSections Floats text s
sections_widen text s h = record {
  customs = h.customs;
  types = h.types;
  imports = h.imports;
  functions = h.functions;
  tables = h.tables;
  memories = h.memories;
  globals = h.globals;
  exports = h.exports;
  start = h.start;
  element_segments = h.element_segments;
  data_count = h.data_count;
  bodies = h.bodies;
  data_segments = h.data_segments;
  customs_are = h.customs_are;
  types_are = section_widens 1 (vector_widens func_type_widens) h.types s.types h.types_are;
  imports_are = section_widens 2 (vector_widens import_widens) h.imports s.imports h.imports_are;
  functions_are = h.functions_are;
  tables_are = h.tables_are;
  memories_are = h.memories_are;
  globals_are = section_widens 6 (vector_widens global_widens) h.globals s.globals h.globals_are;
  exports_are = h.exports_are;
  start_is = h.start_is;
  element_segments_are = section_widens 9 (vector_widens elements_widen) h.element_segments s.element_segments h.element_segments_are;
  data_count_is = h.data_count_is;
  bodies_are = section_widens 10 (vector_widens (sized_widens body_widens)) h.bodies s.bodies h.bodies_are;
  data_segments_are = section_widens 11 (vector_widens data_widens) h.data_segments s.data_segments h.data_segments_are;
  text_is = h.text_is;
}

pub module_widens : (bytes : List ℕ) (m : Module) → Spells bytes m → SpellsWith Floats bytes m
module_widens bytes m h =
    let parts = h.1 in
    let made : SpellsParts Floats bytes h.0 = record { text = parts.text; short = parts.short; preamble = parts.preamble; sections = sections_widen parts.text h.0 parts.sections; whole = parts.whole } in
    (h.0, made, h.2)
