-- Where in a module's bytes functions stand, and what they are called. Sections are found by their ids and sizes, the
-- custom section `name` by its name too, so this speaks also of bytes that spell no module. Only the bytes up to the
-- end of the imports have to be a module, so that imported functions can be counted.
use Rattle.std.specs.Prelude.{◌≡◌, ℕ, zero, suc, ◌+◌, ◌-◌, ◌==◌, ◌&&◌, nat_le, nat_lt, Bool, false, List, [], ◌∷◌, ◌++◌, length, take, drop, Option, Some, None, if◌then◌else◌, codes, bytes_eq}
use Rattle.std.specs.List.{filter_map}
use Rattle.std.specs.Option.{option_map_or}
use Rattle.wasm_syntax.specs.declared.module.Body.{Body}
use Rattle.wasm_syntax.specs.declared.module.Module.{Module}
use Rattle.wasm_syntax.specs.Module.{SpellsWith}
use Rattle.wasm_syntax.specs.Reading.{◌>>=◌, next_at, u32_at, sized_at, raw_of}
use Rattle.wasm_valid.specs.Spaces.{kinds_of, imported_function}
use Rattle.wasm_syntax.specs.declared.profile.Profile.{Profile}
use Rattle.wasm_valid.specs.Offsets.{StandsBehind}
use Rattle.sandbox_inspect.specs.declared.sections.Wanted.{Wanted}
use Rattle.sandbox_inspect.specs.declared.sections.Wanted.TheVariants.{Code, AfterImports, Names, FunctionNames, Exports}

-- ---- sections (section 5.5.2), whatever they hold

-- a section among some bytes, which are `from` its id on: its content, and the bytes after it
pub record Section : Type 0 where
  pub from : List ℕ
  pub id : ℕ
  pub content : List ℕ
  pub rest : List ℕ

-- the one that the bytes begin with
abbrev pub section_of : List ℕ → Option Section
section_of bytes = next_at bytes >>= λ b. sized_at raw_of b.1 >>= λ s. Some (record { from = bytes; id = b.0; content = s.0; rest = s.1 })

-- the content of a custom section that has this name
abbrev pub is_named : List ℕ → List ℕ → Bool
is_named name content = option_map_or (λ n. bytes_eq n.0 name) (sized_at raw_of content) false

-- which sections are looked for; function names stand in a subsection of the custom section `name`
abbrev pub is_wanted : Wanted → Section → Bool
is_wanted Code s = s.id == 10
is_wanted AfterImports s = nat_lt 2 s.id
is_wanted Names s = s.id == 0 && is_named (codes "name") s.content
is_wanted FunctionNames s = s.id == 1
is_wanted Exports s = s.id == 7

-- the first of so many that is wanted
abbrev pub find_section : Wanted → ℕ → List ℕ → Option Section
find_section wanted zero bytes = None
find_section wanted (suc n) bytes = section_of bytes >>= λ s. if is_wanted wanted s then Some s else find_section wanted n s.rest

-- the first that is wanted; sections begin after the preamble's eight bytes
abbrev pub module_section : Wanted → List ℕ → Option Section
module_section wanted bytes = find_section wanted (length bytes) (drop 8 bytes)

-- ---- functions

-- Of so many entries of the code section (section 5.5.13), each of which is a size and a body, the one that holds a byte, with
-- so many bytes from it to their end; counted from this index on.
abbrev pub holding_entry : ℕ → ℕ → ℕ → List ℕ → Option ℕ
holding_entry zero index left entries = None
holding_entry (suc n) index left entries = sized_at raw_of entries >>= λ e.
    if nat_lt (length e.1) left && nat_le left (length entries) then Some index else holding_entry n (index + 1) left e.1

-- the module's own function, counted from 0, whose entry holds the byte at this offset
abbrev pub own_function_at : List ℕ → ℕ → Option ℕ
own_function_at bytes offset = module_section Code bytes >>= λ s. u32_at s.content >>= λ n.
    holding_entry n.0 0 (length bytes - length s.rest - offset) n.1

-- the content of the entry of the code section after so many others, and the bytes behind it
abbrev pub nth_entry : ℕ → List ℕ → Option (List ℕ × List ℕ)
nth_entry zero entries = sized_at raw_of entries
nth_entry (suc n) entries = sized_at raw_of entries >>= λ e. nth_entry n e.1

-- the content of the entry of the module's own function, counted from 0, and all bytes of the module behind it
abbrev pub own_entry : List ℕ → ℕ → Option (List ℕ × List ℕ)
own_entry bytes own = module_section Code bytes >>= λ s. u32_at s.content >>= λ n.
    if nat_lt own n.0 then (nth_entry own n.1 >>= λ e. Some (e.0, e.1 ++ s.rest)) else None

-- In the entry of this function of the module's own stand the bytes of this body, and at this offset of the module its
-- instruction of this index: behind the locals and the instructions before it.
pub record IsInstructionAt (bytes : List ℕ) (own : ℕ) (b : Body) (index offset : ℕ) : Type 0 where
  pub front : List ℕ
  pub behind : List ℕ
  pub entry : own_entry bytes own ≡ Some (b.bytes, behind)
  pub parts : bytes ≡ front ++ (b.bytes ++ behind)
  pub offset_is : (p : Profile) (before : List ℕ) → StandsBehind p b index before → offset ≡ length front + length before

-- the bytes up to the end of the imports, which are a module by themselves where they are read
abbrev pub up_to_imports : List ℕ → List ℕ
up_to_imports bytes = option_map_or (λ s. take (length bytes - length s.from) bytes) (module_section AfterImports bytes) bytes

abbrev pub imported_functions : Module → ℕ
imported_functions m = length (filter_map imported_function (kinds_of m.imports))

-- The function that holds the byte at this offset, counted as the standard does, the imported ones first; or there is none,
-- or its imports can't be read.
abbrev pub IsFunctionAt : Profile → List ℕ → ℕ → Option ℕ → Type 0
IsFunctionAt p bytes offset (Some f) = (m : Module) × SpellsWith p (up_to_imports bytes) m × (k : ℕ) × (own_function_at bytes offset ≡ Some k) × (f ≡ imported_functions m + k)
IsFunctionAt p bytes offset None = (m : Module) → SpellsWith p (up_to_imports bytes) m → own_function_at bytes offset ≡ None

-- ---- names

-- the first name of this index among so many pairs of an index and a name
abbrev pub name_among : ℕ → ℕ → List ℕ → Option (List ℕ)
name_among zero index bytes = None
name_among (suc n) index bytes = u32_at bytes >>= λ i. sized_at raw_of i.1 >>= λ name. if i.0 == index then Some name.0 else name_among n index name.1

-- a function's name in the custom section `name` (appendix "Custom Sections"): a name map in its subsection 1
abbrev pub function_name : List ℕ → ℕ → Option (List ℕ)
function_name bytes index = module_section Names bytes >>= λ s. sized_at raw_of s.content >>= λ n.
    find_section FunctionNames (length n.1) n.1 >>= λ f. u32_at f.content >>= λ count. name_among count.0 index count.1

-- ---- names of exports

-- an export among some bytes (section 5.5.10): its name, its kind and its index, and the bytes after it
pub record Exported : Type 0 where
  pub name : List ℕ
  pub kind : ℕ
  pub index : ℕ
  pub rest : List ℕ

-- the one that the bytes begin with
abbrev pub exported_of : List ℕ → Option Exported
exported_of bytes = sized_at raw_of bytes >>= λ name. next_at name.1 >>= λ kind. u32_at kind.1 >>= λ x.
    Some (record { name = name.0; kind = kind.0; index = x.0; rest = x.1 })

-- it is that of the function of this index
abbrev pub exports_function : ℕ → Exported → Bool
exports_function index e = e.kind == 0 && e.index == index

-- the name of the first export of this function among so many
abbrev pub exported_among : ℕ → ℕ → List ℕ → Option (List ℕ)
exported_among zero index bytes = None
exported_among (suc n) index bytes = exported_of bytes >>= λ e. if exports_function index e then Some e.name else exported_among n index e.rest

-- the name that a function is exported by first
abbrev pub exported_name : List ℕ → ℕ → Option (List ℕ)
exported_name bytes index = module_section Exports bytes >>= λ s. u32_at s.content >>= λ count. exported_among count.0 index count.1

-- an empty name is none
abbrev pub named : Option (List ℕ) → Option (List ℕ)
named None = None
named (Some []) = None
named (Some (b ∷ name)) = Some (b ∷ name)

-- what a function is called: its name in the section `name`, or else that of its first export
abbrev pub called : List ℕ → ℕ → Option (List ℕ)
called bytes index = option_map_or (λ name. Some name) (named (function_name bytes index)) (named (exported_name bytes index))
