-- Where an instruction stands in the bytes of a function's body (section 5.5.13): behind the locals and the instructions
-- before it.
use Rattle.std.specs.Prelude.{◌≡◌, ℕ, List, ◌++◌, take}
use Rattle.wasm_syntax.specs.declared.profile.Profile.{Profile}
use Rattle.wasm_syntax.specs.declared.module.Body.{Body}
use Rattle.wasm_syntax.specs.Grammar.{Each, Vector}
use Rattle.wasm_syntax.specs.Instructions.{SpellsInstruction}
use Rattle.wasm_syntax.specs.Sections.{SpellsLocals}

-- The body's bytes begin with these, which spell its locals and the instructions before the one of this index, by a
-- profile.
pub record StandsBehind (p : Profile) (b : Body) (index : ℕ) (before : List ℕ) : Type 0 where
  pub locals : List ℕ
  pub instructions : List ℕ
  pub after : List ℕ
  pub spells_locals : Vector (SpellsLocals p) locals b.locals
  pub spells_instructions : Each (SpellsInstruction p) instructions (take index b.code)
  pub before_is : before ≡ locals ++ instructions
  pub bytes : b.bytes ≡ before ++ after
