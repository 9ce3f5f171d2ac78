-- What an equation of two lists, of two options, or of two instructions that begin blocks says of their parts.
use Rattle.std.proofs.Common.{◌≡◌, List, [], ◌∷◌, Option, Some, None}
use Rattle.wasm_syntax.specs.declared.instruction.BlockType.{BlockType}
use Rattle.wasm_syntax.specs.declared.instruction.Instruction.TheVariants as op

pub same_head : {A : Type 0} {x y : A} {xs ys : List A} → x ∷ xs ≡ y ∷ ys → x ≡ y
same_head e = cc

pub same_tail : {A : Type 0} {x y : A} {xs ys : List A} → x ∷ xs ≡ y ∷ ys → xs ≡ ys
same_tail e = cc

-- an option has one value
pub same_some : {A : Type 0} {o : Option A} {x y : A} → o ≡ Some x → o ≡ Some y → x ≡ y
same_some e h = cc

-- an option with a value isn't empty
pub some_not_none : {A : Type 0} {o : Option A} {x : A} → o ≡ Some x → o ≡ None → ⊥
some_not_none e h = cc

pub same_block : {t u : BlockType} → op.Block t ≡ op.Block u → t ≡ u
same_block e = cc

pub same_loop : {t u : BlockType} → op.Loop t ≡ op.Loop u → t ≡ u
same_loop e = cc

pub same_if : {t u : BlockType} → op.If t ≡ op.If u → t ≡ u
same_if e = cc

-- blocks that begin in two ways are two
pub block_not_loop : {t u : BlockType} → op.Block t ≡ op.Loop u → ⊥
block_not_loop e = cc

pub block_not_if : {t u : BlockType} → op.Block t ≡ op.If u → ⊥
block_not_if e = cc

pub loop_not_if : {t u : BlockType} → op.Loop t ≡ op.If u → ⊥
loop_not_if e = cc

pub else_not_end : op.Else ≡ op.End → ⊥
else_not_end e = cc

-- a list with a first item isn't empty
pub some_first : {A : Type 0} {x : A} {xs : List A} → x ∷ xs ≡ [] → ⊥
some_first e = cc
