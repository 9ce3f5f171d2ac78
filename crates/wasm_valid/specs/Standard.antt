-- The typing of instructions by rules (sections 3.3.5 and 3.3.6), with that of one plain instruction from `Typing`. In
-- the types before and after, the one on top of the stack comes first.
use Rattle.std.specs.Prelude.{◌≡◌, ℕ, List, [], ◌∷◌, ◌++◌, Some, slice_get, reverse}
use Rattle.wasm_syntax.specs.declared.instruction.ValueType.{ValueType}
use Rattle.wasm_syntax.specs.declared.instruction.ValueType.TheVariants.{I32}
use Rattle.wasm_syntax.specs.declared.instruction.BlockType.{BlockType}
use Rattle.wasm_syntax.specs.declared.instruction.BlockType.TheVariants.{Empty}
use Rattle.wasm_syntax.specs.declared.instruction.Instruction.{Instruction}
use Rattle.wasm_syntax.specs.declared.module.FuncType.{FuncType}
use Rattle.wasm_syntax.specs.Nested.{Instructions, done, plain, block, loop, if_then, if_else, invoke, append}
use Rattle.wasm_valid.specs.Arities.{results_of}
use Rattle.wasm_valid.specs.Typing.{Context, Labels, OpTyped}

pub data HasType (c : Context) : Labels → Instructions → List ValueType → List ValueType → Type 0 where
  -- no instruction has type [] -> []
  none : (ls : Labels) → HasType c ls done [] []
  -- one instruction
  one : (ls : Labels) (i : Instruction) (a b : List ValueType) → OpTyped c ls i a b → HasType c ls (plain i done) a b
  a_block : (ls : Labels) (t : BlockType) (body : Instructions) → HasType c (results_of t ∷ ls) body [] (results_of t) → HasType c ls (block t body done) [] (results_of t)
  a_loop : (ls : Labels) (t : BlockType) (body : Instructions) → HasType c ([] ∷ ls) body [] (results_of t) → HasType c ls (loop t body done) [] (results_of t)
  an_if : (ls : Labels) (body : Instructions) → HasType c ([] ∷ ls) body [] [] → HasType c ls (if_then Empty body done) (I32 ∷ []) []
  an_if_else : (ls : Labels) (t : BlockType) (body other : Instructions) → HasType c (results_of t ∷ ls) body [] (results_of t) → HasType c (results_of t ∷ ls) other [] (results_of t) → HasType c ls (if_else t body other done) (I32 ∷ []) (results_of t)
  a_call : (ls : Labels) (x : ℕ) (f : FuncType) → slice_get c.functions x ≡ Some f → HasType c ls (invoke x done) (reverse f.params) f.results
  -- a first part, and then the rest
  sequence : (ls : Labels) (first rest whole : Instructions) (a m b : List ValueType) → whole ≡ append first rest → HasType c ls first a m → HasType c ls rest m b → HasType c ls whole a b
  -- the same types below on both sides
  widened : (ls : Labels) (code : Instructions) (a b below wide_a wide_b : List ValueType) → wide_a ≡ a ++ below → wide_b ≡ b ++ below → HasType c ls code a b → HasType c ls code wide_a wide_b
