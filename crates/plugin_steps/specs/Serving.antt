-- Functions of the embedder (sections 4.2.6 and 4.4.7.3): a step in which one gives its results. There is no rule of `Step`
-- for them, so a run of `Reach` never passes one, and none is in an instance by `Instantiates`.
use Rattle.std.specs.Prelude.{◌≡◌, ℕ, ◌≤◌, List, ◌++◌, length, reverse, slice_get, Some}
use Rattle.std.specs.List.{AllByRecursion}
use Rattle.wasm_syntax.specs.declared.instruction.ValueType.{ValueType}
use Rattle.wasm_syntax.specs.declared.module.FuncType.{FuncType}
use Rattle.wasm_syntax.specs.Nested.{Instructions, invoke}
use Rattle.wasm_store.specs.Values.{IsInType}
use Rattle.wasm_store.specs.Instances.{outside}
use Rattle.wasm_steps.specs.Configuration.{Val, types, Instance, Store, Code, code, label, frame, Configuration, at, used_by}

-- what the embedder was asked and what it made of it: its function, the arguments and memory, and then the results and memory
pub record Exchange : Type 0 where
  pub function : ℕ
  -- the last one first, as values stand in a configuration
  pub arguments : List Val
  pub memory : List ℕ
  pub results : List Val
  pub left : List ℕ

-- values of these types, in their ranges
pub record AreOf (vs : List Val) (ts : List ValueType) : Type 0 where
  pub typed : reverse (types vs) ≡ ts
  pub in_range : AllByRecursion IsInType vs

pub data ServeStep (i : Instance) : Configuration → Exchange → Configuration → Type 0 where
  -- S; val^n (invoke a) ↪ S'; val^m, if a is the embedder's: any values of its result types, and any memory that isn't shorter
  serves : {x k : ℕ} {s : Store} {memory : List ℕ} {f all : List Val} {sg : FuncType} {rest : Instructions} (args vs results : List Val) →
      slice_get i.callees x ≡ Some (outside sg k) → all ≡ args ++ vs → length args ≡ length sg.params → AreOf results sg.results → length s.memory ≤ length memory →
      ServeStep i (at s f (code all (invoke x rest))) (record { function = k; arguments = args; memory = s.memory; results = results; left = memory }) (at (record s { memory = memory }) f (code (results ++ vs) rest))
  in_label : {m : ℕ} {s s' : Store} {f f' vs : List Val} {k rest : Instructions} {c c' : Code} {e : Exchange} → ServeStep i (at s f c) e (at s' f' c') → ServeStep i (at s f (label vs m k c rest)) e (at s' f' (label vs m k c' rest))
  in_frame : {m : ℕ} {s s' : Store} {f g g' vs : List Val} {rest : Instructions} {c c' : Code} {e : Exchange} → ServeStep i (at s g c) e (at s' g' c') → ServeStep i (at s f (frame vs m g c rest)) e (at s' f (frame vs m g' c' rest))

-- the same configuration with another memory: what the embedder writes
abbrev pub with_memory : List ℕ → Configuration → Configuration
with_memory m (at s f c) = at (record s { memory = m }) f c

abbrev pub ServingTakesNoUnit : Type 0
ServingTakesNoUnit = (i : Instance) (c d : Configuration) (e : Exchange) → ServeStep i c e d → used_by d ≡ used_by c
