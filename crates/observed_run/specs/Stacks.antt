-- Stacks of functions that were at work, as a tree: a node stands for a function on top of the functions of the node that called
-- it. So two stacks share what they have in common, and a deep recursion takes one node for each call.
use Rattle.std.specs.Prelude.{◌≡◌, ◌≢◌, ◌+◌, ◌≤◌, ℕ, suc, List, [], ◌∷◌, ◌++◌, Bool, false, Some, length, slice_get, slice_index, drop, replicate, sum}
use Rattle.observed_run.specs.declared.stacks.Call.{Call}

-- Node 0 is the bottom, where no function is at work, and the k-th of these calls is node k + 1. Of each node, the bottom's first,
-- the units that were taken there.
pub record Stacks : Type 0 where
  pub calls : List Call
  pub units : List ℕ
  -- whether some units were added to a function below the one that took them
  pub is_cut : Bool
  -- how many functions the stacks of further nodes may have, all together
  pub room : ℕ

-- the functions at work at a node, the innermost first
pub data IsStack (calls : List Call) : ℕ → List ℕ → Type 0 where
  bottom : IsStack calls 0 []
  above : (k : ℕ) (call : Call) (below : List ℕ) → slice_get calls k ≡ Some call → IsStack calls call.caller below → IsStack calls (suc k) (call.function ∷ below)

-- Nodes were added behind those that were there, with no units yet: each stack that was there has its node and its units. What was
-- cut stays so. There was room for the nodes, and they have taken it: no more come than there is room for.
pub record Grows (old new : Stacks) : Type 0 where
  pub added : List Call
  pub calls : new.calls ≡ old.calls ++ added
  pub units : new.units ≡ old.units ++ replicate (length added) 0
  pub whole : new.is_cut ≡ false → old.is_cut ≡ false
  pub within : length added + new.room ≤ old.room

-- The node stands for these functions, the innermost first; or, where stacks are cut, for the outermost of them.
pub record IsNodeOf (stacks : Stacks) (functions : List ℕ) (node : ℕ) : Type 0 where
  pub left_out : ℕ
  pub stack : IsStack stacks.calls node (drop left_out functions)
  pub whole : stacks.is_cut ≡ false → left_out ≡ 0

-- These units were added to the node, and nothing else changed.
pub record AddsUnits (old new : Stacks) (node units : ℕ) : Type 0 where
  pub calls : new.calls ≡ old.calls
  pub is_cut : new.is_cut ≡ old.is_cut
  pub room : new.room ≡ old.room
  pub nodes : length new.units ≡ length old.units
  pub there : slice_index new.units node ≡ slice_index old.units node + units
  pub elsewhere : (k : ℕ) → k ≢ node → slice_index new.units k ≡ slice_index old.units k
  pub in_all : sum new.units ≡ sum old.units + units
