use Rattle.std.proofs.Common.{◌≡◌, ◌++◌, length, drop}
use Rattle.wasm_valid.specs.internal.Ends.{ends_from}
use Rattle.wasm_valid.proofs.locals.LocalTypes.new.Given as goal

abbrev pub invariant-loop-group : goal.invariant-loop-group
invariant-loop-group l =
    l.ends.items ++ ends_from l.end (drop l.group-index l.groups) ≡ ends_from (length l.params) l.groups
