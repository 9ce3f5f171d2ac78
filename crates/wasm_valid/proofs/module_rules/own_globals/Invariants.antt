use Rattle.std.proofs.Common.{◌≡◌, map, take}
use Rattle.wasm_syntax.specs.declared.module.GlobalEntry.{GlobalEntry}
use Rattle.wasm_valid.proofs.module_rules.own_globals.Given as goal

abbrev pub invariant-loop-global : goal.invariant-loop-global
invariant-loop-global l = l.types.items ≡ map (λ (g : GlobalEntry). g.global_type) (take l.global-index l.globals)
