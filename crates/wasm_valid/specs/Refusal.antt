-- With which faults validation refuses a module (section 3.4): it is invalid, or memory was refused. `load` of
-- `sandbox_core` cites `IsRefusal`, since after any other fault the bytes spell no module at all.
use Rattle.wasm_syntax.specs.declared.fault.LoadFault.{LoadFault}
use Rattle.wasm_syntax.specs.declared.fault.LoadFault.TheVariants.{Memory, Invalid}

-- the faults of validation
abbrev pub IsRefusal : LoadFault → Type 0
IsRefusal Memory = Unit {0}
IsRefusal (Invalid function offset) = Unit {0}
IsRefusal e = ⊥
