-- Loads and stores (section 2.4.4): the type of the number, and the `width` by which 2 ^ `width` bytes of memory are
-- read or written. Typing bounds the alignment by these bytes, and the steps read and write them.
use Rattle.std.specs.Prelude.{Bool, true, false}
use Rattle.wasm_syntax.specs.declared.instruction.ValueType.TheVariants.{I32, I64, F32, F64}
use Rattle.wasm_syntax.specs.declared.accesses.Access.{Access}
use Rattle.wasm_syntax.specs.declared.accesses.LoadOperator.{LoadOperator}
use Rattle.wasm_syntax.specs.declared.accesses.LoadOperator.TheVariants.{I32Load, I64Load, F32Load, F64Load, I32Load8S, I32Load8U, I32Load16S, I32Load16U, I64Load8S, I64Load8U, I64Load16S, I64Load16U, I64Load32S, I64Load32U}
use Rattle.wasm_syntax.specs.declared.accesses.StoreOperator.{StoreOperator}
use Rattle.wasm_syntax.specs.declared.accesses.StoreOperator.TheVariants.{I32Store, I64Store, F32Store, F64Store, I32Store8, I32Store16, I64Store8, I64Store16, I64Store32}

-- what a load reads: its bytes are 2 ^ width
abbrev pub load_access : LoadOperator → Access
load_access I32Load = record { value_type = I32; width = 2 }
load_access I64Load = record { value_type = I64; width = 3 }
load_access F32Load = record { value_type = F32; width = 2 }
load_access F64Load = record { value_type = F64; width = 3 }
load_access I32Load8S = record { value_type = I32; width = 0 }
load_access I32Load8U = record { value_type = I32; width = 0 }
load_access I32Load16S = record { value_type = I32; width = 1 }
load_access I32Load16U = record { value_type = I32; width = 1 }
load_access I64Load8S = record { value_type = I64; width = 0 }
load_access I64Load8U = record { value_type = I64; width = 0 }
load_access I64Load16S = record { value_type = I64; width = 1 }
load_access I64Load16U = record { value_type = I64; width = 1 }
load_access I64Load32S = record { value_type = I64; width = 2 }
load_access I64Load32U = record { value_type = I64; width = 2 }

-- whether a load fills the bits above those that it read with the highest of them
abbrev pub extends_sign : LoadOperator → Bool
extends_sign I32Load8S = true
extends_sign I32Load16S = true
extends_sign I64Load8S = true
extends_sign I64Load16S = true
extends_sign I64Load32S = true
extends_sign l = false

-- what a store writes: the lowest 2 ^ width bytes of the number
abbrev pub store_access : StoreOperator → Access
store_access I32Store = record { value_type = I32; width = 2 }
store_access I64Store = record { value_type = I64; width = 3 }
store_access F32Store = record { value_type = F32; width = 2 }
store_access F64Store = record { value_type = F64; width = 3 }
store_access I32Store8 = record { value_type = I32; width = 0 }
store_access I32Store16 = record { value_type = I32; width = 1 }
store_access I64Store8 = record { value_type = I64; width = 0 }
store_access I64Store16 = record { value_type = I64; width = 1 }
store_access I64Store32 = record { value_type = I64; width = 2 }
