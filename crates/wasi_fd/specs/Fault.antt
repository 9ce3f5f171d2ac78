-- The error numbers of refused descriptors (`errno` of WASI preview 1). A number that isn't open is `badf`, and a table
-- with no free place is `mfile`.
use Rattle.std.specs.Prelude.{ℕ}
use Rattle.wasi_fd.specs.declared.fault.DescriptorFault.{DescriptorFault}
use Rattle.wasi_fd.specs.declared.fault.DescriptorFault.TheVariants.{NotOpen, Full}

-- WASI preview 1, `errno`
abbrev pub errno_of : DescriptorFault → ℕ
errno_of NotOpen = 8
errno_of Full = 33
