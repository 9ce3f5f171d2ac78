-- How many bytes of its input a guest asks for.
use Rattle.std.specs.Prelude.{◌≡◌, ℕ, List, Ok}
use Rattle.wasi_fd.specs.declared.descriptor.Descriptor.TheVariants.{Stream}
use Rattle.wasi_fd.specs.declared.descriptor.Stream.TheVariants.{Input}
use Rattle.wasi_fd.specs.Rights.{FD_READ}
use Rattle.wasi_fd.specs.Table.{Table}
use Rattle.wasi_bodies.specs.World.{World}
use Rattle.wasi_bodies.specs.Calls.{word}
use Rattle.wasi_bodies.specs.Checks.{Buffer, descriptor, no_directories, total}
use Rattle.wasi_bodies.specs.internal.checks.Buffers.{usable}

-- An `fd_read` with these arguments passes its checks, reads the input, and its buffers have so many bytes.
pub record WantsInput (table : Table) (memory args : List ℕ) (count : ℕ) : Type 0 where
  pub reads : (w : World) → w.table ≡ table → descriptor w (word args 0) no_directories FD_READ ≡ Ok (Stream Input)
  pub buffers : List Buffer
  pub usable_are : usable memory (word args 1) (word args 2) (word args 3) ≡ Ok buffers
  pub count_is : count ≡ total buffers
