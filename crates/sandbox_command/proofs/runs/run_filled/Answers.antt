use Rattle.std.proofs.Common.{◌≡◌, ℕ, List, Result, inl, inr, subst}
use Rattle.sandbox_device.specs.declared.ram_device.RamDevice.{RamDevice}
use Rattle.vol_commands.specs.declared.importing.ImportFailure.{ImportFailure}
use Rattle.sandbox_command.specs.Archive.{Fills}
use Rattle.sandbox_command.proofs.runs.run_filled.Goals as goal

-- what was made of these bytes
made : (bytes items : List ℕ) → bytes ≡ items → (r s : Result RamDevice ImportFailure) → r ≡ s → Fills bytes r → Fills items s
made bytes items same r s is fills = subst (λ (b : List ℕ). Fills b s) same (subst (λ (q : Result RamDevice ImportFailure). Fills bytes q) is fills)

pub returns-in-Ok : goal.returns-in-Ok
returns-in-Ok g c = inl (c.in-Ok.device, made _ _ c.as_slice-bytes.ensures.value _ _ c.in-Ok.is c.filled-made.ensures, c.run_in_memory.ensures)

pub returns-in-Err : goal.returns-in-Err
returns-in-Err g c = inr (c.end_unfilled.ensures c.args.archive.items (made _ _ c.as_slice-bytes.ensures.value _ _ c.in-Err.is c.filled-made.ensures))
