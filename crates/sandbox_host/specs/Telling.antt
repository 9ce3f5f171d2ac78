-- A pause as the numbers that a host is told (`include/sandbox.h`).
use Rattle.std.specs.Prelude.{ℕ}
use Rattle.wasm_store.specs.declared.call.HostCall.{HostCall}
use Rattle.wasm_store.specs.declared.call.HostCall.TheVariants as call
use Rattle.wasm_steps.specs.declared.pause.Outcome.{Outcome}
use Rattle.wasm_steps.specs.declared.pause.Outcome.TheVariants.{Exited, Trapped, OutOfFuel, OutOfMemory}
use Rattle.wasm_steps.specs.declared.pause.Pause.{Pause}
use Rattle.wasm_steps.specs.declared.pause.Pause.TheVariants.{Called, Spent, Ended}
use Rattle.sandbox_report.specs.EndNumbers.{outcome_number, trap_number}
use Rattle.sandbox_host.specs.declared.numbers.Told.{Told}

abbrev pub call_number : HostCall → ℕ
call_number call.ArgsSizesGet = 0
call_number call.ArgsGet = 1
call_number call.EnvironSizesGet = 2
call_number call.EnvironGet = 3
call_number call.ClockResGet = 4
call_number call.ClockTimeGet = 5
call_number call.RandomGet = 6
call_number call.ProcExit = 7
call_number call.FdClose = 8
call_number call.FdFdstatGet = 9
call_number call.FdFilestatGet = 10
call_number call.FdFilestatSetSize = 11
call_number call.FdPrestatGet = 12
call_number call.FdPrestatDirName = 13
call_number call.FdRead = 14
call_number call.FdPread = 15
call_number call.FdWrite = 16
call_number call.FdPwrite = 17
call_number call.FdSeek = 18
call_number call.FdTell = 19
call_number call.FdSync = 20
call_number call.FdDatasync = 21
call_number call.FdReaddir = 22
call_number call.PathCreateDirectory = 23
call_number call.PathFilestatGet = 24
call_number call.PathOpen = 25
call_number call.PathRemoveDirectory = 26
call_number call.PathRename = 27
call_number call.PathUnlinkFile = 28
call_number call.Nosys = 29

-- ---- how a run ended, and why it came back

abbrev pub told_end : Outcome → ℕ → Told
told_end (Exited status) used = record { kind = outcome_number (Exited status); code = status; call = 0; used = used }
told_end (Trapped t) used = record { kind = outcome_number (Trapped t); code = trap_number t; call = 0; used = used }
told_end OutOfFuel used = record { kind = outcome_number OutOfFuel; code = 0; call = 0; used = used }
told_end OutOfMemory used = record { kind = outcome_number OutOfMemory; code = 0; call = 0; used = used }

abbrev pub told_pause : Pause → ℕ → Told
told_pause (Called c errno) used = record { kind = 4; code = errno.0; call = call_number c; used = used }
told_pause Spent used = record { kind = 5; code = 0; call = 0; used = used }
told_pause (Ended outcome) used = told_end outcome used
