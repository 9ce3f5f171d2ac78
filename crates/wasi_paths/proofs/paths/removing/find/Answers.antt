use Rattle.std.proofs.Common.{ap}
use Rattle.path_walk.specs.declared.walking.Reached.{Reached as ReachedValue}
use Rattle.path_walk.specs.Walk.{reached_as}
use Rattle.wasi_fd.specs.Rights.{bits_of}
use Rattle.wasi_bodies.specs.Checks.{found}
use Rattle.wasi_bodies.specs.internal.paths.Walks.{reached_from}
use Rattle.wasi_paths.proofs.paths.Walks.{found_never}
use Rattle.wasi_bodies.proofs.bodies.AskingCalls.{ends_part, passes_on, refuses_on}
use Rattle.wasi_paths.proofs.paths.removing.find.Goals as goal

pub returns-in-Err-clause-asks : goal.returns-in-Err-clause-asks
returns-in-Err-clause-asks g c = λ h w table shown.
    ends_part w (λ v. reached_from v c.args.memory.now.bytes c.args.fd (bits_of c.args.rights) c.args.path c.args.len) (λ v. found) c.reach_from.new.volume _ (λ alive r. found_never r) (c.in-Err.ensures.asks h w table shown)

pub returns-in-Ok-Found-clause-asks : goal.returns-in-Ok-Found-clause-asks
returns-in-Ok-Found-clause-asks g c = λ h w table shown.
    let passes = c.in-Ok-Found.ensures.asks h w table shown in
    rw c.new.ensures (passes_on w (λ v. reached_from v c.args.memory.now.bytes c.args.fd (bits_of c.args.rights) c.args.path c.args.len) (λ v. found) c.reach_from.new.volume (reached_as c.in-Ok-Found.field-0) passes
    c.reach_from.new.volume c.in-Ok-Found.serial passes.same (ap (λ (r : ReachedValue). found (reached_as r)) c.in-Ok-Found.field-0-is))

pub returns-in-Ok-Missing-clause-asks : goal.returns-in-Ok-Missing-clause-asks
returns-in-Ok-Missing-clause-asks g c = λ h w table shown.
    let passes = c.in-Ok-Missing.ensures.asks h w table shown in
    refuses_on w (λ v. reached_from v c.args.memory.now.bytes c.args.fd (bits_of c.args.rights) c.args.path c.args.len) (λ v. found) c.reach_from.new.volume (reached_as c.in-Ok-Missing.field-0) passes
    c.reach_from.new.volume 44 passes.same (ap (λ (r : ReachedValue). found (reached_as r)) c.in-Ok-Missing.field-0-is)
