use Rattle.std.proofs.Common.{◌≡◌, ◌+◌, ◌≤◌, ℕ, List, length, ap, arith}
use Rattle.wasi_bodies.specs.Checks.{with_result}
use Rattle.wasi_bodies.specs.paths.Rows.{path_filestat_get}
use Rattle.wasi_bodies.proofs.bodies.VolumeCalls.{done_by}
use Rattle.wasi_paths.proofs.paths.Showing.{shown_is, can_lend}
use Rattle.wasi_paths.proofs.paths.path_filestat_get.Goals as goal

pub returns-in-Ok-clause-answered : goal.returns-in-Ok-clause-answered
returns-in-Ok-clause-answered g c = λ h w table shown.
    let m = c.args.memory.now in
    let stands : c.new-shown.result.bytes ≡ c.args.memory.now =
    shown_is c.args.memory.now c.first_part.result.now c.new-shown.result.bytes c.len-size.result c.new-shown.ensures.bytes c.len-size.ensures c.first_part.ensures.value in
    let (is, same) = rw stands at c.in-Ok.ensures.finds h w table shown in
    done_by w m (λ v. path_filestat_get v m c.args.fd c.args.path c.args.len c.args.result_at) c.stat_path.new.volume _ (with_result w c.args.result_at c.in-Ok.bytes) is same (rw c.first_part.follows.holds-at-none at c.write_bytes.ensures.bytes)

pub stat_path-requires-clause-lent : goal.stat_path-requires-clause-lent
stat_path-requires-clause-lent g c =
    let is : c.new-shown.result.bytes ≡ c.args.memory.now =
    shown_is c.args.memory.now c.first_part.result.now c.new-shown.result.bytes c.len-size.result c.new-shown.ensures.bytes c.len-size.ensures c.first_part.ensures.value in
    can_lend c.args.memory.now c.first_part.result.now c.new-shown.result _ c.args.path c.args.len is c.new-shown.ensures.lent c.first_part.ensures.long (omega arith)

pub write_bytes-requires : goal.write_bytes-requires
write_bytes-requires g c =
    let is : c.new-shown.result.bytes ≡ c.args.memory.now =
    shown_is c.args.memory.now c.first_part.result.now c.new-shown.result.bytes c.len-size.result c.new-shown.ensures.bytes c.len-size.ensures c.first_part.ensures.value in
    omega (arith, c.in-Ok.ensures.inside, ap length is, ap length c.first_part.follows.holds-at-none)

pub returns-in-Err-clause-answered : goal.returns-in-Err-clause-answered
returns-in-Err-clause-answered g c = λ h w table shown.
    let is : c.new-shown.result.bytes ≡ c.args.memory.now =
    shown_is c.args.memory.now c.first_part.result.now c.new-shown.result.bytes c.len-size.result c.new-shown.ensures.bytes c.len-size.ensures c.first_part.ensures.value in
    rw c.first_part.follows.holds-at-none (rw is at c.in-Err.ensures.finds h w table shown)
