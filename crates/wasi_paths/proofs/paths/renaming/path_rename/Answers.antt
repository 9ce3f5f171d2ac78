use Rattle.std.proofs.Common.{◌≡◌, ◌+◌, ◌≤◌, ℕ, List, arith}
use Rattle.wasi_paths.proofs.paths.Showing.{shown_is, can_lend}
use Rattle.wasi_paths.proofs.paths.renaming.path_rename.Goals as goal

pub rename_entry-requires-clause-from_lent : goal.rename_entry-requires-clause-from_lent
rename_entry-requires-clause-from_lent g c =
    let is : c.new-shown.result.bytes ≡ c.args.memory.now =
    shown_is c.args.memory.now c.first_part.result.now c.new-shown.result.bytes c.len-size.result c.new-shown.ensures.bytes c.len-size.ensures c.first_part.ensures.value in
    can_lend c.args.memory.now c.first_part.result.now c.new-shown.result _ c.args.asked.now.from_path c.args.asked.now.from_len is c.new-shown.ensures.lent c.first_part.ensures.long (omega arith)

pub rename_entry-requires-clause-to_lent : goal.rename_entry-requires-clause-to_lent
rename_entry-requires-clause-to_lent g c =
    let is : c.new-shown.result.bytes ≡ c.args.memory.now =
    shown_is c.args.memory.now c.first_part.result.now c.new-shown.result.bytes c.len-size.result c.new-shown.ensures.bytes c.len-size.ensures c.first_part.ensures.value in
    can_lend c.args.memory.now c.first_part.result.now c.new-shown.result _ c.args.asked.now.to_path c.args.asked.now.to_len is c.new-shown.ensures.lent c.first_part.ensures.long (omega arith)

pub returns-clause-answered : goal.returns-clause-answered
returns-clause-answered g c = λ h w table shown.
    let is : c.new-shown.result.bytes ≡ c.args.memory.now =
    shown_is c.args.memory.now c.first_part.result.now c.new-shown.result.bytes c.len-size.result c.new-shown.ensures.bytes c.len-size.ensures c.first_part.ensures.value in
    rw c.first_part.follows.holds-at-none (rw is at c.rename_entry.ensures.answered h w table shown)
