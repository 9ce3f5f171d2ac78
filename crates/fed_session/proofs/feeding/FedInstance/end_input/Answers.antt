use Rattle.std.proofs.Common.{◌≡◌, []}
use Rattle.fed_input.specs.Feeding.{left_of}
use Rattle.fed_session.proofs.Pieces.{ended_left, ends, nothing_left, seen_before, twice}
use Rattle.fed_session.proofs.feeding.FedInstance.end_input.Goals as goal

pub replace_input-input-requires : goal.replace_input-input-requires
replace_input-input-requires g c = λ seen. nothing_left c.new-nothing.result c.end.new.self c.new-nothing.ensures c.end.ensures

pub replace_input-nothing-requires : goal.replace_input-nothing-requires
replace_input-nothing-requires g c =
    let s = c.self.inside.instance in
    seen_before s c.replace_input-input.new.self c.end.new.self (left_of c.end-2.new.self ≡ []) c.replace_input-input.ensures.replaced
    (ended_left c.replace_input-input.result c.end-2.new.self s.host.input.ended c.replace_input-input.ensures.end c.end-2.ensures)

pub returns-clause-ends : goal.returns-clause-ends
returns-clause-ends g c =
    let s = c.self.inside.instance in
    let u = c.replace_input-nothing.new.self in
    rw (← c.self.view_is) (ends s u c.replace_input-input.result c.end-2.new.self c.replace_input-input.ensures.before
    (twice s c.replace_input-input.new.self u c.end.new.self c.end-2.new.self c.replace_input-input.ensures.replaced c.replace_input-nothing.ensures.replaced) c.end-2.ensures)
