use Rattle.std.proofs.Common.{◌≡◌, [], refl}
use Rattle.fed_input.specs.Feeding.{left_of}
use Rattle.fed_session.proofs.Pieces.{feeds, feeds_nothing, nothing_left, seen_before, still_at_end, twice}
use Rattle.fed_session.proofs.feeding.FedInstance.feed.Goals as goal

pub replace_input-input-requires : goal.replace_input-input-requires
replace_input-input-requires g c = λ seen. nothing_left c.new-nothing.result c.end.new.self c.new-nothing.ensures c.end.ensures

pub replace_input-nothing-requires : goal.replace_input-nothing-requires
replace_input-nothing-requires g c =
    let s = c.self.inside.instance in
    seen_before s c.replace_input-input.new.self c.end.new.self (left_of c.feed-answer.new.self ≡ []) c.replace_input-input.ensures.replaced
    (still_at_end c.feed-answer.result c.replace_input-input.result c.feed-answer.new.self c.args.bytes.now s.host.input.ended c.replace_input-input.ensures.end c.feed-answer.ensures.fed c.feed-answer.ensures.refused)

pub returns-clause-fed : goal.returns-clause-fed
returns-clause-fed g c =
    let s = c.self.inside.instance in
    let u = c.replace_input-nothing.new.self in
    let goes_on = c.self.inside.goes_on in
    rw (← c.self.view_is) (feeds c.feed-answer.result s u c.replace_input-input.result c.feed-answer.new.self c.args.bytes.now (goes_on ≡ goes_on) refl c.replace_input-input.ensures.before
    (twice s c.replace_input-input.new.self u c.end.new.self c.feed-answer.new.self c.replace_input-input.ensures.replaced c.replace_input-nothing.ensures.replaced) c.feed-answer.ensures.fed)

pub returns-clause-refused : goal.returns-clause-refused
returns-clause-refused g c =
    let s = c.self.inside.instance in
    let u = c.replace_input-nothing.new.self in
    rw (← c.self.view_is) (feeds_nothing c.feed-answer.result s u c.replace_input-input.result c.feed-answer.new.self c.self.inside.goes_on c.replace_input-input.ensures.before
    (twice s c.replace_input-input.new.self u c.end.new.self c.feed-answer.new.self c.replace_input-input.ensures.replaced c.replace_input-nothing.ensures.replaced) c.feed-answer.ensures.refused)
