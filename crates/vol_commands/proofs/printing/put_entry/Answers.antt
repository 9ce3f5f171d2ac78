use Rattle.std.proofs.Common.{◌≡◌, ℕ, List, ◌++◌, ap, subst, take, ◌∙◌}
use Rattle.std.specs.Prelude.{codes}
use Rattle.vol_commands.specs.Listing.{name_as}
use Rattle.vol_commands.proofs.Texts.{line_put}
use Rattle.vol_commands.proofs.printing.put_entry.Goals as goal

pub returns : goal.returns
returns c =
    let s = c.args.stat.now in
    let form = c.args.form in
    line_put form s c.args.line.now.items c.put.new.line.items c.put_number.new.line.items c.put-2.new.line.items c.put_name.new.line.items c.put-3.new.line.items c.requires
    (c.put.ensures.items ∙ ap (λ (text : List ℕ). c.args.line.now.items ++ text) c.mark.ensures.text)
    c.put_number.ensures.items
    c.put-2.ensures.items
    (subst (λ (n : ℕ). c.put_name.new.line.items ≡ c.put-2.new.line.items ++ name_as form (take n s.name)) c.from.ensures c.put_name.ensures.items)
    (c.put-3.ensures.items ∙ ap (λ (text : List ℕ). c.put_name.new.line.items ++ text) c.line_end.ensures.text)
