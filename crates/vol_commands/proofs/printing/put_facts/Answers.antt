use Rattle.std.proofs.Common.{◌≡◌, ℕ, List, ◌++◌, ap, subst, ◌∙◌}
use Rattle.std.specs.Prelude.{decimal}
use Rattle.vol_commands.proofs.Texts.{facts_put}
use Rattle.vol_commands.proofs.printing.put_facts.Goals as goal

pub returns : goal.returns
returns c =
    facts_put c.args.serial c.args.stat.now c.args.line.now.items c.put.new.line.items c.put-2.new.line.items c.put-3.new.line.items c.put_number.new.line.items c.put-4.new.line.items c.put_number-2.new.line.items c.put-5.new.line.items c.requires
    c.put.ensures.items
    (c.put-2.ensures.items ∙ ap (λ (text : List ℕ). c.put.new.line.items ++ text) c.word.ensures.text)
    c.put-3.ensures.items
    c.put_number.ensures.items
    c.put-4.ensures.items
    (subst (λ (n : ℕ). c.put_number-2.new.line.items ≡ c.put-4.new.line.items ++ decimal n) c.number.ensures c.put_number-2.ensures.items)
    c.put-5.ensures.items
