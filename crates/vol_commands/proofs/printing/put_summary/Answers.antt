use Rattle.std.proofs.Common.{◌≡◌, ℕ, List, ◌++◌, subst}
use Rattle.std.specs.Prelude.{decimal}
use Rattle.vol_commands.proofs.Texts.{summary_put}
use Rattle.vol_commands.proofs.printing.put_summary.Goals as goal

pub returns : goal.returns
returns c =
    summary_put c.args.version c.args.stats.now c.args.line.now.items c.put.new.line.items c.put_number.new.line.items c.put-2.new.line.items c.put_number-2.new.line.items c.put-3.new.line.items c.put_number-3.new.line.items
    c.put-4.new.line.items c.put_number-4.new.line.items c.put-5.new.line.items c.put_number-5.new.line.items c.put-6.new.line.items c.requires
    c.put.ensures.items
    (subst (λ (n : ℕ). c.put_number.new.line.items ≡ c.put.new.line.items ++ decimal n) c.number.ensures c.put_number.ensures.items)
    c.put-2.ensures.items c.put_number-2.ensures.items c.put-3.ensures.items c.put_number-3.ensures.items c.put-4.ensures.items c.put_number-4.ensures.items c.put-5.ensures.items c.put_number-5.ensures.items c.put-6.ensures.items
