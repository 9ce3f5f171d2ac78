use Rattle.std.proofs.Common.{ap, sym}
use Rattle.sandbox_args.specs.CommandLine.{run_rules}
use Rattle.sandbox_args.specs.internal.Table.{rules_for}
use Rattle.sandbox_args.proofs.table.rows.Goals as goal

-- the rows spell these rules
pub returns-in-Run : goal.returns-in-Run
unfolding run_rules
returns-in-Run c = ap rules_for (sym c.in-Run.is)

pub returns-in-Module : goal.returns-in-Module
returns-in-Module c = ap rules_for (sym c.in-Module.is)

pub returns-in-Format : goal.returns-in-Format
returns-in-Format c = ap rules_for (sym c.in-Format.is)

pub returns-in-Volume : goal.returns-in-Volume
returns-in-Volume c = ap rules_for (sym c.in-Volume.is)

pub returns-in-Upgrade : goal.returns-in-Upgrade
returns-in-Upgrade c = ap rules_for (sym c.in-Upgrade.is)

pub returns-in-Path : goal.returns-in-Path
returns-in-Path c = ap rules_for (sym c.in-Path.is)

pub returns-in-List : goal.returns-in-List
returns-in-List c = ap rules_for (sym c.in-List.is)

pub returns-in-Put : goal.returns-in-Put
returns-in-Put c = ap rules_for (sym c.in-Put.is)

pub returns-in-Move : goal.returns-in-Move
returns-in-Move c = ap rules_for (sym c.in-Move.is)

pub returns-in-Remove : goal.returns-in-Remove
returns-in-Remove c = ap rules_for (sym c.in-Remove.is)
