use Rattle.std.proofs.Common.{◌≡◌, ℕ, List, ◌∙◌, subst, OnErr, OnOk}
use Rattle.std.specs.Io.KnownBytes.{Appends}
use Rattle.stream_answers.specs.Printing.{AppendsPart}
use Rattle.vol_commands.specs.internal.Lines.{stat_line}
use Rattle.vol_commands.proofs.printing.print_entry.Goals as goal

pub returns-clause-all : goal.returns-clause-all
returns-clause-all g c =
    let out = g.W.Write.contents in
    let holds : c.as_slice.result.now ≡ stat_line c.args.form c.args.stat.now = c.as_slice.ensures.value ∙ c.put_entry.ensures in
    subst (λ (text : List ℕ). OnOk c.print_all.result (Appends (out c.args.out.now) (out c.print_all.new.out) text)) holds c.print_all.ensures.all

pub returns-clause-part : goal.returns-clause-part
returns-clause-part g c =
    let out = g.W.Write.contents in
    let holds : c.as_slice.result.now ≡ stat_line c.args.form c.args.stat.now = c.as_slice.ensures.value ∙ c.put_entry.ensures in
    subst (λ (text : List ℕ). OnErr c.print_all.result (AppendsPart (out c.args.out.now) (out c.print_all.new.out) text)) holds c.print_all.ensures.part

pub returns-clause-heard : goal.returns-clause-heard
returns-clause-heard g c = c.print_all.ensures.heard
