use Rattle.std.proofs.Common.{◌≡◌, ℕ, List, ◌++◌, ◌∙◌, ap, subst, OnErr, OnOk}
use Rattle.std.specs.Io.KnownBytes.{Appends}
use Rattle.std.proofs.KnownBytes.{Keeps-refl}
use Rattle.stream_answers.specs.Printing.{AppendsPart}
use Rattle.vol_tar.proofs.Results.{on_err}
use Rattle.stream_answers.proofs.Handed.{part_none}
use Rattle.sandbox_runs.specs.Checking.{damage_lines}
use Rattle.sandbox_runs.proofs.checking.print_damage.Goals as goal

pub returns-clause-all : goal.returns-clause-all
returns-clause-all g c =
    let out = g.W.Write.contents in
    let text = damage_lines c.args.damage in
    let holds : c.as_slice.result.now ≡ text = c.as_slice.ensures.value ∙ c.in_ok-add_damage.ensures ∙ ap (λ (xs : List ℕ). xs ++ text) c.new-lines.ensures in
    subst (λ (text : List ℕ). OnOk c.print_all.result (Appends (out c.args.err.now) (out c.print_all.new.out) text)) holds c.print_all.ensures.all

pub returns-clause-part : goal.returns-clause-part
returns-clause-part g c =
    let out = g.W.Write.contents in
    let text = damage_lines c.args.damage in
    let holds : c.as_slice.result.now ≡ text = c.as_slice.ensures.value ∙ c.in_ok-add_damage.ensures ∙ ap (λ (xs : List ℕ). xs ++ text) c.new-lines.ensures in
    subst (λ (text : List ℕ). OnErr c.print_all.result (AppendsPart (out c.args.err.now) (out c.print_all.new.out) text)) holds c.print_all.ensures.part

-- the lines could not be made: nothing is printed
pub returns-in_err-add_damage-clause-part : goal.returns-in_err-add_damage-clause-part
returns-in_err-add_damage-clause-part g c =
    let out = g.W.Write.contents c.args.err.now in
    on_err _ _ (part_none out out (damage_lines c.args.damage) (Keeps-refl out))
