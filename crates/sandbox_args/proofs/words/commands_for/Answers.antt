use Rattle.std.proofs.Common.{Global, List, ap, map, string_bytes, subst, sym}
use Rattle.clap.specs.Simple.{App}
use Rattle.sandbox_args.specs.internal.Table.{AnswersAsAll, app_for}
use Rattle.sandbox_args.proofs.CalledAlone.{as_all, as_called}
use Rattle.sandbox_args.proofs.words.commands_for.Goals as goal

-- no word calls a command
pub returns-in_default : goal.returns-in_default
returns-in_default c =
    subst (λ (apps : List App). AnswersAsAll apps (map (string_bytes {Z = Global}) c.args.words.now)) (sym c.commands.ensures) (as_all (map (string_bytes {Z = Global}) c.args.words.now))

-- a word that calls none of the table
pub returns-in-None : goal.returns-in-None
returns-in-None c =
    subst (λ (apps : List App). AnswersAsAll apps (map (string_bytes {Z = Global}) c.args.words.now)) (sym c.commands-in-None.ensures) (as_all (map (string_bytes {Z = Global}) c.args.words.now))

-- a word that calls one
pub returns-in-Some-row_of : goal.returns-in-Some-row_of
returns-in-Some-row_of c =
    let bytes = string_bytes {Z = Global} in
    let lookup = c.in-Some.ensures.lookup in
    let found = c.in-Some-row_of.ensures in
    let called = as_called bytes c.in-Some-row_of.row.now c.args.words.now c.in-Some.word.now c.as_str.result.now lookup.3.0 lookup.1 (sym c.as_str.ensures.value) found.0 found.1 in
    subst (λ (apps : List App). AnswersAsAll apps (map bytes c.args.words.now)) (sym (ap (map app_for) c.from_ref.ensures.value)) called
