use Rattle.std.proofs.Common.{◌∙◌, ap, sym, subst, List, Option, map, string_bytes, Global, IsSomeAnd}
use Rattle.std.proofs.lemmas.Result.{err_from_is_err_and}
use Rattle.clap.specs.Words.{App, Row, Text, HasKind, fault_of, is_simple, subcommand_of}
use Rattle.clap.specs.Faults.{is_simple_and_free}
use Rattle.clap.specs.Kinds.{Kinds}
use Rattle.sandbox_args.specs.CommandLine.{AsksFor}
use Rattle.sandbox_args.specs.internal.Table.{app_for}
use Rattle.sandbox_args.proofs.CalledAlone.{requires_one, simple_too}
use Rattle.sandbox_args.proofs.words.invocation.Goals as goal

-- clap refused the words
pub returns-in_err-matches-clause-fails : goal.returns-in_err-matches-clause-fails
returns-in_err-matches-clause-fails c =
    let command = c.in_ok-command.ensures.0 in
    let as_all = c.commands_for.ensures in
    let kinds = c.in_err-matches.ensures.kinds (ap is_simple_and_free command ∙ as_all.free) in
    let words = map (string_bytes {Z = Global}) c.args.words.now in
    let same = err_from_is_err_and c.from_residual-in_err-matches.result c.from_residual-in_err-matches.ensures.1 in
    let fault = ap (λ (a : App). fault_of a words) command ∙ as_all.fault in
    rw (same.1, same.2) (subst (λ (k : Kinds). HasKind k c.in_err-matches.field-0.0) fault kinds)

-- a subcommand is required
pub entered-answer-requires : goal.entered-answer-requires
entered-answer-requires c =
    let command = c.in_ok-command.ensures in
    let parsed = c.in_ok-matches.ensures.parsed in
    let required = ap (λ (a : App). a.top.subcommand_required) command.0 ∙ requires_one (map app_for c.commands_for.result.now) in
    let checked = (parsed.parsed (parsed.from.globals ∙ command.1)).checked in
    checked.subcommand (parsed.from.needs_subcommand ∙ required)

pub returns-clause-asks : goal.returns-clause-asks
returns-clause-asks c =
    let command = c.in_ok-command.ensures.0 in
    let as_all = c.commands_for.ensures in
    let words = map (string_bytes {Z = Global}) c.args.words.now in
    let matches = c.in_ok-matches.ensures.matches (ap is_simple command ∙ simple_too _ _ as_all) in
    let entered = matches.1 ∙ (ap (λ (a : App). subcommand_of a words) command ∙ as_all.subcommand) in
    subst (λ (o : Option (Text × List Row)). IsSomeAnd o (λ e. AsksFor e.0 e.1 c.in_ok-answer.field-0)) entered c.in_ok-answer.ensures

pub returns-clause-fails : goal.returns-clause-fails
returns-clause-fails c =
    let command = c.in_ok-command.ensures.0 in
    let as_all = c.commands_for.ensures in
    let words = map (string_bytes {Z = Global}) c.args.words.now in
    sym (ap (λ (a : App). fault_of a words) command ∙ as_all.fault) ∙ c.in_ok-matches.ensures.kinds (ap is_simple_and_free command ∙ as_all.free)
