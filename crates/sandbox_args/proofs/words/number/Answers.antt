use Rattle.std.proofs.Common.{◌∙◌, ap}
use Rattle.std.specs.Prelude.{option_and_then}
use Rattle.std.specs.Str.Parse.{ParsesUnsigned, ExplainsUnsignedError, HasUnsignedDigitsIfOk}
use Rattle.clap.proofs.WalkLemmas.{one_text-rows}
use Rattle.clap.specs.Words.{found_of, one_text}
use Rattle.sandbox_args.specs.CommandLine.{parsed_number}
use Rattle.sandbox_args.proofs.CommandLines.{option_reads}
use Rattle.sandbox_args.proofs.words.number.Goals as goal

-- the getter reads what the rows have
pub returns : goal.returns
returns c =
    let found = found_of c.args.matches.now in
    option_reads (λ bs r. ParsesUnsigned 32 10 bs r × ExplainsUnsignedError 10 bs r × HasUnsignedDigitsIfOk bs r) 32
    (one_text found c.args.id.now) c.get_one.result (λ u x g. g.0) c.get_one.ensures.none c.get_one.ensures.value
    ∙ ap (option_and_then (parsed_number 32)) (one_text-rows found c.args.id.now)
