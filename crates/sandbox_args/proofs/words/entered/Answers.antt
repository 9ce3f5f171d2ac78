use Rattle.std.proofs.Common.{◌∙◌, ◌≡◌, sym, subst, true≢false, List, Some, None, Option, IsSomeAnd}
use Rattle.std.specs.Prelude.{option_map}
use Rattle.std.proofs.lemmas.Result.{IfOk-weaker}
use Rattle.clap.specs.Words.{Row, Text, found_of, rows_of, subcommand_rows_of}
use Rattle.clap.specs.declared.parser.matches.ArgMatches.TheViews.{out-ArgMatches}
use Rattle.sandbox_args.specs.CommandLine.{AsksFor}
use Rattle.sandbox_args.proofs.words.entered.Goals as goal

-- the name and the rows of one subcommand
both_found : {B : Type 0} (f : B → Text) (g : B → List Row) (o : Option B) (name : Text) (rows : List Row) → Some name ≡ option_map f o
    → Some rows ≡ option_map (λ (p : Text × List Row). p.1) (option_map (λ (b : B). let e : Text × List Row = (f b, g b) in e) o)
    → option_map (λ (b : B). let e : Text × List Row = (f b, g b) in e) o ≡ Some (name, rows)
both_found f g None name rows a b = cc
both_found f g (Some x) name rows a b = cc

-- a subcommand is required
pub unreachable-requires : goal.unreachable-requires
unreachable-requires c = true≢false (sym c.requires ∙ sym c.in_default.ensures.variant)

pub returns : goal.returns
returns c =
    let rows = rows_of (found_of c.in-Some.inner.now) in
    let found : subcommand_rows_of c.args.matches.now ≡ Some (c.in-Some.name.now, rows) =
    both_found _ _ (out-ArgMatches c.args.matches.now).subcommand _ _ c.in-Some.ensures.name c.in-Some.ensures.rows in
    IfOk-weaker c.asked.result _ _ (λ i given. subst (λ (o : Option (Text × List Row)). IsSomeAnd o (λ e. AsksFor e.0 e.1 i)) (sym found) given)
    c.asked.ensures
