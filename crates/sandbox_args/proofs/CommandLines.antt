-- What the getters of clap read, by the rows of its model.
use Rattle.std.proofs.Common.{◌≡◌, ◌∙◌, ◌^◌, ◌&&◌, ◌||◌, ℕ, Bool, true, false, List, [], ◌∷◌, length, Option, Some, None, Result, Ok, Err, refl, sym, ap, nat_lt, lt-ltb, ltb-true, true≢false}
use Rattle.std.specs.Prelude.{option_and_then}
use Rattle.std.specs.List.{list_all}
use Rattle.std.specs.Char.{digit_value}
use Rattle.std.specs.Str.Parse.{AllDigits, IsNumeral, ParsesUnsigned, digits_value, without_leading_plus}
use Rattle.clap.specs.Words.{AddsArg, AddsSubcommand, App, ReadsOne, Rule, app_of, rule_of, with_rule, with_subcommand}
use Rattle.clap.specs.Faults.{is_simple_and_free}
use Rattle.clap.specs.declared.builder.arg.Arg.{Arg}
use Rattle.clap.specs.declared.builder.command.Command.{Command}
use Rattle.clap.specs.declared.builder.command.Command.TheViews.{out-Command as fields_of}
use Rattle.clap.proofs.OnLiterals.{clap_on_literals}
use Rattle.sandbox_args.specs.Request.{Text}
use Rattle.sandbox_args.specs.internal.Table.{AddsSubcommands}
use Rattle.sandbox_args.specs.CommandLine.{is_numeral, parsed_number, program, run_rules, table_apps, with_apps, with_rules}

-- ---- numbers

digits_pass : (ds : List ℕ) → AllDigits 10 ds → list_all (λ d. nat_lt (digit_value d) 10) ds ≡ true
digits_pass [] h = refl
digits_pass (d ∷ ds) h = rw (lt-ltb (digit_value d) 10 h.0) (digits_pass ds h.1)

both : (a b : Bool) → a && b ≡ true → (a ≡ true) × (b ≡ true)
both true b e = (refl, e)
both false b e = absurd (true≢false (sym e))

digits_from : (ds : List ℕ) → list_all (λ d. nat_lt (digit_value d) 10) ds ≡ true → AllDigits 10 ds
digits_from [] e = tt
digits_from (d ∷ ds) e =
    let parts = both _ _ e in
    (ltb-true _ _ parts.0, digits_from ds parts.1)

numeral_passes : (ds : List ℕ) → IsNumeral 10 ds → is_numeral ds ≡ true
numeral_passes ds h = rw (lt-ltb 0 (length ds) h.0) (digits_pass ds h.1)

numeral_from : (ds : List ℕ) → is_numeral ds ≡ true → IsNumeral 10 ds
numeral_from ds e =
    let parts = both _ _ e in
    (ltb-true _ _ parts.0, digits_from ds parts.1)

-- what `parse` reads of a text at an unsigned type
abbrev read_of : {E : Type 0} → Result ℕ E → Option ℕ
read_of (Ok n) = Some n
read_of (Err e) = None

parse_reads : {E : Type 0} (bits : ℕ) (text : Text) (r : Result ℕ E) → ParsesUnsigned bits 10 text r → read_of r ≡ parsed_number bits text
parse_reads bits text (Ok n) h =
    let ds = without_leading_plus text in
    rw (numeral_passes ds h.0.0, lt-ltb (digits_value 10 ds) (2 ^ bits) h.0.1) (ap Some h.1)
parse_reads bits text (Err e) h = go (is_numeral ds && nat_lt (digits_value 10 ds) (2 ^ bits)) refl
  where
    ds : List ℕ
    ds = without_leading_plus text

    go : (b : Bool) → is_numeral (without_leading_plus text) && nat_lt (digits_value 10 (without_leading_plus text)) (2 ^ bits) ≡ b → None ≡ parsed_number bits text
    go false t = rw t refl
    go true t =
        let parts = both _ _ t in
        absurd (h (numeral_from (without_leading_plus text) parts.0, ltb-true _ _ parts.1))

-- what `get_one` reads of an option
pub option_reads : {E : Type 0} (gives : List ℕ → Result ℕ E → Type 0) (bits : ℕ) (o : Option Text) (r : Option ℕ)
    → ((u : List ℕ) (x : Result ℕ E) → gives u x → ParsesUnsigned bits 10 u x)
    → (o ≡ None → r ≡ None) → ((t : Text) → o ≡ Some t → ReadsOne gives t r) → r ≡ option_and_then (parsed_number bits) o
option_reads gives bits None r parses none value = none refl
option_reads {E} gives bits (Some t) r parses none value = go r (value t refl)
  where
    go : (s : Option ℕ) → ReadsOne gives t s → s ≡ parsed_number bits t
    go (Some v) h = parse_reads {E = E} bits t (Ok v) (parses t (Ok v) h)
    go None h = parse_reads {E = E} bits t (Err h.0) (parses t (Err h.0) h.1)

-- ---- the command

-- a command of which clap's model says this
abbrev pub Has : Command → App → Type 0
Has c app = (app_of c ≡ app) × ((fields_of c).has_globals ≡ false)

-- one more argument, where the others are still to come
pub argument_added : (old new : Command) (a : Arg) (app : App) (r : Rule) (rest : List Rule) → AddsArg old a new → (rule_of a ≡ r) × (a.global ≡ false)
    → (with_rules (app_of old) (r ∷ rest) ≡ app) → (with_rules (app_of new) rest ≡ app) × ((fields_of new).has_globals ≡ (fields_of old).has_globals)
argument_added old new a app r rest added (rule, own) still = (
  ap (λ c. with_rules c rest) (added.shape own ∙ ap (with_rule (app_of old)) rule) ∙ still,
  added.globals ∙ ap (λ b. (fields_of old).has_globals || b) own ∙ or_false (fields_of old).has_globals,
)
  where
    or_false : (b : Bool) → b || false ≡ b
    or_false true = refl
    or_false false = refl

-- one more subcommand, where the others are still to come
pub subcommand_added : (old new sub : Command) (app leaf : App) (rest : List App) → AddsSubcommand old sub new → Has sub leaf
    → (with_apps (app_of old) (leaf ∷ rest) ≡ app) → (with_apps (app_of new) rest ≡ app) × ((fields_of new).has_globals ≡ (fields_of old).has_globals)
subcommand_added old new sub app leaf rest added (is, own) still = (
  ap (λ c. with_apps c rest) (added.shape own ∙ ap (λ (a : App). with_subcommand (app_of old) a.top) is) ∙ still,
  added.globals ∙ ap (λ b. (fields_of old).has_globals || b) own ∙ or_false (fields_of old).has_globals,
)
  where
    or_false : (b : Bool) → b || false ≡ b
    or_false true = refl
    or_false false = refl

-- the last subcommand of the program, after those of the table
pub program_made : (first made faults new : Command) (top leaf : App) (apps : List App) → (app_of first ≡ top) × ((fields_of first).has_globals ≡ false)
    → AddsSubcommands first apps made → Has faults leaf → AddsSubcommand made faults new → Has new (with_subcommand (with_apps top apps) leaf.top)
program_made first made faults new top leaf apps (is, local) table last added =
    let one = subcommand_added made new faults _ leaf [] added last refl in
    (one.0 ∙ ap (λ (a : App). with_subcommand a leaf.top) (table.shape ∙ ap (λ (a : App). with_apps a apps) is), one.1 ∙ (table.globals ∙ local))

-- the program's command is one of which clap's model says all
pub program_is_free : is_simple_and_free program ≡ true
unfolding program table_apps run_rules clap_on_literals
program_is_free = refl
