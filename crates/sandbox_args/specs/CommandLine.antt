-- The command line (`docs/USING.md`, "Commands"): the command that clap is told of, and what its matches ask for. The
-- terms are those of the kit's model of clap: an `App` is a command with its subcommands, a `Rule` an argument, and a
-- `Row` what was found for one.
use Rattle.std.specs.Prelude.{◌≡◌, ◌↔◌, IsTrue, ◌&&◌, ◌^◌, ℕ, Bool, true, List, [], ◌∷◌, length, pos, Option, Some, None, unwrap_or, option_and_then, option_map, if◌then◌else◌, nat_lt, codes}
use Rattle.std.specs.Borrow.{Bor}
use Rattle.std.specs.List.{Contains, list_all}
use Rattle.std.specs.Char.{digit_value}
use Rattle.std.specs.Str.Parse.{digits_value, without_leading_plus}
use Rattle.clap.specs.declared.builder.action.ArgAction.TheVariants.{Set, Append, SetTrue}
use Rattle.clap.specs.declared.builder.value_parser.ValueParser.{ValueParser}
use Rattle.clap.specs.declared.builder.value_parser.ValueParser.TheVariants.{Signed, Unsigned}
use Rattle.clap.specs.Lexer.{usize_max}
use Rattle.clap.specs.Simple.{on_top}
use Rattle.clap.specs.Words.{App, Row, Rule, all_of, first_of, new_app, new_rule, one_of, with_rule, with_subcommand}
use Rattle.sandbox_args.specs.declared.request.Run.{Run}
use Rattle.sandbox_args.specs.declared.request.Task.{Task}
use Rattle.sandbox_args.specs.declared.request.Task.TheVariants.{List as Ls, ListAs as LsAs, Get, Put, PutWhole, Check, Upgrade, Stat, Change as Changing}
use Rattle.sandbox_args.specs.declared.request.Change.{Change}
use Rattle.sandbox_args.specs.declared.request.Change.TheVariants.{MakeDirectory, Move, Remove, RemoveAll}
use Rattle.sandbox_args.specs.declared.request.Invocation.{Invocation}
use Rattle.sandbox_args.specs.declared.request.Invocation.TheVariants as asked
use Rattle.sandbox_args.specs.Request.{Text, texts}

-- ---- the command

-- the numbers of `u64` and of `u32`
abbrev pub u64_numbers : ValueParser
u64_numbers = Unsigned 0 18446744073709551615

abbrev pub u32_numbers : ValueParser
u32_numbers = Signed (pos 0) (pos 4294967295)

-- `--name N`
abbrev pub number_rule : Text → ValueParser → Rule
number_rule name numbers = record (new_rule name) {
  long = Some name;
  action = Some Set;
  value_names = 1;
  parser = Some numbers;
}

-- `--name TEXT`
abbrev pub text_rule : Text → Rule
text_rule name = record (new_rule name) { long = Some name; action = Some Set; value_names = 1 }

-- `--name TEXT`, as often as it comes
abbrev pub texts_rule : Text → Rule
texts_rule name = record (new_rule name) { long = Some name; action = Some Append; value_names = 1 }

-- `--name` alone
abbrev pub flag_rule : Text → Rule
flag_rule name = record (new_rule name) { long = Some name; action = Some SetTrue }

-- `--name` or the letter of this code behind one `-`
abbrev pub short_flag_rule : Text → ℕ → Rule
short_flag_rule name letter = record (flag_rule name) { short = Some letter }

-- a word that has to be there
abbrev pub word_rule : Text → Rule
word_rule name = record (new_rule name) { action = Some Set; required = true }

-- such a word, which is a number
abbrev pub number_word_rule : Text → Rule
number_word_rule name = record (word_rule name) { parser = Some u32_numbers }

-- a word, as often as it comes
abbrev pub words_rule : Text → Rule
words_rule name = record (new_rule name) {
  action = Some Append;
  range = Some (record { start_inclusive = 0; end_inclusive = usize_max });
}

-- a command with these arguments more
abbrev pub with_rules : App → List Rule → App
with_rules app [] = app
with_rules app (rule ∷ rest) = with_rules (with_rule app rule) rest

-- a command with these arguments, and nothing else
abbrev pub app_with : Text → List Rule → App
app_with name rules = with_rules (new_app name) rules

-- a command with these subcommands more
abbrev pub with_apps : App → List App → App
with_apps app [] = app
with_apps app (sub ∷ rest) = with_apps (with_subcommand app sub.top) rest

-- what a guest may use and is given, and where it is reported
unfoldable pub run_rules : List Rule
run_rules = text_rule (codes "volume") ∷ text_rule (codes "image") ∷ text_rule (codes "image-from") ∷ text_rule (codes "volume-out")
    ∷ text_rule (codes "out-to")
    ∷ number_rule (codes "fuel") u64_numbers ∷ number_rule (codes "pages") u32_numbers ∷ number_rule (codes "values") u32_numbers
    ∷ number_rule (codes "output") u64_numbers
    ∷ texts_rule (codes "dir") ∷ texts_rule (codes "env") ∷ number_rule (codes "moment") u64_numbers
    ∷ text_rule (codes "random") ∷ number_rule (codes "seed") u64_numbers
    ∷ text_rule (codes "stdin") ∷ text_rule (codes "stdout") ∷ text_rule (codes "stderr") ∷ flag_rule (codes "interactive")
    ∷ flag_rule (codes "floats")
    ∷ text_rule (codes "name") ∷ text_rule (codes "report") ∷ number_rule (codes "frames") u32_numbers
    ∷ text_rule (codes "profile") ∷ number_rule (codes "profile-every") u64_numbers ∷ text_rule (codes "tests") ∷ text_rule (codes "invoke")
    ∷ word_rule (codes "MODULE") ∷ words_rule (codes "WORD") ∷ []

-- `run`, with these
abbrev pub run_app : App
run_app = app_with (codes "run") run_rules

-- `inspect`, of a module
abbrev pub inspect_app : App
inspect_app = app_with (codes "inspect") (word_rule (codes "MODULE") ∷ flag_rule (codes "floats") ∷ [])

-- a command on the volume in a file
abbrev pub file_app : Text → App
file_app name = app_with name (word_rule (codes "FILE") ∷ [])

-- and on what a path in it names
abbrev pub path_app : Text → App
path_app name = app_with name (word_rule (codes "FILE") ∷ word_rule (codes "PATH") ∷ [])

-- `ls`, and how it writes an entry
abbrev pub list_app : App
list_app = app_with (codes "ls") (word_rule (codes "FILE") ∷ word_rule (codes "PATH") ∷ flag_rule (codes "escape") ∷ flag_rule (codes "null") ∷ [])

-- `put`, into a new file first with `--whole`
abbrev pub put_app : App
put_app = app_with (codes "put") (word_rule (codes "FILE") ∷ word_rule (codes "PATH") ∷ flag_rule (codes "whole") ∷ [])

-- `rm`, of a whole tree with `-r`
abbrev pub remove_app : App
remove_app = app_with (codes "rm") (word_rule (codes "FILE") ∷ word_rule (codes "PATH") ∷ short_flag_rule (codes "recursive") 114 ∷ [])

-- `mv`, with the path that an entry has and the one that it gets
abbrev pub move_app : App
move_app = app_with (codes "mv") (word_rule (codes "FILE") ∷ word_rule (codes "FROM") ∷ word_rule (codes "TO") ∷ [])

abbrev pub format_app : App
format_app = app_with (codes "format") (word_rule (codes "FILE") ∷ number_word_rule (codes "SECTORS") ∷ number_word_rule (codes "SLOTS")
    ∷ flag_rule (codes "large") ∷ flag_rule (codes "huge") ∷ flag_rule (codes "new") ∷ [])

-- `upgrade`, to version 4 with `--huge`
abbrev pub upgrade_app : App
upgrade_app = app_with (codes "upgrade") (word_rule (codes "FILE") ∷ flag_rule (codes "huge") ∷ [])

-- `faults`, which has no word, and without one prints its help
abbrev pub faults_app : App
faults_app = on_top (λ s. record s { arg_required_else_help = true }) (new_app (codes "faults"))

-- its commands, but for `faults`
unfoldable pub table_apps : List App
table_apps = run_app ∷ inspect_app ∷ format_app ∷ list_app ∷ path_app (codes "get") ∷ put_app
    ∷ path_app (codes "import") ∷ path_app (codes "export") ∷ path_app (codes "mkdir") ∷ move_app ∷ remove_app ∷ path_app (codes "stat")
    ∷ file_app (codes "check") ∷ upgrade_app ∷ []

-- the program: one of its subcommands has to be there, and it tells its version
unfoldable pub program : App
program = with_subcommand (with_apps (on_top (λ s. record s { subcommand_required = true; has_version = true }) (new_app (codes "sandbox"))) table_apps) faults_app.top

-- ---- what is asked for

-- one digit or more, and nothing else
abbrev pub is_numeral : Text → Bool
is_numeral digits = nat_lt 0 (length digits) && list_all (λ d. nat_lt (digit_value d) 10) digits

-- the number of this many bits at most that digits write, before which a plus may stand
abbrev pub parsed_number : ℕ → Text → Option ℕ
parsed_number bits text =
    let digits = without_leading_plus text in
    if is_numeral digits && nat_lt (digits_value 10 digits) (2 ^ bits) then Some (digits_value 10 digits) else None

-- the number of an option, if it is there
abbrev pub number_in : ℕ → Text → List Row → Option ℕ
number_in bits id rows = option_and_then (parsed_number bits) (one_of id rows)

-- the number of an option, or this default
abbrev pub number_or : ℕ → ℕ → Text → List Row → ℕ
number_or default bits id rows = unwrap_or (number_in bits id rows) default

-- the word of an argument, or the empty one
abbrev pub word_of : Text → List Row → Text
word_of id rows = unwrap_or (first_of id rows) []

-- a flag is there
abbrev pub IsFlagged : Text → List Row → Type 0
IsFlagged id rows = word_of id rows ≡ codes "true"

-- all texts of an argument, in order
abbrev pub texts_of : Text → List Row → List Text
texts_of id rows = unwrap_or (all_of id rows) []

-- the text behind a reference, if there is one
abbrev pub text_in : Option (Bor Text) → Option Text
text_in o = option_map (λ t. t.now) o

-- what `run` is asked for by what was found for its arguments
pub record AsksRun (rows : List Row) (run : Run) : Type 0 where
  pub fuel : run.limits.fuel ≡ number_or 1000000000 64 (codes "fuel") rows
  pub pages : run.limits.pages ≡ number_or 1024 32 (codes "pages") rows
  pub values : run.limits.values ≡ number_or 134217728 32 (codes "values") rows
  pub output : run.limits.output ≡ number_in 64 (codes "output") rows
  pub volume : text_in run.volume ≡ first_of (codes "volume") rows
  pub image : text_in run.image ≡ first_of (codes "image") rows
  pub image_from : text_in run.image_from ≡ first_of (codes "image-from") rows
  pub volume_out : text_in run.volume_out ≡ first_of (codes "volume-out") rows
  pub out_to : text_in run.out_to ≡ first_of (codes "out-to") rows
  pub dirs : texts run.dirs.items ≡ texts_of (codes "dir") rows
  pub env : texts run.env.items ≡ texts_of (codes "env") rows
  pub moment : run.moment ≡ number_or 0 64 (codes "moment") rows
  pub random : text_in run.random ≡ first_of (codes "random") rows
  pub seed : run.seed ≡ number_in 64 (codes "seed") rows
  pub stdin : text_in run.stdin ≡ first_of (codes "stdin") rows
  pub stdout : text_in run.stdout ≡ first_of (codes "stdout") rows
  pub stderr : text_in run.stderr ≡ first_of (codes "stderr") rows
  pub interactive : IsTrue run.interactive ↔ IsFlagged (codes "interactive") rows
  pub floats : IsTrue run.floats ↔ IsFlagged (codes "floats") rows
  pub name : text_in run.name ≡ first_of (codes "name") rows
  pub report : text_in run.report ≡ first_of (codes "report") rows
  pub frames : run.frames ≡ number_or 16 32 (codes "frames") rows
  pub profile : text_in run.profile ≡ first_of (codes "profile") rows
  pub profile_every : run.profile_every ≡ number_in 64 (codes "profile-every") rows
  pub tests : text_in run.tests ≡ first_of (codes "tests") rows
  pub invoke : text_in run.invoke ≡ first_of (codes "invoke") rows
  pub module_word : run.module.now ≡ word_of (codes "MODULE") rows
  pub words : texts run.words.items ≡ texts_of (codes "WORD") rows

-- the command of this name is this change
abbrev pub AsksChange : Text → List Row → Change → Type 0
AsksChange name rows (MakeDirectory path) = (name ≡ codes "mkdir") × (path.now ≡ word_of (codes "PATH") rows)
AsksChange name rows (Move from to) = (name ≡ codes "mv") × (from.now ≡ word_of (codes "FROM") rows) × (to.now ≡ word_of (codes "TO") rows)
AsksChange name rows (Remove path) = (name ≡ codes "rm") × (path.now ≡ word_of (codes "PATH") rows) × (IsFlagged (codes "recursive") rows → ⊥)
AsksChange name rows (RemoveAll path) = (name ≡ codes "rm") × (path.now ≡ word_of (codes "PATH") rows) × IsFlagged (codes "recursive") rows

-- the command of this name is this task
abbrev pub AsksTask : Text → List Row → Task → Type 0
AsksTask name rows (Ls path) = (name ≡ codes "ls") × (path.now ≡ word_of (codes "PATH") rows)
    × (IsFlagged (codes "escape") rows → ⊥) × (IsFlagged (codes "null") rows → ⊥)
AsksTask name rows (LsAs path form) = (name ≡ codes "ls") × (path.now ≡ word_of (codes "PATH") rows)
    × (IsTrue form.escape ↔ IsFlagged (codes "escape") rows) × (IsTrue form.null ↔ IsFlagged (codes "null") rows)
AsksTask name rows (Get path) = (name ≡ codes "get") × (path.now ≡ word_of (codes "PATH") rows)
AsksTask name rows (Put path) = (name ≡ codes "put") × (path.now ≡ word_of (codes "PATH") rows) × (IsFlagged (codes "whole") rows → ⊥)
AsksTask name rows (PutWhole path) = (name ≡ codes "put") × (path.now ≡ word_of (codes "PATH") rows) × IsFlagged (codes "whole") rows
AsksTask name rows Check = name ≡ codes "check"
AsksTask name rows (Upgrade huge) = (name ≡ codes "upgrade") × (IsTrue huge ↔ IsFlagged (codes "huge") rows)
AsksTask name rows (Stat path) = (name ≡ codes "stat") × (path.now ≡ word_of (codes "PATH") rows)
AsksTask name rows (Changing change) = AsksChange name rows change

-- the commands that are changes
abbrev pub change_names : List Text
change_names = codes "mkdir" ∷ codes "mv" ∷ codes "rm" ∷ []

-- the commands that are tasks
abbrev pub task_names : List Text
task_names = codes "ls" ∷ codes "get" ∷ codes "put" ∷ codes "check" ∷ codes "upgrade" ∷ codes "stat" ∷ change_names

-- the commands that are not `run`
abbrev pub other_names : List Text
other_names = codes "format" ∷ codes "import" ∷ codes "export" ∷ codes "inspect" ∷ task_names

-- What the command of this name is asked for by what was found for its arguments. It is `run` where it is no other.
abbrev pub AsksFor : Text → List Row → Invocation → Type 0
AsksFor name rows (asked.Run run) = (Contains other_names name → ⊥) × AsksRun rows run
AsksFor name rows (asked.Format file sectors slots large huge new) = (name ≡ codes "format") × (file.now ≡ word_of (codes "FILE") rows)
    × (sectors ≡ number_or 0 32 (codes "SECTORS") rows) × (slots ≡ number_or 0 32 (codes "SLOTS") rows)
    × (IsTrue large ↔ IsFlagged (codes "large") rows) × (IsTrue huge ↔ IsFlagged (codes "huge") rows) × (IsTrue new ↔ IsFlagged (codes "new") rows)
AsksFor name rows (asked.Volume file task) = (file.now ≡ word_of (codes "FILE") rows) × AsksTask name rows task
AsksFor name rows (asked.Import file path) = (name ≡ codes "import") × (file.now ≡ word_of (codes "FILE") rows) × (path.now ≡ word_of (codes "PATH") rows)
AsksFor name rows (asked.Export file path) = (name ≡ codes "export") × (file.now ≡ word_of (codes "FILE") rows) × (path.now ≡ word_of (codes "PATH") rows)
AsksFor name rows (asked.Inspect «module» floats) = (name ≡ codes "inspect") × («module».now ≡ word_of (codes "MODULE") rows)
    × (IsTrue floats ↔ IsFlagged (codes "floats") rows)
