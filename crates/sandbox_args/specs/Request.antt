-- The texts of a command line, and the arguments that a run gives its guest (`docs/USING.md`, "Options of `run`"). A
-- `Text` is a list of byte values, and the crates that carry out a command cite it from here.
use Rattle.std.specs.Prelude.{ℕ, List, ◌∷◌, map}
use Rattle.std.specs.Option.{option_map_or}
use Rattle.std.specs.Borrow.{Bor}
use Rattle.sandbox_args.specs.declared.request.Run.{Run}

abbrev pub Text : Type 0
Text = List ℕ

-- the texts behind references
abbrev pub texts : List (Bor Text) → List Text
texts = map (λ t. t.now)

-- the guest's argument 0: its name, or without one the word that names the module
abbrev pub argument_0 : Run → Text
argument_0 run = option_map_or (λ name. name.now) run.name run.module.now

-- the guest's arguments: its argument 0, and the words after the module
abbrev pub arguments_of : Run → List Text
arguments_of run = argument_0 run ∷ texts run.words.items
