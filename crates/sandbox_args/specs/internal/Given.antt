-- What `run` is asked for, where its lists of texts were read before. `run_with` gets these lists as arguments, so its
-- contract has as a premise that they are those of the rows that clap found.
use Rattle.std.specs.Prelude.{◌≡◌, List, codes}
use Rattle.std.specs.Borrow.{Bor}
use Rattle.clap.specs.Words.{Row}
use Rattle.sandbox_args.specs.declared.request.Run.{Run}
use Rattle.sandbox_args.specs.Request.{Text, texts}
use Rattle.sandbox_args.specs.CommandLine.{AsksRun, texts_of}

-- with lists that have the texts of their arguments it is what is asked for
abbrev pub AsksRunOf : List Row → List (Bor Text) → List (Bor Text) → List (Bor Text) → Run → Type 0
AsksRunOf rows dirs env words run = texts dirs ≡ texts_of (codes "dir") rows → texts env ≡ texts_of (codes "env") rows → texts words ≡ texts_of (codes "WORD") rows → AsksRun rows run
