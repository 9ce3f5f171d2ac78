use Rattle.std.proofs.Common.{ℕ, List, Option, Some, None, IsSomeAnd, inl, inr, map, string_bytes, sym, subst, Global}
use Rattle.std.specs.IoError.{error_kind}
use Rattle.clap.specs.Words.{Row, subcommand_of}
use Rattle.sandbox_args.specs.declared.request.Invocation.{Invocation}
use Rattle.sandbox_args.specs.CommandLine.{AsksFor, program}
use Rattle.sandbox_args.specs.Request.{Text}
use Rattle.sandbox_command.specs.Around.{calling, flushing}
use Rattle.sandbox_command.specs.Files.{IsAnswered}
use Rattle.stream_answers.specs.System.{HasRefused, WasGiven}
use Rattle.sandbox_runs.specs.Flushing.{FileFlushed}
use Rattle.sandbox_places.specs.System.{FileRefused, FileTook}
use Rattle.sandbox_command.proofs.files.exit_code.Goals as goal

-- what is noted of terminals is no part of what is asked for
asked_still : (entered : Option (Text × List Row)) (i j : Invocation) → ((name : Text) (rows : List Row) → AsksFor name rows i → AsksFor name rows j)
    → IsSomeAnd entered (λ e. AsksFor e.0 e.1 i) → IsSomeAnd entered (λ e. AsksFor e.0 e.1 j)
asked_still (Some e) i j still asks = still e.0 e.1 asks
asked_still None i j still asks = absurd asks

-- the words can't be read
pub returns-in-Err-clause-tells : goal.returns-in-Err-clause-tells
returns-in-Err-clause-tells g c =
    subst (λ (status : ℕ). IsAnswered g.R.Read g.W1.Write g.W2.Write (flushing FileFlushed FileRefused g.W1.Outlet.flushed g.W1.Outlet.refuses g.W2.Outlet.flushed g.W2.Outlet.refuses) (calling WasGiven HasRefused FileTook FileRefused g.R.Inlet.gave g.R.Inlet.refused g.W1.Outlet.took g.W1.Outlet.refused g.W2.Outlet.took g.W2.Outlet.refused) (record { input = c.args.input; out = c.args.out; err = c.args.err }) status) (sym c.from.ensures)
    (inl (error_kind c.in-Err.error, c.refuse_words.ensures))

-- what the words ask for was performed
pub returns-in-Ok-invocation-clause-tells : goal.returns-in-Ok-invocation-clause-tells
returns-in-Ok-invocation-clause-tells g c =
    subst (λ (status : ℕ). IsAnswered g.R.Read g.W1.Write g.W2.Write (flushing FileFlushed FileRefused g.W1.Outlet.flushed g.W1.Outlet.refuses g.W2.Outlet.flushed g.W2.Outlet.refuses) (calling WasGiven HasRefused FileTook FileRefused g.R.Inlet.gave g.R.Inlet.refused g.W1.Outlet.took g.W1.Outlet.refused g.W2.Outlet.took g.W2.Outlet.refused) (record { input = c.args.input; out = c.args.out; err = c.args.err }) status) (sym c.from-in-Ok-invocation.ensures)
    (inr (inr (
      map (string_bytes {Z = Global}) c.as_slice.result.now,
      c.note_terminals.new.self,
      asked_still (subcommand_of program (map (string_bytes {Z = Global}) c.as_slice.result.now)) _ _ c.note_terminals.ensures c.in-Ok-invocation.ensures.asks,
      c.perform.ensures.tells,
    )))

-- the command line is refused
pub returns-in-Err-invocation-clause-tells : goal.returns-in-Err-invocation-clause-tells
returns-in-Err-invocation-clause-tells g c =
    subst (λ (status : ℕ). IsAnswered g.R.Read g.W1.Write g.W2.Write (flushing FileFlushed FileRefused g.W1.Outlet.flushed g.W1.Outlet.refuses g.W2.Outlet.flushed g.W2.Outlet.refuses) (calling WasGiven HasRefused FileTook FileRefused g.R.Inlet.gave g.R.Inlet.refused g.W1.Outlet.took g.W1.Outlet.refused g.W2.Outlet.took g.W2.Outlet.refused) (record { input = c.args.input; out = c.args.out; err = c.args.err }) status) (sym c.from-in-Err-invocation.ensures)
    (inr (inl c.refuse_line.ensures.status))
