-- A session with the random bytes of a seed, and interactive with some terminals. Without a seed `with_seed` leaves no generator, and
-- without terminals `with_terminals` leaves none; the private functions `seed`, `interact` and `run_within` require that there were
-- none, so one contract of each covers both cases.
use Rattle.std.specs.Prelude.{ℕ, Option, option_map}
use Rattle.wasi_bodies.specs.declared.streams.Terminals.{Terminals}
use Rattle.wasi_bodies.specs.supplies.Random.{seeded}
use Rattle.sandbox_core.specs.Session.{SessionState}
use Rattle.sandbox_args.specs.declared.request.Run.{Run}
use Rattle.sandbox_telling.specs.Supplies.{terminals_of}

-- the same session, whose random bytes are those of a generator where there is a seed
abbrev pub with_seed : {D R W1 W2 : Type 0} → Option ℕ → SessionState D R W1 W2 → SessionState D R W1 W2
with_seed seed s = record s { host = record s.host { generator = option_map seeded seed } }

-- the same session, interactive where there are terminals
abbrev pub with_terminals : {D R W1 W2 : Type 0} → Option Terminals → SessionState D R W1 W2 → SessionState D R W1 W2
with_terminals terminals s = record s { host = record s.host { interactive = terminals } }

-- as the words of a run have it
abbrev pub prepared_by : {D R W1 W2 : Type 0} → Run → SessionState D R W1 W2 → SessionState D R W1 W2
prepared_by run s = with_terminals (terminals_of run) (with_seed run.seed s)
