-- A session with the random bytes of a seed, or interactive, is what it was but for that.
use Rattle.std.proofs.Common.{◌≡◌, ℕ, Option, None, Some, refl, ap, sym, subst}
use Rattle.vol_sector.specs.declared.device.Device.{Ghosts}
use Rattle.wasm_syntax.specs.declared.module.Module.{Module}
use Rattle.wasi_calls.specs.declared.host.wasi_host.HostParts.{HostParts}
use Rattle.wasi_bodies.specs.declared.streams.Terminals.{Terminals}
use Rattle.sandbox_core.specs.Session.{Opens, OpensWith, SessionState, Shares, seeded_by, interactive_with}
use Rattle.sandbox_args.specs.declared.request.Run.{Run}
use Rattle.sandbox_telling.specs.Supplies.{terminals_of}
use Rattle.sandbox_runs.specs.internal.Seeds.{with_seed, with_terminals, prepared_by}

module _ {D R W1 W2 : Type 0} where
  pub seeds : (seed : Option ℕ) (old new : SessionState D R W1 W2) (n : ℕ) → seed ≡ Some n → new ≡ seeded_by n old → new ≡ with_seed seed old
  seeds seed old new n is made = subst (λ (o : Option ℕ). new ≡ with_seed o old) (sym is) made

  pub no_seed : (seed : Option ℕ) (old : SessionState D R W1 W2) → seed ≡ None → old.host.generator ≡ None → old ≡ with_seed seed old
  no_seed seed old is none = subst (λ (o : Option ℕ). old ≡ with_seed o old) (sym is) (ap (λ g. record old { host = record old.host { generator = g } }) none)

  pub interacts : (terminals : Option Terminals) (old new : SessionState D R W1 W2) (t : Terminals) → terminals ≡ Some t → new ≡ interactive_with t old → new ≡ with_terminals terminals old
  interacts terminals old new t is made = subst (λ (o : Option Terminals). new ≡ with_terminals o old) (sym is) made

  pub no_terminals : (terminals : Option Terminals) (old : SessionState D R W1 W2) → terminals ≡ None → old.host.interactive ≡ None → old ≡ with_terminals terminals old
  no_terminals terminals old is none = subst (λ (o : Option Terminals). old ≡ with_terminals o old) (sym is) (ap (λ t. record old { host = record old.host { interactive = t } }) none)

  pub opens_prepared : (m : Module) (parts : HostParts D R W1 W2) (s : SessionState D R W1 W2) (run : Run) → Opens m parts s → OpensWith run.seed (terminals_of run) m parts (prepared_by run s)
  opens_prepared m parts s run o = record { fits = o.fits; starts = o.starts; input = o.input; out = o.out; err = o.err; settings = o.settings; supply = refl; interactive = refl }

  pub shares_prepared : (device : Ghosts D) (parts : HostParts D R W1 W2) (s : SessionState D R W1 W2) (run : Run)
      → Shares device parts s → Shares device parts (prepared_by run s)
  shares_prepared device parts s run h = record { is_tree = h.is_tree; reads = h.reads; preopens = h.preopens }
