-- A limit on values changes nothing that a session begins with.
use Rattle.std.proofs.Common.{ℕ, Option}
use Rattle.vol_sector.specs.declared.device.Device.{Ghosts}
use Rattle.wasm_syntax.specs.declared.module.Module.{Module}
use Rattle.wasi_calls.specs.host.Links.{link}
use Rattle.wasi_calls.specs.declared.host.wasi_host.HostParts.{HostParts}
use Rattle.wasm_interp.proofs.Limiting.{limited_starts}
use Rattle.sandbox_core.specs.Session.{Opens, SessionState, Shares, limited_to}

module _ {D R W1 W2 : Type 0} where
  pub opens_limited : (m : Module) (parts : HostParts D R W1 W2) (s : SessionState D R W1 W2) (most : ℕ) → Opens m parts s → Opens m parts (limited_to most s)
  opens_limited m parts s most o = record {
    fits = o.fits;
    starts = limited_starts most link parts.settings.pages m s.machine o.starts;
    input = o.input;
    out = o.out;
    err = o.err;
    settings = o.settings;
    supply = o.supply;
    interactive = o.interactive;
  }

  pub shares_limited : (device : Ghosts D) (parts : HostParts D R W1 W2) (s : SessionState D R W1 W2) (most : ℕ) → Shares device parts s → Shares device parts (limited_to most s)
  shares_limited device parts s most h = record { is_tree = h.is_tree; reads = h.reads; preopens = h.preopens }
