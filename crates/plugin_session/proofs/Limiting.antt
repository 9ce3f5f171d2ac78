-- A limit on values changes nothing that an instance begins with.
use Rattle.std.proofs.Common.{ℕ, Option}
use Rattle.wasm_syntax.specs.declared.module.Module.{Module}
use Rattle.wasi_calls.specs.declared.host.wasi_host.HostParts.{HostParts}
use Rattle.wasi_bodies.specs.declared.streams.Terminals.{Terminals}
use Rattle.wasm_interp.proofs.Limiting.{limited_opens}
use Rattle.plugin_session.specs.Instance.{InstanceState, OpensWith, limited_to, links}

pub opens_limited : {D R W1 W2 : Type 0} (seed : Option ℕ) (terminals : Option Terminals) (m : Module) (parts : HostParts D R W1 W2) (s : InstanceState D R W1 W2) (most : ℕ) → OpensWith seed terminals m parts s → OpensWith seed terminals m parts (limited_to most s)
opens_limited seed terminals m parts s most o = record {
  fits = o.fits;
  opens = limited_opens most links parts.settings.pages m s.machine o.opens;
  input = o.input;
  out = o.out;
  err = o.err;
  settings = o.settings;
  supply = o.supply;
  interactive = o.interactive;
  stage = o.stage;
}
