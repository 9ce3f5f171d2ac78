-- A limit on values changes nothing that an instance begins with whose input may go on.
use Rattle.std.proofs.Common.{ℕ, Bool, None}
use Rattle.wasm_syntax.specs.declared.module.Module.{Module}
use Rattle.wasm_steps.specs.Configuration.{Configuration, Instance}
use Rattle.wasm_interp.specs.Machine.{Snapshot, limited}
use Rattle.wasm_interp.proofs.Limiting.{limited_represents}
use Rattle.wasi_calls.specs.declared.host.wasi_host.HostParts.{HostParts}
use Rattle.plugin_session.specs.Instance.{InstanceState, limited_to}
use Rattle.fed_input.specs.Feeding.{Fed}
use Rattle.fed_session.specs.Feeding.{Opens, RepresentsWhole}

limited_whole : (goes_on : Bool) (most : ℕ) (s : Snapshot) (i : Instance) (c : Configuration) → RepresentsWhole goes_on s i c → RepresentsWhole goes_on (limited most s) i c
limited_whole goes_on most s i c k = record {
  part = k.part;
  is_whole = k.is_whole;
  numbered = k.numbered;
  stands = limited_represents most s k.part c k.stands;
}

pub fed_opens_limited : {D W1 W2 : Type 0} (goes_on : Bool) (m : Module) (parts : HostParts D Fed W1 W2) (s : InstanceState D Fed W1 W2) (most : ℕ) → Opens goes_on m parts s → Opens goes_on m parts (limited_to most s)
fed_opens_limited goes_on m parts s most o =
    let k = o.opens in
    record {
      fits = o.fits;
      opens = record {
        instance = k.instance;
        store = k.store;
        initializer = k.initializer;
        allocates = k.allocates;
        has_initializer = k.has_initializer;
        stands = limited_whole goes_on most s.machine k.instance _ k.stands;
        module_is = k.module_is;
        used = k.used;
        runs = k.runs;
        room = k.room;
      };
      input = o.input;
      out = o.out;
      err = o.err;
      settings = o.settings;
      supply = o.supply;
      interactive = o.interactive;
      stage = o.stage;
    }
