-- A limit on values changes no configuration that a machine stands for.
use Rattle.std.proofs.Common.{ℕ, arith}
use Rattle.wasm_syntax.specs.declared.module.Module.{Module}
use Rattle.wasm_store.specs.Allocation.{AllLinks}
use Rattle.wasm_store.specs.Instantiation.{LinksOf}
use Rattle.wasm_steps.specs.Configuration.{Configuration, Instance}
use Rattle.wasm_interp.specs.Machine.{Represents, Snapshot, limited}
use Rattle.wasm_interp.specs.Promise.{Starts}
use Rattle.wasm_interp.specs.Invoking.{Opens}

pub limited_represents : (most : ℕ) (s : Snapshot) (i : Instance) (c : Configuration) → Represents s i c → Represents (limited most s) i c
unfolding Represents
limited_represents most s i c (shows, state, room) = (
  record { memory = shows.memory; table = shows.table; globals = shows.globals; used = shows.used },
  state,
  record { values = room.values; most = omega arith },
)

-- nor the first one
pub limited_starts : (most : ℕ) (links : LinksOf) (pages : ℕ) (m : Module) (s : Snapshot) → Starts links pages m s → Starts links pages m (limited most s)
limited_starts most links pages m s k = record {
  instance = k.instance;
  store = k.store;
  entered = k.entered;
  instantiates = k.instantiates;
  stands = limited_represents most s k.instance _ k.stands;
  module_is = k.module_is;
  used = k.used;
  runs = k.runs;
  room = k.room;
}

-- nor that of an instance
pub limited_opens : (most : ℕ) (links : AllLinks) (pages : ℕ) (m : Module) (s : Snapshot) → Opens links pages m s → Opens links pages m (limited most s)
limited_opens most links pages m s k = record {
  instance = k.instance;
  store = k.store;
  initializer = k.initializer;
  allocates = k.allocates;
  has_initializer = k.has_initializer;
  stands = limited_represents most s k.instance _ k.stands;
  module_is = k.module_is;
  used = k.used;
  runs = k.runs;
  room = k.room;
}
