-- A call of a host whose input goes on is the call of one whose input is bytes in memory: those that are there, and those that come later.
use Rattle.std.specs.Prelude.{◌≡◌, ℕ, Bool, true, false, List, [], ◌++◌, Option, Some}
use Rattle.vol_sector.specs.Disk.{Disk}
use Rattle.wasm_store.specs.declared.call.HostCall.{HostCall}
use Rattle.wasm_store.specs.declared.call.Answer.{Answer}
use Rattle.wasm_store.specs.declared.call.Errno.{Errno}
use Rattle.wasm_steps.specs.Configuration.{Instance, Configuration}
use Rattle.wasm_steps.specs.Steps.{CallsOf, Reach}
use Rattle.wasi_bodies.specs.host.Worlds.{Hearing, HostState, HostCalls, StreamCalls}
use Rattle.fed_input.specs.Feeding.{Fed, Gave, Starves, left_of}

-- bytes in memory: each read gives what comes next, and none is refused
abbrev pub in_memory : StreamCalls (List ℕ)
in_memory = record { moved = λ before bytes after. before ≡ bytes ++ after; refused = λ before after. ⊥ }

abbrev pub going_on : StreamCalls Fed
going_on = record { moved = λ before bytes after. Gave before bytes after; refused = λ before after. Starves before after }

-- these may come later: none, where it was said so
abbrev pub MayCome : List ℕ → Fed → Type 0
MayCome more f = f.ended ≡ true → more ≡ []

module _ {D W1 W2 : Type 0} where
  -- the same host, whose input has all of its bytes from the beginning
  abbrev pub whole_host : List ℕ → HostState D Fed W1 W2 → HostState D (List ℕ) W1 W2
  whole_host more h = record {
    volume = h.volume;
    descriptors = h.descriptors;
    input = record { reader = h.input.reader.bytes ++ more; failed = h.input.failed; ended = h.input.ended };
    out = h.out;
    err = h.err;
    settings = h.settings;
    generator = h.generator;
    interactive = h.interactive;
  }

  module _ (honest : D → Type 0) (disk : D → Disk) (sectors_on failures : D → ℕ) (goes_on : ℕ → D → D → Type 0)
      (out_contents : W1 → Option (List ℕ)) (err_contents : W2 → Option (List ℕ)) (out : StreamCalls W1) (err : StreamCalls W2) where
    -- what calls of a host mean whose input goes on
    abbrev pub FedCalls : CallsOf (HostState D Fed W1 W2)
    FedCalls = HostCalls honest disk sectors_on failures goes_on (λ f. Some (left_of f)) out_contents err_contents
        (record { input = going_on; out = out; err = err })

    -- ...and whose input is bytes in memory
    abbrev pub WholeCalls : CallsOf (HostState D (List ℕ) W1 W2)
    WholeCalls = HostCalls honest disk sectors_on failures goes_on (λ b. Some b) out_contents err_contents
        (record { input = in_memory; out = out; err = err })

    -- However the input was cut: a call that wasn't starved answers, changes memory and moves the host as it would with all the bytes
    -- there from the beginning.
    abbrev pub CallsOfTheWhole : Type 0
    CallsOfTheWhole = (more : List ℕ) (old new : HostState D Fed W1 W2) (memory memory' : List ℕ) (used : ℕ) (call : HostCall) (args : List ℕ) (answer : Answer)
        → MayCome more old.input.reader → new.input.failed ≡ false → FedCalls old memory used call args new memory' answer
        → WholeCalls (whole_host more old) memory used call args (whole_host more new) memory' answer

    -- So is a whole run: whatever its guest is, what it was answered, and its units.
    abbrev pub RunsOfTheWhole : Type 0
    RunsOfTheWhole = (more : List ℕ) (i : Instance) (h h' : HostState D Fed W1 W2) (c d : Configuration) (answers : List (HostCall × Errno))
        → MayCome more h.input.reader → h'.input.failed ≡ false → Reach (HostState D Fed W1 W2) FedCalls i h c answers h' d
        → Reach (HostState D (List ℕ) W1 W2) WholeCalls i (whole_host more h) c answers (whole_host more h') d
