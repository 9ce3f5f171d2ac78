-- How buffers that may overlap are filled with bytes of a file. Where buffers share a place the last one wins, so the
-- code passes over what later buffers cover and writes each byte once.
use Rattle.std.specs.Prelude.{◌≡◌, ◌⊎◌, ℕ, ◌+◌, ◌-◌, ◌<◌, ◌≤◌, true, false, ◌&&◌, nat_le, nat_lt, min, Bool, List, [], ◌∷◌, length, take, get_or, Ok, if◌then◌else◌}
use Rattle.std.specs.List.{list_any}
use Rattle.wasi_bodies.specs.declared.files.reading.Stretch.{Stretch}
use Rattle.wasi_bodies.specs.declared.files.reading.Stretch.TheVariants.{Covered, Free}
use Rattle.byteorder.specs.Endian.{little_bytes}
use Rattle.vol_tree.specs.Tree.{Tree}
use Rattle.vol_tree.specs.Calls.{read_bytes}
use Rattle.wasi_fd.specs.declared.descriptor.Descriptor.TheVariants.{Entry}
use Rattle.wasi_fd.specs.declared.descriptor.Opened.{Opened}
use Rattle.wasm_store.specs.Bytes.{written}
use Rattle.wasi_bodies.specs.World.{World}
use Rattle.wasi_bodies.specs.Checks.{Checked, Done, Buffer, ◌>>=◌, tree_call, total, scattered, put}
use Rattle.wasi_bodies.specs.internal.streams.Inputs.{read_to}

-- the buffers cut to this many bytes in all
abbrev pub limited_buffers : ℕ → List Buffer → List Buffer
limited_buffers n [] = []
limited_buffers n (b ∷ bs) = (b.0, min b.1 n) ∷ limited_buffers (n - b.1) bs

-- a place is in some of the buffers
abbrev pub covered : ℕ → List Buffer → Bool
covered at bs = list_any (λ b. nat_le b.0 at && nat_lt at (b.0 + b.1)) bs

-- Memory while buffers are filled: a place in one that is still to be filled has its old byte, each other its last one.
pub record HalfFilled (old last memory : List ℕ) (left : List Buffer) : Type 0 where
  pub as_long : length memory ≡ length old
  pub each : (at : ℕ) → get_or memory at 0 ≡ (if covered at left then get_or old at 0 else get_or last at 0)

-- the places from one on, up to another, are all in the buffers, or none of them is
pub record HasAll (at until end : ℕ) (bs : List Buffer) (test : Bool) : Type 0 where
  pub some : at < until
  pub within : until ≤ end
  pub each : (k : ℕ) → at ≤ k → k < until → covered k bs ≡ test

abbrev pub IsStretch : ℕ → ℕ → List Buffer → Stretch → Type 0
IsStretch at end bs (Covered until) = HasAll at until end bs true
IsStretch at end bs (Free until) = HasAll at until end bs false

-- some of the first bytes were written at a place
pub record IsBegun (old : List ℕ) (at : ℕ) (bytes : List ℕ) (memory : List ℕ) : Type 0 where
  pub count : ℕ
  pub few : count ≤ length bytes
  pub is : memory ≡ written old at (take count bytes)

-- Memory while a buffer is filled with the bytes of a file from a place on, as far as here: a place that is in a later
-- buffer keeps its byte.
pub record BufferFilled (file : List ℕ) (from start until : ℕ) (later : List Buffer) (old memory : List ℕ) : Type 0 where
  pub as_long : length memory ≡ length old
  pub filled : (k : ℕ) → start ≤ k → k < until → covered k later ≡ false → get_or memory k 0 ≡ get_or file (from + (k - start)) 0
  pub beyond : (k : ℕ) → (k < start) ⊎ (until ≤ k) → get_or memory k 0 ≡ get_or old k 0
  pub hidden : (k : ℕ) → covered k later ≡ true → get_or memory k 0 ≡ get_or old k 0

-- a place that such a filling gives its byte has it
pub record HasByte (file : List ℕ) (from start until : ℕ) (later : List Buffer) (memory : List ℕ) (k : ℕ) : Type 0 where
  pub low : start ≤ k
  pub high : k < until
  pub apart : covered k later ≡ false
  pub byte : get_or memory k 0 ≡ get_or file (from + (k - start)) 0

-- some places have theirs
pub record BufferBegun (file : List ℕ) (from start until : ℕ) (later : List Buffer) (old memory : List ℕ) : Type 0 where
  pub as_long : length memory ≡ length old
  pub each : (k : ℕ) → (get_or memory k 0 ≡ get_or old k 0) ⊎ HasByte file from start until later memory k

-- the bytes of a file from a place on that fit in the buffers
abbrev pub wanted : Tree → ℕ → ℕ → List Buffer → List ℕ
wanted T serial from bs = read_bytes T serial from (total bs)

-- memory with these bytes in the buffers
abbrev pub received : List ℕ → List ℕ → List Buffer → List ℕ
received memory bytes bs = put memory (scattered bytes bs)

-- the bytes of a file from a place on, into the buffers, and then how many
abbrev pub read_into : World → Opened → ℕ → List Buffer → ℕ → Checked Done
read_into w o at bs result = do
  bytes ← tree_call w (Ok (read_bytes w.tree o.serial at (total bs)))
  Ok (record { world = w; fills = scattered bytes bs; results = (result, little_bytes 4 (length bytes)) ∷ [] })

-- the bytes of a file where it stands, which moves after them, into the buffers, and then how many
abbrev pub read_file_to : World → ℕ → Opened → List Buffer → ℕ → Checked Done
read_file_to w fd o bs result = read_to w fd (Entry o) bs result
