-- What a reader gave, and where its bytes stand in the guest's memory. `Came` is for one place and `Dealt` for the
-- buffers of a call; `SomeCame` and `SomeDealt` are the same after a failure.
use Rattle.std.specs.Prelude.{◌≡◌, ◌<◌, ◌≤◌, ℕ, Bool, List, [], ◌∷◌, ◌||◌, nat_lt, length, take, get_or, true, false, Option, Ok}
use Rattle.std.specs.Io.KnownBytes.{Consumes}
use Rattle.byteorder.specs.Endian.{little_bytes}
use Rattle.wasm_store.specs.Bytes.{written}
use Rattle.vol_body.specs.declared.source.MemorySpan.{MemorySpan}
use Rattle.wasi_fd.specs.declared.descriptor.Descriptor.{Descriptor}
use Rattle.wasi_bodies.specs.declared.streams.Input.{Input}
use Rattle.wasi_bodies.specs.World.{World, least_read}
use Rattle.wasi_bodies.specs.Checks.{Checked, Done, ◌>>=◌, Buffer, put, total, scattered}
use Rattle.wasi_bodies.specs.files.Rows.{read_from}
use Rattle.wasi_bodies.specs.internal.checks.Buffers.{list_of}

-- this many bytes came, which stand in memory from a place on
pub record Came (before after : Option (List ℕ)) (old : List ℕ) (place most : ℕ) (memory : List ℕ) (count : ℕ) : Type 0 where
  pub bytes : List ℕ
  pub consumed : Consumes before after bytes
  pub many : length bytes ≡ count
  pub few : count ≤ most
  pub stand : memory ≡ written old place bytes

-- some came, before the reader failed
pub record SomeCame (before after : Option (List ℕ)) (old : List ℕ) (place most : ℕ) (memory : List ℕ) : Type 0 where
  pub count : ℕ
  pub came : Came before after old place most memory count

-- this many bytes came, which stand in the buffers, one after another
pub record Dealt (before after : Option (List ℕ)) (old : List ℕ) (bs : List Buffer) (memory : List ℕ) (count : ℕ) : Type 0 where
  pub bytes : List ℕ
  pub consumed : Consumes before after bytes
  pub many : length bytes ≡ count
  pub few : count ≤ total bs
  pub stand : memory ≡ put old (scattered bytes bs)

pub record SomeDealt (before after : Option (List ℕ)) (old : List ℕ) (bs : List Buffer) (memory : List ℕ) : Type 0 where
  pub count : ℕ
  pub dealt : Dealt before after old bs memory count

-- the place of the first buffer that has room
pub record IsFirstWithRoom (bs : List MemorySpan) (i : ℕ) : Type 0 where
  pub inside : i < length bs
  pub before : total (list_of (take i bs)) ≡ 0
  pub room : 0 < (get_or bs i (record { pointer = 0; len = 0 })).len

-- the reader failed after some came; where reads are short it was the only read
pub record Broke (short : Bool) (before after : Option (List ℕ)) (old : List ℕ) (bs : List Buffer) (memory : List ℕ) : Type 0 where
  pub some : SomeDealt before after old bs memory
  pub none : short ≡ true → some.count ≡ 0

-- They fill the buffers, but for those that no bytes came for since the input ended, or reads are short; and how many came is written.
pub record IsRead {R : Type 0} (short : Bool) (remaining : R → Option (List ℕ)) (old new : Input R) (m : List ℕ) (bs : List Buffer) (result : ℕ) (memory : List ℕ) : Type 0 where
  pub worked : old.failed ≡ false
  pub works : new.failed ≡ false
  pub count : ℕ
  pub filled : List ℕ
  pub dealt : Dealt (remaining old.reader) (remaining new.reader) m bs filled count
  pub full : new.ended ≡ false → least_read short (total bs) ≤ count
  pub none : old.ended ≡ true → count ≡ 0
  pub ended : new.ended ≡ (old.ended || nat_lt count (least_read short (total bs)))
  pub stand : memory ≡ written filled result (little_bytes 4 count)

-- the bytes of what a number stands for, in the buffers
abbrev pub read_to : World → ℕ → Descriptor → List Buffer → ℕ → Checked Done
read_to w fd d bs result = do
  r ← read_from w fd d (total bs)
  Ok (record { world = r.0; fills = scattered r.1 bs; results = (result, little_bytes 4 (length r.1)) ∷ [] })
