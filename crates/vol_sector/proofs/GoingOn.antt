-- A device in memory goes on, one operation more.
use Rattle.std.proofs.Common.{◌≡◌, ◌∙◌, ◌++◌, ◌∷◌, [], List, ℕ, ap}
use Rattle.vol_sector.specs.Disk.{Image, put}
use Rattle.vol_sector.specs.Past.{LeavesPast, StillGoesOn}
use Rattle.vol_sector.specs.Record.{newest}
use Rattle.vol_sector.specs.Memory.{initial_image, record_of, disk_of, GoesOn}
use Rattle.vol_sector.specs.declared.memory.MemoryDevice.{MemoryDevice}
use Rattle.vol_sector.specs.declared.record.Operation.{Operation}
use Rattle.vol_sector.specs.declared.record.Operation.TheVariants.{Write, Sync}
use Rattle.vol_sector.specs.internal.PastLaws.{past_then}
use Rattle.vol_sector.specs.internal.RecordLaws.{begins_further}
use Rattle.vol_sector.proofs.Records.{newest_write, newest_sync}

pub goes_on : (end : ℕ) (a b : MemoryDevice) (more : List Operation) → initial_image b ≡ initial_image a → record_of b ≡ record_of a ++ more → LeavesPast end (disk_of a) (disk_of b) → StillGoesOn (GoesOn end) a b
goes_on end a b more began recorded past first from = record {
  began = began ∙ from.began;
  more = from.more ++ more;
  recorded = begins_further (record_of first) (record_of a) (record_of b) from.more more from.recorded recorded;
  past = past_then end (disk_of first) (disk_of a) (disk_of b) from.past past;
}

abbrev at_the_end : Image → List Operation → Image
at_the_end x ops n = newest n (x n) ops

pub seen_same : (x y : Image) (before after : List Operation) → y ≡ x → after ≡ before → at_the_end y after ≡ at_the_end x before
seen_same x y before after began recorded = ap (λ (m : Image). at_the_end m after) began ∙ ap (λ (ops : List Operation). at_the_end x ops) recorded

pub seen_written : (x : Image) (before after : List Operation) (n : ℕ) (bytes : List ℕ) → after ≡ before ++ Write n bytes ∷ [] → at_the_end x after ≡ put n bytes (at_the_end x before)
seen_written x before after n bytes recorded = λ j k. (ap (newest k (x k)) recorded ∙ newest_write k (x k) before n bytes) j

pub seen_synced : (x : Image) (before after : List Operation) → after ≡ before ++ Sync ∷ [] → at_the_end x after ≡ at_the_end x before
seen_synced x before after recorded = λ j k. (ap (newest k (x k)) recorded ∙ newest_sync k (x k) before) j
