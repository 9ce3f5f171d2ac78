-- The record of a session's device only grows.
use Rattle.std.proofs.Common.{ℕ, Bool, List, [], refl, sym, subst, ◌∙◌, arith}
use Rattle.std.specs.Borrow.{Bor}
use Rattle.vol_sector.specs.internal.PastLaws.{past_same}
use Rattle.vol_sector.specs.internal.RecordLaws.{begins_itself}
use Rattle.vol_tree.specs.Opened.{GoesOn}
use Rattle.wasm_syntax.specs.declared.module.Module.{Module}
use Rattle.sandbox_device.specs.declared.recorded_device.RecordedDevice.{RecordedDevice}
use Rattle.sandbox_device.specs.Followed.{followed_disk}
use Rattle.sandbox_device.specs.Followed as device
use Rattle.sandbox_host.specs.declared.numbers.Told.{Told}
use Rattle.sandbox_host.specs.declared.supplies.Supplies.{Supplies}
use Rattle.sandbox_host.specs.declared.volumes.Origin.TheVariants.{Sectors}
use Rattle.wasm_operands.specs.Snapshots.{StandsFor}
use Rattle.sandbox_host.specs.Host.{State, HostVolume, known}
use Rattle.sandbox_host.specs.Begun.{BeginsBy, ResumedBy}
use Rattle.sandbox_host.specs.KeptRecords.{KeepsRecord}
use Rattle.sandbox_host.specs.Settled.{IsRecordKept, IsRecordKeptSoFar}
use Rattle.sandbox_host.proofs.Carrying.{Same, begun_same, resumed_same, same_then}
use Rattle.sandbox_host.proofs.Settling.{committed}

pub goes_from_itself : (end : ℕ) (d : RecordedDevice) → device.GoesOn end d d
goes_from_itself end d = record {
  began = refl;
  is_recorded = refl;
  more = [];
  recorded = begins_itself d.history.done;
  past = past_same end (followed_disk d);
}

went : (a b : HostVolume) → GoesOn known.device.goes_on a b → device.GoesOn a.numbers.sectors a.device b.device
went a b goes = goes a.numbers.sectors (omega arith) a.device (goes_from_itself a.numbers.sectors a.device)

module _ (Stands : StandsFor) (m : Module) (supplies : Supplies) (sectors : Bor (List (List ℕ))) (recorded huge : Bool) (s old : State) (rs : List (Told × State))
    (begins : BeginsBy Stands m supplies (Sectors sectors recorded huge) s) (resumed : ResumedBy Stands s rs old) where
  so_far : Same begins.volume old.host.volume
  so_far = same_then begins.volume s.host.volume old.host.volume (begun_same Stands m supplies (Sectors sectors recorded huge) s begins) (resumed_same Stands s old rs resumed)

  kept_then : (new : HostVolume) → Same old.host.volume new → KeepsRecord sectors.now recorded old.host.volume.device new.device
  kept_then new same =
      let all = went begins.volume new (same_then begins.volume old.host.volume new so_far same).goes in
      let last = went old.host.volume new same.goes in
      record {
        began = all.began ∙ begins.is_volume.began;
        is_recorded = all.is_recorded ∙ begins.is_volume.is_recorded;
        more = last.more;
        done = last.recorded;
      }

pub kept_so_far : (Stands : StandsFor) → IsRecordKeptSoFar Stands
kept_so_far Stands m supplies sectors recorded huge s old new rs more begins resumed later =
    kept_then Stands m supplies sectors recorded huge s old rs begins resumed new.host.volume (resumed_same Stands old new more later)

pub kept : (Stands : StandsFor) → IsRecordKept Stands
kept Stands m supplies sectors recorded huge s s' rs e number begins resumed ends =
    let commits = ends.commits in
    let last = kept_then Stands m supplies sectors recorded huge s s' rs begins resumed commits.new (record { numbers = commits.kept.numbers; size = commits.kept.size; goes = commits.goes }) in
    subst (λ (d : RecordedDevice). KeepsRecord sectors.now recorded s'.host.volume.device d) (sym (ends.device ∙ committed s'.host.volume ends.volume commits)) last
