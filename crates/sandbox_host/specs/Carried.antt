-- A volume goes from one session to the next: where `finish` answers 0, the sectors that it leaves are opened again as
-- the same volume, and nothing but memory can be wanting. The law `volume_is_carried` says it of the end of a session
-- (`IsCarried`) and from its opening on (`IsCarriedOn`).
use Rattle.std.specs.Prelude.{◌≡◌, ◌≤◌, ℕ, Bool, List, length}
use Rattle.vol_sector.specs.declared.fault.VolumeFault.{VolumeFault}
use Rattle.vol_sector.specs.declared.fault.VolumeFault.TheVariants as fault
use Rattle.vol_tree.specs.declared.superblock.Superblock.{Superblock}
use Rattle.vol_tree.specs.Tree.{Tree}
use Rattle.wasm_syntax.specs.declared.module.Module.{Module}
use Rattle.sandbox_host.specs.declared.numbers.Told.{Told}
use Rattle.sandbox_host.specs.declared.held.Ended.{Ended}
use Rattle.sandbox_host.specs.declared.supplies.Supplies.{Supplies}
use Rattle.sandbox_host.specs.declared.volumes.Origin.{Origin}
use Rattle.wasm_operands.specs.Snapshots.{StandsFor}
use Rattle.sandbox_host.specs.HostTypes.{State, HostVolume, size_of}
use Rattle.sandbox_host.specs.Volumes.{IsIn, RefusesSectors, is_huge, most_sectors}
use Rattle.sandbox_host.specs.Begun.{BeginsBy, ResumedBy}
use Rattle.sandbox_host.specs.Finishing.{Finishes}

-- A volume that is opened from these sectors, as a huge one or not, has these numbers and this tree, and nothing but memory can
-- be wanting.
pub record OpensAgain (huge : Bool) (sectors : List (List ℕ)) (numbers : Superblock) (tree : Tree) : Type 0 where
  pub same : (v : HostVolume) → IsIn huge sectors v → (v.numbers ≡ numbers) × (v.tree ≡ tree)
  pub only_memory : (f : VolumeFault) → RefusesSectors huge sectors f → f ≡ fault.Memory

-- The device has all sectors of the volume, and no more than a host may hand in.
pub record FitsDevice (huge : Bool) (v : HostVolume) : Type 0 where
  pub room : v.numbers.sectors ≤ size_of v.device
  pub few : size_of v.device ≤ most_sectors huge

-- Where finishing a session answers 0, the sectors that it leaves are opened again as its volume.
abbrev pub IsCarried : Type 0
IsCarried = (huge : Bool) (s : State) (e : Ended) → FitsDevice huge s.host.volume → Finishes s e 0 → OpensAgain huge e.device.sectors s.host.volume.numbers s.host.volume.tree

-- From an opening over any resumes to the end, by whichever relation machines stand for configurations: there are as many sectors as at first, and they are opened again with the
-- volume's numbers and the tree at the end.
abbrev pub IsCarriedOn : StandsFor → Type 0
IsCarriedOn Stands = (m : Module) (supplies : Supplies) (origin : Origin) (s s' : State) (rs : List (Told × State)) (e : Ended)
    → (begins : BeginsBy Stands m supplies origin s) → ResumedBy Stands s rs s' → Finishes s' e 0
    → (length e.device.sectors ≡ size_of begins.volume.device) × OpensAgain (is_huge origin) e.device.sectors begins.volume.numbers s'.host.volume.tree
