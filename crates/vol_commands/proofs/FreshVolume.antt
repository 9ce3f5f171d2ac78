-- An empty volume that is made and opened.
use Rattle.std.proofs.Common.{◌≡◌, ◌⊎◌, ⊎_elim, ◌≤◌, ◌<◌, ◌↔◌, ℕ, Bool, true, nat_lt, ltb-true, Result, Ok, Err, IfOk, IfErr, false, inl, inr, refl, sym, ◌∙◌, ap, subst, arith, take}
use Rattle.std.proofs.lemmas.Bool.{ltb-false}
use Rattle.vol_sector.specs.Disk.{Image, Disk, Leaves, counted}
use Rattle.vol_sector.specs.Fault.{is_device, IsDamage}
use Rattle.vol_sector.specs.declared.fault.Refused.{Refused}
use Rattle.vol_sector.specs.declared.fault.VolumeFault.{VolumeFault}
use Rattle.vol_sector.specs.declared.fault.VolumeFault.TheVariants as fault
use Rattle.vol_log.proofs.Moments.{leaves_then}
use Rattle.vol_tree.specs.declared.superblock.Superblock.{Superblock}
use Rattle.vol_tree.specs.Superblock.{HasRanges}
use Rattle.vol_tree.specs.Tree.{Tree}
use Rattle.vol_tree.specs.Stands.{StandsAs, empty_tree}
use Rattle.vol_tree.specs.Fresh.{IsNoneOrEmpty}
use Rattle.vol_tree.specs.Opened.{Opened}
use Rattle.vol_tree.specs.Opening.{StandsOn, NoVolumeOn, HasNoVersion, IsDamaged}
use Rattle.vol_tree.specs.Handing.{IsOpened, IsRightly, KeepsDevice, LeavesRefused, device_opened, is_device_refused}
use Rattle.vol_tree.proofs.OneTree.{one_volume, same_superblock, version_is}
use Rattle.vol_commands.specs.Volumes.{fresh_numbers, FreshRefusedBy, IsFresh, IsFreshRefused, IsRefused}
use Rattle.vol_commands.proofs.Opened.{damage_is, refused_by}
use Rattle.vol_commands.proofs.Refusals.{holds_nothing}

has_ranges : HasRanges fresh_numbers
has_ranges = record { least = omega arith; most = omega arith; some_slots = omega arith; few_slots = omega arith; room = omega arith; older = λ before. (omega arith, omega arith) }

-- what an image that stands for the empty volume stands for
same_numbers : (c : Image) (v : Superblock) (T U : Tree) → StandsAs c v T → StandsAs c fresh_numbers U → v ≡ fresh_numbers
same_numbers c v T U one other = same_superblock (c 0) v fresh_numbers one.ranges other.ranges one.front other.front

same_empty : (c : Image) (v : Superblock) (T U : Tree) → StandsAs c v T → StandsAs c fresh_numbers U → T ≡ U
same_empty c v T U one other = (one_volume c v fresh_numbers T U one other).1

-- what isn't less is as great
as_great : (a n : ℕ) → (a < n → ⊥) → n ≤ a
as_great a n not_less = go (nat_lt a n) refl
  where
    go : (b : Bool) → nat_lt a n ≡ b → n ≤ a
    go true is = absurd (not_less (ltb-true a n is))
    go false is = ltb-false a n is

-- a device that was made a volume has the sectors
pub has_room : {D : Type 0} (size : ℕ) (made : D) (refused : Refused D) → (HasRanges fresh_numbers × (size < 202) → ◌≡◌ {A = Result D (Refused D)} (Ok made) (Err refused)) → 202 ≤ size
has_room size made refused small = as_great size 202 (λ few. let both = small (has_ranges, few) in cc)

-- such a device is refused for no fault of its content
fresh_refused_by : (f : VolumeFault) (size : ℕ) (c : Image) (T : Tree) → 202 ≤ size → StandsAs c fresh_numbers T → (f ≡ fault.NotAVolume → NoVolumeOn size c) → (f ≡ fault.Version → HasNoVersion size c) → (IsDamage f → IsDamaged size c)
    → (f ≡ fault.NotAVolume) ⊎ ((f ≡ fault.Version) ⊎ (IsDamage f ⊎ ((f ≡ fault.Device) ⊎ (f ≡ fault.Memory)))) → FreshRefusedBy f size
fresh_refused_by f size c T room stands none version damaged named =
    let at = λ (x : VolumeFault) (is : f ≡ x) (why : FreshRefusedBy x size). subst (λ (y : VolumeFault). FreshRefusedBy y size) (sym is) why in
    ⊎_elim (λ is. absurd (begins (none is)))
    (λ rest. ⊎_elim (λ is. absurd ((version is).version.0 (version_is (c 0) fresh_numbers stands.front)))
    (λ rest. ⊎_elim (λ is. absurd ((damaged is).none fresh_numbers T (record { stands = stands; room = room })))
    (λ rest. ⊎_elim (λ is. at fault.Device is tt) (λ is. at fault.Memory is tt) rest) rest) rest) named
  where
    begins : NoVolumeOn size c → ⊥
    begins (inl few) = omega (arith, few, room)
    begins (inr other) = other (ap (take 8) stands.front)

crash_then : (a b d : Disk) (T : Tree) → T ≡ empty_tree 16 → Leaves a b (IsNoneOrEmpty fresh_numbers) → Leaves b d (λ c. StandsAs c fresh_numbers T) → Leaves a d (IsNoneOrEmpty fresh_numbers)
crash_then a b d T same first second =
    leaves_then a b d (IsNoneOrEmpty fresh_numbers) (λ c. StandsAs c fresh_numbers T) (IsNoneOrEmpty fresh_numbers) first second (λ m p. p)
    (λ m stands. inr (subst (λ (U : Tree). StandsAs m fresh_numbers U) same stands))

module _ {D : Type 0} (is_honest : D → Type 0) (disk : D → Disk) (sectors_on failures : D → ℕ) where
  abbrev Answer : Type 0
  Answer = Result (Opened D) (Refused D)

  abbrev Named : VolumeFault → Type 0
  Named f = (f ≡ fault.NotAVolume) ⊎ ((f ≡ fault.Version) ⊎ (IsDamage f ⊎ ((f ≡ fault.Device) ⊎ (f ≡ fault.Memory))))

  -- opening finds no device too small
  never_small : (f : VolumeFault) → f ≡ fault.TooSmall → Named f → ⊥
  never_small f small named =
      ⊎_elim (λ (is : f ≡ fault.NotAVolume). other fault.NotAVolume tt (sym is ∙ small))
      (λ rest. ⊎_elim (λ (is : f ≡ fault.Version). other fault.Version tt (sym is ∙ small))
      (λ rest. ⊎_elim (λ (is : IsDamage f). let some = damage_is f is in other (fault.Damaged some.0) tt (sym some.1 ∙ small))
      (λ rest. ⊎_elim (λ (is : f ≡ fault.Device). other fault.Device tt (sym is ∙ small))
      (λ (is : f ≡ fault.Memory). other fault.Memory tt (sym is ∙ small)) rest) rest) rest) named
    where
      IsOther : VolumeFault → Type 0
      IsOther fault.NotAVolume = Unit {0}
      IsOther fault.Version = Unit {0}
      IsOther (fault.Damaged damage) = Unit {0}
      IsOther fault.Device = Unit {0}
      IsOther fault.TooSmall = ⊥
      IsOther fault.Upgraded = Unit {0}
      IsOther fault.Geometry = Unit {0}
      IsOther fault.Memory = Unit {0}

      other : (g : VolumeFault) → IsOther g → g ≡ fault.TooSmall → ⊥
      other g is same = subst IsOther same is

  -- what `open` says of a refusal
  pub refused_open : (device : D) (r : Answer)
      → IfErr r (IsRightly is_honest disk sectors_on device)
      → ((v : Superblock) (T : Tree) → is_honest device → StandsOn (sectors_on device) (disk device).seen v T → Leaves (disk device) (disk (device_opened r)) (λ c. StandsAs c v T))
      → IfErr r (LeavesRefused is_honest disk sectors_on device)
      → KeepsDevice is_honest sectors_on failures device (device_opened r) (is_device_refused r)
      → IfErr r (IsRefused is_honest disk sectors_on failures device)
  refused_open device (Ok v) why crash left kept = tt
  refused_open device (Err e) why crash left kept = record {
    why = λ h. refused_by e.fault (sectors_on device) (disk device).seen (why.not_a_volume h) (why.version h) (why.damaged h) why.faults_named;
    crash = crash;
    unwritten = λ h is. left.unwritten h (holds_nothing (sectors_on device) (disk device).seen e.fault (why.not_a_volume h) (why.version h) is);
    untouched = left.unwritten;
    installs = λ v m h holds. (left.installs v m h holds).1;
    honest = kept.honest;
    size = kept.size;
    failed = kept.failures;
  }

  module _ (device made : D) (honest : is_honest device ↔ is_honest made) (size : sectors_on made ≡ sectors_on device) (none_failed : failures made ≡ failures device) (room : 202 ≤ sectors_on device)
      (empty : is_honest device → StandsAs (disk made).seen fresh_numbers (empty_tree 16)) (first : is_honest device → Leaves (disk device) (disk made) (IsNoneOrEmpty fresh_numbers)) where
    here : is_honest device → StandsOn (sectors_on made) (disk made).seen fresh_numbers (empty_tree 16)
    here h = record { stands = empty h; room = omega (arith, size, room) }

    then_crash : (d : D) → is_honest device → Leaves (disk made) (disk d) (λ c. StandsAs c fresh_numbers (empty_tree 16)) → Leaves (disk device) (disk d) (IsNoneOrEmpty fresh_numbers)
    then_crash d h second = crash_then (disk device) (disk made) (disk d) (empty_tree 16) refl (first h) second

    -- of the opening of a device that was made an empty volume
    pub fresh_refused : (r : Answer)
        → IfErr r (IsRightly is_honest disk sectors_on made)
        → ((v : Superblock) (T : Tree) → is_honest made → StandsOn (sectors_on made) (disk made).seen v T → Leaves (disk made) (disk (device_opened r)) (λ c. StandsAs c v T))
        → KeepsDevice is_honest sectors_on failures made (device_opened r) (is_device_refused r)
        → IfErr r (IsFreshRefused is_honest disk sectors_on failures device)
    fresh_refused (Ok v) why crash kept = tt
    fresh_refused (Err e) why crash kept = record {
      why = λ h. let now = honest.0 h in
          subst (λ (n : ℕ). FreshRefusedBy e.fault n) size
          (fresh_refused_by e.fault (sectors_on made) (disk made).seen (empty_tree 16) (omega (arith, size, room)) (empty h) (why.not_a_volume now) (why.version now) (why.damaged now) why.faults_named);
      crash = λ h. then_crash e.device h (crash fresh_numbers (empty_tree 16) (honest.0 h) (here h));
      untouched = λ small. absurd (never_small e.fault small why.faults_named);
      honest = (λ h. kept.honest.0 (honest.0 h), λ h. honest.1 (kept.honest.1 h));
      size = kept.size ∙ size;
      failed = kept.failures ∙ ap (counted (is_device e.fault)) none_failed;
    }

    pub fresh_opened : (r : Answer)
        → IfOk r (IsOpened is_honest disk sectors_on made)
        → ((v : Superblock) (T : Tree) → is_honest made → StandsOn (sectors_on made) (disk made).seen v T → Leaves (disk made) (disk (device_opened r)) (λ c. StandsAs c v T))
        → KeepsDevice is_honest sectors_on failures made (device_opened r) (is_device_refused r)
        → IfOk r (IsFresh is_honest disk sectors_on failures device)
    fresh_opened (Err e) opens crash kept = tt
    fresh_opened (Ok v) opens crash kept = record {
      numbers = λ h. same_numbers (disk made).seen v.numbers v.tree (empty_tree 16) (opens.stands (honest.0 h)).stands (empty h);
      empty = λ h. same_empty (disk made).seen v.numbers v.tree (empty_tree 16) (opens.stands (honest.0 h)).stands (empty h);
      working = record {
        works = opens.working;
        lasts = λ h. opens.durable (honest.0 h);
        honest = (λ h. kept.honest.0 (honest.0 h), λ h. honest.1 (kept.honest.1 h));
        size = kept.size ∙ size;
        none_failed = kept.failures ∙ none_failed;
      };
      crash = λ h. then_crash v.device h (crash fresh_numbers (empty_tree 16) (honest.0 h) (here h));
    }
