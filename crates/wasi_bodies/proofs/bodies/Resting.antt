-- What rests: tables, streams, settings and a volume that a call leaves as they are.
use Rattle.std.proofs.Common.{◌≡◌, ℕ, Bool, true, false, [], append-nil, None, refl, sym, ◌∙◌, inl, inr, arith}
use Rattle.std.proofs.lemmas.Bool.{cases_eq, cond-true, cond-false, eq-eqb, ne_eqb}
use Rattle.std.proofs.lemmas.Option.{none-some}
use Rattle.vol_sector.specs.Disk.{Disk, counted}
use Rattle.vol_tree.specs.Opened.{Opened}
use Rattle.wasi_fd.specs.declared.descriptor.Descriptor.TheVariants.{Entry}
use Rattle.wasi_fd.specs.Table.{Table, with_at}
use Rattle.wasi_bodies.specs.declared.settings.Settings.{Settings}
use Rattle.wasi_bodies.specs.host.Worlds.{StreamBytes, after_moving, VolumeStep}
use Rattle.wasi_bodies.specs.internal.Entries.{NoMoreEntries}

-- ---- tables

pub no_more : (t : Table) → NoMoreEntries t t
no_more t fd o is = (o, is, refl, refl)

pub no_more_closed : (fd : ℕ) (old new : Table) → ((k : ℕ) → new k ≡ with_at fd None old k) → NoMoreEntries old new
no_more_closed fd old new h k o is = elim (cases_eq k fd) [
  | inl here ↦ absurd (none-some (Entry o) (sym (h k ∙ cond-true _ None (old k) (eq-eqb k fd here)) ∙ is))
  | inr apart ↦ (o, sym (h k ∙ cond-false _ None (old k) (ne_eqb k fd apart)) ∙ is, refl, refl)
]

-- ---- streams

-- no bytes
abbrev pub nothing : StreamBytes
nothing = record { input = []; pieces = []; output = []; errors = [] }

pub same_after : (others : StreamBytes) → after_moving nothing others ≡ others
same_after others = λ i. record { input = others.input; pieces = others.pieces; output = append-nil others.output i; errors = append-nil others.errors i }

-- ---- the settings

pub settings_rest : (old new : Settings) → new ≡ old → new ≡ record old { random = new.random }
settings_rest old new same = same ∙ λ i. record old { random = (sym same i).random }

-- ---- the volume

counted_not : (failed : Bool) (n : ℕ) → failed ≡ false → n ≡ counted failed n
counted_not true n h = cc
counted_not false n h = refl

module _ {D : Type 0} (honest : D → Type 0) (disk : D → Disk) (sectors_on failures : D → ℕ) (goes_on : ℕ → D → D → Type 0) where
  pub volume_rests : (v : Opened D) → VolumeStep honest disk sectors_on failures goes_on v v
  volume_rests v = record {
    kept = record {
      numbers = refl;
      failed = refl;
      failures = λ working. counted_not v.failed (failures v.device) working;
      idle = λ failed. (refl, failed);
      honest = ((λ h. h), (λ h. h));
      size = refl;
    };
    crash = λ h. record { later = omega arith; since = λ t c _ left. inl left; now = λ c left. inl left };
    goes = λ end le first from. from;
  }
