-- A volume that was formatted in the file that a command line names.
use Rattle.std.proofs.Common.{◌≡◌, ◌≤◌, ℕ, Bool, Result, Ok, Err, IfOk, IfErr, MatchResult, min, inl, inr, sym, subst, arith}
use Rattle.std.proofs.Math.Nat.{min-le_right, min-eq_left}
use Rattle.std.specs.Borrow.{Bor}
use Rattle.std.specs.IoError.{error_kind}
use Rattle.std.specs.declared.io.Error.{Error}
use Rattle.vol_inode.specs.declared.version.Version.{Version}
use Rattle.vol_inode.specs.declared.version.Version.TheVariants.{One, Two, Four}
use Rattle.sandbox_args.specs.Request.{Text}
use Rattle.sandbox_args.specs.declared.request.Invocation.{Invocation}
use Rattle.sandbox_args.specs.declared.request.Invocation.TheVariants as asked
use Rattle.sandbox_telling.specs.declared.streams.Streams.{Streams}
use Rattle.sandbox_telling.specs.declared.work.VolumeWork.{VolumeWork}
use Rattle.sandbox_telling.specs.declared.work.VolumeWork.TheVariants as work
use Rattle.sandbox_command.specs.Around.{Around, EndsGiven}
use Rattle.sandbox_places.specs.Clashing.{Clashes}
use Rattle.sandbox_command.specs.Files.{DoesFormat, DoesOn, HasExecuted, IsPerformed}
use Rattle.sandbox_telling.specs.Formatting.{most_sectors, room_for, version_for}
use Rattle.sandbox_places.specs.Places.{Access, HasRoom, lengthens}
use Rattle.sandbox_runs.specs.Status.{file_status}

most_within : (version : Version) → most_sectors version ≤ 16777216
most_within One = omega arith
most_within Two = omega arith
most_within Four = omega arith

-- no version has more sectors than a file gets
room_is_had : (version : Version) (sectors : ℕ) → min (room_for version sectors) 16777216 ≡ room_for version sectors
room_is_had version sectors = min-eq_left (omega (arith, min-le_right sectors (most_sectors version), most_within version))

module _ {P I O V R W1 W2 : Type 0} (on : Around P I O V R W1 W2) where
  does_on : (access : Access) (name : Text) (HasIts : V → Type 0) (does : VolumeWork) (given : Streams R W1 W2) (p m q : P) (status : ℕ) (device : Result V Error)
      → on.places.asked access p m
      → IfErr device (λ e. on.places.refused access (error_kind e) p m)
      → IfOk device (λ d. on.places.is_volume name d) → IfOk device (λ d. on.volume.failures d ≡ 0) → IfOk device HasIts
      → MatchResult device (λ d. HasExecuted on does d given m q status) (λ e. (status ≡ file_status (error_kind e)) × EndsGiven on given m q)
      → DoesOn on access name HasIts does given p q status
  does_on access name HasIts does given p m q status (Ok d) asks refused its unused enough done =
      (m, asks, inr (d, record { is_its_volume = its; unused = unused; enough = enough }, done))
  does_on access name HasIts does given p m q status (Err e) asks refused its unused enough done =
      (m, asks, inl (error_kind e, refused, done.0, done.1))

  -- the file was made or lengthened to this room, and then formatted
  pub format_performed : (i : Invocation) (file : Bor Text) (sectors slots : ℕ) (large huge new : Bool) (version : Version) (room : ℕ) (given : Streams R W1 W2) (p m q : P) (status : ℕ) (device : Result V Error)
      → i ≡ asked.Format file sectors slots large huge new → (Clashes i → ⊥) → version ≡ version_for large huge → room ≡ room_for version sectors
      → on.places.asked (lengthens new file.now room) p m
      → IfErr device (λ e. on.places.refused (lengthens new file.now room) (error_kind e) p m)
      → IfOk device (λ d. on.places.is_volume file.now d) → IfOk device (λ d. on.volume.failures d ≡ 0)
      → IfOk device (λ d. HasRoom on.volume.size on.volume.disk new (min room 16777216) d)
      → MatchResult device (λ d. HasExecuted on (work.Format sectors slots version new) d given m q status) (λ e. (status ≡ file_status (error_kind e)) × EndsGiven on given m q)
      → IsPerformed on i given p q status
  format_performed i file sectors slots large huge new version room given p m q status device is never version_is room_is asks refused its unused enough done =
      subst (λ (j : Invocation). IsPerformed on j given p q status) (sym is) (inr (subst (λ (j : Invocation). Clashes j → ⊥) is never, does))
    where
      wanted : ℕ
      wanted = room_for version sectors

      had : IfOk device (λ d. HasRoom on.volume.size on.volume.disk new wanted d)
      had = subst (λ (n : ℕ). IfOk device (λ d. HasRoom on.volume.size on.volume.disk new n d)) (room_is_had version sectors)
          (subst (λ (n : ℕ). IfOk device (λ d. HasRoom on.volume.size on.volume.disk new (min n 16777216) d)) room_is enough)

      does : DoesFormat on file.now (version_for large huge) sectors slots new given p q status
      does = subst (λ (v : Version). DoesFormat on file.now v sectors slots new given p q status) version_is
          (does_on (lengthens new file.now wanted) file.now (λ d. HasRoom on.volume.size on.volume.disk new wanted d) (work.Format sectors slots version new) given p m q status device
          (subst (λ (n : ℕ). on.places.asked (lengthens new file.now n) p m) room_is asks)
          (subst (λ (n : ℕ). IfErr device (λ e. on.places.refused (lengthens new file.now n) (error_kind e) p m)) room_is refused)
          its unused had done)
