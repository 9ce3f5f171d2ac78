-- What was printed stays so where the output is flushed afterwards.
use Rattle.std.proofs.Common.{◌≡◌, ◌≢◌, ◌⊎◌, ℕ, Bool, true, false, OnOk, [], List, Option, Result, Ok, Err, IfOk, IfErr, inl, inr}
use Rattle.std.specs.declared.io.ErrorKind.{ErrorKind}
use Rattle.std.specs.declared.io.ErrorKind.TheVariants.{OutOfMemory}
use Rattle.std.specs.Io.KnownBytes.{Keeps}
use Rattle.std.proofs.KnownBytes.{Appends-kept, Keeps-trans}
use Rattle.vol_sector.specs.Disk.{Disk}
use Rattle.vol_tree.specs.Tree.{Tree}
use Rattle.wasm_syntax.specs.declared.fault.LoadFault.{LoadFault}
use Rattle.wasm_syntax.specs.declared.profile.Profile.{Profile}
use Rattle.wasm_store.specs.Instantiation.{LinksOf}
use Rattle.sandbox_inspect.specs.Printing.{PrintsBeginning, Tells}
use Rattle.wasi_calls.specs.host.Links.{link}
use Rattle.sandbox_runs.specs.Inspecting.{Inspects, refused_status, survey_status}
use Rattle.sandbox_args.specs.Request.{Text}
use Rattle.vol_commands.specs.declared.exporting.ExportFailure.{ExportFailure}
use Rattle.vol_commands.specs.declared.exporting.ExportFailure.TheVariants.{Volume, Path, Stopped}
use Rattle.vol_commands.specs.Exporting.{PerformsExport, PrintsDirectory, WasExported, ExportsNothing}

-- ---- an export

directory_flushed : (T : Tree) (path : Text) (before printed after : Option (List ℕ)) (done : Result (Unit {0}) ExportFailure) → PrintsDirectory T path before printed done → Keeps printed after
    → PrintsDirectory T path before after done
directory_flushed T path before printed after (Ok x) (directory, named, e) kept =
    (directory, named, record { places = e.places; are = e.are; fit = e.fit; printed = Appends-kept before printed after _ e.printed kept })
directory_flushed T path before printed after (Err (Volume fault)) never kept = never
directory_flushed T path before printed after (Err (Path e)) (why, nothing) kept = (why, Keeps-trans before printed after nothing kept)
directory_flushed T path before printed after (Err (Stopped why)) (directory, named, inl nothing, refuses) kept =
    (directory, named, inl (Appends-kept before printed after [] nothing kept), refuses)
directory_flushed T path before printed after (Err (Stopped why)) (directory, named, inr (places, are, p), refuses) kept =
    (directory, named, inr (places, are, record { part = p.part; rest = p.rest; parts = p.parts; appended = Appends-kept before printed after p.part p.appended kept }), refuses)

module _ {D : Type 0} (is_honest : D → Type 0) (disk : D → Disk) (sectors_on failures : D → ℕ) (goes_on : ℕ → D → D → Type 0) (path : Text) (device : D) (before printed after : Option (List ℕ)) (left : D) (done : Result (Unit {0}) ExportFailure) (kept : Keeps printed after) where
  ends_flushed : WasExported is_honest disk sectors_on failures path device before printed left done ⊎ ExportsNothing is_honest disk sectors_on failures path device before printed left done
      → WasExported is_honest disk sectors_on failures path device before after left done ⊎ ExportsNothing is_honest disk sectors_on failures path device before after left done
  ends_flushed (inl w) = inl (record { numbers = w.numbers; tree = w.tree; stands = w.stands; prints = directory_flushed w.tree path before printed after done w.prints kept; crash = w.crash })
  ends_flushed (inr n) = inr (record { refused = n.refused; is = n.is; left_is = n.left_is; refusal = n.refusal; prints_nothing = Keeps-trans before printed after n.prints_nothing kept })

  pub export_flushed : PerformsExport is_honest disk sectors_on failures path device before printed left done → PerformsExport is_honest disk sectors_on failures path device before after left done
  export_flushed p = record { ends = λ h. ends_flushed (p.ends h); honest = p.honest; size = p.size; failed = p.failed }

-- ---- what a module is

pub tells_flushed : (links : LinksOf) (p : Profile) (bytes : List ℕ) (before printed after : Option (List ℕ)) (outcome : Result (Unit {0}) LoadFault) → Tells links p bytes before printed outcome → Keeps printed after
    → Tells links p bytes before after outcome
tells_flushed links p bytes before printed after outcome (text, survey, appends) kept = (text, survey, Appends-kept before printed after text appends kept)

pub begins_flushed : (links : LinksOf) (p : Profile) (bytes : List ℕ) (before printed after : Option (List ℕ)) (kind : ErrorKind) → PrintsBeginning links p bytes before printed kind → Keeps printed after
    → PrintsBeginning links p bytes before after kind
begins_flushed links p bytes before printed after kind (inl (memory, nothing)) kept = inl (memory, Keeps-trans before printed after nothing kept)
begins_flushed links p bytes before printed after kind (inr (outcome, text, survey, a)) kept =
    inr (outcome, text, survey, record { part = a.part; rest = a.rest; parts = a.parts; appended = Appends-kept before printed after a.part a.appended kept })

pub inspected : {E : Type 0} (kind_of : E → ErrorKind) (p : Profile) (bytes : List ℕ) (before printed after : Option (List ℕ)) (surveyed : Result (Result (Unit {0}) LoadFault) E) (flushed : Bool) (status : ℕ)
    → IfOk surveyed (Tells link p bytes before printed) → IfErr surveyed (λ e. PrintsBeginning link p bytes before printed (kind_of e)) → Keeps printed after → IfOk surveyed (λ outcome. status ≡ survey_status outcome flushed)
    → IfErr surveyed (λ e. status ≡ refused_status (kind_of e))
    → (failed : Bool) → OnOk surveyed (failed ≡ false) → IfErr surveyed (λ e. kind_of e ≢ OutOfMemory → failed ≡ true) → Inspects p bytes before after failed flushed status
inspected kind_of p bytes before printed after (Ok outcome) flushed status tells begins kept told refused failed worked blamed =
    inl (outcome, tells_flushed link p bytes before printed after outcome tells kept, told, worked)
inspected kind_of p bytes before printed after (Err e) flushed status tells begins kept told refused failed worked blamed =
    inr (kind_of e, refused, begins_flushed link p bytes before printed after (kind_of e) begins kept, blamed)
