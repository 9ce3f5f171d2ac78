-- What a file of a name is (`specs/System.antt`), by the evidence of those that asked for it.
use Rattle.std.specs.declared.rt.LibcRuntime.{LibcRuntime}
use Rattle.std.proofs.Common.{◌≡◌, ◌∙◌, ℕ, Bool, true, false, not, nat_eq, Result, Ok, Err, IfOk, OnOk, inl, inr, string_bytes, refl, sym, subst}
use Rattle.std.specs.Cmp.Lexicographic.{pointwise, same_text}
use Rattle.std.specs.declared.fs.File.{File}
use Rattle.sandbox_device.specs.declared.opening.FileOutput.{FileOutput}
use Rattle.sandbox_device.specs.declared.opening.OutputOn.{OutputOn}
use Rattle.sandbox_device.specs.declared.ram_device.RamDevice.{RamDevice}
use Rattle.sandbox_device.specs.declared.replacing.Replacement.{Replacement}
use Rattle.sandbox_device.specs.FileEvidence.{AreRead, WasLocked, WasRead}
use Rattle.sandbox_device.specs.Named.{IsForName, IsGiven, WasOpened}
use Rattle.sandbox_device.specs.Written.{CutsOnce, CutsUnless, WasCut}
use Rattle.sandbox_args.specs.Request.{Text}
use Rattle.stream_answers.specs.System.{HasRefused, WasGiven as Gave}
use Rattle.sandbox_places.specs.declared.host_volume.HostVolume.{HostVolume}
use Rattle.stream_answers.specs.Pieces.{AtLast, IsWhole}
use Rattle.sandbox_places.specs.System.{IsImageOfName, IsOutput, IsRead, IsVolume, WasGiven}

-- what holds of a success holds of it where it is passed on
pub told : {X E : Type 0} (P : X → Type 0) (done : Result X E) (it : X) → done ≡ Ok it → IfOk done P → P it
told {X} {E} P done it is holds = subst (λ (r : Result X E). IfOk r P) is holds

pub is_volume : (name : Text) (file : File) (it : HostVolume) → it.device.file ≡ file → WasOpened name file → WasLocked file
    → AreRead WasRead file it.device.sectors → IsVolume name it
is_volume name file it same opened locked read =
    subst (λ (f : File). WasOpened name f × WasLocked f × AreRead WasRead f it.device.sectors) (sym same) (opened, locked, read)

pub is_image : {E : Type 0} (name : Text) (file : File) (r : Result RamDevice E) → WasOpened name file
    → IfOk r (λ d. AreRead WasRead file d.sectors) → IfOk r (IsImageOfName name)
is_image name file (Ok d) opened read = (file, opened, read)
is_image name file (Err e) opened read = tt

-- what a file that was opened so gave
pub is_read : {X E : Type 0} (items : X → Text) (name : Text) (most : ℕ) (file last : File) (r : Result X E) → WasOpened name file
    → IfOk r (λ x. IsWhole (AtLast Gave HasRefused) most file (items x) last) → IfOk r (λ x. IsRead name most (items x))
is_read items name most file last (Ok x) opened whole = (file, opened, last, whole)
is_read items name most file last (Err e) opened whole = tt

pub is_text : {X E : Type 0} (bytes_of : X → Text) (name bytes : Text) (most : ℕ) (r : Result X E) → IsRead name most bytes
    → IfOk r (λ x. bytes_of x ≡ bytes) → IfOk r (λ x. IsRead name most (bytes_of x))
is_text bytes_of name bytes most (Ok x) read same = subst (IsRead name most) (sym same) read
is_text bytes_of name bytes most (Err e) read same = tt

pub is_given : {X E : Type 0} (name bytes : Text) (it : Replacement) (r : Result X E) → IsForName name it
    → OnOk r (IsGiven LibcRuntime (string_bytes it.path) it.old bytes) → OnOk r (WasGiven name bytes)
is_given name bytes it (Ok x) for_name given = (it, for_name, given)
is_given name bytes it (Err e) for_name given = tt

not_false : (b : Bool) → false ≡ not b → true ≡ b
not_false true e = refl
not_false false e = cc

-- a name that was compared
pub for_name : (name text held : Text) (it : Replacement) → text ≡ held → false ≡ not (pointwise nat_eq text name) → IsForName held it → IsForName name it
for_name name text held it reads same was =
    subst (λ (n : Text). IsForName n it) (sym reads ∙ same_text text name (not_false (pointwise nat_eq text name) same)) was

-- what was cut isn't cut again
cuts_once : {F : Type 0} (cut : F → F → Type 0) (a b c : OutputOn F) → CutsOnce cut a b → CutsOnce cut b c → CutsOnce cut a c
cuts_once {F} cut a b c first second =
    let stays : c.file ≡ b.file = subst (λ (is_cut : Bool). CutsUnless cut is_cut b.file c.file) first.is_cut second.cuts in
    record {
      cuts = subst (λ (f : F). CutsUnless cut a.is_cut a.file f) (sym stays) first.cuts;
      is_cut = second.is_cut;
      same = second.same ∙ first.same;
    }

pub cut_output : (name : Text) (old new : FileOutput) → IsOutput name old → CutsOnce WasCut old.on new.on → IsOutput name new
cut_output name old new was cuts = elim was [
  | inl opened ↦ inr (old, opened, cuts)
  | inr made ↦ inr (made.0, made.1, cuts_once WasCut made.0.on old.on new.on made.2 cuts)
]
