-- What opening finds and leaves.
use Rattle.std.proofs.Common.{◌≡◌, ◌⊎◌, inr, ⊎_elim, ℕ, true, List, [], refl, sym, ◌∙◌, ap, subst, Result, Err}
use Rattle.std.proofs.lemmas.Result.{err_from_is_err_and}
use Rattle.std.specs.Prelude.{IfErr, IsErrAnd}
use Rattle.vol_sector.specs.Disk.{Image, Disk, Only, Leaves, counted}
use Rattle.vol_sector.specs.Fault.{device_failed, IsDamage}
use Rattle.vol_sector.specs.declared.fault.VolumeFault.{VolumeFault}
use Rattle.vol_sector.specs.declared.fault.VolumeFault.TheVariants.{Device}
use Rattle.vol_log.specs.Header.{IsHeader}
use Rattle.vol_log.specs.Batch.{over, logged, SameContent, HasContent, Settled}
use Rattle.vol_log.specs.internal.Batch.{numbers}
use Rattle.vol_log.specs.internal.Steps.{Logged}
use Rattle.vol_log.specs.declared.staged.Staged.{Staged}

-- reads leave everything on the disk
pub only_keeps : (b c : Disk) → Only b.seen b.may_leave → Leaves b c (λ m. ⊥) → c.seen ≡ b.seen → Only c.seen c.may_leave
only_keeps b c only quiet same m may = ⊎_elim (λ was. only m was ∙ sym same) (λ none. absurd none) (quiet.now m may)

-- the log's images, read back, give the content
pub content_is : (s : ℕ) (a d m : Image) (batch : List Staged) → d ≡ a → (has : HasContent s a m) → batch ≡ logged has.log 2 a → SameContent (over batch d) m
content_is s a d m batch same has read k is = (λ i. over (read i) (same i) k) ∙ has.same k is

-- a right header gives a content
pub has_some : (s : ℕ) (a : Image) (ns : List ℕ) → IsHeader s (a 1) ns → (m : Image) × HasContent s a m
has_some s a ns header = (over (logged ns 2 a) a, record { log = ns; header = header; same = λ k is. refl })

-- the log is full after its images were read
pub full : (s : ℕ) (e : Disk) (header : List ℕ) (batch old : List Staged) → Only e.seen e.may_leave → IsHeader s header (numbers old) → header ≡ e.seen 1 → numbers batch ≡ numbers old → batch ≡ logged (numbers old) 2 e.seen → Logged s batch e
full s e header batch old only right spelled same read = record {
  durable = only;
  header = subst (λ (ns : List ℕ). IsHeader s (e.seen 1) ns) (sym same) (subst (λ (b : List ℕ). IsHeader s b (numbers old)) spelled right);
  images = ap (λ (ns : List ℕ). logged ns 2 e.seen) same ∙ sym read;
}

-- the header of a full log gives a content
pub has_of : (s : ℕ) (a d : Image) (batch : List Staged) → d ≡ a → IsHeader s (d 1) (numbers batch) → (m : Image) × HasContent s a m
has_of s a d batch same header = has_some s a (numbers batch) (subst (λ (x : Image). IsHeader s (x 1) (numbers batch)) same header)

-- the content of a full log
pub content_of : (s : ℕ) (a m : Image) (d : Disk) (batch : List Staged) → d.seen ≡ a → (has : HasContent s a m) → numbers batch ≡ has.log → Logged s batch d → SameContent (over batch d.seen) m
content_of s a m d batch same has named logs = content_is s a d.seen m batch same has (sym logs.images ∙ (λ i. logged (named i) 2 (same i)))

-- a log that holds nothing
pub settled_of : (s : ℕ) (d : Disk) (batch : List Staged) → batch ≡ [] → Logged s batch d → Settled s d
settled_of s d batch none logs = record { durable = logs.durable; empty = subst (λ (b : List Staged). IsHeader s (d.seen 1) (numbers b)) none logs.header }

-- what the device refused
pub is_device_err : {T : Type 0} (r : Result T VolumeFault) → IsErrAnd r (λ f. f ≡ Device) → r ≡ Err Device
is_device_err r is = let e = err_from_is_err_and r is in e.1 ∙ ap (λ (f : VolumeFault). Err f) e.2

pub not_damaged : {T X : Type 0} (r : Result T VolumeFault) → r ≡ Err Device → IsErrAnd r IsDamage → X
not_damaged r device damaged = absurd (subst (λ x. IsErrAnd x IsDamage) device damaged)

pub device_named : {T : Type 0} (r : Result T VolumeFault) → r ≡ Err Device → IfErr r (λ f. IsDamage f ⊎ (f ≡ Device))
device_named {T = T} r device = subst (λ (x : Result T VolumeFault). IfErr x (λ f. IsDamage f ⊎ (f ≡ Device))) (sym device) (inr refl)

-- a failed operation more, after operations that succeeded
pub counts_device : {T : Type 0} (r : Result T VolumeFault) (before between after : ℕ) → r ≡ Err Device → between ≡ before → after ≡ counted true between → after ≡ counted (device_failed r) before
counts_device {T = T} r before between after device same one = one ∙ ap (λ (n : ℕ). counted true n) same ∙ ap (λ (x : Result T VolumeFault). counted (device_failed x) before) (sym device)
