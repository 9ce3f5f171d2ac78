-- What checks that passed say.
use Rattle.std.proofs.Common.{◌≡◌, ℕ, zero, suc, ◌+◌, ◌<◌, Bool, true, false, cond, not, List, [], ◌∷◌, Option, Some, None, Result, Ok, Err, refl, sym, ◌∙◌, ap, subst, inl, inr, arith}
use Rattle.std.specs.Option.{ok_or, option_map_or, is_none}
use Rattle.std.proofs.lemmas.Option.{same_Some, none-some}
use Rattle.std.proofs.lemmas.Bool.{cases_eq, false≢true, or_parts}
use Rattle.vol_tree.specs.declared.errno.Errno.{Errno}
use Rattle.vol_tree.specs.Tree.{Name}
use Rattle.vol_tree.specs.Calls.{unless}
use Rattle.path_walk.specs.Paths.{Reached, Found, Missing, path_read, resolved, wants_directory}
use Rattle.wasi_fd.specs.declared.descriptor.Descriptor.{Descriptor}
use Rattle.wasi_fd.specs.declared.descriptor.Descriptor.TheVariants.{Stream, Entry}
use Rattle.wasi_fd.specs.declared.descriptor.EntryKind.{EntryKind}
use Rattle.wasi_fd.specs.declared.descriptor.EntryKind.TheVariants as kinds
use Rattle.wasi_fd.specs.declared.descriptor.Opened.{Opened}
use Rattle.wasi_fd.specs.Table.{Table}
use Rattle.wasi_bodies.specs.World.{World, least_closed, holds_below, is_of}
use Rattle.wasi_bodies.specs.Checks.{Checked, numbered, get, of_kind, has, opened_entry, descriptor, entry_at, Refusals, by_kind, walk, tree_call, found}
use Rattle.wasi_bodies.proofs.checks.Chains.{bound, passed}
use Rattle.wasi_bodies.proofs.runs.HeldAlongRuns.{is_directory_kind}

pub same_Ok : {X : Type 0} (x y : X) → ◌≡◌ {A = Checked X} (Ok x) (Ok y) → x ≡ y
same_Ok x y h = cc

pub ok_or_some : {X : Type 0} (o : Option X) (e : ℕ) (x : X) → ok_or o e ≡ Ok x → o ≡ Some x
ok_or_some None e x h = cc
ok_or_some (Some y) e x h = cc

pub numbered_ok : {X : Type 0} (r : Result X Errno) (x : X) → numbered r ≡ Ok x → r ≡ Ok x
numbered_ok (Ok y) x h = cc
numbered_ok (Err e) x h = cc

pub tree_called : {X : Type 0} (w : World) (r : Result X Errno) (x : X) → tree_call w r ≡ Ok x → r ≡ Ok x
tree_called w r x h = numbered_ok r x (passed _ _ _ _ h).1

pub passes_on : {X : Type 0} (b : Bool) (e : Errno) (rest : Result X Errno) (x : X) → cond b (Err e) rest ≡ Ok x → (b ≡ false) × (rest ≡ Ok x)
passes_on true e rest x h = cc
passes_on false e rest x h = (refl, h)

pub unless_ok : {X : Type 0} (checks : List (Bool × Errno)) (r : Result X Errno) (x : X) → unless checks r ≡ Ok x → r ≡ Ok x
unless_ok [] r x h = h
unless_ok (c ∷ checks) r x h = unless_ok checks r x (passes_on c.0 c.1 (unless checks r) x h).1

pub not_true : (b : Bool) → not b ≡ true → b ≡ false
not_true true h = absurd (false≢true h)
not_true false h = refl

pub not_false : (b : Bool) → not b ≡ false → b ≡ true
not_false true h = refl
not_false false h = absurd (false≢true (sym h))

-- ---- descriptors

pub described : (w : World) (fd : ℕ) (r : Refusals) (rights : ℕ) (d : Descriptor) → descriptor w fd r rights ≡ Ok d → (w.table fd ≡ Some d) × (of_kind r d ≡ Ok tt)
described w fd r rights d h =
    let one = bound (get w fd) _ d h in
    let two = bound (of_kind r one.0) _ d one.2 in
    let three = passed (has one.0 rights) 76 _ d two.2 in
    let same : one.0 ≡ d = same_Ok one.0 d three.1 in
    (ok_or_some (w.table fd) 8 d (one.1 ∙ ap Ok same), subst (λ (d : Descriptor). of_kind r d ≡ Ok tt) same two.1)

pub opened_is : (d : Descriptor) (o : Opened) → opened_entry d ≡ Ok o → d ≡ Entry o
opened_is (Stream s) o h = cc
opened_is (Entry p) o h = cc

pub entered : (w : World) (fd : ℕ) (r : Refusals) (rights : ℕ) (o : Opened) → entry_at w fd r rights ≡ Ok o → (w.table fd ≡ Some (Entry o)) × (of_kind r (Entry o) ≡ Ok tt)
entered w fd r rights o h =
    let one = bound (descriptor w fd r rights) _ o h in
    let d = described w fd r rights one.0 one.1 in
    let same : one.0 ≡ Entry o = opened_is one.0 o one.2 in
    (d.0 ∙ ap Some same, subst (λ (d : Descriptor). of_kind r d ≡ Ok tt) same d.1)

-- a call that refuses directories has a file
pub is_file_kind : (r : Refusals) (n : ℕ) → r.directory ≡ Some n → (k : EntryKind)
    → ◌≡◌ {A = Checked (Unit {0})} (option_map_or (λ (errno : ℕ). Err errno) (by_kind r k) (Ok tt)) (Ok tt) → is_directory_kind k ≡ false
is_file_kind r n refuses kinds.File h = refl
is_file_kind r n refuses kinds.Directory h =
    let refusing : Option ℕ → Checked (Unit {0}) = λ o. option_map_or (λ (errno : ℕ). Err errno) o (Ok tt) in
    let refused : ◌≡◌ {A = Checked (Unit {0})} (Err n) (Ok tt) = sym (ap refusing refuses) ∙ h in
    cc

pub same_entry : (a b : Opened) → ◌≡◌ {A = Option Descriptor} (Some (Entry a)) (Some (Entry b)) → a ≡ b
same_entry a b h = cc

pub stream_no_entry : (d : Descriptor) (o : Opened) → d ≡ Entry o → Some d ≡ Some (Entry o)
stream_no_entry d o h = ap Some h

closed_or : (count n k : ℕ) (d : Option Descriptor) (rest : Option ℕ) → (rest ≡ Some k → k < suc n + count) → cond (is_none d) (Some n) rest ≡ Some k → k < n + suc count
closed_or count n k None rest on h = let same : n ≡ k = same_Some n k h in omega arith
closed_or count n k (Some d) rest on h = omega (arith, on h)

pub least_closed_below : (count n : ℕ) (table : Table) (k : ℕ) → least_closed count n table ≡ Some k → k < n + count
least_closed_below zero n table k h = absurd (none-some k h)
least_closed_below (suc count) n table k h = closed_or count n k (table n) (least_closed count (suc n) table) (least_closed_below count (suc n) table k) h

pub not_held : (n serial : ℕ) (table : Table) → holds_below n serial table ≡ false → (k : ℕ) → k < n → is_of serial (table k) ≡ false
not_held zero serial table h k l = absurd (omega arith)
not_held (suc n) serial table h k l =
    let parts = or_parts (is_of serial (table n)) (holds_below n serial table) h in
    elim (cases_eq k n) [
      | inl here ↦ ap (λ (k : ℕ). is_of serial (table k)) here ∙ parts.0
      | inr apart ↦ not_held n serial table parts.1 k (omega arith)
    ]

-- ---- walks

pub walked_to : (w : World) (o : Opened) (text : List ℕ) (r : Reached) → walk w o text ≡ Ok r
    → (names : List Name) × (path_read text ≡ Ok names) × (resolved w.tree o.serial (wants_directory text) names ≡ Ok r)
walked_to w o text r h =
    let one = bound (numbered (path_read text)) _ r h in
    let two = passed _ 76 _ r one.2 in
    let three = passed _ 29 _ r two.1 in
    (one.0, numbered_ok (path_read text) one.0 one.1, numbered_ok _ r three.1)

pub found_is : (r : Reached) (s : ℕ) → found r ≡ Ok s → r ≡ Found s
found_is (Found t) s h = cc
found_is (Missing parent name) s h = cc
