-- A created entry has the least serial.
use Rattle.std.proofs.Common.{◌≡◌, ℕ, suc, Some, None, ◌∙◌, ap, subst, arith}
use Rattle.std.proofs.lemmas.List.{get_or-set_same}
use Rattle.vol_tree.specs.Tree.{Tree, Entry, entry, changed, lookup, least_from, is_unused}
use Rattle.vol_tree.specs.Laws.{CreatesLeast, CreatedHasTheLeastSerial}
use Rattle.vol_tree.specs.declared.errno.Errno.TheVariants as errno
use Rattle.vol_tree.proofs.Entries.{entry-changed_other}
use Rattle.vol_tree.proofs.Lookups.{found, unused_none, used_some, not_refused, taken}

made : (T : Tree) (e : Entry) (serial : ℕ) → least_from 1 is_unused T ≡ Some serial → CreatesLeast T (changed T serial (Some e)) serial e
made T e serial h =
    let f = found 1 is_unused T serial h in
    let at : serial ≡ suc f.place = omega (arith, f.is) in
    record {
      unused = ap (entry T) at ∙ unused_none _ f.passes;
      least = λ t l. used_some _ (f.before t (omega (arith, f.is)));
      there = ap (λ (s : ℕ). entry (changed T s (Some e)) s) at ∙ get_or-set_same T f.place (Some e) None f.within;
      others = λ t n. entry-changed_other T serial t (Some e) n;
    }

pub created_least : CreatedHasTheLeastSerial
created_least T U parent serial name node h =
    let e : Entry = record { parent = parent; name = name; node = node } in
    let free = not_refused (lookup T parent name) errno.Exist _ (U, serial) h in
    let t = taken (least_from 1 is_unused T) (λ (s : ℕ). (changed T s (Some e), s)) errno.NoSpace (U, serial) free in
    let same : t.0 ≡ serial = ap (λ (p : Tree × ℕ). p.1) t.2 in
    let made_so : CreatesLeast T (changed T t.0 (Some e)) t.0 e = made T e t.0 t.1 in
    subst (λ (p : Tree × ℕ). CreatesLeast T p.0 p.1 e) t.2 made_so
