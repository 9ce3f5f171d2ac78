-- After each call the entries that are open are there.
use Rattle.std.proofs.Common.{◌≡◌, ℕ, ◌<◌, Option, Some, None, List, refl, sym, ◌∙◌, ap, subst, inl, inr, arith, is_some, Bool, true, false, ◌⊎◌, nat_lt, vec_len}
use Rattle.vol_tree.specs.Tree.{Tree, Entry as TreeEntry, IsTree, IsDirectory, root}
use Rattle.wasm_store.specs.declared.call.HostCall.{HostCall}
use Rattle.wasi_fd.specs.declared.descriptor.Descriptor.TheVariants.{Entry}
use Rattle.wasi_fd.specs.declared.descriptor.Opened.{Opened}
use Rattle.wasi_fd.specs.Table.{Table, table_of}
use Rattle.wasi_bodies.specs.World.{World}
use Rattle.wasi_bodies.specs.Calls.{row, Answered}
use Rattle.wasi_bodies.specs.laws.Confined.{Tops, IsOutside}
use Rattle.wasi_bodies.specs.internal.Entries.{AreThere}
use Rattle.wasi_bodies.proofs.runs.HeldAlongRuns.{Holds}
use Rattle.wasi_calls.proofs.runs.Confinement.{answered_keeps}
use Rattle.wasi_calls.proofs.runs.RowsKeep.{row_keeps}
use Rattle.vol_tree.specs.Calls.{is_directory, directory_at}
use Rattle.vol_tree.proofs.Trees.{directory_is}
use Rattle.std.specs.Option.{option_map_or}
use Rattle.std.proofs.lemmas.Bool.{false≢true, ltb-true, ltb-false}
use Rattle.std.proofs.lemmas.List.{get_or_past}
use Rattle.std.proofs.lemmas.Option.{none-some}
use Rattle.wasi_fd.specs.declared.table.Descriptors.{Descriptors}
use Rattle.wasi_fd.specs.declared.table.TheConstants.{PLACES}

-- where all directories are open at first, nothing is outside
module _ (T : Tree) (tree : IsTree T) where
  all : Tops
  all serial = IsDirectory T serial

  none_outside : (s : ℕ) → IsOutside T all s → ⊥
  unfolding all
  none_outside s out =
      let at = tree.reached s (ap is_some out.used) in
      out.below_none 1 at.0 (root, tree.top, refl) at.1

  few_hold : (table : Table) → ((fd : ℕ) (o : Opened) → table fd ≡ Some (Entry o) → fd < PLACES) → AreThere T table → Holds T all T table
  few_hold table few there = record {
    tree = tree;
    same = λ s out. refl;
    gained = λ s e used out. used;
    lost = λ s e used out. used;
    named = λ fd o at. let is = there fd o at in record {
      few = few fd o at;
      e = is.e;
      used = is.used;
      kind = is.kind;
      inside = none_outside o.serial;
    };
  }

  decide : (s : ℕ) → all s ⊎ (all s → ⊥)
  unfolding all
  decide s = by_kind (directory_at T s) refl
    where
      by_kind : (b : Bool) → directory_at T s ≡ b → IsDirectory T s ⊎ (IsDirectory T s → ⊥)
      by_kind true is = inl (directory_is T s is)
      by_kind false is = inr (λ d. false≢true (sym is ∙ (ap (λ (o : Option TreeEntry). option_map_or (λ (e : TreeEntry). is_directory e.node) o false) d.1 ∙ ap is_directory d.2)))

  -- a call's answer keeps them
  pub still_there : (c : HostCall) (w w' : World) (m m' : List ℕ) (used : ℕ) (args : List ℕ) (errno : ℕ) → w.tree ≡ T → ((fd : ℕ) (o : Opened) → w.table fd ≡ Some (Entry o) → fd < PLACES)
      → AreThere T w.table → Answered (λ v. row c v m used args) w m w' m' errno → AreThere w'.tree w'.table
  unfolding all
  still_there c w w' m m' used args errno same few there answered =
      let first = subst (λ (U : Tree). Holds T all U w.table) (sym same) (few_hold w.table few there) in
      let last = answered_keeps T tree all (λ top is. is) decide (λ v. row c v m used args) w m w' m' errno (row_keeps T tree all (λ top is. is) c w m used args first) answered first in
      λ fd o at. let good = last.named fd o at in record { e = good.e; used = good.used; kind = good.kind }

-- only numbers of places are open
pub few_open : (d : Descriptors) (fd : ℕ) (o : Opened) → table_of d fd ≡ Some (Entry o) → fd < PLACES
few_open d fd o at = by_low (nat_lt fd PLACES) refl
  where
    by_low : (b : Bool) → nat_lt fd PLACES ≡ b → fd < PLACES
    by_low true low = ltb-true fd PLACES low
    by_low false high =
        let size : vec_len d.places ≡ PLACES = d.size in
        absurd (none-some (Entry o) (sym (get_or_past d.places.items fd None (omega (arith, ltb-false fd PLACES high, size))) ∙ at))
