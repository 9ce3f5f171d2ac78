use Rattle.std.proofs.Common.{◌≡◌, ◌-◌, true, false, slice_index_or, sym, ◌∙◌}
use Rattle.std.proofs.lemmas.Bool.{false≢true}
use Rattle.vol_dirs.specs.SlotMarks.{flags_of}
use Rattle.vol_dirs.specs.SerialOrder.{keys_of}
use Rattle.vol_dirs.specs.Key.{key_of}
use Rattle.vol_dirs.proofs.Listings.{key_free}
use Rattle.vol_dirs.proofs.dirs.Dirs.is_used.Goals as goal

pub returns-clause-used : goal.returns-clause-used
returns-clause-used c is free =
    let dirs = c.args.self.now in
    let s = c.args.serial in
    let mark_is = rw c.number.ensures at c.is_marked.ensures in
    let flag : slice_index_or (flags_of dirs.used) (s - 1) false ≡ true = sym mark_is ∙ is in
    dirs.marked.only s c.requires.first flag (key_free dirs.slots (keys_of dirs.keys) (keys_of dirs.children) dirs.listing s free)

pub returns-clause-free : goal.returns-clause-free
returns-clause-free c is p n held =
    let dirs = c.args.self.now in
    let s = c.args.serial in
    let mark_is = rw c.number.ensures at c.is_marked.ensures in
    let clear : slice_index_or (flags_of dirs.used) (s - 1) false ≡ false = sym mark_is ∙ is in
    false≢true (sym clear ∙ dirs.marked.held (key_of p n) s held.held)
