use Rattle.std.proofs.Common.{◌∙◌, ◌-◌, ◌≤◌, get_or, None, Ok, true, false, inr, sym, ap, subst, refl, arith}
use Rattle.vol_inode.specs.declared.entry.Entry.{Entry}
use Rattle.vol_inode.specs.Entry.{IsEntry, name_of}
use Rattle.vol_dirs.specs.declared.dirs.Dirs.{Dirs}
use Rattle.vol_dirs.specs.Names.{Names}
use Rattle.vol_tree.specs.declared.superblock.Superblock.{Superblock}
use Rattle.vol_tree.specs.Tree.{Tree, changed}
use Rattle.vol_tree.specs.Stands.{Slots}
use Rattle.vol_tree.proofs.Committing.{commits_then}
use Rattle.vol_tree.proofs.Changing.{refused_io, done_open}
use Rattle.vol_tree.proofs.Filling.{fails_io}
use Rattle.vol_tree.proofs.Taking.{commits_fail, refused_by}
use Rattle.vol_tree.proofs.Trees.{Childless}
use Rattle.vol_tree.proofs.parts.Parts.remove.Goals as goal

pub held_entry-requires : goal.held_entry-requires
held_entry-requires g c = record { is_open = c.requires.is_open; first = c.requires.first; last = c.requires.last }

pub returns-in_err-entry : goal.returns-in_err-entry
returns-in_err-entry g c =
    let old = c.args.self.now in
    refused_by Entry _ old c.held_entry.new.self c.from_residual.result c.in_err-entry.field-0.0 c.from_residual.ensures.1 c.in_err-entry.ensures.reads (λ h.
    let is = c.requires.bare h in
    inr (c.in_err-entry.ensures.found h is.not_top is.used))

pub make_room-requires : goal.make_room-requires
make_room-requires g c = record { «open» = c.in_ok-entry.ensures.reads.commits.is_open }

pub returns-in_err-make_room : goal.returns-in_err-make_room
returns-in_err-make_room g c =
    let old = c.args.self.now in
    let commits = commits_then old c.held_entry.new.self c.make_room.new.self true c.in_ok-entry.ensures.reads.commits c.in_err-make_room.ensures.commits in
    refused_io _ old c.make_room.new.self c.from_residual-in_err-make_room.result c.from_residual-in_err-make_room.ensures.1 commits

pub take_out-requires : goal.take_out-requires
take_out-requires g c =
    let old = c.args.self.now in
    let mid = c.make_room.new.self in
    let first = c.in_ok-entry.ensures.reads.commits in
    let second = c.in_ok-make_room.ensures.commits in
    let commits = commits_then old c.held_entry.new.self mid false first second in
    let n = c.args.serial in
    let d = c.in_ok-entry.entry in
    record {
      is_open = second.is_open;
      working = second.kept.failed;
      room = omega (arith, c.in_ok-make_room.ensures.room);
      first = c.requires.first;
      last = subst (λ (v : Superblock). n ≤ v.slots) (sym commits.kept.numbers) c.requires.last;
      right = subst (λ (v : Superblock). IsEntry v.version d) (sym commits.kept.numbers) c.in_ok-entry.ensures.right;
      held = subst (λ (dirs : Dirs). Names dirs d.parent (name_of d) n) (sym second.dirs) c.in_ok-entry.ensures.held;
      removes = λ h1.
          let h = commits.kept.honest.1 h1 in
          let is = c.requires.bare h in
          record {
            slot = ap (λ (s : Slots). get_or s (n - 1) None) (commits.slots h) ∙ c.in_ok-entry.ensures.found h is.not_top is.used;
            not_top = is.not_top;
            bare = subst (λ (U : Tree). Childless U n) (sym (commits.tree h)) is.bare;
          };
    }

pub returns-in_err-take_out : goal.returns-in_err-take_out
returns-in_err-take_out g c =
    let old = c.args.self.now in
    let mid = c.make_room.new.self in
    let commits = commits_then old c.held_entry.new.self mid false c.in_ok-entry.ensures.reads.commits c.in_ok-make_room.ensures.commits in
    fails_io _ old c.take_out.new.self c.from_residual-in_err-take_out.result c.from_residual-in_err-take_out.ensures.1 (commits_fail old mid c.take_out.new.self commits (c.in_err-take_out.ensures.fails refl))

pub returns : goal.returns
returns g c =
    let old = c.args.self.now in
    let mid = c.make_room.new.self in
    let commits = commits_then old c.held_entry.new.self mid false c.in_ok-entry.ensures.reads.commits c.in_ok-make_room.ensures.commits in
    let gone = c.in_ok-take_out.ensures.gone refl in
    done_open _ old mid c.take_out.new.self tt commits gone.is_open gone.stages (λ h.
    ap (λ (U : Tree). Ok (U, tt)) (ap (λ (V : Tree). changed V c.args.serial None) (sym (commits.tree h)) ∙ sym (gone.tree (commits.kept.honest.0 h))))
