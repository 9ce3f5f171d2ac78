use Rattle.std.proofs.Common.{◌∙◌, ◌-◌, get_or, None, Ok, true, false, inr, sym, ap, subst, arith}
use Rattle.vol_inode.specs.declared.entry.Entry.{Entry}
use Rattle.vol_inode.specs.Entry.{IsEntry, name_of}
use Rattle.vol_dirs.specs.declared.dirs.Dirs.{Dirs}
use Rattle.vol_dirs.specs.Names.{Names}
use Rattle.vol_tree.specs.declared.superblock.Superblock.{Superblock}
use Rattle.vol_tree.specs.Tree.{Tree}
use Rattle.vol_tree.specs.Calls.{moved}
use Rattle.vol_tree.specs.Stands.{Slots}
use Rattle.vol_tree.specs.internal.Moves.{MovesToName}
use Rattle.vol_tree.proofs.Committing.{commits_then}
use Rattle.vol_tree.proofs.Changing.{refused_io, done_open}
use Rattle.vol_tree.proofs.Taking.{refused_by}
use Rattle.vol_tree.proofs.parts.Parts.move_to.Goals as goal

pub held_entry-requires : goal.held_entry-requires
held_entry-requires g c = record { is_open = c.requires.is_open; first = c.requires.first; last = c.requires.last }

pub returns-in_err-entry : goal.returns-in_err-entry
returns-in_err-entry g c =
    let old = c.args.self.now in
    refused_by Entry _ old c.held_entry.new.self c.from_residual.result c.in_err-entry.field-0.0 c.from_residual.ensures.1 c.in_err-entry.ensures.reads (λ h.
    let m = c.requires.moves h in
    inr (c.in_err-entry.ensures.found h m.into.not_top m.into.used))

pub make_room-requires : goal.make_room-requires
make_room-requires g c = record { «open» = c.in_ok-entry.ensures.reads.commits.is_open }

pub returns-in_err-make_room : goal.returns-in_err-make_room
returns-in_err-make_room g c =
    let old = c.args.self.now in
    let commits = commits_then old c.held_entry.new.self c.make_room.new.self true c.in_ok-entry.ensures.reads.commits c.in_err-make_room.ensures.commits in
    refused_io _ old c.make_room.new.self c.from_residual-in_err-make_room.result c.from_residual-in_err-make_room.ensures.1 commits

pub relocate-requires : goal.relocate-requires
relocate-requires g c =
    let old = c.args.self.now in
    let mid = c.make_room.new.self in
    let first = c.in_ok-entry.ensures.reads.commits in
    let second = c.in_ok-make_room.ensures.commits in
    let commits = commits_then old c.held_entry.new.self mid false first second in
    let d = c.in_ok-entry.entry in
    record {
      is_open = second.is_open;
      working = second.kept.failed;
      room = omega (arith, c.in_ok-make_room.ensures.room);
      first = c.requires.first;
      right = subst (λ (v : Superblock). IsEntry v.version d) (sym commits.kept.numbers) c.in_ok-entry.ensures.right;
      held = subst (λ (dirs : Dirs). Names dirs d.parent (name_of d) c.args.serial) (sym second.dirs) c.in_ok-entry.ensures.held;
      parent_first = c.requires.parent_first;
      name = c.requires.name;
      slot = λ h1.
          let h = commits.kept.honest.1 h1 in
          let m = c.requires.moves h in
          ap (λ (s : Slots). get_or s (c.args.serial - 1) None) (commits.slots h) ∙ c.in_ok-entry.ensures.found h m.into.not_top m.into.used;
      moves = λ h1.
          let h = commits.kept.honest.1 h1 in
          subst (λ (T : Tree). MovesToName T c.args.serial c.args.parent c.args.name.now) (sym (commits.tree h)) (c.requires.moves h);
    }

pub returns : goal.returns
returns g c =
    let old = c.args.self.now in
    let mid = c.make_room.new.self in
    let commits = commits_then old c.held_entry.new.self mid false c.in_ok-entry.ensures.reads.commits c.in_ok-make_room.ensures.commits in
    let to = c.relocate.ensures in
    done_open _ old mid c.relocate.new.self tt commits to.is_open to.stages (λ h.
    ap (λ (U : Tree). Ok (U, tt)) (ap (λ (T : Tree). moved T c.args.serial c.args.parent c.args.name.now) (sym (commits.tree h)) ∙ sym (to.tree (commits.kept.honest.0 h))))
