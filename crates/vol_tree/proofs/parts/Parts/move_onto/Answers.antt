use Rattle.std.proofs.Common.{is_some, ◌≡◌, ◌≢◌, ◌∙◌, ◌-◌, ◌≤◌, Bool, get_or, Some, None, Ok, Err, true, false, inl, inr, sym, ap, subst, refl, arith}
use Rattle.std.proofs.lemmas.List.{get_or-set_other}
use Rattle.vol_log.specs.Log.{view}
use Rattle.vol_inode.specs.declared.entry.Entry.{Entry}
use Rattle.vol_inode.specs.Entry.{IsEntry, name_of}
use Rattle.vol_dirs.specs.declared.dirs.Dirs.{Dirs}
use Rattle.vol_dirs.specs.Names.{Names}
use Rattle.vol_tree.specs.declared.superblock.Superblock.{Superblock}
use Rattle.vol_tree.specs.Tree.{Tree, changed}
use Rattle.vol_tree.specs.Calls.{moved, with_unit}
use Rattle.vol_tree.specs.Stands.{Slots}
use Rattle.vol_tree.specs.Clauses.{tree_in, slots_in}
use Rattle.vol_tree.specs.internal.Slots.{slot_of}
use Rattle.vol_tree.specs.internal.Commits.{ReadsOnly}
use Rattle.vol_tree.specs.internal.Moves.{MovesToName}
use Rattle.vol_tree.specs.internal.Replacing.{replacing}
use Rattle.vol_tree.proofs.Committing.{commits_then, no_commit}
use Rattle.vol_tree.proofs.Changing.{reads_then, refused_io, done_open, stages_then}
use Rattle.vol_tree.proofs.Climbing.{onto_refused, onto_done, moves_after}
use Rattle.vol_tree.proofs.Filling.{fails_io}
use Rattle.vol_tree.proofs.Taking.{commits_fail, refused_by}
use Rattle.vol_tree.specs.Clauses.{is_io}
use Rattle.vol_tree.proofs.Trees.{Childless}
use Rattle.vol_tree.proofs.Targets.{are_read, never_io, target_there}
use Rattle.vol_tree.proofs.parts.Parts.move_onto.Goals as goal

-- ---- each entry is read, and a commit makes room

pub held_entry-requires : goal.held_entry-requires
held_entry-requires g c = record { is_open = c.requires.is_open; first = c.requires.first; last = c.requires.last }

pub held_entry-requires-2 : goal.held_entry-requires-2
held_entry-requires-2 g c =
    let first = c.in_ok-entry.ensures.reads.commits in
    record {
      is_open = first.is_open;
      first = c.requires.target_first;
      last = subst (λ (v : Superblock). c.args.target ≤ v.slots) (sym first.kept.numbers) c.requires.target_last;
    }

pub make_room-requires : goal.make_room-requires
make_room-requires g c = record { «open» = c.in_ok-gone.ensures.reads.commits.is_open }

pub returns-in_err-child : goal.returns-in_err-child
returns-in_err-child g c =
    let old = c.args.self.now in
    refused_io _ old old c.from_residual.result c.from_residual.ensures.1 (no_commit old true c.requires.is_open (sym c.in_err-child.ensures.failed))

pub returns-in_err-entry : goal.returns-in_err-entry
returns-in_err-entry g c =
    let old = c.args.self.now in
    let one = c.held_entry.new.self in
    refused_by Entry _ old one c.from_residual-in_err-entry.result c.in_err-entry.field-0.0 c.from_residual-in_err-entry.ensures.1 c.in_err-entry.ensures.reads (λ h.
    let m = c.requires.moves h in
    inr (c.in_err-entry.ensures.found h m.not_top m.used))

pub returns-in_err-gone : goal.returns-in_err-gone
returns-in_err-gone g c =
    let old = c.args.self.now in
    let one = c.held_entry.new.self in
    let two = c.held_entry-2.new.self in
    let first = c.in_ok-entry.ensures.reads.commits in
    let e = c.in_err-gone.field-0.0 in
    refused_by Entry _ old two c.from_residual-in_err-gone.result e c.from_residual-in_err-gone.ensures.1 (reads_then old one two _ c.in_ok-entry.ensures.reads c.in_err-gone.ensures.reads) (λ h.
    let there = target_there old one c.args.parent c.args.target c.args.name.now c.requires.is_open first h c.requires.name (c.requires.there h) in
    inr (c.in_err-gone.ensures.found (first.kept.honest.0 h) there.0 there.1))

pub returns-in_err-may_replace : goal.returns-in_err-may_replace
returns-in_err-may_replace g c =
    let old = c.args.self.now in
    let one = c.held_entry.new.self in
    let two = c.held_entry-2.new.self in
    let T = tree_in (view old.log) old.numbers in
    let first = c.in_ok-entry.ensures.reads.commits in
    let k = c.in_ok-entry.entry.kind in
    let t = c.in_ok-gone.gone.kind in
    let f = is_some c.in_ok-child.child in
    let e = c.in_err-may_replace.field-0.0 in
    let why : replacing k t f ≡ Err e = ap (replacing k t) (sym c.is_some.ensures) ∙ sym c.in_err-may_replace.ensures in
    let io : is_io {X = Unit {0}} (Err e) ≡ false = ap is_io (sym why) ∙ never_io k t f in
    refused_by (Unit {0}) _ old two c.from_residual-in_err-may_replace.result e c.from_residual-in_err-may_replace.ensures.1 (subst (λ (b : Bool). ReadsOnly old two b) (sym io) (reads_then old one two false c.in_ok-entry.ensures.reads c.in_ok-gone.ensures.reads)) (λ h.
    let read = are_read old one c.args.serial c.args.parent c.args.target c.args.name.now c.in_ok-entry.entry c.in_ok-gone.gone c.in_ok-child.child c.requires.is_open first h c.requires.first c.requires.target_first c.requires.name (c.requires.moves h) (c.requires.there h) c.in_ok-child.ensures.found (c.in_ok-entry.ensures.found h) (c.in_ok-gone.ensures.found (first.kept.honest.0 h)) in
    inl (ap with_unit (onto_refused T c.args.serial c.args.parent c.args.target c.args.name.now k t f c.requires.other read.kind_one read.kind_other read.full_is e why)))

pub returns-in_err-make_room : goal.returns-in_err-make_room
returns-in_err-make_room g c =
    let old = c.args.self.now in
    let one = c.held_entry.new.self in
    let two = c.held_entry-2.new.self in
    let first = c.in_ok-entry.ensures.reads.commits in
    let commits = commits_then old one two false first c.in_ok-gone.ensures.reads.commits in
    refused_io _ old c.make_room.new.self c.from_residual-in_err-make_room.result c.from_residual-in_err-make_room.ensures.1
    (commits_then old two c.make_room.new.self true commits c.in_err-make_room.ensures.commits)

pub take_out-requires : goal.take_out-requires
take_out-requires g c =
    let old = c.args.self.now in
    let one = c.held_entry.new.self in
    let two = c.held_entry-2.new.self in
    let first = c.in_ok-entry.ensures.reads.commits in
    let second = c.in_ok-gone.ensures.reads.commits in
    let third = c.in_ok-make_room.ensures.commits in
    let commits = commits_then old one two false first second in
    let mid = c.make_room.new.self in
    let all = commits_then old two mid false commits third in
    let gone = c.in_ok-gone.gone in
    let k = c.in_ok-entry.entry.kind in
    let f = is_some c.in_ok-child.child in
    let okay : replacing k gone.kind f ≡ Ok tt = ap (replacing k gone.kind) (sym c.is_some.ensures) ∙ sym c.in_ok-may_replace.ensures in
    record {
      is_open = third.is_open;
      working = third.kept.failed;
      room = omega (arith, c.in_ok-make_room.ensures.room);
      first = c.requires.target_first;
      last = subst (λ (v : Superblock). c.args.target ≤ v.slots) (sym all.kept.numbers) c.requires.target_last;
      right = subst (λ (v : Superblock). IsEntry v.version gone) (sym (third.kept.numbers ∙ second.kept.numbers)) c.in_ok-gone.ensures.right;
      held = subst (λ (d : Dirs). Names d gone.parent (name_of gone) c.args.target) (sym third.dirs) c.in_ok-gone.ensures.held;
      removes = λ h2.
          let h = all.kept.honest.1 h2 in
          let read = are_read old one c.args.serial c.args.parent c.args.target c.args.name.now c.in_ok-entry.entry c.in_ok-gone.gone c.in_ok-child.child c.requires.is_open first h c.requires.first c.requires.target_first c.requires.name (c.requires.moves h) (c.requires.there h) c.in_ok-child.ensures.found (c.in_ok-entry.ensures.found h) (c.in_ok-gone.ensures.found (first.kept.honest.0 h)) in
          record {
            slot = ap (λ (s : Slots). get_or s (c.args.target - 1) None) (all.slots h) ∙ read.other;
            not_top = read.not_top;
            bare = subst (λ (U : Tree). Childless U c.args.target) (sym (all.tree h)) (read.bare okay);
          };
    }

pub returns-in_err-take_out : goal.returns-in_err-take_out
returns-in_err-take_out g c =
    let old = c.args.self.now in
    let one = c.held_entry.new.self in
    let two = c.held_entry-2.new.self in
    let first = c.in_ok-entry.ensures.reads.commits in
    let commits = commits_then old one two false first c.in_ok-gone.ensures.reads.commits in
    let mid = c.make_room.new.self in
    let all = commits_then old two mid false commits c.in_ok-make_room.ensures.commits in
    fails_io _ old c.take_out.new.self c.from_residual-in_err-take_out.result c.from_residual-in_err-take_out.ensures.1 (commits_fail old mid c.take_out.new.self all (c.in_err-take_out.ensures.fails refl))

pub relocate-requires : goal.relocate-requires
relocate-requires g c =
    let old = c.args.self.now in
    let one = c.held_entry.new.self in
    let two = c.held_entry-2.new.self in
    let T = tree_in (view old.log) old.numbers in
    let first = c.in_ok-entry.ensures.reads.commits in
    let second = c.in_ok-gone.ensures.reads.commits in
    let third = c.in_ok-make_room.ensures.commits in
    let commits = commits_then old one two false first second in
    let mid = c.make_room.new.self in
    let all = commits_then old two mid false commits third in
    let last = c.take_out.new.self in
    let gone = c.in_ok-take_out.ensures.gone refl in
    let e = c.in_ok-entry.entry in
    let t = c.in_ok-gone.gone in
    let f = is_some c.in_ok-child.child in
    let okay : replacing e.kind t.kind f ≡ Ok tt = ap (replacing e.kind t.kind) (sym c.is_some.ensures) ∙ sym c.in_ok-may_replace.ensures in
    record {
      is_open = gone.is_open;
      working = gone.stages.failed;
      room = omega (arith, c.in_ok-make_room.ensures.room, gone.room);
      first = c.requires.first;
      right = subst (λ (v : Superblock). IsEntry v.version e) (sym (gone.stages.numbers ∙ all.kept.numbers)) c.in_ok-entry.ensures.right;
      held = (gone.names e.parent (name_of e) c.args.serial).1 (subst (λ (d : Dirs). Names d e.parent (name_of e) c.args.serial) (sym (third.dirs ∙ second.dirs)) c.in_ok-entry.ensures.held, λ is. c.requires.other (sym is));
      parent_first = c.requires.parent_first;
      name = c.requires.name;
      slot = λ h3.
          let h2 = gone.stages.honest.1 h3 in
          let h = all.kept.honest.1 h2 in
          let m = c.requires.moves h in
          let slot_one : slot_of (view old.log) old.numbers c.args.serial ≡ Some e = c.in_ok-entry.ensures.found h m.not_top m.used in
          let apart : c.args.serial - 1 ≢ c.args.target - 1 = λ is. c.requires.other (omega (arith, c.requires.first, c.requires.target_first)) in
          ap (λ (s : Slots). get_or s (c.args.serial - 1) None) (gone.slots h2)
          ∙ get_or-set_other (slots_in (view mid.log) mid.numbers.slots) (c.args.target - 1) (c.args.serial - 1) None None apart
          ∙ ap (λ (s : Slots). get_or s (c.args.serial - 1) None) (all.slots h) ∙ slot_one;
      moves = λ h3.
          let h2 = gone.stages.honest.1 h3 in
          let h = all.kept.honest.1 h2 in
          let read = are_read old one c.args.serial c.args.parent c.args.target c.args.name.now c.in_ok-entry.entry c.in_ok-gone.gone c.in_ok-child.child c.requires.is_open first h c.requires.first c.requires.target_first c.requires.name (c.requires.moves h) (c.requires.there h) c.in_ok-child.ensures.found (c.in_ok-entry.ensures.found h) (c.in_ok-gone.ensures.found (first.kept.honest.0 h)) in
          let tree_is : tree_in (view last.log) last.numbers ≡ changed T c.args.target None = gone.tree h2 ∙ ap (λ (U : Tree). changed U c.args.target None) (all.tree h) in
          subst (λ (U : Tree). MovesToName U c.args.serial c.args.parent c.args.name.now) (sym tree_is)
          (moves_after T (c.requires.is_open.content h).volume.tree c.args.serial c.args.parent c.args.target c.args.name.now (c.requires.moves h) c.requires.other (c.requires.there h) (read.bare okay));
    }

pub returns : goal.returns
returns g c =
    let old = c.args.self.now in
    let one = c.held_entry.new.self in
    let two = c.held_entry-2.new.self in
    let T = tree_in (view old.log) old.numbers in
    let first = c.in_ok-entry.ensures.reads.commits in
    let commits = commits_then old one two false first c.in_ok-gone.ensures.reads.commits in
    let mid = c.make_room.new.self in
    let all = commits_then old two mid false commits c.in_ok-make_room.ensures.commits in
    let last = c.take_out.new.self in
    let gone = c.in_ok-take_out.ensures.gone refl in
    let k = c.in_ok-entry.entry.kind in
    let t = c.in_ok-gone.gone.kind in
    let f = is_some c.in_ok-child.child in
    let okay : replacing k t f ≡ Ok tt = ap (replacing k t) (sym c.is_some.ensures) ∙ sym c.in_ok-may_replace.ensures in
    let to = c.relocate.ensures in
    done_open _ old mid c.relocate.new.self tt all to.is_open (stages_then mid last c.relocate.new.self gone.stages to.stages) (λ h.
    let h2 = all.kept.honest.0 h in
    let h3 = gone.stages.honest.0 h2 in
    let read = are_read old one c.args.serial c.args.parent c.args.target c.args.name.now c.in_ok-entry.entry c.in_ok-gone.gone c.in_ok-child.child c.requires.is_open first h c.requires.first c.requires.target_first c.requires.name (c.requires.moves h) (c.requires.there h) c.in_ok-child.ensures.found (c.in_ok-entry.ensures.found h) (c.in_ok-gone.ensures.found (first.kept.honest.0 h)) in
    let tree_is : tree_in (view last.log) last.numbers ≡ changed T c.args.target None = gone.tree h2 ∙ ap (λ (U : Tree). changed U c.args.target None) (all.tree h) in
    ap with_unit (onto_done T c.args.serial c.args.parent c.args.target c.args.name.now k t f c.requires.other read.kind_one read.kind_other read.full_is okay)
    ∙ ap (λ (U : Tree). Ok (U, tt)) (ap (λ (U : Tree). moved U c.args.serial c.args.parent c.args.name.now) (sym tree_is) ∙ sym (to.tree h3)))
