use Rattle.std.proofs.Common.{◌≡◌, ◌∙◌, ◌≤◌, ℕ, [], Some, None, true, false, inl, sym, ap, subst, refl, arith}
use Rattle.std.proofs.lemmas.Result.{IfOk-from_err}
use Rattle.vol_log.specs.Log.{view, device_of, has_failed}
use Rattle.vol_dirs.specs.Names.{IsFree, Shows, slots_of}
use Rattle.vol_tree.specs.declared.superblock.Superblock.{Superblock}
use Rattle.vol_dirs.specs.declared.dirs.Dirs.{Dirs}
use Rattle.vol_tree.specs.declared.errno.Errno.TheVariants as errno
use Rattle.vol_tree.specs.Tree.{Tree, IsDirectory, lookup, least_from, is_unused}
use Rattle.vol_tree.specs.Calls.{created}
use Rattle.vol_tree.specs.Stands.{node_by}
use Rattle.vol_tree.specs.Clauses.{tree_in}
use Rattle.vol_tree.proofs.Committing.{no_commit}
use Rattle.vol_tree.proofs.Finding.{looks_up, least_unused}
use Rattle.vol_tree.proofs.Changing.{no_reads, refused, refused_io, done, stages}
use Rattle.vol_tree.proofs.Adding.{created_no_space}
use Rattle.vol_tree.proofs.Creating.{found_exists, missing_none, creates}
use Rattle.vol_tree.proofs.parts.Parts.create.Goals as goal

pub lookup-requires : goal.lookup-requires
lookup-requires g c = c.requires.name

pub returns-in_err-lookup : goal.returns-in_err-lookup
returns-in_err-lookup g c =
    let old = c.args.self.now in
    record {
      changes = refused_io _ old old c.from_residual.result c.from_residual.ensures.1 (no_commit old true c.requires.is_open (sym c.in_err-lookup.ensures.failed));
      range = IfOk-from_err c.from_residual.result _ c.from_residual.ensures.0;
    }

pub returns-then-is_some : goal.returns-then-is_some
returns-then-is_some g c =
    let old = c.args.self.now in
    let ok : has_failed old.log ≡ false = sym c.in_ok-lookup.ensures.failed in
    record {
      changes = refused _ old old errno.Exist (no_reads old c.requires.is_open ok) (λ h.
          let working = c.requires.is_open.working h ok in
          let found = looks_up (view old.log) old.numbers old.dirs (c.requires.is_open.content h) (c.requires.is_open.shows h) c.in_ok-lookup.field-0 c.args.parent c.args.name.now c.in_ok-lookup.ensures.found in
          inl (found_exists (tree_in (view old.log) old.numbers) c.args.parent c.args.name.now (node_by c.args.kind []) c.in_ok-lookup.field-0 found (sym c.is_some.ensures ∙ c.if-is_some.true)));
      range = tt;
    }

pub returns-in_default : goal.returns-in_default
returns-in_default g c =
    let old = c.args.self.now in
    let ok : has_failed old.log ≡ false = sym c.in_ok-lookup.ensures.failed in
    record {
      changes = refused _ old old errno.NoSpace (no_reads old c.requires.is_open ok) (λ h.
          let working = c.requires.is_open.working h ok in
          let T = tree_in (view old.log) old.numbers in
          let found = looks_up (view old.log) old.numbers old.dirs (c.requires.is_open.content h) (c.requires.is_open.shows h) c.in_ok-lookup.field-0 c.args.parent c.args.name.now c.in_ok-lookup.ensures.found in
          let missing : lookup T c.args.parent c.args.name.now ≡ None = missing_none T c.args.parent c.args.name.now c.in_ok-lookup.field-0 found (sym c.is_some.ensures ∙ c.if-is_some.false) in
          let full : c.least_free.result ≡ least_from 1 is_unused T = least_unused (view old.log) old.numbers old.dirs (c.requires.is_open.content h) (c.requires.is_open.shows h) c.least_free.result c.least_free.ensures c.requires.is_open.slots in
          inl (created_no_space T c.args.parent c.args.name.now (node_by c.args.kind []) missing (sym full ∙ c.in_default.is)));
      range = tt;
    }

pub make_room-requires : goal.make_room-requires
make_room-requires g c = record { «open» = c.requires.is_open }

pub returns-in_err-make_room : goal.returns-in_err-make_room
returns-in_err-make_room g c = record {
  changes = refused_io _ c.args.self.now c.make_room.new.self c.from_residual-in_err-make_room.result c.from_residual-in_err-make_room.ensures.1 c.in_err-make_room.ensures.commits;
  range = IfOk-from_err c.from_residual-in_err-make_room.result _ c.from_residual-in_err-make_room.ensures.0;
}

pub new_entry-requires : goal.new_entry-requires
new_entry-requires g c = record { parent = c.requires.serial; name = c.requires.name }

pub add-requires : goal.add-requires
add-requires g c =
    let commits = c.in_ok-make_room.ensures.commits in
    let is = commits.is_open in
    record {
      first = c.in-Some.ensures.first;
      last = subst (λ (d : Dirs). c.in-Some.serial ≤ slots_of d) (sym commits.dirs) c.in-Some.ensures.last;
      free = subst (λ (d : Dirs). IsFree d c.in-Some.serial) (sym commits.dirs) c.in-Some.ensures.free;
      named = (c.new_entry.ensures.right c.args.self.now.numbers.version).rules.name;
      can = record {
        there = omega (arith, is.sectors, is.ranges.room, is.slots);
        room = omega (arith, c.in_ok-make_room.ensures.room);
        working = commits.kept.failed;
      };
    }

pub returns : goal.returns
returns g c =
    let old = c.args.self.now in
    let mid = c.make_room.new.self in
    let new = record mid { log = c.add.new.log; dirs = c.add.new.self } in
    let ok : has_failed old.log ≡ false = sym c.in_ok-lookup.ensures.failed in
    let v = old.numbers in
    let T = tree_in (view old.log) v in
    let serial = c.in-Some.serial in
    let commits = c.in_ok-make_room.ensures.commits in
    let numbers : mid.numbers ≡ v = commits.kept.numbers in
    let last : serial ≤ mid.numbers.slots = omega (arith, c.in-Some.ensures.last, c.requires.is_open.slots, ap (λ (w : Superblock). w.slots) numbers) in
    let made = λ (h : g.D.Device.honest (device_of old.log)).
    let working = c.requires.is_open.working h ok in
    let content = c.requires.is_open.content h in
    let h1 = commits.kept.honest.0 h in
    let working1 = commits.is_open.working h1 commits.kept.failed in
    let content1 = commits.is_open.content h1 in
    let found = looks_up (view old.log) v old.dirs content (c.requires.is_open.shows h) c.in_ok-lookup.field-0 c.args.parent c.args.name.now c.in_ok-lookup.ensures.found in
    let missing : lookup T c.args.parent c.args.name.now ≡ None = missing_none T c.args.parent c.args.name.now c.in_ok-lookup.field-0 found (sym c.is_some.ensures ∙ c.if-is_some.false) in
    let least : least_from 1 is_unused T ≡ Some serial = sym (least_unused (view old.log) v old.dirs content (c.requires.is_open.shows h) c.least_free.result c.least_free.ensures c.requires.is_open.slots) ∙ c.in-Some.is in
    let same : tree_in (view mid.log) mid.numbers ≡ T = commits.tree h in
    creates (view mid.log) (view new.log) mid.numbers mid.sectors c.args.parent c.args.name.now c.args.kind serial c.new_entry.result commits.is_open.ranges.room content1 c.in-Some.ensures.first last
    (ap (λ (U : Tree). lookup U c.args.parent c.args.name.now) same ∙ missing) (ap (λ (U : Tree). least_from 1 is_unused U) same ∙ least)
    c.requires.name (subst (λ (U : Tree). IsDirectory U c.args.parent) (sym same) (c.requires.directory h)) (c.new_entry.ensures.right mid.numbers.version) c.new_entry.ensures.parent c.new_entry.ensures.name
    c.new_entry.ensures.kind c.new_entry.ensures.size c.new_entry.ensures.pointers c.add.ensures.stages.view working1.taken
    in
    record {
      changes = done _ old mid new serial commits
          (stages mid new c.add.ensures.stages.device c.add.ensures.stages.failed c.add.ensures.stages.sectors refl refl c.add.ensures.slots)
          (λ h.
          let h1 = commits.kept.honest.0 h in
          let working1 = commits.is_open.working h1 commits.kept.failed in
          let k : slots_of mid.dirs ≡ mid.numbers.slots = commits.is_open.slots in
          record {
            front = (made h).front ∙ working1.front;
            content = (made h).content;
            reserved = commits.is_open.reserved h1 ∙ sym (made h).space;
            shows = subst (λ (n : ℕ). Shows mid.numbers.version (view new.log) n new.dirs) (c.add.ensures.slots ∙ k)
                (c.add.ensures.shows mid.numbers.version (c.new_entry.ensures.right mid.numbers.version) (subst (λ (n : ℕ). Shows mid.numbers.version (view mid.log) n mid.dirs) (sym k) (commits.is_open.shows h1)));
            taken = (made h).taken;
          })
          (λ h. ap (λ (U : Tree). created U c.args.parent c.args.name.now (node_by c.args.kind [])) (sym (commits.tree h)) ∙ (made h).tree);
      range = record { first = c.in-Some.ensures.first; last = omega (arith, c.in-Some.ensures.last, c.requires.is_open.slots) };
    }
