use Rattle.std.proofs.Common.{◌≡◌, ◌∙◌, ◌+◌, ◌-◌, ℕ, suc, None, true, false, sym, ap, subst, refl, arith}
use Rattle.std.proofs.lemmas.Grind.{common_steps}
use Rattle.vol_sector.specs.Disk.{put}
use Rattle.vol_log.specs.Log.{view, device_of, room_of}
use Rattle.vol_alloc.specs.Alloc.{first_of, end_of, taken_of}
use Rattle.vol_dirs.specs.Names.{Shows, slots_of}
use Rattle.vol_inode.specs.declared.entry.Entry.{Entry}
use Rattle.vol_inode.specs.Entry.{name_of}
use Rattle.vol_inode.specs.Spelling.{unused}
use Rattle.vol_inode.specs.Space.{need_of}
use Rattle.vol_body.specs.Change.{OthersStay}
use Rattle.vol_tree.specs.Tree.{Tree, IsTree, changed}
use Rattle.vol_tree.specs.Space.{space}
use Rattle.vol_tree.specs.Clauses.{tree_in}
use Rattle.vol_tree.proofs.Committing.{no_commit}
use Rattle.vol_tree.proofs.Changing.{stages, stages_then, staged_open}
use Rattle.vol_tree.proofs.Filling.{fails_after, file_stages}
use Rattle.vol_tree.proofs.Finding.{tree_entry}
use Rattle.vol_tree.proofs.Rewriting.{Rewrites, rewritten_shows}
use Rattle.vol_tree.proofs.Removing.{removed_slots, removed_tree, removed_taken, removed_front, removed_space, removed_content}
use Rattle.vol_tree.proofs.Trees.{without_is_tree}
use Rattle.vol_tree.proofs.OneTree.{limit_small}
use Rattle.vol_tree.proofs.Taking.{err_is, room_left}
use Rattle.vol_tree.proofs.parts.Parts.take_out.Goals as goal
use Rattle.vol_dirs.specs.Slots.{slot_sector}

pub returns-in_err-set_size : goal.returns-in_err-set_size
returns-in_err-set_size g c =
    let old = c.args.self.now in
    let is : _ = err_is c.from_residual.result c.from_residual.ensures.0 in
    record {
      gone = λ ok. absurd (let both : true ≡ false = sym is ∙ ok in cc);
      fails = λ io. fails_after old old c.set_size.new.log c.set_size.new.sectors (no_commit old false c.requires.is_open c.requires.working) c.in_err-set_size.ensures.refused.0 c.in_err-set_size.ensures.steps.failed c.set_size.ensures.steps.range.0 c.set_size.ensures.steps.range.1;
    }

pub returns : goal.returns
returns g c =
    let old = c.args.self.now in
    let d = c.args.entry in
    let e = c.set_size.new.entry in
    let v = old.numbers in
    let n = c.args.serial in
    let s = n - 1 in
    let is = c.requires.is_open in
    let done = c.in_ok-set_size.ensures in
    let a = view old.log in
    let b = view c.set_size.new.log in
    let z = view c.remove.new.log in
    let sectors = c.set_size.new.sectors in
    let one = record old { log = c.set_size.new.log; sectors = sectors; reserved = c.saturating_sub-self.result } in
    let new = record one { log = c.remove.new.log; dirs = c.remove.new.self } in
    let here : suc s ≡ n = omega (arith, c.requires.first) in
    let place : slot_sector n ≡ slot_sector (s + 1) = omega (arith, c.requires.first) in
    let at : c.slot_sector.result ≡ slot_sector (s + 1) = c.slot_sector.ensures ∙ place in
    let entry_is = done.entry.entry in
    let first_stages = file_stages old c.set_size.new.log sectors c.saturating_sub-self.result c.set_size.ensures.steps.log c.requires.working done.steps.failed c.set_size.ensures.steps.range.0 c.set_size.ensures.steps.range.1 in
    let second_stages = stages one new c.remove.ensures.stages.device c.remove.ensures.stages.failed c.remove.ensures.stages.sectors refl refl c.remove.ensures.slots in
    let all_stages = stages_then old one new first_stages second_stages in
    let put_is : z ≡ put (slot_sector (s + 1)) unused b = c.remove.ensures.stages.view ∙ ap (λ (k : ℕ). put k unused b) place in
    let empty : e.size ≡ 0 = ap (λ (x : Entry). x.size) entry_is in
    let removes = c.requires.removes in
    let rewrites = λ (h : g.D.Device.honest (device_of old.log)).
    let working = is.working h c.requires.working in
    let slot = (removes h).slot in
    let names = working.taken.named s d slot in
    let body = (is.content h).volume.sectors.bodies s d slot in
    let file = done.file h names body in
    let r : Rewrites a b v s d e old.sectors sectors = record {
      entry = file.right v.version c.requires.right (λ directory. empty) (omega (arith, empty));
      kind = ap (λ (x : Entry). x.kind) entry_is;
      parent = ap (λ (x : Entry). x.parent) entry_is;
      name = ap name_of entry_is;
      body = file.rules;
      staged = ap b (sym at) ∙ done.entry.staged;
      others = subst (λ (k : ℕ). OthersStay k (first_of old.sectors) (end_of old.sectors) (taken_of old.sectors) a b d) at file.others;
      taken = file.taken;
      first = c.set_size.ensures.steps.range.0;
      end = c.set_size.ensures.steps.range.1;
    } in
    r in
    let tree_is = λ (h : g.D.Device.honest (device_of old.log)).
    removed_tree a b z v s d e old.sectors sectors (is.content h) (removes h).slot is.first is.end is.ranges.room (is.working h c.requires.working).taken (rewrites h) empty put_is in
    let kept_tree = λ (h : g.D.Device.honest (device_of old.log)).
    let T : Tree = tree_in a v in
    subst (λ (k : ℕ). IsTree (changed T k None)) (sym here)
    (without_is_tree T (is.content h).volume.tree n _ (tree_entry a v n d c.requires.first (removes h).slot) (removes h).not_top (removes h).bare) in
    let k : slots_of old.dirs ≡ v.slots = is.slots in
    record {
      gone = λ ok. record {
        is_open = staged_open old new is all_stages c.requires.working (λ h.
            let working = is.working h c.requires.working in
            let slot = (removes h).slot in
            let sums = removed_space a b z v s d e old.sectors sectors (is.content h) slot is.first is.end is.ranges.room working.taken (rewrites h) empty put_is in
            let needs : c.saturating_sub-self.result ≡ old.reserved - need_of d.size = c.saturating_sub-self.ensures ∙ ap (λ (m : ℕ). old.reserved - m) c.need.ensures in
            let total = is.reserved h in
            let tree = tree_is h in
            let spaces : space (tree_in z v) ≡ space (changed (tree_in a v) (suc s) None) = ap space tree in
            record {
              front = removed_front a b z v s d e old.sectors sectors (is.content h) slot is.first is.end is.ranges.room working.taken (rewrites h) empty put_is ∙ working.front;
              content = removed_content a b z v s d e old.sectors sectors (is.content h) slot is.first is.end is.ranges.room working.taken (rewrites h) empty put_is (kept_tree h);
              reserved = omega (arith, sums, needs, total, spaces);
              shows = subst (λ (m : ℕ). Shows v.version z m c.remove.new.self) (c.remove.ensures.slots ∙ k)
                  (c.remove.ensures.shows v.version (subst (λ (m : ℕ). Shows v.version b m old.dirs) (sym k)
                  (rewritten_shows a b v s d e old.sectors sectors (is.content h) slot is.first is.end is.ranges.room working.taken (rewrites h) old.dirs (is.shows h))));
              taken = removed_taken a b z v s d e old.sectors sectors (is.content h) slot is.first is.end is.ranges.room working.taken (rewrites h) empty put_is;
            });
        stages = all_stages;
        tree = λ h. tree_is h ∙ ap (λ (m : ℕ). changed (tree_in a v) m None) here;
        slots = λ h. removed_slots a b z v s d e old.sectors sectors (is.content h) (removes h).slot is.first is.end is.ranges.room (is.working h c.requires.working).taken (rewrites h) empty put_is;
        room = let less = room_left _ (room_of c.set_size.new.log) (room_of c.remove.new.log) c.remove.ensures.stages.room in omega (arith, less, c.set_size.ensures.steps.room);
        names = c.remove.ensures.names;
      };
      fails = λ io. absurd (cc);
    }

pub remove-requires-clause-held : goal.remove-requires-clause-held
remove-requires-clause-held c = grind (arith, common_steps)

pub remove-requires-clause-can : goal.remove-requires-clause-can
remove-requires-clause-can g c =
    let is = c.requires.is_open in
    let steps = c.set_size.ensures.steps in
    record {
      there = omega (arith, is.slots, is.ranges.room, is.sectors, steps.log.sectors);
      room = omega (arith, c.requires.room, steps.room);
      working = c.in_ok-set_size.ensures.steps.failed;
    }

pub set_size-requires-clause-can : goal.set_size-requires-clause-can
set_size-requires-clause-can g c =
    let is = c.requires.is_open in
    let at = c.slot_sector.ensures in
    record {
      after_log = omega (arith, c.requires.first, at);
      slot = omega (arith, c.requires.last, is.first, at);
      within = omega (arith, c.requires.last, is.ranges.room, is.sectors, at);
      there = omega (arith, is.end, is.sectors);
      room = omega (arith, c.requires.room);
      small_before = omega (arith, c.requires.right.rules.size.small, limit_small c.args.self.now.numbers.version);
    }
