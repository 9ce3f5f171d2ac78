use Rattle.std.proofs.Common.{◌≡◌, ◌∙◌, ◌+◌, ◌-◌, ℕ, suc, sym, ap, subst, refl, arith}
use Rattle.std.proofs.lemmas.Grind.{common_steps}
use Rattle.vol_sector.specs.Disk.{put}
use Rattle.vol_log.specs.Log.{view, device_of}
use Rattle.vol_dirs.specs.Names.{Shows, slots_of}
use Rattle.vol_inode.specs.Spelling.{spelling}
use Rattle.vol_tree.specs.Calls.{moved}
use Rattle.vol_tree.specs.Clauses.{tree_in}
use Rattle.vol_tree.specs.internal.Moves.{MovesToName}
use Rattle.vol_tree.proofs.Changing.{stages, staged_open}
use Rattle.vol_tree.proofs.Relocating.{relocated_tree, relocated_space, relocated_content, relocated_is_tree, relocated_taken, relocated_front}
use Rattle.vol_tree.proofs.parts.Parts.relocate.Goals as goal
use Rattle.vol_dirs.specs.Slots.{slot_sector}

pub returns : goal.returns
returns g c =
    let old = c.args.self.now in
    let d = c.args.entry.now in
    let to = c.named_entry-to.result in
    let is_to = c.named_entry-to.ensures in
    let v = old.numbers in
    let n = c.args.serial in
    let s = n - 1 in
    let is = c.requires.is_open in
    let a = view old.log in
    let z = view c.relocate.new.log in
    let new = record old { log = c.relocate.new.log; dirs = c.relocate.new.self } in
    let here : suc s ≡ n = omega (arith, c.requires.first) in
    let place : slot_sector n ≡ slot_sector (s + 1) = omega (arith, c.requires.first) in
    let put_is : z ≡ put (slot_sector (s + 1)) (spelling to) a = c.relocate.ensures.stages.view ∙ ap (λ (k : ℕ). put k (spelling to) a) place in
    let all_stages = stages old new c.relocate.ensures.stages.device c.relocate.ensures.stages.failed c.relocate.ensures.stages.sectors refl refl c.relocate.ensures.slots in
    let right = is_to.right v.version c.requires.right in
    let k : slots_of old.dirs ≡ v.slots = is.slots in
    let slot = c.requires.slot in
    let moves = λ (h : g.D.Device.honest (device_of old.log)). subst (λ (m : ℕ). MovesToName (tree_in a v) m c.args.parent c.args.name.now) (sym here) (c.requires.moves h) in
    record {
      is_open = staged_open old new is all_stages c.requires.working (λ h.
          let working = is.working h c.requires.working in
          record {
            front = relocated_front a z v s d to (is.content h) (slot h) is.ranges.room right is_to.pointers is_to.size is_to.kind put_is ∙ working.front;
            content = relocated_content a z v s d to (is.content h) (slot h) is.ranges.room right is_to.pointers is_to.size is_to.kind put_is c.args.parent c.args.name.now is_to.parent is_to.name
                (relocated_is_tree a z v s d to (is.content h) (slot h) is.ranges.room right is_to.pointers is_to.size is_to.kind put_is c.args.parent c.args.name.now is_to.parent is_to.name (moves h) c.requires.name);
            reserved = is.reserved h ∙ sym (relocated_space a z v s d to (is.content h) (slot h) is.ranges.room right is_to.pointers is_to.size is_to.kind put_is c.args.parent c.args.name.now is_to.parent is_to.name);
            shows = subst (λ (m : ℕ). Shows v.version z m c.relocate.new.self) (c.relocate.ensures.slots ∙ k)
                (c.relocate.ensures.shows v.version right (subst (λ (m : ℕ). Shows v.version a m old.dirs) (sym k) (is.shows h)));
            taken = relocated_taken a z v s d to (is.content h) (slot h) is.ranges.room right is_to.pointers is_to.size is_to.kind put_is old.sectors working.taken;
          });
      stages = all_stages;
      tree = λ h. relocated_tree a z v s d to (is.content h) (slot h) is.ranges.room right is_to.pointers is_to.size is_to.kind put_is c.args.parent c.args.name.now is_to.parent is_to.name
          ∙ ap (λ (m : ℕ). moved (tree_in a v) m c.args.parent c.args.name.now) here;
    }

pub relocate-requires-clause-named : goal.relocate-requires-clause-named
relocate-requires-clause-named c = grind (arith, common_steps)

pub relocate-requires-clause-can : goal.relocate-requires-clause-can
relocate-requires-clause-can g c =
    let is = c.requires.is_open in
    record { there = omega (arith, is.slots, is.ranges.room, is.sectors); room = omega (arith, c.requires.room); working = c.requires.working }
