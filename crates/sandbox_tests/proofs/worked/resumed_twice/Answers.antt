use Rattle.std.proofs.Common.{◌≤◌, [], ◌∷◌, ap, arith}
use Rattle.vol_tree.specs.declared.superblock.Superblock.{Superblock}
use Rattle.sandbox_core.specs.Session.{given, is_synced}
use Rattle.sandbox_tests.proofs.Found.{found, found_after}
use Rattle.sandbox_tests.proofs.worked.resumed_twice.Goals as goal

pub returns : goal.returns
returns g c = λ is.
    let v = c.args.volume in
    let made = c.in-Ok.session in
    let between = c.resume-first.new.self in
    let last = c.resume-second.new.self in
    let first = c.resume-first.ensures in
    let second = c.resume-second.ensures in
    let law = c.turns_are_safe.ensures in
    let start = law.opened v is (c.requires is) in
    let one = law.begins (given c.args.settings v c.args.input c.args.out c.args.err) made (v.tree ∷ []) 0 is c.in-Ok.ensures.shares start in
    let two = law.resumes made between _ c.resume-first.result (v.tree ∷ []) 0 one.still_honest first one.after in
    let three = law.resumes between last _ c.resume-second.result (v.tree ∷ between.host.volume.tree ∷ []) _ two.still_honest second two.after in
    let room : v.numbers.sectors ≤ g.D.Device.size made.host.volume.device = omega (arith, one.size, c.is_a_tree.ensures.room) in
    let room_made : made.host.volume.numbers.sectors ≤ g.D.Device.size between.host.volume.device = omega (arith, ap (λ (n : Superblock). n.sectors) one.numbers, two.size, room) in
    let room_between : between.host.volume.numbers.sectors ≤ g.D.Device.size last.host.volume.device = omega (arith, ap (λ (n : Superblock). n.sectors) two.numbers, three.size, room_made) in
    record {
      made = made;
      between = between;
      units = _;
      first = first;
      second = second;
      while_made = λ image left. found _ v.numbers image (v.tree ∷ []) 0 0 room (one.during image left);
      in_first = λ image left. found _ made.host.volume.numbers image (v.tree ∷ between.host.volume.tree ∷ []) 0 1 room_made (two.during image left);
      in_second = λ image left. found_after _ between.host.volume.numbers image (is_synced c.resume-first.result) v.tree (between.host.volume.tree ∷ last.host.volume.tree ∷ []) 2 room_between (three.during image left);
    }
