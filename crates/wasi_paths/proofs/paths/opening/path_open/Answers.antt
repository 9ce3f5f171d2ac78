use Rattle.std.proofs.Common.{◌≡◌, ◌+◌, ◌≤◌, ℕ, List, length, Result, Ok, sym, ap, ◌∙◌, subst, inl, inr, arith}
use Rattle.byteorder.specs.Endian.{little_bytes}
use Rattle.wasm_store.specs.Bytes.{written}
use Rattle.vol_tree.specs.declared.errno.Errno.{Errno}
use Rattle.vol_tree.specs.Numbers.{number_of}
use Rattle.vol_tree.specs.Tree.{Tree}
use Rattle.vol_tree.specs.Calls.{directory_at}
use Rattle.vol_tree.specs.Opened.{IsSerial}
use Rattle.wasi_fd.specs.Table.{table_of}
use Rattle.wasi_fd.specs.declared.descriptor.Opened.{Opened}
use Rattle.path_walk.specs.Paths.{Reached}
use Rattle.wasi_bodies.proofs.checks.CausesOf29.{asked_29, no_29_at_0}
use Rattle.wasi_bodies.specs.World.{World, with_volume_failed}
use Rattle.wasi_bodies.specs.Checks.{Checked, Done, numbered}
use Rattle.wasi_bodies.specs.Calls.{Answered, by_row}
use Rattle.wasi_paths.specs.internal.paths.Opening.{open_part, made, with_both}
use Rattle.wasi_bodies.proofs.checks.Chains.{goes_on, stops}
use Rattle.wasi_bodies.proofs.bodies.Answering.{answers_done}
use Rattle.wasi_bodies.proofs.bodies.VolumeCalls.{steps_after, steps, tree_refuses}
use Rattle.wasi_bodies.proofs.bodies.AskingCalls.{ends_call}
use Rattle.wasi_paths.proofs.paths.OpenCalls.{open_by, to_opening, after_part, after_part_never, opened_done, both_same, opens_as, opened_is, serials_stand, opened_world, same_number, not_full}
use Rattle.vol_tree.specs.declared.superblock.Superblock.{Superblock}
use Rattle.wasi_fd.specs.declared.table.Descriptors.{Descriptors}
use Rattle.wasi_paths.proofs.paths.Showing.{shown_is, can_lend}
use Rattle.wasi_paths.proofs.paths.opening.path_open.Goals as goal

pub returns-in-Err : goal.returns-in-Err
returns-in-Err g c = record {
  step = c.in-Err.ensures.step;
  serials = λ fd o at. subst (λ (n : Superblock). IsSerial n o.serial) (sym c.in-Err.ensures.step.kept.numbers) (c.requires.numbers fd o at);
  answered = λ h w table shown.
      let m = c.args.memory.now in
      let stands : c.new-shown.result.bytes ≡ m =
      shown_is m c.first_part.result.now c.new-shown.result.bytes c.len-size.result c.new-shown.ensures.bytes c.len-size.ensures c.first_part.ensures.value in
      let a = c.args.asked.now in
      let new = c.find_target.new.volume in
      let run : World → Checked Done = λ v. open_by v m a in
      rw c.first_part.follows.holds-at-none (subst (λ (u : World). Answered run w m u m c.in-Err.errno.0) (sym (both_same new (table_of c.args.descriptors.now) w table))
      (ends_call w m run (λ v. open_part v m a) (λ v. after_part v a) new _ (λ v. to_opening v m a) (λ alive p. after_part_never w a p alive) (rw stands at c.in-Err.ensures.targets h w table shown)));
  io = c.in-Err.ensures.io;
}

pub returns-in-Err-settle : goal.returns-in-Err-settle
returns-in-Err-settle g c = record {
  step = steps_after g.D.Device.honest g.D.Device.disk g.D.Device.size g.D.Device.failures g.D.Device.goes_on c.args.volume.now c.find_target.new.volume c.settle.new.volume c.in-Ok.ensures.works
      (steps g.D.Device.honest g.D.Device.disk g.D.Device.size g.D.Device.failures g.D.Device.goes_on c.find_target.new.volume c.settle.new.volume _ c.in-Err-settle.ensures.kept c.in-Err-settle.ensures.crash c.in-Err-settle.ensures.goes_on);
  serials = λ fd o at.
      subst (λ (n : Superblock). IsSerial n o.serial) (sym (c.in-Err-settle.ensures.kept.numbers ∙ c.in-Ok.ensures.works.kept.numbers)) (c.requires.numbers fd o at);
  answered = λ h w table shown.
      let m = c.args.memory.now in
      let stands : c.new-shown.result.bytes ≡ m =
      shown_is m c.first_part.result.now c.new-shown.result.bytes c.len-size.result c.new-shown.ensures.bytes c.len-size.ensures c.first_part.ensures.value in
      let a = c.args.asked.now in
      let between = c.find_target.new.volume in
      let new = c.settle.new.volume in
      let e = c.in-Err-settle.errno in
      let run : World → Checked Done = λ v. open_by v m a in
      let r = rw stands at c.in-Ok.ensures.targets h w table shown in
      let passes = r.passes in
      let t = c.in-Ok.target.1 in
      let p : Opened × Reached × ℕ = (c.in-Ok.target.0, r.reached, r.number) in
      let (tree, meant) = c.in-Err-settle.ensures.answer (c.in-Ok.ensures.works.kept.honest.0 h) in
      let opens = opens_as w a.oflags r.reached t passes.working r.target in
      rw c.first_part.follows.holds-at-none (subst (λ (n : ℕ). Answered run w m (with_both new (table_of c.args.descriptors.now) w) m n) (sym c.refused.ensures)
      (subst (λ (u : World). Answered run w m u m (number_of e)) (sym (both_same new (table_of c.args.descriptors.now) w table))
      (tree_refuses w m g.D.Device.honest g.D.Device.size g.D.Device.failures ℕ run between new e c.in-Err-settle.ensures.kept (sym passes.same) tree
      (λ alive other. to_opening w m a ∙ (goes_on _ _ p passes.is ∙ stops _ _ (number_of e) (opens ∙ elim meant [
        | inl is ↦ ap numbered (ap (λ (v : World). made v.volume v.tree t) (sym passes.same) ∙ is)
        | inr io ↦ absurd (other io)
      ])))
      (to_opening (with_volume_failed w) m a ∙ stops _ _ 29 passes.gone)
      (λ alive is. after_part_never w a p alive (sym (to_opening w m a ∙ goes_on _ _ p passes.is) ∙ is)))));
  io = asked_29 ℕ c.in-Err-settle.errno _ (λ fails. c.in-Err-settle.ensures.kept.failed ∙ fails) c.refused.ensures;
}

pub returns-in-Ok-open : goal.returns-in-Ok-open
returns-in-Ok-open g c = record {
  step = steps_after g.D.Device.honest g.D.Device.disk g.D.Device.size g.D.Device.failures g.D.Device.goes_on c.args.volume.now c.find_target.new.volume c.settle.new.volume c.in-Ok.ensures.works
      (steps g.D.Device.honest g.D.Device.disk g.D.Device.size g.D.Device.failures g.D.Device.goes_on c.find_target.new.volume c.settle.new.volume _ c.in-Ok-settle.ensures.kept c.in-Ok-settle.ensures.crash c.in-Ok-settle.ensures.goes_on);
  serials = let numbers : c.settle.new.volume.numbers ≡ c.args.volume.now.numbers = c.in-Ok-settle.ensures.kept.numbers ∙ c.in-Ok.ensures.works.kept.numbers in
      serials_stand c.settle.new.volume.numbers (table_of c.args.descriptors.now) (table_of c.open.new.self) c.in-Ok-open.fd c.new_descriptor-descriptor.result c.in-Ok-settle.serial
      (λ fd o is. subst (λ (n : _). IsSerial n o.serial) (sym numbers) (c.requires.numbers fd o is))
      c.in-Ok-open.ensures.opened
      (subst (λ (n : _). IsSerial n c.in-Ok-settle.serial) (sym c.in-Ok-settle.ensures.kept.numbers) c.in-Ok-settle.ensures.range)
      c.new_descriptor-descriptor.ensures.serial;
  answered = λ h w table shown.
      let m = c.args.memory.now in
      let stands : c.new-shown.result.bytes ≡ m =
      shown_is m c.first_part.result.now c.new-shown.result.bytes c.len-size.result c.new-shown.ensures.bytes c.len-size.ensures c.first_part.ensures.value in
      let a = c.args.asked.now in
      let between = c.find_target.new.volume in
      let new = c.settle.new.volume in
      let serial = c.in-Ok-settle.serial in
      let number = c.in-Ok-open.fd in
      let run : World → Checked Done = λ v. open_by v m a in
      let r = rw stands at c.in-Ok.ensures.targets h w table shown in
      let passes = r.passes in
      let t = c.in-Ok.target.1 in
      let o = c.in-Ok.target.0 in
      let p : Opened × Reached × ℕ = (o, r.reached, r.number) in
      let made_is : ◌≡◌ {A = Result (Tree × ℕ) Errno} (made w.volume w.tree t) (Ok (new.tree, serial)) =
      ap (λ (v : World). made v.volume v.tree t) (sym passes.same) ∙ c.in-Ok-settle.ensures.answer (c.in-Ok.ensures.works.kept.honest.0 h) in
      let least = c.in-Ok-open.ensures.least in
      let same : number ≡ r.number = same_number w (table_of c.args.descriptors.now) r.number number table r.free least.0 least.1 least.2 in
      let kind : directory_at new.tree serial ≡ c.is_directory.result = opened_is w.volume w.tree new.tree a.oflags r.reached t serial r.target made_is ∙ sym c.is_directory.ensures in
      by_row (answers_done (run w) w m (with_both new (table_of c.open.new.self) w) c.write_bytes.new.memory (opened_done w a p (new.tree, serial))
      (to_opening w m a ∙ (goes_on _ _ p passes.is ∙ goes_on _ _ (new.tree, serial) (opens_as w a.oflags r.reached t passes.working r.target ∙ ap numbered made_is)))
      (opened_world w between new (table_of c.args.descriptors.now) (table_of c.open.new.self) r.number number c.new_descriptor-descriptor.result _ passes.same c.in-Ok-settle.ensures.kept.numbers
      c.in-Ok-settle.ensures.kept.failed passes.working table same (c.new_descriptor-descriptor.ensures.rights new.tree kind) c.in-Ok-open.ensures.opened)
      (c.write_bytes.ensures.bytes ∙ ap (λ (l : List ℕ). written l a.result_at c.le32.result) c.first_part.follows.holds-at-none ∙ ap (written m a.result_at) (c.le32.ensures ∙ ap (little_bytes 4) (c.number.ensures ∙ same))));
  io = no_29_at_0;
}

pub returns-in-Err-open : goal.returns-in-Err-open
returns-in-Err-open g c = record {
  step = steps_after g.D.Device.honest g.D.Device.disk g.D.Device.size g.D.Device.failures g.D.Device.goes_on c.args.volume.now c.find_target.new.volume c.settle.new.volume c.in-Ok.ensures.works
      (steps g.D.Device.honest g.D.Device.disk g.D.Device.size g.D.Device.failures g.D.Device.goes_on c.find_target.new.volume c.settle.new.volume _ c.in-Ok-settle.ensures.kept c.in-Ok-settle.ensures.crash c.in-Ok-settle.ensures.goes_on);
  serials = λ fd o at. subst (λ (n : Superblock). IsSerial n o.serial) (sym (c.in-Ok-settle.ensures.kept.numbers ∙ c.in-Ok.ensures.works.kept.numbers)) (c.requires.numbers fd o (ap (λ (d : Descriptors). table_of d fd) (sym c.in-Err-open.ensures.refused) ∙ at));
  answered = λ h w table shown.
      let stands : c.new-shown.result.bytes ≡ c.args.memory.now =
      shown_is c.args.memory.now c.first_part.result.now c.new-shown.result.bytes c.len-size.result c.new-shown.ensures.bytes c.len-size.ensures c.first_part.ensures.value in
      let r = rw stands at c.in-Ok.ensures.targets h w table shown in
      absurd (not_full w (table_of c.args.descriptors.now) r.number table r.free c.in-Err-open.ensures.full.1);
  io = λ is. absurd (omega (arith, is));
}

pub find_target-requires-clause-lent : goal.find_target-requires-clause-lent
find_target-requires-clause-lent g c =
    let is : c.new-shown.result.bytes ≡ c.args.memory.now =
    shown_is c.args.memory.now c.first_part.result.now c.new-shown.result.bytes c.len-size.result c.new-shown.ensures.bytes c.len-size.ensures c.first_part.ensures.value in
    can_lend c.args.memory.now c.first_part.result.now c.new-shown.result _ c.args.asked.now.path c.args.asked.now.len is c.new-shown.ensures.lent c.first_part.ensures.long (omega arith)

pub write_bytes-requires : goal.write_bytes-requires
write_bytes-requires g c =
    let is : c.new-shown.result.bytes ≡ c.args.memory.now =
    shown_is c.args.memory.now c.first_part.result.now c.new-shown.result.bytes c.len-size.result c.new-shown.ensures.bytes c.len-size.ensures c.first_part.ensures.value in
    omega (arith, c.in-Ok.ensures.inside, c.le32.auto, ap length is, ap length c.first_part.follows.holds-at-none)
