use Rattle.std.proofs.Common.{Option, Some, subst, arith, refl, [], None, ◌∙◌}
use Rattle.vol_tree.specs.Tree.{Tree}
use Rattle.wasi_bodies.specs.declared.files.listing.ToldEntry.{ToldEntry}
use Rattle.wasi_bodies.specs.internal.files.Listing.{TellsNext}
use Rattle.wasi_bodies.proofs.bodies.AskingCalls.{works_on, asked_on, still_works, works_as}
use Rattle.wasi_bodies.proofs.files.DirectoryLists.{tells_more, list_ended, list_full, list_begun}
use Rattle.wasi_bodies.proofs.files.listing.list.Goals as goal

pub loop-filled-preserved : goal.loop-filled-preserved
loop-filled-preserved g c =
    let old = c.args.volume.now in
    let T : Tree = old.tree in
    let here = c.loop-filled.volume in
    let was = c.loop-filled.invariant in
    let directory = c.args.directory in
    let after = c.loop-filled.after in
    let end = c.put_some-filled.result in
    record {
      works = works_on g.D.Device.honest g.D.Device.disk g.D.Device.size g.D.Device.failures g.D.Device.goes_on old here c.next_told.new.volume was.works c.in-Ok-Some.ensures.asked;
      long = omega (arith, was.long, c.put_some-filled.auto.part);
      room = omega (arith, was.long, c.put_some-filled.ensures.end);
      told = λ h.
          let next = subst (λ (o : Option ToldEntry). TellsNext here.tree directory after o) c.in-Ok-Some.field-0-is (c.in-Ok-Some.ensures.told (was.works.kept.honest.0 h)) in
          rw c.number-after.ensures (tells_more T directory c.args.cookie c.args.part.now after c.loop-filled.filled c.loop-filled.part (was.told h) c.in-Ok-Some.told end c.put_some-filled.new.part
          (omega (arith, was.long, c.loop-filled-test.true)) was.long (subst (λ (U : Tree). TellsNext U directory after (Some c.in-Ok-Some.told)) (was.works.tree h) next)
          c.put_some-filled.ensures.end c.put_some-filled.ensures.filled c.put_some-filled.ensures.rest);
    }

pub returns-in-Err : goal.returns-in-Err
returns-in-Err g c = record {
  asked = asked_on g.D.Device.honest g.D.Device.disk g.D.Device.size g.D.Device.failures g.D.Device.goes_on c.args.volume.now c.loop-filled.volume c.next_told.new.volume _ c.loop-filled.invariant.works c.in-Err.ensures.asked;
  answer = λ h.
      let was = c.loop-filled.invariant in
      (c.in-Err.ensures.told (was.works.kept.honest.0 h), c.in-Err.ensures.asked.tree (was.works.kept.honest.0 h) ∙ was.works.tree h, list_begun c.args.volume.now.tree c.args.directory c.args.cookie c.loop-filled.after c.loop-filled.filled c.args.part.now c.loop-filled.part (was.told h));
  room = tt;
}

pub returns-in-Ok-None : goal.returns-in-Ok-None
returns-in-Ok-None g c = record {
  asked = asked_on g.D.Device.honest g.D.Device.disk g.D.Device.size g.D.Device.failures g.D.Device.goes_on c.args.volume.now c.loop-filled.volume c.next_told.new.volume _ c.loop-filled.invariant.works c.in-Ok-None.ensures.asked;
  answer = λ h.
      let was = c.loop-filled.invariant in
      let here = c.loop-filled.volume.tree in
      let told = subst (λ (o : Option ToldEntry). TellsNext here c.args.directory c.loop-filled.after o) c.in-Ok-None.field-0-is (c.in-Ok-None.ensures.told (was.works.kept.honest.0 h)) in
      let ended = subst (λ (U : Tree). TellsNext U c.args.directory c.loop-filled.after None) (was.works.tree h) told in
      let all = list_ended c.args.volume.now.tree c.args.directory c.args.cookie c.loop-filled.after c.loop-filled.filled c.args.part.now c.loop-filled.part (was.told h) ended in
      (all.0, all.1, c.in-Ok-None.ensures.asked.tree (was.works.kept.honest.0 h) ∙ was.works.tree h);
  room = c.loop-filled.invariant.room;
}

pub returns : goal.returns
returns g c = record {
  asked = works_as g.D.Device.honest g.D.Device.disk g.D.Device.size g.D.Device.failures g.D.Device.goes_on c.args.volume.now c.loop-filled.volume c.loop-filled.invariant.works;
  answer = λ h.
      let was = c.loop-filled.invariant in
      let all = list_full c.args.volume.now.tree c.args.directory c.args.cookie c.loop-filled.after c.loop-filled.filled c.args.part.now c.loop-filled.part (was.told h) (omega (arith, was.long, c.loop-filled-test.false)) in
      (all.0, all.1, was.works.tree h);
  room = c.loop-filled.invariant.room;
}

pub loop-filled-init : goal.loop-filled-init
loop-filled-init g c =
    record {
      works = still_works g.D.Device.honest g.D.Device.disk g.D.Device.size g.D.Device.failures g.D.Device.goes_on c.args.volume.now c.requires;
      long = refl;
      room = omega arith;
      told = λ h. record { told = []; parts = refl; count = omega arith; stands = refl };
    }
