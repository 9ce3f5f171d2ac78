use Rattle.std.proofs.Common.{◌≤◌, ℕ, List, length, min, take, ap, ◌∙◌, subst, arith, sym, refl}
use Rattle.std.proofs.lemmas.Bool.{false≢true}
use Rattle.vol_tree.specs.Tree.{Tree}
use Rattle.wasm_store.specs.Bytes.{written}
use Rattle.wasi_bodies.specs.internal.files.Reading.{IsBegun}
use Rattle.wasi_bodies.proofs.files.DirectoryLists.{cut_cookie}
use Rattle.wasi_bodies.proofs.bodies.AskingCalls.{asked_failed}
use Rattle.wasi_bodies.proofs.streams.ReaderBytes.{written_none}
use Rattle.wasi_bodies.proofs.files.listing.list_from.Goals as goal

pub returns-in-Ok : goal.returns-in-Ok
returns-in-Ok g c = record {
  asked = c.in-Ok.ensures.asked;
  long = c.in-Ok.ensures.long;
  idle = λ failed. absurd (false≢true (sym c.if-failed.false ∙ (c.failed.ensures ∙ failed)));
  count = λ h.
      let T : Tree = c.args.volume.now.tree in
      let few : length T ≤ 1048576 = omega (arith, c.is_a_tree.ensures.count, c.is_a_tree.ensures.ranges.few_slots) in
      c.in-Ok.ensures.count h ∙ ap (λ (all : List ℕ). min c.args.len (length all)) (cut_cookie T c.args.directory c.args.cookie c.last_told-last.result few c.last_told-last.ensures);
  listed = λ h.
      let T : Tree = c.args.volume.now.tree in
      let few : length T ≤ 1048576 = omega (arith, c.is_a_tree.ensures.count, c.is_a_tree.ensures.ranges.few_slots) in
      c.in-Ok.ensures.listed h
      ∙ ap (λ (all : List ℕ). written c.args.memory.now c.args.start (take c.args.len all)) (cut_cookie T c.args.directory c.args.cookie c.last_told-last.result few c.last_told-last.ensures);
  broke = λ h. tt;
}

pub returns-in-Err : goal.returns-in-Err
returns-in-Err g c = record {
  asked = c.in-Err.ensures.asked;
  long = c.in-Err.ensures.long;
  idle = λ failed. absurd (false≢true (sym c.if-failed.false ∙ (c.failed.ensures ∙ failed)));
  count = λ h. tt;
  listed = λ h. tt;
  broke = λ h.
      let T : Tree = c.args.volume.now.tree in
      let few : length T ≤ 1048576 = omega (arith, c.is_a_tree.ensures.count, c.is_a_tree.ensures.ranges.few_slots) in
      let (io, begun) = c.in-Err.ensures.broke h in
      (io, subst (λ (all : List ℕ). IsBegun c.args.memory.now c.args.start (take c.args.len all) c.list_part.new.memory) (cut_cookie T c.args.directory c.args.cookie c.last_told-last.result few c.last_told-last.ensures) begun);
}

pub returns-then-failed : goal.returns-then-failed
returns-then-failed g c = record {
  asked = asked_failed g.D.Device.honest g.D.Device.disk g.D.Device.size g.D.Device.failures g.D.Device.goes_on c.args.volume.now (sym c.failed.ensures ∙ c.if-failed.true);
  long = refl;
  idle = λ failed. refl;
  count = λ h. tt;
  listed = λ h. tt;
  broke = λ h. (refl, record { count = 0; few = omega arith; is = sym (written_none c.args.memory.now c.args.start) });
}
