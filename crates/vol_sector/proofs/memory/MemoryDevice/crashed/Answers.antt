use Rattle.std.proofs.Common.{◌≡◌, ◌∙◌, ◌+◌, ◌<◌, sym, ap, arith, length, List, ℕ, [], ◌∷◌, false}
use Rattle.std.proofs.lemmas.List.{get_or_read, length_push}
use Rattle.vol_sector.specs.Record.{image_of}
use Rattle.vol_sector.specs.Crash.{written_since, picked, crashed_image}
use Rattle.vol_sector.specs.Record.{choices}
use Rattle.vol_sector.specs.declared.record.Operation.{Operation}
use Rattle.vol_sector.proofs.Crash.{value_written, value_unwritten, used_written, used_unwritten, sectors_more}
use Rattle.vol_sector.proofs.memory.MemoryDevice.crashed.Goals as goal
use Rattle.vol_sector.proofs.memory.MemoryDevice.crashed.Goals.{then-written, else-written}

pub loop-n-preserved : goal.loop-n-preserved
loop-n-preserved c =
    let first = image_of c.args.self.now.first.items in
    let ops = c.args.self.now.history.items in
    let picks = c.args.picks.now in
    let n = c.loop-n.n in
    let counted = c.loop-n.invariant.used in
    let lt : n < length c.args.self.now.first.items = omega arith in
    let here : c.index.result.now ≡ first n = get_or_read c.args.self.now.first.items n c.index.result.now lt c.index.ensures [] in
    let since = ap (λ (l : List Operation). written_since n false l) c.deref.ensures.value in
    let value = c.choice.ensures ∙ ap (λ (l : List Operation). picked (choices n c.index.result.now (c.index.result.now ∷ []) l) c.if-written.pick) c.deref-in-loop-n.ensures.value in
    let pushed = c.in_ok-push.ensures.items in
    record {
      count = ap length pushed ∙ length_push c.loop-n.image.items c.choice.result ∙ ap (λ (k : ℕ). k + 1) c.loop-n.invariant.count;
      used = elim c.if-written.branch [
        | then-written w ↦ used_written ops n c.loop-n.used (length picks) c.if-written.used (sym (w.if-written.ensures ∙ since)) counted (w.used-is ∙ w.take_pick-pick.ensures.used)
        | else-written w ↦ w.used-is ∙ used_unwritten ops n c.loop-n.used (length picks) (sym (w.if-written.ensures ∙ since)) counted
      ];
      chosen = sectors_more c.loop-n.image.items c.push.new.self.items c.choice.result (crashed_image first ops picks) n c.loop-n.invariant.count pushed (elim c.if-written.branch [
        | then-written w ↦ value_written first ops picks n c.loop-n.used c.choice.result c.if-written.pick c.index.result.now (sym (w.if-written.ensures ∙ since)) counted (w.pick-is ∙ w.take_pick-pick.ensures.pick) here value
        | else-written w ↦ value_unwritten first ops picks n c.choice.result c.if-written.pick c.index.result.now (sym (w.if-written.ensures ∙ since)) w.pick-is here value
      ]) c.loop-n.invariant.chosen;
    }
