use Rattle.std.proofs.Common.{◌≡◌, ◌∙◌, ◌+◌, ◌<◌, ◌∷◌, ◌++◌, [], List, ℕ, take, get_or, length, ap, sym, subst}
use Rattle.std.proofs.lemmas.List.{take_more, take_all}
use Rattle.vol_sector.specs.Record.{choices}
use Rattle.vol_sector.specs.Crash.{picked}
use Rattle.vol_sector.specs.declared.record.Operation.{Operation}
use Rattle.vol_sector.specs.declared.record.Operation.TheVariants.{Write, Sync}
use Rattle.vol_sector.proofs.Crash.{Chosen, chosen_start, chosen_sync, chosen_taken, chosen_kept, chosen_other}
use Rattle.vol_sector.proofs.memory.choice.Goals as goal
use Rattle.vol_sector.proofs.memory.choice.Goals.{in-Sync, in-Write+then-sector-n+then-count-pick, in-Write+then-sector-n+else-count-pick, in-Write+else-sector-n}

-- one operation further along the record
to : (n : ℕ) (value : List ℕ) (ops : List Operation) (i pick : ℕ) (o : Operation) (new chosen new_is chosen_is : List ℕ) (count count_is : ℕ) → i < length ops → get_or ops i (Write 0 []) ≡ o → new ≡ new_is → chosen ≡ chosen_is → count ≡ count_is → Chosen n value (take i ops ++ o ∷ []) pick new_is chosen_is count_is → Chosen n value (take (i + 1) ops) pick new chosen count
to n value ops i pick o new chosen new_is chosen_is count count_is lt is same_new same_chosen same_count here =
    let more : take (i + 1) ops ≡ take i ops ++ o ∷ [] = take_more ops i (Write 0 []) lt ∙ ap (λ (x : Operation). take i ops ++ x ∷ []) is in
    subst (λ (k : ℕ). Chosen n value (take (i + 1) ops) pick new chosen k) (sym same_count)
    (subst (λ (x : List ℕ). Chosen n value (take (i + 1) ops) pick new x count_is) (sym same_chosen)
    (subst (λ (x : List ℕ). Chosen n value (take (i + 1) ops) pick x chosen_is count_is) (sym same_new)
    (subst (λ (r : List Operation). Chosen n value r pick new_is chosen_is count_is) (sym more) here)))

pub loop-operation-init : goal.loop-operation-init
loop-operation-init c = chosen_start c.args.n c.args.first.now c.args.pick

pub loop-operation-preserved : goal.loop-operation-preserved
loop-operation-preserved c =
    let n = c.args.n in
    let p = c.args.pick in
    let v = c.args.first.now in
    let ops = c.args.operations.now in
    let i = c.loop-operation.operation-index in
    let lt : i < length ops = c.loop-operation-test.true in
    let new = c.loop-operation.newest in
    let old = c.loop-operation.chosen in
    let k = c.loop-operation.count in
    let inv = c.loop-operation.invariant in
    elim c.match-operation.branch [
      | in-Sync w ↦ to n v ops i p Sync _ _ _ _ _ _ lt w.in-Sync.is w.newest-is w.chosen-is w.count-is (chosen_sync n v (take i ops) p new old k inv)
      | in-Write+then-sector-n+then-count-pick w ↦ to n v ops i p (Write w.in-Write.sector w.in-Write.image) _ _ _ _ _ _ lt w.in-Write.is w.newest-is w.chosen-is w.count-is (chosen_taken n v (take i ops) p w.in-Write.sector w.in-Write.image new old k w.if-sector-n.true w.if-count-pick.true inv)
      | in-Write+then-sector-n+else-count-pick w ↦ to n v ops i p (Write w.in-Write.sector w.in-Write.image) _ _ _ _ _ _ lt w.in-Write.is w.newest-is w.chosen-is w.count-is (chosen_kept n v (take i ops) p w.in-Write.sector w.in-Write.image new old k w.if-sector-n.true w.if-count-pick.false inv)
      | in-Write+else-sector-n w ↦ to n v ops i p (Write w.in-Write.sector w.in-Write.image) _ _ _ _ _ _ lt w.in-Write.is w.newest-is w.chosen-is w.count-is (chosen_other n v (take i ops) p w.in-Write.sector w.in-Write.image new old k w.if-sector-n.false inv)
    ]

pub returns : goal.returns
returns c =
    subst (λ (r : List Operation). c.loop-operation.chosen ≡ picked (choices c.args.n c.args.first.now (c.args.first.now ∷ []) r) c.args.pick) (take_all c.loop-operation.operation-index c.args.operations.now c.loop-operation-test.false) c.loop-operation.invariant.chosen
