use Rattle.std.proofs.Common.{◌∙◌, List, sym, subst, ap, arith}
use Rattle.std.proofs.lemmas.List.{length_push}
use Rattle.std.proofs.lemmas.Grind.{common_steps}
use Rattle.vol_sector.specs.Disk.{Leaves, Keeps, After, Wrote}
use Rattle.vol_sector.specs.Counting.{counting}
use Rattle.vol_sector.specs.Memory.{initial_image, record_of, operations_of, disk_of}
use Rattle.vol_sector.specs.Record.{newest, recorded, LeftBy}
use Rattle.vol_sector.specs.Record.{image_of}
use Rattle.vol_sector.specs.declared.record.Operation.{Operation}
use Rattle.vol_sector.specs.declared.record.Operation.TheVariants.{Write}
use Rattle.vol_sector.proofs.Counting.{leaves_passed, keeps_passed, leaves_any}
use Rattle.vol_sector.proofs.Records.{keeps_push, leaves_write, agrees_write}
use Rattle.std.proofs.Common.{refl, [], ◌∷◌, inr}
use Rattle.vol_sector.specs.internal.RecordLaws.{begins_itself}
use Rattle.vol_sector.specs.internal.PastLaws.{past_quiet, past_wrote}
use Rattle.vol_sector.proofs.GoingOn.{goes_on, seen_same, seen_written}
use Rattle.vol_sector.proofs.memory.MemoryDeviceDevice.write.Goals as goal

pub invariant_of-self-clause-agrees : goal.invariant_of-self-clause-agrees
invariant_of-self-clause-agrees c n =
    let m = c.args.self.now in
    agrees_write m.first.items m.current.items m.history.items c.args.n c.args.image.now (omega (arith, c.requires)) m.agrees n
    ∙ ap (λ (ops : List Operation). newest n (image_of m.first.items n) ops) (sym c.in-Ok.ensures.items)

pub returns-in-Ok-clause-crash : goal.returns-in-Ok-clause-crash
returns-in-Ok-clause-crash c h =
    let m = c.args.self.now in
    let first = initial_image m in
    let ops = record_of m in
    let operations = c.and-self.result.outcomes in
    let step = After (Wrote c.args.n c.args.image.now) (LeftBy first ops) in
    subst (λ (r : List Operation). Leaves (disk_of m) (counting operations (recorded first r)) step) (sym c.in-Ok.ensures.items)
    (leaves_passed (operations_of m) operations (recorded first ops) (recorded first _) step c.and-self.ensures (length_push ops (Write c.args.n c.args.image.now)) (leaves_write first ops c.args.n c.args.image.now))

pub returns-in-Ok-clause-keeps : goal.returns-in-Ok-clause-keeps
returns-in-Ok-clause-keeps c h =
    let m = c.args.self.now in
    let first = initial_image m in
    let ops = record_of m in
    let operations = c.and-self.result.outcomes in
    subst (λ (r : List Operation). Keeps (disk_of m) (counting operations (recorded first r))) (sym c.in-Ok.ensures.items)
    (keeps_passed (operations_of m) operations (recorded first ops) (recorded first _) c.and-self.ensures (length_push ops (Write c.args.n c.args.image.now)) (keeps_push first ops (Write c.args.n c.args.image.now)))

pub returns-then-len-self-clause-crash : goal.returns-then-len-self-clause-crash
returns-then-len-self-clause-crash c h = leaves_any (disk_of c.args.self.now) (disk_of c.fail.new.self) _ c.fail.ensures.crash

pub returns-in-Err-clause-crash : goal.returns-in-Err-clause-crash
returns-in-Err-clause-crash c = grind (arith, common_steps)

pub returns-in-Err-clause-keeps : goal.returns-in-Err-clause-keeps
returns-in-Err-clause-keeps c = grind (arith, common_steps)

pub returns-in-Ok-clause-operation_count : goal.returns-in-Ok-clause-operation_count
returns-in-Ok-clause-operation_count c = grind (arith, common_steps)

pub returns-then-len-self-clause-goes_on : goal.returns-then-len-self-clause-goes_on
returns-then-len-self-clause-goes_on c end lt =
    let m = c.args.self.now in
    let e = c.fail.ensures in
    goes_on end m c.fail.new.self [] e.first (e.record ∙ begins_itself (record_of m)) (past_quiet end _ _ (seen_same (initial_image m) (initial_image c.fail.new.self) (record_of m) (record_of c.fail.new.self) e.first e.record) e.crash)

pub returns-in-Ok-clause-goes_on : goal.returns-in-Ok-clause-goes_on
returns-in-Ok-clause-goes_on c end lt =
    let m = c.args.self.now in
    let n = c.args.n in
    let bytes = c.args.image.now in
    goes_on end m _ (Write n bytes ∷ []) refl c.in-Ok.ensures.items (past_wrote end n bytes _ _ lt (inr (seen_written (initial_image m) (record_of m) _ n bytes c.in-Ok.ensures.items)) (returns-in-Ok-clause-crash c tt))
