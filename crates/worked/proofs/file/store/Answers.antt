use Rattle.std.proofs.Common.{◌≡◌, refl, ◌∙◌, subst, inl, inr, Ok}
use Rattle.vol_tree.specs.declared.superblock.Superblock.{Superblock}
use Rattle.vol_tree.specs.Calls.{written}
use Rattle.vol_tree.specs.Opened.{geometry}
use Rattle.worked.proofs.Stopping.{begins, goes_on}
use Rattle.worked.proofs.Files.{no_unit, stored}
use Rattle.worked.proofs.file.store.Goals as goal

pub returns-in_err-serial-clause-stopped : goal.returns-in_err-serial-clause-stopped
returns-in_err-serial-clause-stopped c =
    begins c.one_tree.ensures _ _ _ _ c.args.volume.now.tree (inl refl) (c.create_file.ensures.crash tt)

pub returns-in_err-write-clause-stopped : goal.returns-in_err-write-clause-stopped
returns-in_err-write-clause-stopped c =
    let made = c.create_file.new.self in
    let create = c.in_ok-serial.ensures.answer tt in
    goes_on c.one_tree.ensures _ _ _ _ _ made.numbers made.tree c.create_file.ensures.kept.numbers (inr (inl (c.in_ok-serial.serial, create)))
    (begins c.one_tree.ensures _ _ _ _ c.args.volume.now.tree (inl refl) (c.create_file.ensures.crash tt)) (c.write.ensures.crash tt)

pub returns-in_err-sync-clause-stopped : goal.returns-in_err-sync-clause-stopped
returns-in_err-sync-clause-stopped c =
    let made = c.create_file.new.self in
    let create = c.in_ok-serial.ensures.answer tt in
    let numbers = c.create_file.ensures.kept.numbers in
    let full = c.write.new.self in
    let write = subst (λ (v : Superblock). written (geometry v) made.tree c.in_ok-serial.serial 0 c.args.bytes.now ≡ Ok full.tree) numbers (no_unit (written (geometry made.numbers) made.tree c.in_ok-serial.serial 0 c.args.bytes.now) full.tree tt (c.in_ok-write.ensures.answer tt)) in
    goes_on c.one_tree.ensures _ _ _ _ _ full.numbers full.tree (c.write.ensures.kept.numbers ∙ numbers) (inr (inr (made.tree, c.in_ok-serial.serial, create, write)))
    (goes_on c.one_tree.ensures _ _ _ _ _ made.numbers made.tree numbers (inr (inl (c.in_ok-serial.serial, create)))
    (begins c.one_tree.ensures _ _ _ _ c.args.volume.now.tree (inl refl) (c.create_file.ensures.crash tt)) (c.write.ensures.crash tt))
    (c.sync.ensures.crash tt)

pub returns-clause-found : goal.returns-clause-found
returns-clause-found c =
    let made = c.create_file.new.self in
    let full = c.write.new.self in
    let write = no_unit (written (geometry made.numbers) made.tree c.in_ok-serial.serial 0 c.args.bytes.now) full.tree tt (c.in_ok-write.ensures.answer tt) in
    let same = no_unit (Ok full.tree) c.sync.new.self.tree tt (c.in_ok-sync.ensures.answer tt) in
    stored c.created_adds_one_path.ensures c.written_changes_one_file.ensures (geometry made.numbers) c.args.volume.now.tree made.tree c.sync.new.self.tree c.in_ok-serial.serial c.args.name.now c.args.bytes.now
    (c.is_a_tree.ensures.tree tt) (c.is_a_tree-2.ensures.tree tt) (c.in_ok-serial.ensures.answer tt) (write ∙ same)

pub returns-clause-lasts : goal.returns-clause-lasts
returns-clause-lasts c = λ image may. record { stands = c.in_ok-sync.ensures.durable tt image may; room = c.is_a_tree-3.ensures.room }

pub returns-clause-stopped : goal.returns-clause-stopped
returns-clause-stopped c =
    let made = c.create_file.new.self in
    let create = c.in_ok-serial.ensures.answer tt in
    let numbers = c.create_file.ensures.kept.numbers in
    let full = c.write.new.self in
    let write = subst (λ (v : Superblock). written (geometry v) made.tree c.in_ok-serial.serial 0 c.args.bytes.now ≡ Ok full.tree) numbers (no_unit (written (geometry made.numbers) made.tree c.in_ok-serial.serial 0 c.args.bytes.now) full.tree tt (c.in_ok-write.ensures.answer tt)) in
    goes_on c.one_tree.ensures _ _ _ _ _ full.numbers full.tree (c.write.ensures.kept.numbers ∙ numbers) (inr (inr (made.tree, c.in_ok-serial.serial, create, write)))
    (goes_on c.one_tree.ensures _ _ _ _ _ made.numbers made.tree numbers (inr (inl (c.in_ok-serial.serial, create)))
    (begins c.one_tree.ensures _ _ _ _ c.args.volume.now.tree (inl refl) (c.create_file.ensures.crash tt)) (c.write.ensures.crash tt))
    (c.sync.ensures.crash tt)
