use Rattle.std.proofs.Common.{length}
use Rattle.wasm_store.proofs.Parts.{part_from, part_copied}
use Rattle.wasm_store.proofs.memory.read_part.Goals as goal

pub returns : goal.returns
returns c = λ size inside within.
    rw (c.copy_from_slice.ensures.after, c.fill.ensures.after (λ y same. same))
    (part_copied size c.args.start (length c.args.room.now) c.min-len.result _ c.args.bytes.now _ inside within
    (part_from c.args.start c.min.result c.args.bytes.now c.min.ensures) c.min-len.ensures c.split_at_mut-front.ensures.back_len)
