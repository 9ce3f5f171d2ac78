use Rattle.std.proofs.Common.{◌≡◌, length, ap, ◌∙◌, arith}
use Rattle.wasm_store.specs.Bytes.{written}
use Rattle.wasi_bodies.proofs.files.OverlappingBuffers.{part_split, length_written}
use Rattle.wasi_bodies.proofs.streams.inputs.put_at.Goals as goal

pub returns-clause-bytes : goal.returns-clause-bytes
returns-clause-bytes c =
    let m = c.args.memory.now in
    let cut = c.split_at_mut-part.ensures in
    let after = c.copy_from_slice.ensures.after in
    part_split m c.part_mut.result.now c.split_at_mut-part.result.0.now c.split_at_mut-part.result.1.now c.copy_from_slice.new.self c.args.place (length c.args.bytes.now)
    c.part_mut.ensures.value cut.value cut.front_len (ap length after)
    ∙ ap (written m c.args.place) after

pub returns-clause-length : goal.returns-clause-length
returns-clause-length c =
    let m = c.args.memory.now in
    let cut = c.split_at_mut-part.ensures in
    let long : length c.copy_from_slice.new.self ≡ length c.args.bytes.now = ap length c.copy_from_slice.ensures.after in
    ap length (part_split m c.part_mut.result.now c.split_at_mut-part.result.0.now c.split_at_mut-part.result.1.now c.copy_from_slice.new.self c.args.place (length c.args.bytes.now)
    c.part_mut.ensures.value cut.value cut.front_len long)
    ∙ length_written m c.copy_from_slice.new.self c.args.place (omega (arith, long, c.requires))

pub copy_from_slice-requires : goal.copy_from_slice-requires
copy_from_slice-requires c = c.split_at_mut-part.ensures.front_len
