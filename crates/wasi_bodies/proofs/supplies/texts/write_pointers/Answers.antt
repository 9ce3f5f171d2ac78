use Rattle.std.proofs.Common.{◌≡◌, ℕ, ◌*◌, ap, ◌∙◌, arith, length}
use Rattle.wasm_store.specs.Bytes.{written}
use Rattle.wasi_bodies.proofs.files.OverlappingBuffers.{part_split, length_written}
use Rattle.wasi_bodies.proofs.supplies.TextReferences.{few_texts}
use Rattle.wasi_bodies.specs.supplies.Rows.{pointers}
use Rattle.wasi_bodies.specs.supplies.Texts.{texts_of}
use Rattle.wasi_bodies.proofs.supplies.texts.write_pointers.Goals as goal

pub fill_pointers-requires-clause-room : goal.fill_pointers-requires-clause-room
fill_pointers-requires-clause-room c =
    let few = few_texts c.args.texts.now c.requires.fit in
    c.split_at_mut-part.ensures.front_len ∙ (c.pointers_len-len.ensures ∙ ap (λ (n : ℕ). 4 * n) few.0)

pub returns-clause-bytes : goal.returns-clause-bytes
returns-clause-bytes c =
    let m = c.args.memory.now in
    let cut = c.split_at_mut-part.ensures in
    let part = c.fill_pointers.new.part in
    let long : length part ≡ c.pointers_len-len.result = omega (arith, c.fill_pointers.auto.part, cut.front_len) in
    part_split m c.part_mut.result.now c.split_at_mut-part.result.0.now c.split_at_mut-part.result.1.now part c.args.at c.pointers_len-len.result c.part_mut.ensures.value cut.value cut.front_len long
    ∙ ap (written m c.args.at) (c.fill_pointers.ensures ∙ ap (λ (n : ℕ). pointers n (texts_of c.args.texts.now)) c.from.ensures)

pub returns-clause-length : goal.returns-clause-length
returns-clause-length c =
    let m = c.args.memory.now in
    let cut = c.split_at_mut-part.ensures in
    let part = c.fill_pointers.new.part in
    let long : length part ≡ c.pointers_len-len.result = omega (arith, c.fill_pointers.auto.part, cut.front_len) in
    ap length (part_split m c.part_mut.result.now c.split_at_mut-part.result.0.now c.split_at_mut-part.result.1.now part c.args.at c.pointers_len-len.result c.part_mut.ensures.value cut.value cut.front_len long)
    ∙ length_written m part c.args.at (omega (arith, long, c.pointers_len-len.ensures, c.requires.inside))
