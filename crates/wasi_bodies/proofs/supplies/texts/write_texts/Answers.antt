use Rattle.std.proofs.Common.{◌≡◌, ◌∙◌, arith, length, ap}
use Rattle.wasm_store.specs.Bytes.{written}
use Rattle.wasi_bodies.proofs.files.OverlappingBuffers.{part_split}
use Rattle.wasi_bodies.proofs.supplies.TextReferences.{same_ended}
use Rattle.wasi_bodies.proofs.supplies.texts.write_texts.Goals as goal

pub fill_texts-requires : goal.fill_texts-requires
fill_texts-requires c = c.split_at_mut-part.ensures.front_len ∙ (c.texts_len-len.ensures ∙ same_ended c.args.texts.now)

pub returns : goal.returns
returns c =
    let m = c.args.memory.now in
    let cut = c.split_at_mut-part.ensures in
    let part = c.fill_texts.new.part in
    let long : length part ≡ c.texts_len-len.result = omega (arith, c.fill_texts.auto.part, cut.front_len) in
    record {
      bytes = part_split m c.part_mut.result.now c.split_at_mut-part.result.0.now c.split_at_mut-part.result.1.now part c.args.at c.texts_len-len.result c.part_mut.ensures.value cut.value cut.front_len long
          ∙ ap (written m c.args.at) c.fill_texts.ensures;
    }
