use Rattle.std.proofs.Common.{◌≡◌, ℕ, true, ap, sym, subst, ◌∙◌, arith, length}
use Rattle.wasm_store.specs.Bytes.{written}
use Rattle.wasi_bodies.proofs.files.OverlappingBuffers.{part_split}
use Rattle.wasi_bodies.proofs.supplies.random.write_random.Goals as goal

pub fill_random-requires : goal.fill_random-requires
fill_random-requires c = rw c.split_at_mut-part.ensures.front_len c.requires.enough

pub returns : goal.returns
returns c =
    let m = c.args.memory.now in
    let cut = c.split_at_mut-part.ensures in
    let part = c.fill_random.new.part in
    let long : length part ≡ c.args.len = omega (arith, c.fill_random.auto.part, cut.front_len) in
    record {
      bytes = part_split m c.part_mut.result.now c.split_at_mut-part.result.0.now c.split_at_mut-part.result.1.now part c.args.buffer c.args.len c.part_mut.ensures.value cut.value cut.front_len long
          ∙ ap (written m c.args.buffer) (rw cut.front_len at c.fill_random.ensures.bytes);
      moves_on = rw cut.front_len at c.fill_random.ensures.moves_on;
    }
