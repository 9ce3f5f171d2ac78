use Rattle.std.proofs.Common.{◌≡◌, ◌≤◌, ◌++◌, ℕ, List, length, take, drop, sym, ap, ◌∙◌, arith}
use Rattle.std.proofs.lemmas.List.{length-take, length-drop}
use Rattle.std.specs.List.{refill}
use Rattle.vol_tree.specs.Calls.{bytes_at, read_bytes}
use Rattle.wasm_store.specs.Bytes.{written}
use Rattle.wasi_bodies.proofs.files.OverlappingBuffers.{part_front, part_split, written_over, length_written}
use Rattle.wasi_bodies.proofs.checks.AfterBuffers.{refilled}
use Rattle.wasi_bodies.proofs.files.DirectoryLists.{part_listed}
use Rattle.wasi_bodies.proofs.files.reading.read_part.Goals as goal

pub returns-in-Err : goal.returns-in-Err
returns-in-Err g c = record {
  long =
      let m = c.args.memory.now in
      let cut = c.split_at_mut-part.ensures in
      let same : length c.read.new.buffer ≡ c.args.len = omega (arith, c.read.auto.buffer, cut.front_len) in
      ap length (part_split m c.part_mut.result.now c.split_at_mut-part.result.0.now c.split_at_mut-part.result.1.now c.read.new.buffer c.args.start c.args.len c.part_mut.ensures.value cut.value cut.front_len same)
      ∙ length_written m c.read.new.buffer c.args.start (omega (arith, same, c.requires.inside));
  read = λ h inside. tt;
  broke = λ h inside.
      let m = c.args.memory.now in
      let p = c.args.start in
      let len = c.args.len in
      let cut = c.split_at_mut-part.ensures in
      let before = c.split_at_mut-part.result.0.now in
      let value : before ≡ take len (drop p m) = part_front m c.part_mut.result.now before p len c.part_mut.ensures.value cut.front in
      let filled : length c.read.new.buffer ≡ len = omega (arith, c.read.auto.buffer, cut.front_len) in
      let meant = λ (k : ℕ). read_bytes c.args.volume.now.tree c.args.serial c.args.at k in
      let a = length-drop p m in
      let b = length-take len (drop p m) in
      let room = c.requires.inside in
      let long : length before ≡ len = ap length value ∙ (let all : length (take len (drop p m)) ≡ len = omega (arith, a, b, room) in all) in
      let (io, _, so) = c.in-Err.ensures.answer h in
      let n = so.0 in
      let few = so.1 in
      let after = so.2 in
      let xs : List ℕ = take n (meant len) in
      let less : n ≤ length (meant len) = let same : length (meant (length before)) ≡ length (meant len) = ap (λ (k : ℕ). length (meant k)) long in omega (arith, few, same) in
      let most = length-take len (drop c.args.at (bytes_at c.args.volume.now.tree c.args.serial)) in
      let count = length-take n (meant len) in
      let so_many : length xs ≡ n = omega (arith, count, less) in
      let fits : length xs ≤ len = omega (arith, so_many, less, most) in
      let stands : c.read.new.buffer ≡ xs ++ drop (length xs) (take len (drop p m)) =
      after ∙ ((λ i. take n (meant (long i)) ++ drop n (value i)) ∙ ap (λ (k : ℕ). xs ++ drop k (take len (drop p m))) (sym so_many)) in
      let same : written m p c.read.new.buffer ≡ written m p xs = ap (written m p) stands ∙ written_over m xs p len room fits in (
        io,
        record {
          count = n;
          few = less;
          is = part_split m c.part_mut.result.now before c.split_at_mut-part.result.1.now c.read.new.buffer p len c.part_mut.ensures.value cut.value cut.front_len filled ∙ same;
        },
      );
  asked = record { tree = λ h. (c.in-Err.ensures.answer h).1; crash = c.in-Err.ensures.crash; kept = c.in-Err.ensures.kept; goes = c.in-Err.ensures.goes_on };
}

pub returns-in-Ok : goal.returns-in-Ok
returns-in-Ok g c = record {
  long =
      let m = c.args.memory.now in
      let cut = c.split_at_mut-part.ensures in
      let same : length c.read.new.buffer ≡ c.args.len = omega (arith, c.read.auto.buffer, cut.front_len) in
      ap length (part_split m c.part_mut.result.now c.split_at_mut-part.result.0.now c.split_at_mut-part.result.1.now c.read.new.buffer c.args.start c.args.len c.part_mut.ensures.value cut.value cut.front_len same)
      ∙ length_written m c.read.new.buffer c.args.start (omega (arith, same, c.requires.inside));
  read = λ h inside.
      let m = c.args.memory.now in
      let cut = c.split_at_mut-part.ensures in
      let front = c.split_at_mut-part.result.0.now in
      let same : length c.read.new.buffer ≡ c.args.len = omega (arith, c.read.auto.buffer, cut.front_len) in
      let told = c.in-Ok.ensures.answer h in
      part_split m c.part_mut.result.now front c.split_at_mut-part.result.1.now c.read.new.buffer c.args.start c.args.len c.part_mut.ensures.value cut.value cut.front_len same
      ∙ part_listed m (drop c.args.at (bytes_at c.args.volume.now.tree c.args.serial)) front c.read.new.buffer c.args.start c.args.len c.in-Ok.field-0
      c.requires.inside (part_front m c.part_mut.result.now front c.args.start c.args.len c.part_mut.ensures.value cut.front) told.0 told.1;
  broke = λ h inside. tt;
  asked = let told = c.in-Ok.ensures in record { tree = λ h. (told.answer h).2; crash = told.crash; kept = told.kept; goes = told.goes_on };
}
