use Rattle.std.proofs.Common.{◌≡◌, ◌-◌, ◌≤◌, ◌∙◌, ℕ, List, length, take, drop, refl, ap, sym, arith, length-take, length-drop}
use Rattle.wasm_store.specs.Bytes.{bytes_at, filled}
use Rattle.wasm_store.specs.Lending.{rewritten}
use Rattle.wasm_store.proofs.Parts.{length_filled, part_lent, part_written}
use Rattle.wasm_store.proofs.memory.Memory.part_mut.Goals as goal

pub returns : goal.returns
returns c =
    let bytes = c.touch.new.bytes in
    let size = c.self.inside.size in
    let start = c.args.start in
    let part = c.slice_mut.result.now in
    let same : filled size bytes.items ≡ c.args.self.now = c.touch.ensures.same ∙ c.self.view_is in
    let value : part ≡ take (bytes.len - start) (drop start bytes.items) = c.slice_mut.ensures.value in
    let before : start ≤ bytes.len = omega (arith, c.touch.ensures.touched) in
    let count : length part ≡ bytes.len - start = ap length value ∙ simp (length-take, length-drop) (omega (arith, bytes.ok.0)) in
    let all : size ≡ length c.args.self.now = sym (length_filled size bytes.items (omega (arith, bytes.ok.0, c.touch.ensures.part))) ∙ ap length same in (
      (refl, λ w. part_written size bytes.len start bytes.items part w bytes.ok.0 before value ∙ ap (λ (m : List ℕ). rewritten m start part w) same),
      record {
        writes_back = tt;
        value = (
          omega (arith, count, c.touch.ensures.touched),
          (
            omega (arith, count, all, before, c.touch.ensures.part),
            value ∙ part_lent size bytes.len start bytes.items bytes.ok.0 before
                ∙ ap (λ (l : List ℕ). bytes_at (filled size bytes.items) start (length l)) (sym value) ∙ ap (λ (m : List ℕ). bytes_at m start (length part)) same,
          ),
        );
      },
    )
