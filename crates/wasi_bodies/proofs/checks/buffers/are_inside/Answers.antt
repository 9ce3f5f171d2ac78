use Rattle.std.proofs.Common.{ℕ, nat_le, ◌+◌, sym, ap, ◌∙◌}
use Rattle.std.specs.List.{list_all}
use Rattle.vol_body.specs.declared.source.MemorySpan.{MemorySpan}
use Rattle.wasi_bodies.proofs.checks.BufferArrays.{all_inside}
use Rattle.wasi_bodies.proofs.checks.buffers.are_inside.Goals as goal

pub returns : goal.returns
returns c =
    c.end_within.ensures ∙ (ap (λ (n : ℕ). list_all (λ (b : MemorySpan). nat_le (b.pointer + b.len) n) c.args.buffers.now) c.len.ensures ∙ sym (all_inside c.args.memory.now c.args.buffers.now))
