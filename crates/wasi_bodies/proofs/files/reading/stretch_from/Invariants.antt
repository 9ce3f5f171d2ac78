use Rattle.std.proofs.Common.{false, take}
use Rattle.wasi_bodies.specs.internal.checks.Buffers.{list_of}
use Rattle.wasi_bodies.specs.internal.files.Reading.{HasAll}
use Rattle.wasi_bodies.proofs.files.reading.stretch_from.Given as goal

abbrev pub invariant-loop-buffer : goal.invariant-loop-buffer
invariant-loop-buffer l = HasAll l.at l.until l.end (list_of (take l.buffer-index l.later)) false
