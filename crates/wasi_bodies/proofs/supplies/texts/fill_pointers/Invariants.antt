use Rattle.std.proofs.Common.{◌≡◌, ◌+◌, ◌*◌, take}
use Rattle.wasi_bodies.specs.supplies.Texts.{texts_of, ended_bytes}
use Rattle.wasi_bodies.specs.supplies.Rows.{pointers}
use Rattle.wasi_bodies.proofs.supplies.texts.fill_pointers.Given as goal

abbrev pub invariant-loop-text : goal.invariant-loop-text
invariant-loop-text l = record {
  place : l.place ≡ 4 * l.text-index;
  pointer : l.pointer ≡ l.first + ended_bytes (take l.text-index l.texts);
  filled : take l.place l.part ≡ pointers l.first (texts_of (take l.text-index l.texts));
}
