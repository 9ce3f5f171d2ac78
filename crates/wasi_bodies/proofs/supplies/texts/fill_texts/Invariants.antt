use Rattle.std.proofs.Common.{◌≡◌, take}
use Rattle.wasi_bodies.specs.supplies.Texts.{texts_of, ended_bytes}
use Rattle.wasi_bodies.specs.supplies.Rows.{ended}
use Rattle.wasi_bodies.proofs.supplies.texts.fill_texts.Given as goal

abbrev pub invariant-loop-text : goal.invariant-loop-text
invariant-loop-text l = record {
  place : l.place ≡ ended_bytes (take l.text-index l.texts);
  filled : take l.place l.part ≡ ended (texts_of (take l.text-index l.texts));
}
