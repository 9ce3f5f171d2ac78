-- Bytes that stand in spans of a memory, one span after the other (`ciovec` of WASI preview 1). Contracts see a
-- `Source` as one list of bytes, and these definitions say which list the spans of a memory give.
use Rattle.std.specs.Prelude.{ℕ, ◌+◌, ◌≤◌, List, [], ◌∷◌, ◌++◌, length, take, drop}
use Rattle.vol_body.specs.declared.source.MemorySpan.{MemorySpan}

-- the bytes of a span
abbrev pub span_bytes : List ℕ → MemorySpan → List ℕ
span_bytes memory s = take s.len (drop s.pointer memory)

-- those of all spans, one after the other
abbrev pub gathered : List ℕ → List MemorySpan → List ℕ
gathered memory [] = []
gathered memory (s ∷ spans) = span_bytes memory s ++ gathered memory spans

-- each span lies in memory
abbrev pub AreInside : List ℕ → List MemorySpan → Type 0
AreInside memory [] = Unit {0}
AreInside memory (s ∷ spans) = (s.pointer + s.len ≤ length memory) × AreInside memory spans
