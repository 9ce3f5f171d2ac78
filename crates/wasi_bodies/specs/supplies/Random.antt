-- Random bytes: those that were handed in, or those of a generator, which has no end. A world holds its `Supply` as a
-- value, so the same seed and the same calls give the same bytes.
use Rattle.std.specs.Prelude.{ℕ, Bool, true, nat_le, List, length, take, drop, Option, Some, None}
use Rattle.rand_core.specs.Stream.{Stream, fill_bytes}
use Rattle.rand_core.specs.Steps.{stream_of, steps_u32}
use Rattle.rand_core.specs.Pcg32Seed.{pcg32_seed}
use Rattle.rand_chacha.specs.ChaCha.{ChaCha, of_seed, next_word}

-- what is not taken yet: some bytes, or what a generator answers from now on
pub data Supply : Type 0 where
  listed : List ℕ → Supply
  endless : Stream → Supply

-- so many bytes are left
abbrev pub has_left : ℕ → Supply → Bool
has_left n (listed bytes) = nat_le n (length bytes)
has_left n (endless answers) = true

-- the next so many bytes: of a generator what `fill_bytes` answers
abbrev pub next_bytes : ℕ → Supply → List ℕ
next_bytes n (listed bytes) = take n bytes
next_bytes n (endless answers) = (fill_bytes n answers).0

-- what is left after them
abbrev pub after_next : ℕ → Supply → Supply
after_next n (listed bytes) = listed (drop n bytes)
after_next n (endless answers) = endless (fill_bytes n answers).1

-- The generator of a seed at its first word: ChaCha20 (RFC 8439, with 20 rounds), whose key of 32 bytes is what PCG32 gives
-- from the seed, as `seed_from_u64` of Rust's crate `rand_chacha` has it.
abbrev pub seeded : ℕ → ChaCha
seeded seed = of_seed (pcg32_seed 32 seed)

-- what it answers from a state on
abbrev pub answers_of : ChaCha → Stream
answers_of g = stream_of (steps_u32 (next_word 10)) g

-- the bytes of a generator where there is one, else these
abbrev pub supply : Option ChaCha → List ℕ → Supply
supply None bytes = listed bytes
supply (Some g) bytes = endless (answers_of g)
