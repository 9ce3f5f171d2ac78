-- The texts that a guest can be given (`args_get`, `environ_get` of WASI preview 1). They are bounded in number and in
-- bytes and have no NUL, since one ends each of them in memory; `settings_fit` cites these tests.
use Rattle.std.specs.Prelude.{ℕ, ◌+◌, ◌==◌, ◌&&◌, Bool, not, nat_le, List, length, sum_by, map}
use Rattle.std.specs.List.{list_any}
use denote.Ref.{Bor}
use Rattle.wasi_bodies.specs.declared.settings.TheConstants.{MOST_TEXTS, MOST_TEXT_BYTES, LONGEST_NAME}

-- the texts that references name
abbrev pub Texts : Type 0
Texts = List (Bor (List ℕ))

-- a NUL is among the bytes
abbrev pub has_nul_byte : List ℕ → Bool
has_nul_byte text = list_any (λ b. b == 0) text

-- the texts themselves
abbrev pub texts_of : Texts → List (List ℕ)
texts_of texts = map (λ t. t.now) texts

-- the bytes of the texts, each with one more for its end
abbrev pub ended_bytes : Texts → ℕ
ended_bytes texts = sum_by (λ t. length t.now + 1) texts

-- at most so many texts of at most so many bytes, without a NUL
abbrev pub texts_fit : Texts → Bool
texts_fit texts = nat_le (length texts) MOST_TEXTS && nat_le (ended_bytes texts) MOST_TEXT_BYTES && not (list_any (λ t. has_nul_byte t.now) texts)

-- a guest's name of a directory: at least one byte, not too many, and no NUL
abbrev pub name_fits : List ℕ → Bool
name_fits name = not (length name == 0) && nat_le (length name) LONGEST_NAME && not (has_nul_byte name)
