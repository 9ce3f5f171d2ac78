-- The eight bytes at the front, four at a time.
use Rattle.std.proofs.Common.{◌≡◌, ◌∙◌, ℕ, List, Option, Some, None, Result, refl, sym, subst}
use Rattle.wasm_syntax.specs.declared.fault.LoadFault.{LoadFault}
use Rattle.wasm_module.specs.internal.ModuleReading.{word_at, preamble_at}
use Rattle.wasm_syntax.specs.Reading.{◌>>=◌, Gives, byte_at}

-- the version after what was read
abbrev and_version : Option (Unit {0} × List ℕ) → Option (Unit {0} × List ℕ)
and_version read = read >>= λ d. word_at 0x01 0x00 0x00 0x00 d.1

-- the preamble is two words
words : (bytes : List ℕ) → preamble_at bytes ≡ and_version (word_at 0x00 0x61 0x73 0x6D bytes)
unfolding preamble_at word_at
words bytes = by_first (byte_at 0x00 bytes) where
  by_third : (read : Option (Unit {0} × List ℕ)) → (read >>= λ c. byte_at 0x6D c.1 >>= λ d. word_at 0x01 0x00 0x00 0x00 d.1) ≡ and_version (read >>= λ c. byte_at 0x6D c.1)
  by_third None = refl
  by_third (Some c) = refl

  by_second : (read : Option (Unit {0} × List ℕ)) → (read >>= λ b. byte_at 0x73 b.1 >>= λ c. byte_at 0x6D c.1 >>= λ d. word_at 0x01 0x00 0x00 0x00 d.1) ≡ and_version (read >>= λ b. byte_at 0x73 b.1 >>= λ c. byte_at 0x6D c.1)
  by_second None = refl
  by_second (Some b) = by_third (byte_at 0x73 b.1)

  by_first : (read : Option (Unit {0} × List ℕ)) → (read >>= λ a. byte_at 0x61 a.1 >>= λ b. byte_at 0x73 b.1 >>= λ c. byte_at 0x6D c.1 >>= λ d. word_at 0x01 0x00 0x00 0x00 d.1) ≡ and_version (read >>= λ a. byte_at 0x61 a.1 >>= λ b. byte_at 0x73 b.1 >>= λ c. byte_at 0x6D c.1)
  by_first None = refl
  by_first (Some a) = by_second (byte_at 0x61 a.1)

-- where the first word isn't there, the preamble isn't
pub no_magic : (bytes : List ℕ) → word_at 0x00 0x61 0x73 0x6D bytes ≡ None → preamble_at bytes ≡ None
no_magic bytes none = words bytes ∙ rw none refl

-- after the first word the second is what is read
pub then_version : (bytes rest last : List ℕ) (r : Result (Unit {0}) LoadFault) → word_at 0x00 0x61 0x73 0x6D bytes ≡ Some (tt, rest) → Gives (λ x. (x, last)) r (word_at 0x01 0x00 0x00 0x00 rest) → Gives (λ x. (x, last)) r (preamble_at bytes)
then_version bytes rest last r is second = subst (λ (o : Option (Unit {0} × List ℕ)). Gives (λ x. (x, last)) r o) (sym (words bytes ∙ rw is refl)) second
