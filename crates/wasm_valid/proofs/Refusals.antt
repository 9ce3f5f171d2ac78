-- What a refusal says.
use Rattle.std.proofs.Common.{◌≡◌, Result, Ok, Err}
use Rattle.std.specs.Result.{IsErrAnd}
use Rattle.std.proofs.lemmas.Result.{err_from_is_err_and}
use Rattle.wasm_syntax.specs.declared.fault.LoadFault.{LoadFault}
use Rattle.wasm_syntax.specs.declared.fault.LoadFault.TheVariants.{Memory, Invalid, Truncated, BadMagic, BadVersion, BadInteger, SectionOrder, SectionSize, BadByte, NotUtf8, CountMismatch, Float, Limit}
use Rattle.wasm_valid.specs.internal.Answers.{Refutes, Decides}

-- what implies one of several refuted things is refuted
pub Refutes-some : (e : LoadFault) {A : Type 0} (P : A → Type 0) (Q : Type 0) → A → ((a : A) → Refutes e (P a)) → (Q → (a : A) × P a) → Refutes e Q
Refutes-some Memory P Q a h f = tt
Refutes-some (Invalid function offset) P Q a h f = λ q. let p = f q in h p.0 p.1
Refutes-some (Truncated offset) P Q a h f = absurd (h a)
Refutes-some (BadMagic offset) P Q a h f = absurd (h a)
Refutes-some (BadVersion offset) P Q a h f = absurd (h a)
Refutes-some (BadInteger offset) P Q a h f = absurd (h a)
Refutes-some (SectionOrder offset) P Q a h f = absurd (h a)
Refutes-some (SectionSize offset) P Q a h f = absurd (h a)
Refutes-some (BadByte offset) P Q a h f = absurd (h a)
Refutes-some (NotUtf8 offset) P Q a h f = absurd (h a)
Refutes-some (CountMismatch offset) P Q a h f = absurd (h a)
Refutes-some (Float offset) P Q a h f = absurd (h a)
Refutes-some (Limit offset) P Q a h f = absurd (h a)

-- what implies something refuted is refuted
pub Refutes-more : (e : LoadFault) (P Q : Type 0) → (Q → P) → Refutes e P → Refutes e Q
Refutes-more e P Q f h = Refutes-some e {A = Unit {0}} (λ _. P) Q tt (λ _. h) (λ q. (tt, f q))

-- the exit of a `?`
pub refused : {T : Type 0} (r : Result T LoadFault) (e : LoadFault) (P Q : Type 0) → IsErrAnd r (λ y. y ≡ e) → Refutes e P → (Q → P) → Decides r Q
refused r e P Q left h f =
    let p = err_from_is_err_and r left in
    rw (p.1, p.2) (Refutes-more e P Q f h)

-- an answer to a question that is the same
pub settles_same : {T : Type 0} (r : Result T LoadFault) (P Q : Type 0) → (P → Q) → (Q → P) → Decides r P → Decides r Q
settles_same (Ok x) P Q to from h = to h
settles_same (Err e) P Q to from h = Refutes-more e P Q from h

-- memory was refused, which settles nothing
pub unsettled : {T : Type 0} (r : Result T LoadFault) (Q : Type 0) → IsErrAnd r (λ y. y ≡ Memory) → Decides r Q
unsettled (Ok x) Q left = absurd left
unsettled (Err e) Q left = rw left tt
