-- What holds of every success and of every failure holds of the result.
use Rattle.std.proofs.Common.{◌≡◌, Result, Ok, Err, MatchResult, IsErrAnd}
use Rattle.std.specs.Prelude.{IfOk, OnErr, OnOk}

pub told_of : {A E : Type 0} {P : A → Type 0} {Q : E → Type 0} (r : Result A E) → ((x : A) → P x) → ((e : E) → Q e) → MatchResult r P Q
told_of (Ok x) went failed = went x
told_of (Err e) went failed = failed e

pub on_ok : {A E P : Type 0} (r : Result A E) → P → OnOk r P
on_ok (Ok x) holds = holds
on_ok (Err e) holds = tt

pub on_err : {A E P : Type 0} (r : Result A E) → P → OnErr r P
on_err (Ok x) holds = tt
on_err (Err e) holds = holds

pub if_ok : {A E : Type 0} {P : A → Type 0} (r : Result A E) → ((x : A) → P x) → IfOk r P
if_ok (Ok x) went = went x
if_ok (Err e) went = tt

-- what follows from it
pub ok_told : {A E P Q : Type 0} (R : Type 0) (r : Result A E) → MatchResult r (λ _. P) (λ _. R) → (P → Q) → OnOk r Q
ok_told R (Ok x) holds next = next holds
ok_told R (Err e) holds next = tt

pub if_told : {A E : Type 0} {P Q : A → Type 0} (R : Type 0) (r : Result A E) → MatchResult r P (λ _. R) → ((x : A) → P x → Q x) → IfOk r Q
if_told R (Ok x) holds next = next x holds
if_told R (Err e) holds next = tt

pub err_told : {A E R Q : Type 0} (P : A → Type 0) (r : Result A E) → MatchResult r P (λ _. R) → (R → Q) → OnErr r Q
err_told P (Ok x) holds next = tt
err_told P (Err e) holds next = next holds

-- what holds of a success, and of a failure
pub told_both : {A E : Type 0} (P : A → Type 0) (R : Type 0) (r : Result A E) → IfOk r P → OnErr r R → MatchResult r P (λ _. R)
told_both P R (Ok x) holds failed = holds
told_both P R (Err e) holds failed = failed

pub told_as : {A E P R Q S : Type 0} (r : Result A E) → MatchResult r (λ _. P) (λ _. R) → (P → Q) → (R → S) → MatchResult r (λ _. Q) (λ _. S)
told_as (Ok x) holds went failed = went holds
told_as (Err e) holds went failed = failed holds

-- an error that is passed on
pub failing : {A E Q : Type 0} (P : A → Type 0) (r : Result A E) (e : E) → IsErrAnd r (λ f. f ≡ e) → Q → MatchResult r P (λ _. Q)
failing P (Ok x) e is holds = absurd is
failing P (Err f) e is holds = holds
