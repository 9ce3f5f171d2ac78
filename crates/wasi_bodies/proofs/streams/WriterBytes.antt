-- Bytes that are handed to a writer piece by piece.
use Rattle.std.proofs.Common.{◌≡◌, ℕ, List, [], ◌++◌, take, drop, Option, Some, None, refl, sym, ap, ◌∙◌, subst, append_assoc, append-nil}
use Rattle.std.specs.Io.KnownBytes.{Appends, Keeps}
use Rattle.std.proofs.KnownBytes.{Appends-nil, Appends-trans}
use Rattle.std.proofs.lemmas.List.{take-append-drop}
use Rattle.wasi_bodies.specs.internal.streams.Outputs.{AppendsSome}

-- kept bytes are bytes after which nothing was appended
appends_kept : (a b : Option (List ℕ)) → Keeps a b → Appends a b []
appends_kept None b h = tt
appends_kept (Some x) None h = h
appends_kept (Some x) (Some y) h = h ∙ sym (append-nil x)

-- of all the bytes the writer took those before the rest
pub record Begun (old now : Option (List ℕ)) (all rest : List ℕ) : Type 0 where
  pub taken : List ℕ
  pub parts : all ≡ taken ++ rest
  pub appended : Appends old now taken

pub begun : (a : Option (List ℕ)) (all : List ℕ) → Begun a a all all
begun a all = record { taken = []; parts = refl; appended = Appends-nil a }

-- one piece more
pub begun_more : (a b c : Option (List ℕ)) (all piece rest : List ℕ) → Begun a b all (piece ++ rest) → Appends b c piece → Begun a c all rest
begun_more a b c all piece rest so_far more = record {
  taken = so_far.taken ++ piece;
  parts = so_far.parts ∙ sym (append_assoc so_far.taken piece rest);
  appended = Appends-trans a b c so_far.taken piece so_far.appended more;
}

-- all of them
pub begun_all : (a b : Option (List ℕ)) (all : List ℕ) → Begun a b all [] → Appends a b all
begun_all a b all so_far = subst (Appends a b) (sym (so_far.parts ∙ append-nil so_far.taken)) so_far.appended

-- a failure in the next piece
pub begun_fails : (a b c : Option (List ℕ)) (all piece rest : List ℕ) → Begun a b all (piece ++ rest) → AppendsSome b c piece → AppendsSome a c all
begun_fails a b c all piece rest so_far fails = record {
  taken = so_far.taken ++ fails.taken;
  missing = fails.missing ++ rest;
  parts = so_far.parts
      ∙ ap (λ (xs : List ℕ). so_far.taken ++ (xs ++ rest)) fails.parts
      ∙ ap (λ (xs : List ℕ). so_far.taken ++ xs) (append_assoc fails.taken fails.missing rest)
      ∙ sym (append_assoc so_far.taken fails.taken (fails.missing ++ rest));
  appended = Appends-trans a b c so_far.taken fails.taken so_far.appended fails.appended;
}

-- one write
pub begun_write : (a b c : Option (List ℕ)) (all rest : List ℕ) (n : ℕ) → Begun a b all rest → Appends b c (take n rest) → Begun a c all (drop n rest)
begun_write a b c all rest n so_far more =
    begun_more a b c all (take n rest) (drop n rest) (subst (λ (xs : List ℕ). Begun a b all xs) (sym (take-append-drop n rest)) so_far) more

-- a write that took none, or was refused
pub begun_stuck : (a b c : Option (List ℕ)) (all rest : List ℕ) → Begun a b all rest → Appends b c [] → AppendsSome a c all
begun_stuck a b c all rest so_far none = record {
  taken = so_far.taken;
  missing = rest;
  parts = so_far.parts;
  appended = subst (Appends a c) (append-nil so_far.taken) (Appends-trans a b c so_far.taken [] so_far.appended none);
}

pub begun_refused : (a b c : Option (List ℕ)) (all rest : List ℕ) → Begun a b all rest → Keeps b c → AppendsSome a c all
begun_refused a b c all rest so_far kept = begun_stuck a b c all rest so_far (appends_kept b c kept)
