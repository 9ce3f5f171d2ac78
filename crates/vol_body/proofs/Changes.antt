-- One change of a file after another.
use Rattle.std.proofs.Common.{◌≡◌, ◌≢◌, inl, inr, ℕ, Bool, true, false, refl, sym, ◌∙◌, ap}
use Rattle.std.proofs.lemmas.Bool.{cases_Bool, both_ways}
use Rattle.vol_sector.specs.Disk.{Image}
use Rattle.vol_inode.specs.declared.entry.Entry.{Entry}
use Rattle.vol_body.specs.Body.{BlockPosition, IsPosition, named, NamesTaken, NamesOthers}
use Rattle.vol_body.specs.Change.{NamesSector, OthersStay, TakesAndGives}

-- a number that is taken is some sector's
some_of : (taken : ℕ → Bool) (n : ℕ) → taken 0 ≡ false → taken n ≡ true → n ≢ 0
some_of taken n none is zero = both_ways (taken n) (ap taken zero ∙ none) is

-- a file that names the same sectors names no others
pub others_same : (content after : Image) (e changed : Entry) (n : ℕ) → ((p : BlockPosition) → IsPosition p → named after changed p ≡ named content e p) → NamesOthers content e n → NamesOthers after changed n
others_same content after e changed n names others p there is = others p there (sym (names p there) ∙ is)

pub stays_same : (place first end : ℕ) (taken : ℕ → Bool) (content : Image) (e : Entry) → OthersStay place first end taken content content e
stays_same place first end taken content e = record { outside = λ n not out. refl; taken = λ n not is others. refl }

-- nothing changes but what the file's sectors hold
pub takes_same : (taken : ℕ → Bool) (content after : Image) (e changed : Entry) → NamesTaken taken content e
    → ((p : BlockPosition) → IsPosition p → named after changed p ≡ named content e p) → TakesAndGives taken taken content after e changed
takes_same taken content after e changed names_taken names = record {
  taken = λ p there some. ap taken (names p there) ∙ names_taken p there (λ none. some (names p there ∙ none));
  fresh = λ n one others. absurd (others one.position.0 one.position.1 (sym (names one.position.0 one.position.1) ∙ one.position.2));
  given = λ n one others. absurd (others one.position.0 one.position.1 (names one.position.0 one.position.1 ∙ one.position.2));
  others = λ n before now. refl;
}

-- the sectors that the file names may be told by another entry
pub stays_by : (place first end : ℕ) (taken : ℕ → Bool) (content after : Image) (e f : Entry) → ((p : BlockPosition) → IsPosition p → named content f p ≡ named content e p)
    → OthersStay place first end taken content after e → OthersStay place first end taken content after f
stays_by place first end taken content after e f names stays = record {
  outside = stays.outside;
  taken = λ n not is others. stays.taken n not is (λ p there one. others p there (names p there ∙ one));
}

module _ (t0 t1 : ℕ → Bool) (c0 c1 : Image) (e0 e1 : Entry) (none : t0 0 ≡ false) (takes : TakesAndGives t0 t1 c0 c1 e0 e1) where
  -- what is taken before and not the file's doesn't become the file's
  stays_others : (n : ℕ) → t0 n ≡ true → NamesOthers c0 e0 n → NamesOthers c1 e1 n
  stays_others n is others p there names =
      let one : NamesSector c1 e1 n = record { some = some_of t0 n none is; position = (p, there, names) } in
      both_ways (t0 n) (takes.fresh n one others) is

  pub stays_twice : (place first end : ℕ) (c2 : Image) → OthersStay place first end t0 c0 c1 e0 → OthersStay place first end t1 c1 c2 e1 → OthersStay place first end t0 c0 c2 e0
  stays_twice place first end c2 stays then = record {
    outside = λ n not out. then.outside n not out ∙ stays.outside n not out;
    taken = λ n not is others.
        let after = stays_others n is others in
        then.taken n not (takes.others n others after ∙ is) after ∙ stays.taken n not is others;
  }

module _ (t0 t1 t2 : ℕ → Bool) (c0 c1 c2 : Image) (e0 e1 e2 : Entry) (none : t0 0 ≡ false) (still : t2 0 ≡ false)
    (takes : TakesAndGives t0 t1 c0 c1 e0 e1) (then : TakesAndGives t1 t2 c1 c2 e1 e2) where
  fresh_twice : (n : ℕ) → NamesSector c2 e2 n → NamesOthers c0 e0 n → t0 n ≡ false
  fresh_twice n one others = elim (cases_Bool (t0 n)) [
    | inr free ↦ free
    | inl is ↦
        let after = stays_others t0 t1 c0 c1 e0 e1 none takes n is others in
        sym (takes.others n others after) ∙ then.fresh n one after
  ]

  -- what is taken at the end and not the file's wasn't the file's before
  were_others : (n : ℕ) → t2 n ≡ true → NamesOthers c2 e2 n → NamesOthers c1 e1 n
  were_others n is others p there names =
      let one : NamesSector c1 e1 n = record { some = some_of t2 n still is; position = (p, there, names) } in
      both_ways (t2 n) (then.given n one others) is

  given_twice : (n : ℕ) → NamesSector c0 e0 n → NamesOthers c2 e2 n → t2 n ≡ false
  given_twice n one others = elim (cases_Bool (t2 n)) [
    | inr free ↦ free
    | inl is ↦
        let between = were_others n is others in
        then.others n between others ∙ takes.given n one between
  ]

  others_twice : (n : ℕ) → NamesOthers c0 e0 n → NamesOthers c2 e2 n → t2 n ≡ t0 n
  others_twice n before after = elim (cases_Bool (t0 n)) [
    | inl is ↦
        let between = stays_others t0 t1 c0 c1 e0 e1 none takes n is before in
        then.others n between after ∙ takes.others n before between
    | inr free ↦ elim (cases_Bool (t2 n)) [
      | inr still_free ↦ still_free ∙ sym free
      | inl is ↦
          let between = were_others n is after in
          then.others n between after ∙ takes.others n before between
    ]
  ]

  pub takes_twice : TakesAndGives t0 t2 c0 c2 e0 e2
  takes_twice = record { taken = then.taken; fresh = fresh_twice; given = given_twice; others = others_twice }
