-- What a chain of steps is made of.
use Rattle.std.proofs.Common.{◌≡◌, ◌⊎◌, ◌<◌, ◌≤◌, ◌++◌, ℕ, ◌+◌, Bool, true, false, List, [], ◌∷◌, Option, Some, None, Result, Ok, Err, IfErr, IsErrAnd, MatchResult, length, take, get_or, inl, inr, refl, sym, ap, ◌∙◌, subst, add-one, true≢false}
use Rattle.std.proofs.Math.Seq.{take-suc}
use Rattle.std.proofs.lemmas.List.{take_all}
use Rattle.std.specs.Borrow.{Bor}
use Rattle.std.specs.IoError.{error_kind}
use Rattle.std.specs.declared.io.Error.{Error}
use Rattle.std.specs.declared.io.ErrorKind.{ErrorKind}
use Rattle.sandbox_args.specs.Request.{Text}
use Rattle.sandbox_args.specs.declared.request.Run.{Run}
use Rattle.sandbox_telling.specs.Reporting.{receiver_of}
use Rattle.sandbox_places.specs.Places.{Access, Makes, Opens, Reads, Receives, Chain, ChainWithFailure, IsRefusedAmong, IsRefusedOfAll, medium_accesses, reads_of, run_accesses, where_named}
use Rattle.sandbox_command.specs.internal.Tests.{AllEndAs, OneEndsAs}

module _ {A P : Type 0} (step : A → P → P → Type 0) where
  -- one step more
  pub Chain-push : (xs : List A) (p : P) (m : P) (q : P) (a : A) → Chain step xs p m → step a m q → Chain step (xs ++ (a ∷ [])) p q
  Chain-push [] p m q a is last = (q, subst (λ (s : P). step a s q) is last, refl)
  Chain-push (x ∷ xs) p m q a (n, first, more) last = (n, first, Chain-push xs n m q a more last)

  -- one chain behind the other
  pub Chain-join : (xs ys : List A) (p m q : P) → Chain step xs p m → Chain step ys m q → Chain step (xs ++ ys) p q
  Chain-join [] ys p m q is more = subst (λ (s : P). Chain step ys s q) is more
  Chain-join (x ∷ xs) ys p m q (n, first, rest) more = (n, first, Chain-join xs ys n m q rest more)

module _ {A P : Type 0} (went failed : A → P → P → Type 0) where
  failed_after : (xs : List A) (p m q : P) (a : A) → Chain went xs p m → failed a m q → ChainWithFailure went failed (xs ++ (a ∷ [])) p q
  failed_after [] p m q a is last = (q, inl (subst (λ (s : P). failed a s q) is last, refl))
  failed_after (x ∷ xs) p m q a (n, first, more) last = (n, inr (first, failed_after xs n m q a more last))

  either_after : (xs : List A) (p m q : P) (a : A) → ChainWithFailure went failed xs p m → went a m q ⊎ failed a m q → ChainWithFailure went failed (xs ++ (a ∷ [])) p q
  either_after [] p m q a none last = absurd none
  either_after (x ∷ xs) p m q a (n, inl (first, more)) last = (n, inl (first, Chain-push (λ b r s. went b r s ⊎ failed b r s) xs n m q a more last))
  either_after (x ∷ xs) p m q a (n, inr (first, more)) last = (n, inr (first, either_after xs n m q a more last))

  -- one more, where all went well so far, and where one failed
  after_all : (has : Bool) (xs : List A) (p m q : P) (a : A) → Chain went xs p m → OneEndsAs went failed has a m q → AllEndAs went failed has (xs ++ (a ∷ [])) p q
  after_all true xs p m q a chain last = Chain-push went xs p m q a chain last
  after_all false xs p m q a chain last = failed_after xs p m q a chain last

  after_failure : (has : Bool) (xs : List A) (p m q : P) (a : A) → ChainWithFailure went failed xs p m → OneEndsAs went failed has a m q → ChainWithFailure went failed (xs ++ (a ∷ [])) p q
  after_failure true xs p m q a chain last = either_after xs p m q a chain (inl last)
  after_failure false xs p m q a chain last = either_after xs p m q a chain (inr last)

  -- `had && has`
  pushed : (had has now : Bool) → ((had ≡ true) × (now ≡ has)) ⊎ ((had ≡ false) × (now ≡ had)) → (xs : List A) (p m q : P) (a : A) → AllEndAs went failed had xs p m → OneEndsAs went failed has a m q
      → AllEndAs went failed now (xs ++ (a ∷ [])) p q
  pushed true has now (inl (so, same)) xs p m q a chain last = subst (λ (b : Bool). AllEndAs went failed b (xs ++ (a ∷ [])) p q) (sym same) (after_all has xs p m q a chain last)
  pushed true has now (inr (so, same)) xs p m q a chain last = absurd (true≢false so)
  pushed false has now (inl (so, same)) xs p m q a chain last = absurd (true≢false (sym so))
  pushed false has now (inr (so, same)) xs p m q a chain last = subst (λ (b : Bool). AllEndAs went failed b (xs ++ (a ∷ [])) p q) (sym same) (after_failure has xs p m q a chain last)

  -- of a slice that is gone through
  pub AllEndAs-next : (had has now : Bool) → ((had ≡ true) × (now ≡ has)) ⊎ ((had ≡ false) × (now ≡ had)) → (xs : List A) (i : ℕ) (d : A) (p m q : P) → i < length xs
      → AllEndAs went failed had (take i xs) p m → OneEndsAs went failed has (get_or xs i d) m q → AllEndAs went failed now (take (i + 1) xs) p q
  AllEndAs-next had has now cases xs i d p m q lt so_far last =
      subst (λ (l : List A). AllEndAs went failed now l p q) (sym (ap (λ n. take n xs) (add-one i) ∙ take-suc xs i d lt)) (pushed had has now cases (take i xs) p m q (get_or xs i d) so_far last)

  pub went_all : (has : Bool) (xs : List A) (p q : P) → has ≡ true → AllEndAs went failed has xs p q → Chain went xs p q
  went_all true xs p q is chain = chain
  went_all false xs p q is chain = absurd (true≢false (sym is))

  pub failed_some : (has : Bool) (xs : List A) (p q : P) → has ≡ false → AllEndAs went failed has xs p q → ChainWithFailure went failed xs p q
  failed_some true xs p q is chain = absurd (true≢false is)
  failed_some false xs p q is chain = chain

  -- and at its end
  pub AllEndAs-end : (has : Bool) (xs : List A) (i : ℕ) (p q : P) → length xs ≤ i → AllEndAs went failed has (take i xs) p q → AllEndAs went failed has xs p q
  AllEndAs-end has xs i p q past chain = subst (λ (l : List A). AllEndAs went failed has l p q) (take_all i xs past) chain

-- ---- what is handed on by `?`

pub passed : {X : Type 0} (Y : X → Type 0) (N : Error → Type 0) (r : Result X Error) (e : Error) → IsErrAnd r (λ f. f ≡ e) → N e → MatchResult r Y N
passed Y N (Ok x) e is holds = absurd is
passed Y N (Err f) e is holds = subst N (sym is) holds

pub passed_err : {X : Type 0} (N : Error → Type 0) (r : Result X Error) (e : Error) → IsErrAnd r (λ f. f ≡ e) → N e → IfErr r N
passed_err N (Ok x) e is holds = tt
passed_err N (Err f) e is holds = subst N (sym is) holds

-- a result that isn't Ok has an error
pub of_err : {X : Type 0} (r : Result X Error) (N : ErrorKind → Type 0) → ((x : X) → r ≡ Ok x → ⊥) → IfErr r (λ e. N (error_kind e)) → (kind : ErrorKind) × N kind
of_err (Ok x) N never refused = absurd (never x refl)
of_err (Err e) N never refused = (error_kind e, refused)

-- a file that is named and couldn't be had
pub named_refused : {X P : Type 0} (asks : Access → P → P → Type 0) (refuses : Access → ErrorKind → P → P → Type 0) (how : Text → Access) (N : Error → Type 0) (named : Option (Bor Text)) (file : Bor Text) (p q : P) (r : Result X Error)
    → named ≡ Some file → asks (how file.now) p q → IfErr r (λ e. refuses (how file.now) (error_kind e) p q) → ((e : Error) → IsRefusedAmong asks refuses (where_named how named) (error_kind e) p q → N e) → IfErr r N
named_refused asks refuses how N named file p q (Ok x) is asked refused then = tt
named_refused asks refuses how N named file p q (Err e) is asked refused then =
    then e (subst (λ (o : Option (Bor Text)). IsRefusedAmong asks refuses (where_named how o) (error_kind e) p q) (sym is) (inl (asked, refused)))

pub named_asked : {P : Type 0} (asks : Access → P → P → Type 0) (how : Text → Access) (named : Option (Bor Text)) (file : Bor Text) (p q : P) → named ≡ Some file → asks (how file.now) p q → Chain asks (where_named how named) p q
named_asked asks how named file p q is asked = subst (λ (o : Option (Bor Text)). Chain asks (where_named how o) p q) (sym is) (q, asked, refl)

-- of one that is named by this
pub its_chain : {P : Type 0} (asks : Access → P → P → Type 0) (how : Text → Access) (p q : P) (named name : Option (Bor Text)) → named ≡ name → Chain asks (where_named how named) p q → Chain asks (where_named how name) p q
its_chain asks how p q named name is chain = subst (λ (o : Option (Bor Text)). Chain asks (where_named how o) p q) is chain

pub its_refusal : {P : Type 0} (asks : Access → P → P → Type 0) (refuses : Access → ErrorKind → P → P → Type 0) (how : Text → Access) (kind : ErrorKind) (p q : P) (named name : Option (Bor Text)) → named ≡ name
    → IsRefusedAmong asks refuses (where_named how named) kind p q → IsRefusedAmong asks refuses (where_named how name) kind p q
its_refusal asks refuses how kind p q named name is refused = subst (λ (o : Option (Bor Text)). IsRefusedAmong asks refuses (where_named how o) kind p q) is refused

-- ---- all are asked for

module _ {P : Type 0} (asks : Access → P → P → Type 0) (refuses : Access → ErrorKind → P → P → Type 0) where
  pub refused-first : (xs ys : List Access) (kind : ErrorKind) (p m q : P) → IsRefusedOfAll asks refuses xs kind p m → Chain asks ys m q → IsRefusedOfAll asks refuses (xs ++ ys) kind p q
  refused-first [] ys kind p m q none more = absurd none
  refused-first (x ∷ xs) ys kind p m q (n, first, inl (refused, rest)) more = (n, first, inl (refused, Chain-join asks xs ys n m q rest more))
  refused-first (x ∷ xs) ys kind p m q (n, first, inr later) more = (n, first, inr (refused-first xs ys kind n m q later more))

  pub refused-later : (xs ys : List Access) (kind : ErrorKind) (p m q : P) → Chain asks xs p m → IsRefusedOfAll asks refuses ys kind m q → IsRefusedOfAll asks refuses (xs ++ ys) kind p q
  refused-later [] ys kind p m q is refused = subst (λ (s : P). IsRefusedOfAll asks refuses ys kind s q) is refused
  refused-later (x ∷ xs) ys kind p m q (n, first, rest) refused = (n, first, inr (refused-later xs ys kind n m q rest refused))

  -- of one it is the same
  pub one_refused : (how : Text → Access) (named : Option (Bor Text)) (kind : ErrorKind) (p q : P) → IsRefusedAmong asks refuses (where_named how named) kind p q → IsRefusedOfAll asks refuses (where_named how named) kind p q
  one_refused how None kind p q none = none
  one_refused how (Some file) kind p q (inl (asked, refused)) = (q, asked, inl (refused, refl))
  one_refused how (Some file) kind p q (inr (m, asked, none)) = absurd none

  medium_refused : (volume archive image : Option (Bor Text)) (kind : ErrorKind) (p q : P) → IsRefusedAmong asks refuses (medium_accesses volume archive image) kind p q → IsRefusedOfAll asks refuses (medium_accesses volume archive image) kind p q
  medium_refused None None image kind p q refused = one_refused Reads image kind p q refused
  medium_refused None (Some file) image kind p q (inl (asked, refused)) = (q, asked, inl (refused, refl))
  medium_refused None (Some file) image kind p q (inr (m, asked, none)) = absurd none
  medium_refused (Some file) archive image kind p q (inl (asked, refused)) = (q, asked, inl (refused, refl))
  medium_refused (Some file) archive image kind p q (inr (m, asked, none)) = absurd none

  -- the files of a run alone, one after the other
  module _ (run : Run) (p a b c d e f g q : P)
      (bytes : asks (Reads run.module.now) p a) (random : Chain asks (reads_of run.random) a b) (medium : Chain asks (medium_accesses run.volume run.image_from run.image) b c)
      (input : Chain asks (where_named Opens run.stdin) c d) (out : Chain asks (where_named Makes run.stdout) d e) (err : Chain asks (where_named Makes run.stderr) e f)
      (profile : Chain asks (where_named Makes run.profile) f g) (received : Chain asks (where_named Receives (receiver_of run)) g q) where
    -- those from one on
    abbrev since_profile : List Access
    since_profile = where_named Makes run.profile ++ where_named Receives (receiver_of run)

    abbrev since_err : List Access
    since_err = where_named Makes run.stderr ++ since_profile

    abbrev since_out : List Access
    since_out = where_named Makes run.stdout ++ since_err

    abbrev since_input : List Access
    since_input = where_named Opens run.stdin ++ since_out

    abbrev since_medium : List Access
    since_medium = medium_accesses run.volume run.image_from run.image ++ since_input

    from_profile : Chain asks since_profile f q
    from_profile = Chain-join asks (where_named Makes run.profile) (where_named Receives (receiver_of run)) f g q profile received

    from_err : Chain asks since_err e q
    from_err = Chain-join asks (where_named Makes run.stderr) since_profile e f q err from_profile

    from_out : Chain asks since_out d q
    from_out = Chain-join asks (where_named Makes run.stdout) since_err d e q out from_err

    from_input : Chain asks since_input c q
    from_input = Chain-join asks (where_named Opens run.stdin) since_out c d q input from_out

    from_medium : Chain asks since_medium b q
    from_medium = Chain-join asks (medium_accesses run.volume run.image_from run.image) since_input b c q medium from_input

    from_random : Chain asks (reads_of run.random ++ since_medium) a q
    from_random = Chain-join asks (reads_of run.random) since_medium a b q random from_medium

    -- one behind those before it
    after_random : (kind : ErrorKind) → IsRefusedOfAll asks refuses since_medium kind b q → IsRefusedOfAll asks refuses (run_accesses run) kind p q
    after_random kind refused = (a, bytes, inr (refused-later (reads_of run.random) since_medium kind a b q random refused))

    after_medium : (kind : ErrorKind) → IsRefusedOfAll asks refuses since_input kind c q → IsRefusedOfAll asks refuses (run_accesses run) kind p q
    after_medium kind refused = after_random kind (refused-later (medium_accesses run.volume run.image_from run.image) since_input kind b c q medium refused)

    after_input : (kind : ErrorKind) → IsRefusedOfAll asks refuses since_out kind d q → IsRefusedOfAll asks refuses (run_accesses run) kind p q
    after_input kind refused = after_medium kind (refused-later (where_named Opens run.stdin) since_out kind c d q input refused)

    after_out : (kind : ErrorKind) → IsRefusedOfAll asks refuses since_err kind e q → IsRefusedOfAll asks refuses (run_accesses run) kind p q
    after_out kind refused = after_input kind (refused-later (where_named Makes run.stdout) since_err kind d e q out refused)

    after_err : (kind : ErrorKind) → IsRefusedOfAll asks refuses since_profile kind f q → IsRefusedOfAll asks refuses (run_accesses run) kind p q
    after_err kind refused = after_out kind (refused-later (where_named Makes run.stderr) since_profile kind e f q err refused)

    pub all_asked : Chain asks (run_accesses run) p q
    all_asked = (a, bytes, from_random)

    pub module_lacks : (kind : ErrorKind) → refuses (Reads run.module.now) kind p a → IsRefusedOfAll asks refuses (run_accesses run) kind p q
    module_lacks kind refused = (a, bytes, inl (refused, from_random))

    pub random_lacks : (kind : ErrorKind) → IsRefusedAmong asks refuses (reads_of run.random) kind a b → IsRefusedOfAll asks refuses (run_accesses run) kind p q
    random_lacks kind refused = (a, bytes, inr (refused-first (reads_of run.random) since_medium kind a b q (one_refused Reads run.random kind a b refused) from_medium))

    pub medium_lacks : (kind : ErrorKind) → IsRefusedAmong asks refuses (medium_accesses run.volume run.image_from run.image) kind b c → IsRefusedOfAll asks refuses (run_accesses run) kind p q
    medium_lacks kind refused = after_random kind (refused-first (medium_accesses run.volume run.image_from run.image) since_input kind b c q (medium_refused run.volume run.image_from run.image kind b c refused) from_input)

    pub input_lacks : (kind : ErrorKind) → IsRefusedAmong asks refuses (where_named Opens run.stdin) kind c d → IsRefusedOfAll asks refuses (run_accesses run) kind p q
    input_lacks kind refused = after_medium kind (refused-first (where_named Opens run.stdin) since_out kind c d q (one_refused Opens run.stdin kind c d refused) from_out)

    pub out_lacks : (kind : ErrorKind) → IsRefusedAmong asks refuses (where_named Makes run.stdout) kind d e → IsRefusedOfAll asks refuses (run_accesses run) kind p q
    out_lacks kind refused = after_input kind (refused-first (where_named Makes run.stdout) since_err kind d e q (one_refused Makes run.stdout kind d e refused) from_err)

    pub err_lacks : (kind : ErrorKind) → IsRefusedAmong asks refuses (where_named Makes run.stderr) kind e f → IsRefusedOfAll asks refuses (run_accesses run) kind p q
    err_lacks kind refused = after_out kind (refused-first (where_named Makes run.stderr) since_profile kind e f q (one_refused Makes run.stderr kind e f refused) from_profile)

    pub profile_lacks : (kind : ErrorKind) → IsRefusedAmong asks refuses (where_named Makes run.profile) kind f g → IsRefusedOfAll asks refuses (run_accesses run) kind p q
    profile_lacks kind refused = after_err kind (refused-first (where_named Makes run.profile) (where_named Receives (receiver_of run)) kind f g q (one_refused Makes run.profile kind f g refused) received)

    pub receiver_lacks : (kind : ErrorKind) → IsRefusedAmong asks refuses (where_named Receives (receiver_of run)) kind g q → IsRefusedOfAll asks refuses (run_accesses run) kind p q
    receiver_lacks kind refused = after_err kind (refused-later (where_named Makes run.profile) (where_named Receives (receiver_of run)) kind f g q profile (one_refused Receives (receiver_of run) kind g q refused))
