-- Bodies that only ask the volume: they go on in the same world, or end the call.
use Rattle.std.proofs.Common.{◌≡◌, ◌≢◌, ◌⊎◌, ℕ, Bool, true, false, List, [], IsSome, Result, Ok, Err, IsErrAnd, MatchResult, refl, sym, ◌∙◌, ap, subst, inl, inr, arith}
use Rattle.std.proofs.lemmas.Bool.{false≢true}
use Rattle.vol_sector.specs.Disk.{Disk, Leaves, counted}
use Rattle.vol_tree.specs.declared.errno.Errno.{Errno}
use Rattle.vol_tree.specs.declared.errno.Errno.TheVariants as errno
use Rattle.vol_tree.specs.Numbers.{number_of}
use Rattle.vol_tree.specs.Tree.{Tree, entry}
use Rattle.vol_tree.specs.Calls.{with_unit}
use Rattle.vol_tree.specs.Clauses.{is_io}
use Rattle.vol_tree.specs.Opened.{Opened, Keeps, IsSerial}
use Rattle.vol_tree.proofs.GoingOn.{goes_then}
use Rattle.vol_tree.specs.declared.superblock.Superblock.{Superblock}
use Rattle.path_walk.specs.Walk.{IsEntryOf}
use Rattle.wasi_bodies.specs.World.{World, with_volume_failed}
use Rattle.wasi_bodies.specs.Checks.{Checked, Done, and_then, tree_call, numbered, only_world}
use Rattle.wasi_bodies.specs.Calls.{Answered, by_row, volume_fails}
use Rattle.wasi_bodies.specs.host.Worlds.{VolumeStep}
use Rattle.wasi_bodies.specs.internal.Entries.{with_volume}
use Rattle.wasi_bodies.specs.internal.paths.Walks.{StillWorks}
use Rattle.path_walk.specs.Walk.{Asked}
use Rattle.wasi_bodies.specs.internal.Asking.{Passes, Stops, StopsNext}
use Rattle.wasi_bodies.proofs.checks.Chains.{goes_on, stops}
use Rattle.wasi_bodies.proofs.bodies.Answering.{answers_refused}
use Rattle.wasi_bodies.proofs.bodies.VolumeCalls.{never_after, same_volume, gone, tree_refuses, numbered_io, tree_called_alive, changing, steps_after}

-- ---- rows cut in parts

pub and_then_assoc : {A B C : Type 0} (r : Checked A) (f : A → Checked B) (g : B → Checked C) → and_then (and_then r f) g ≡ and_then r (λ x. and_then (f x) g)
unfolding and_then
and_then_assoc (Ok x) f g = refl
and_then_assoc (Err e) f g = refl

pub ok_then : {A B : Type 0} (x : A) (f : A → Checked B) → and_then (Ok x) f ≡ f x
unfolding and_then
ok_then x f = refl

-- ---- a body's end

true_or : (b : Bool) → (b ≡ true) ⊎ (b ≡ false)
true_or true = inl refl
true_or false = inr refl

module _ {D : Type 0} (w : World) (m : List ℕ) (run : World → Checked Done) where
  failed_now : (new : Opened D) (before : (w.volume_failed ≡ true) ⊎ (w.volume_failed ≡ false)) → run (with_volume_failed w) ≡ Err 29 → (w.volume_failed ≡ false → run w ≢ Err 29)
      → with_volume new w ≡ with_volume_failed w → Answered run w m (with_volume new w) m 29
  failed_now new (inl failed) is only_so after =
      let same : with_volume_failed w ≡ w = λ i. record w { volume_failed = sym failed i } in
      by_row (answers_refused (run w) w m (with_volume new w) m 29 (ap run (sym same) ∙ is) (after ∙ same) refl)
  failed_now new (inr working) is only_so after = volume_fails (record {
    reaches = record { refused = is; only_so = only_so working };
    answer = refl;
    after = after;
    bytes = record { as_long = refl; each = λ i. inl refl };
  })

  -- a call that a part of its row ended
  pub ends_call : {X : Type 0} (part : World → Checked X) (rest : World → X → Checked Done) (new : Opened D) (e : ℕ) → ((v : World) → run v ≡ and_then (part v) (rest v))
      → (w.volume_failed ≡ false → (x : X) → rest w x ≢ Err 29) → Stops part w new e → Answered run w m (with_volume new w) m e
  ends_call part rest new e cut later (inl r) = by_row (answers_refused (run w) w m (with_volume new w) m e (cut w ∙ stops _ _ e r.is) r.same refl)
  ends_call part rest new e cut later (inr f) =
      subst (λ (n : ℕ). Answered run w m (with_volume new w) m n) (sym f.answer)
      (failed_now new (true_or w.volume_failed) (cut (with_volume_failed w) ∙ stops _ _ 29 f.gone)
      (λ alive is. never_after (part w) (rest w) (f.never alive) (λ x _. later alive x) (sym (cut w) ∙ is)) f.after)

module _ {D : Type 0} (w : World) where
  -- a part that ends in a part of it
  pub ends_part : {X Y : Type 0} (part : World → Checked X) (rest : World → X → Checked Y) (new : Opened D) (e : ℕ)
      → (w.volume_failed ≡ false → (x : X) → rest w x ≢ Err 29) → Stops part w new e → Stops (λ v. and_then (part v) (rest v)) w new e
  ends_part part rest new e later (inl r) = inl (record { is = stops _ _ e r.is; same = r.same })
  ends_part part rest new e later (inr f) = inr (record {
    answer = f.answer;
    gone = stops _ _ 29 f.gone;
    never = λ alive. never_after (part w) (rest w) (f.never alive) (λ x _. later alive x);
    after = f.after;
  })

  module _ {X Y : Type 0} (part : World → Checked X) (rest : World → X → Checked Y) (between : Opened D) (x : X) (p : Passes part w between x) where
    -- the rest of a row passes, after a part of it
    pub passes_on : (new : Opened D) (y : Y) → with_volume new w ≡ w → rest w x ≡ Ok y → Passes (λ v. and_then (part v) (rest v)) w new y
    passes_on new y same is = record { is = goes_on _ _ x p.is ∙ is; gone = stops _ _ 29 p.gone; same = same; working = p.working }

    pub refuses_on : (new : Opened D) (e : ℕ) → with_volume new w ≡ w → rest w x ≡ Err e → Stops (λ v. and_then (part v) (rest v)) w new e
    refuses_on new e same is = inl (record { is = goes_on _ _ x p.is ∙ is; same = same })

    pub fails_on : (new : Opened D) → with_volume new w ≡ with_volume_failed w → rest w x ≢ Err 29 → Stops (λ v. and_then (part v) (rest v)) w new 29
    fails_on new after never = inr (record {
      answer = refl;
      gone = stops _ _ 29 p.gone;
      never = λ alive is. never (sym (goes_on _ _ x p.is) ∙ is);
      after = after;
    })

-- ---- one more question

module _ {D : Type 0} (honest : D → Type 0) (disk : D → Disk) (sectors_on failures : D → ℕ) (device_goes_on : ℕ → D → D → Type 0) where
  pub still_works : (v : Opened D) → v.failed ≡ false → StillWorks honest disk sectors_on failures device_goes_on v v
  still_works v working = record {
    kept = record {
      numbers = refl;
      failed = working;
      failures = λ _. refl;
      idle = λ failed. absurd (false≢true (sym working ∙ failed));
      honest = ((λ h. h), (λ h. h));
      size = refl;
    };
    tree = λ _. refl;
    crash = λ _. record { later = omega arith; since = λ t c _ left. inl left; now = λ c left. inl left };
    goes = λ end le first from. from;
  }

  -- a volume that has failed already is asked nothing
  pub asked_failed : (v : Opened D) → v.failed ≡ true → Asked honest disk sectors_on failures device_goes_on v v true
  asked_failed v failed = record {
    tree = λ _. refl;
    crash = λ _. record { later = omega arith; since = λ t c _ left. inl left; now = λ c left. inl left };
    kept = record {
      numbers = refl;
      failed = failed;
      failures = λ working. absurd (false≢true (sym working ∙ failed));
      idle = λ _. (refl, refl);
      honest = ((λ h. h), (λ h. h));
      size = refl;
    };
    goes = λ end le first from. from;
  }

  leaves_nothing : (a b c : Disk) → Leaves a b (λ i. ⊥) → Leaves b c (λ i. ⊥) → Leaves a c (λ i. ⊥)
  leaves_nothing a b c first second = record {
    later = omega (arith, first.later, second.later);
    since = λ t i low left. elim (second.since t i (omega (arith, first.later)) left) [ inl still ↦ first.since t i low still | inr never ↦ absurd never ];
    now = λ i left. elim (second.now i left) [ inl still ↦ first.now i still | inr never ↦ absurd never ];
  }

  pub works_on : (a b c : Opened D) → StillWorks honest disk sectors_on failures device_goes_on a b → Asked honest disk sectors_on failures device_goes_on b c false → StillWorks honest disk sectors_on failures device_goes_on a c
  works_on a b c first second =
      let k = first.kept in
      let l = second.kept in
      record {
        kept = record {
          numbers = l.numbers ∙ k.numbers;
          failed = l.failed;
          failures = λ working. l.failures k.failed ∙ k.failures working;
          idle = λ failed. absurd (false≢true (k.idle failed).1);
          honest = ((λ h. l.honest.0 (k.honest.0 h)), (λ h. k.honest.1 (l.honest.1 h)));
          size = l.size ∙ k.size;
        };
        tree = λ h. second.tree (k.honest.0 h) ∙ first.tree h;
        crash = λ h. leaves_nothing (disk a.device) (disk b.device) (disk c.device) (first.crash h) (second.crash (k.honest.0 h));
        goes = goes_then device_goes_on a b c k.numbers first.goes second.goes;
      }

  pub asked_step : (a b : Opened D) (io : Bool) → Asked honest disk sectors_on failures device_goes_on a b io → VolumeStep honest disk sectors_on failures device_goes_on a b
  asked_step a b io asked = record {
    kept = subst (Keeps honest sectors_on failures a b) (sym asked.kept.failed) asked.kept;
    crash = λ h. let l = asked.crash h in record {
      later = l.later;
      since = λ t c low left. elim (l.since t c low left) [ inl before ↦ inl before | inr never ↦ absurd never ];
      now = λ c left. elim (l.now c left) [ inl before ↦ inl before | inr never ↦ absurd never ];
    };
    goes = asked.goes;
  }

  pub asked_after : (a b c : Opened D) (io : Bool) → StillWorks honest disk sectors_on failures device_goes_on a b → Asked honest disk sectors_on failures device_goes_on b c io → VolumeStep honest disk sectors_on failures device_goes_on a c
  asked_after a b c io works asked = steps_after honest disk sectors_on failures device_goes_on a b c works (asked_step b c io asked)

  -- the world after a question
  pub asked_same : (w : World) (v v' : Opened D) → w ≡ with_volume v w → w.volume_failed ≡ false → honest v.device → Asked honest disk sectors_on failures device_goes_on v v' false → with_volume v' w ≡ w
  asked_same w v v' shown alive h asked =
      let working : v.failed ≡ false = sym (ap (λ (w : World). w.volume_failed) shown) ∙ alive in
      same_volume w [] v v' shown asked.kept.numbers (asked.tree h) (asked.kept.failed ∙ sym working)

  pub asked_gone : (w : World) (v v' : Opened D) → w ≡ with_volume v w → honest v.device → Asked honest disk sectors_on failures device_goes_on v v' true → with_volume v' w ≡ with_volume_failed w
  asked_gone w v v' shown h asked = gone w [] v v' shown asked.kept.numbers (asked.tree h) asked.kept.failed

-- ---- a change after questions

pub changing_never : (r : World → Result Tree Errno) (w : World) → w.volume_failed ≡ false → r w ≢ Err errno.Io → changing r w ≢ Err 29
changing_never r w alive never = never_after (tree_call w (r w)) (λ T. Ok (only_world (record w { tree = T })))
    (λ h. numbered_io (r w) never (sym (tree_called_alive w (r w) alive) ∙ h)) (λ T _ h. cc)

unit_refused : (r : Result Tree Errno) (e : Errno) → with_unit r ≡ Err e → r ≡ Err e
unit_refused (Ok U) e h = cc
unit_refused (Err d) e h = let same : d ≡ e = cc in ap Err same

pub changing_err : {D : Type 0} (honest : D → Type 0) (sectors_on failures : D → ℕ) (w : World) (m : List ℕ) (run : World → Checked Done) (r : World → Result Tree Errno)
    (v v' : Opened D) → w ≡ with_volume v w → run w ≡ changing r w → run (with_volume_failed w) ≡ Err 29 → r w ≢ Err errno.Io → (e : Errno)
    → Keeps honest sectors_on failures v v' (is_io {X = Unit {0}} (Err e)) → v'.tree ≡ v.tree
    → (with_unit (r (with_volume v w)) ≡ Err e) ⊎ (e ≡ errno.Io) → Answered run w m (with_volume v' w) m (number_of e)
changing_err honest sectors_on failures w m run r v v' shown same is_gone never e k tree meant =
    tree_refuses w m honest sectors_on failures (Unit {0}) run v v' e k shown tree
    (λ alive other. elim meant [
      | inl is ↦ same ∙ stops _ _ (number_of e) (tree_called_alive w (r w) alive ∙ ap numbered (ap r shown ∙ unit_refused _ e is))
      | inr io ↦ absurd (other io)
    ])
    is_gone
    (λ alive is. changing_never r w alive never (sym same ∙ is))

-- ---- parts as others

module _ {D : Type 0} (w : World) where
  -- a part that is the same in the world, and in it with its volume failed
  pub passes_as : {X : Type 0} (p q : World → Checked X) (new : Opened D) (x : X) → p w ≡ q w → p (with_volume_failed w) ≡ q (with_volume_failed w) → Passes q w new x → Passes p w new x
  passes_as p q new x here there h = record { is = here ∙ h.is; gone = there ∙ h.gone; same = h.same; working = h.working }

  pub stops_as : {X : Type 0} (p q : World → Checked X) (new : Opened D) (e : ℕ) → p w ≡ q w → p (with_volume_failed w) ≡ q (with_volume_failed w) → Stops q w new e → Stops p w new e
  stops_as p q new e here there (inl r) = inl (record { is = here ∙ r.is; same = r.same })
  stops_as p q new e here there (inr f) = inr (record { answer = f.answer; gone = there ∙ f.gone; never = λ alive is. f.never alive (sym here ∙ is); after = f.after })

  -- the next part ends the call
  pub stops_on : {X Y : Type 0} (part : World → Checked X) (rest : World → X → Checked Y) (between new : Opened D) (x : X) (e : ℕ) → Passes part w between x
      → Stops (λ v. rest v x) w new e → Stops (λ v. and_then (part v) (rest v)) w new e
  stops_on part rest between new x e p (inl r) = refuses_on w part rest between x p new e r.same r.is
  stops_on part rest between new x e p (inr f) = inr (record {
    answer = f.answer;
    gone = stops _ _ 29 p.gone;
    never = λ alive is. f.never alive (sym (goes_on _ _ x p.is) ∙ is);
    after = f.after;
  })

module _ {D : Type 0} (honest : D → Type 0) (disk : D → Disk) (sectors_on failures : D → ℕ) (device_goes_on : ℕ → D → D → Type 0) where
  -- one question after others
  pub asked_on : (a b c : Opened D) (io : Bool) → StillWorks honest disk sectors_on failures device_goes_on a b → Asked honest disk sectors_on failures device_goes_on b c io → Asked honest disk sectors_on failures device_goes_on a c io
  asked_on a b c io first second =
      let k = first.kept in
      let l = second.kept in
      record {
        kept = record {
          numbers = l.numbers ∙ k.numbers;
          failed = l.failed;
          failures = λ working. l.failures k.failed ∙ ap (counted io) (k.failures working);
          idle = λ failed. absurd (false≢true (k.idle failed).1);
          honest = ((λ h. l.honest.0 (k.honest.0 h)), (λ h. k.honest.1 (l.honest.1 h)));
          size = l.size ∙ k.size;
        };
        tree = λ h. second.tree (k.honest.0 h) ∙ first.tree h;
        crash = λ h. leaves_nothing honest disk sectors_on failures device_goes_on (disk a.device) (disk b.device) (disk c.device) (first.crash h) (second.crash (k.honest.0 h));
        goes = goes_then device_goes_on a b c k.numbers first.goes second.goes;
      }

  pub works_as : (a b : Opened D) → StillWorks honest disk sectors_on failures device_goes_on a b → Asked honest disk sectors_on failures device_goes_on a b false
  works_as a b w = record { kept = w.kept; tree = w.tree; crash = w.crash; goes = w.goes }

  pub asked_works : (a b : Opened D) → Asked honest disk sectors_on failures device_goes_on a b false → StillWorks honest disk sectors_on failures device_goes_on a b
  asked_works a b w = record { kept = w.kept; tree = w.tree; crash = w.crash; goes = w.goes }

  -- an entry is one after questions too
  pub entry_still : (a b : Opened D) (serial : ℕ) → StillWorks honest disk sectors_on failures device_goes_on a b → IsEntryOf honest a serial → IsEntryOf honest b serial
  entry_still a b serial works e = record {
    number = subst (λ (n : Superblock). IsSerial n serial) (sym works.kept.numbers) e.number;
    used = λ h. let before = works.kept.honest.1 h in subst (λ (T : Tree). IsSome (entry T serial)) (sym (works.tree before)) (e.used before);
  }

-- the next part of a row stops in a world whose volume works
pub next_stops : {D X Y : Type 0} (w : World) (part : World → Checked X) (rest : World → X → Checked Y) (between new : Opened D) (x : X) (e : ℕ) → Passes part w between x
    → StopsNext (λ v. rest v x) w new e → Stops (λ v. and_then (part v) (rest v)) w new e
next_stops w part rest between new x e p (inl r) = refuses_on w part rest between x p new e r.same r.is
next_stops w part rest between new x e p (inr f) =
    subst (λ (n : ℕ). Stops (λ v. and_then (part v) (rest v)) w new n) (sym f.answer) (fails_on w part rest between x p new f.after f.never)

-- ---- where a refusal is handed on

io_as : (X Y : Type 0) (e : Errno) → is_io {X = X} (Err e) ≡ is_io {X = Y} (Err e)
io_as X Y errno.Exist = refl
io_as X Y errno.TooBig = refl
io_as X Y errno.BadText = refl
io_as X Y errno.Invalid = refl
io_as X Y errno.Io = refl
io_as X Y errno.IsDirectory = refl
io_as X Y errno.NameTooLong = refl
io_as X Y errno.NotFound = refl
io_as X Y errno.NoSpace = refl
io_as X Y errno.NotDirectory = refl
io_as X Y errno.NotEmpty = refl
io_as X Y errno.NotCapable = refl

pub asked_handed : {D X : Type 0} (Y : Type 0) (honest : D → Type 0) (disk : D → Disk) (sectors_on failures : D → ℕ) (device_goes_on : ℕ → D → D → Type 0) (a b : Opened D) (r : Result X Errno) (e : Errno)
    → IsErrAnd r (λ y. y ≡ e) → Asked honest disk sectors_on failures device_goes_on a b (is_io {X = Y} (Err e)) → Asked honest disk sectors_on failures device_goes_on a b (is_io r)
asked_handed Y honest disk sectors_on failures device_goes_on a b (Ok x) e is asked = absurd is
asked_handed {X = X} Y honest disk sectors_on failures device_goes_on a b (Err y) e is asked =
    subst (Asked honest disk sectors_on failures device_goes_on a b) (io_as Y X e ∙ ap (λ (e : Errno). is_io {X = X} (Err e)) (sym is)) asked

pub io_handed : {X : Type 0} (r : Result X Errno) (P : X → Type 0) (e : Errno) → IsErrAnd r (λ y. y ≡ e) → e ≡ errno.Io → MatchResult r P (λ e. e ≡ errno.Io)
io_handed (Ok x) P e is io = absurd is
io_handed (Err y) P e is io = is ∙ io
