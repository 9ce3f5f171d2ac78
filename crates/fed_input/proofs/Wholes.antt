-- What comes later doesn't matter to a call that wasn't starved.
use Rattle.std.proofs.Common.{◌≡◌, ◌⊎◌, inl, inr, ℕ, suc, Bool, true, false, true≢false, List, [], ◌∷◌, ◌++◌, reverse, if◌then◌else◌, Option, Some, None, refl, sym, ap, subst, ◌∙◌, append_assoc, append-nil}
use Rattle.std.specs.Io.KnownBytes.{Consumes}
use Rattle.std.proofs.lemmas.List.{append_cancel_right}
use Rattle.stream_answers.specs.Hearing.{Goes, stays, goes, Hears, Moves}
use Rattle.vol_sector.specs.Disk.{Disk}
use Rattle.wasm_store.specs.declared.call.HostCall.{HostCall}
use Rattle.wasm_store.specs.declared.call.HostCall.TheVariants as call
use Rattle.wasm_store.specs.declared.call.Answer.{Answer}
use Rattle.wasm_store.specs.declared.call.Answer.TheVariants.{Value as value, Exit as exit}
use Rattle.wasm_store.specs.declared.call.Errno.{Errno}
use Rattle.wasm_steps.specs.Configuration.{numbers, Instance, Configuration, at}
use Rattle.wasm_steps.specs.Steps.{CallsOf, Event, Step, plain_step, free_step, host_answers, host_exits, in_label, in_frame, Reach, stays as halts, goes as makes}
use Rattle.wasi_bodies.specs.declared.streams.Input.{Input}
use Rattle.wasi_bodies.specs.host.Worlds.{HasFailed, HearsInput, HostState, LeavesNone, StreamBytes, StreamCalls, StreamsMove}
use Rattle.fed_input.specs.Feeding.{Fed, Gave, left_of}
use Rattle.fed_input.specs.Wholes.{in_memory, going_on, MayCome, whole_host, FedCalls, WholeCalls, CallsOfTheWhole, RunsOfTheWhole}

-- what stands behind the bytes while it goes on
abbrev tail : Bool → List ℕ
tail ended = if ended then [] else (0 ∷ [])

-- calls that went well give bytes and leave the mark
pub record Gives (before after : Fed) : Type 0 where
  pub bytes : List ℕ
  pub given : before.bytes ≡ bytes ++ after.bytes
  pub ended : after.ended ≡ before.ended

gives : (a b : Fed) → Goes (Moves (λ before bytes after. Gave before bytes after)) a b → Gives a b
gives a _ stays = record { bytes = []; given = refl; ended = refl }
gives a c (goes {b = b} before (bytes, last)) =
    let first = gives a b before in
    record {
      bytes = first.bytes ++ bytes;
      given = first.given ∙ ap (λ z. first.bytes ++ z) last.given ∙ sym (append_assoc first.bytes bytes c.bytes);
      ended = last.ended ∙ first.ended;
    }

-- the same calls over all bytes
moved_whole : (more : List ℕ) (a b : Fed) → Goes (Moves (λ before bytes after. Gave before bytes after)) a b
    → Goes (Moves in_memory.moved) (a.bytes ++ more) (b.bytes ++ more)
moved_whole more a _ stays = stays
moved_whole more a c (goes {b = b} before (bytes, last)) =
    goes (moved_whole more a b before) (bytes, ap (λ z. z ++ more) last.given ∙ append_assoc bytes c.bytes more)

-- what was read was of the bytes that were there
consumed : (more moved : List ℕ) (a b : Fed) → b.ended ≡ a.ended → Consumes (Some (left_of a)) (Some (left_of b)) moved
    → Consumes (Some (a.bytes ++ more)) (Some (b.bytes ++ more)) moved
consumed more moved a b same is =
    let e : a.bytes ++ tail a.ended ≡ (moved ++ b.bytes) ++ tail a.ended =
    is ∙ ap (λ z. moved ++ (b.bytes ++ tail z)) same ∙ sym (append_assoc moved b.bytes (tail a.ended)) in
    ap (λ z. z ++ more) (append_cancel_right a.bytes (moved ++ b.bytes) (tail a.ended) e) ∙ append_assoc moved b.bytes more

starts : List ℕ → Bool
starts [] = false
starts (x ∷ xs) = true

-- nothing is left but at the end
at_end : (ended : Bool) (bytes : List ℕ) → bytes ++ tail ended ≡ [] → (ended ≡ true) × (bytes ≡ [])
unfolding starts
at_end true bytes e = (refl, sym (append-nil bytes) ∙ e)
at_end false [] e = absurd (true≢false (ap (λ z. starts z) e))
at_end false (x ∷ xs) e = absurd (true≢false (ap (λ z. starts z) e))

bytes_or_none : Option (List ℕ) → List ℕ
bytes_or_none None = []
bytes_or_none (Some bytes) = bytes

left_is : (bytes : List ℕ) → Some bytes ≡ Some [] → bytes ≡ []
unfolding bytes_or_none
left_is bytes e = ap (λ o. bytes_or_none o) e

none_left : (more : List ℕ) (a b : Fed) → MayCome more a → b.ended ≡ a.ended → LeavesNone (Some (left_of a)) (Some (left_of b)) → LeavesNone (Some (a.bytes ++ more)) (Some (b.bytes ++ more))
none_left more a b may same none =
    let (ended, empty) = at_end b.ended b.bytes (left_is (left_of b) none) in
    let nothing : more ≡ [] = may (sym same ∙ ended) in
    ap (λ z. Some z) (ap (λ z. z ++ more) empty ∙ nothing)

-- what isn't marked as failed was not refused
went : (b : Bool) (old new : Input Fed) → old.failed ≡ b → new.failed ≡ false → HearsInput going_on old new
    → (old.failed ≡ false) × Goes (Moves (λ before bytes after. Gave before bytes after)) old.reader new.reader
went true old new was now h = absurd (true≢false (sym was ∙ sym (ap (λ i. i.failed) (h.0 was)) ∙ now))
went false old new was now h = (was, subst (λ f. Hears (Moves going_on.moved) going_on.refused f old.reader new.reader) now (h.1 was))

module _ {D W1 W2 : Type 0} (more : List ℕ) where
  has_failed : (c : HostCall) (h : HostState D Fed W1 W2) → HasFailed c h → HasFailed c (whole_host more h)
  has_failed call.FdRead h f = f
  has_failed call.FdWrite h f = f
  has_failed other h f = f

  heard : (old new : HostState D Fed W1 W2) → old.input.failed ≡ false → new.input.failed ≡ false
      → Goes (Moves (λ before bytes after. Gave before bytes after)) old.input.reader new.input.reader
      → HearsInput in_memory (whole_host more old).input (whole_host more new).input
  heard old new was now run = (
    λ failed. absurd (true≢false (sym failed ∙ was)),
    λ _. subst (λ f. Hears (Moves in_memory.moved) in_memory.refused f (old.input.reader.bytes ++ more) (new.input.reader.bytes ++ more)) (sym now)
        (moved_whole more old.input.reader new.input.reader run),
  )

  module _ (out_contents : W1 → Option (List ℕ)) (err_contents : W2 → Option (List ℕ)) where
    moves : (old new : HostState D Fed W1 W2) (moved : StreamBytes) → MayCome more old.input.reader → new.input.reader.ended ≡ old.input.reader.ended
        → StreamsMove (λ f. Some (left_of f)) out_contents err_contents old new moved
        → StreamsMove (λ b. Some b) out_contents err_contents (whole_host more old) (whole_host more new) moved
    moves old new moved may same m = record {
      input = consumed more moved.input old.input.reader new.input.reader same m.input;
      output = m.output;
      errors = m.errors;
      ended = m.ended;
      end = λ e. elim (m.end e) [
        | inl before ↦ inl before
        | inr none ↦ inr (none_left more old.input.reader new.input.reader may same none)
      ];
      pieces = m.pieces;
    }

module _ {D W1 W2 : Type 0} (honest : D → Type 0) (disk : D → Disk) (sectors_on failures : D → ℕ) (goes_on : ℕ → D → D → Type 0)
    (out_contents : W1 → Option (List ℕ)) (err_contents : W2 → Option (List ℕ)) (out : StreamCalls W1) (err : StreamCalls W2) where
  pub calls_of_the_whole : CallsOfTheWhole honest disk sectors_on failures goes_on out_contents err_contents out err
  calls_of_the_whole more old new memory memory' used host_call args answer may now c =
      let (was, run) = went old.input.failed old.input new.input refl now c.heard.input in
      let same = gives old.input.reader new.input.reader run in
      record {
        row = λ reaches. let (moved, move, row) = c.row reaches in (moved, moves more out_contents err_contents old new moved may same.ended move, row);
        volume = c.volume;
        settings = c.settings;
        io = λ e is io. has_failed more host_call new (c.io e is io);
        synced = c.synced;
        exits = λ status is. ap (λ h. whole_host more h) (c.exits status is);
        ends = c.ends;
        heard = record { input = heard more old new was now run; out = c.heard.out; err = c.heard.err };
      }

  -- a failure stays
  not_before : (old new : HostState D Fed W1 W2) (memory memory' : List ℕ) (used : ℕ) (host_call : HostCall) (args : List ℕ) (answer : Answer) → new.input.failed ≡ false
      → FedCalls honest disk sectors_on failures goes_on out_contents err_contents out err old memory used host_call args new memory' answer
      → (old.input.failed ≡ false) × (new.input.reader.ended ≡ old.input.reader.ended)
  not_before old new memory memory' used host_call args answer now c =
      let (was, run) = went old.input.failed old.input new.input refl now c.heard.input in
      (was, (gives old.input.reader new.input.reader run).ended)

  abbrev OverFed : CallsOf (HostState D Fed W1 W2)
  OverFed = FedCalls honest disk sectors_on failures goes_on out_contents err_contents out err

  abbrev OverWhole : CallsOf (HostState D (List ℕ) W1 W2)
  OverWhole = WholeCalls honest disk sectors_on failures goes_on out_contents err_contents out err

  module _ (i : Instance) where
    -- so in a step, which leaves the mark of the end
    pub step_before : (n : ℕ) (h h' : HostState D Fed W1 W2) (c d : Configuration) (ev : Event) → h'.input.failed ≡ false → Step (HostState D Fed W1 W2) OverFed i n h c ev h' d
        → (h.input.failed ≡ false) × (h'.input.reader.ended ≡ h.input.reader.ended)
    step_before n h _ _ _ _ now (plain_step r) = (now, refl)
    step_before n h _ _ _ _ now (free_step e) = (now, refl)
    step_before n h h' _ _ _ now (host_answers {call = k} {e = e} {s = s} {memory = memory} args vs callee all count calls) =
        not_before h h' s.memory memory s.used k (numbers (reverse args)) (value e) now calls
    step_before n h h' _ _ _ now (host_exits {status = status} {call = k} {s = s} {memory = memory} args vs callee all count calls) =
        not_before h h' s.memory memory s.used k (numbers (reverse args)) (exit status) now calls
    step_before n h h' _ _ _ now (in_label {s = s} {s' = s'} {f = f} {f' = f'} {c = c} {c' = c'} {ev = ev} inner) = step_before n h h' (at s f c) (at s' f' c') ev now inner
    step_before n h h' _ _ _ now (in_frame {s = s} {s' = s'} {g = g} {g' = g'} {c = c} {c' = c'} {ev = ev} inner) = step_before (suc n) h h' (at s g c) (at s' g' c') ev now inner

    pub step_whole : (more : List ℕ) (n : ℕ) (h h' : HostState D Fed W1 W2) (c d : Configuration) (ev : Event) → MayCome more h.input.reader → h'.input.failed ≡ false
        → Step (HostState D Fed W1 W2) OverFed i n h c ev h' d → Step (HostState D (List ℕ) W1 W2) OverWhole i n (whole_host more h) c ev (whole_host more h') d
    step_whole more n h _ _ _ _ may now (plain_step r) = plain_step r
    step_whole more n h _ _ _ _ may now (free_step e) = free_step e
    step_whole more n h h' _ _ _ may now (host_answers {call = k} {e = e} {s = s} {memory = memory} args vs callee all count calls) =
        host_answers args vs callee all count (calls_of_the_whole more h h' s.memory memory s.used k (numbers (reverse args)) (value e) may now calls)
    step_whole more n h h' _ _ _ may now (host_exits {status = status} {call = k} {s = s} {memory = memory} args vs callee all count calls) =
        host_exits args vs callee all count (calls_of_the_whole more h h' s.memory memory s.used k (numbers (reverse args)) (exit status) may now calls)
    step_whole more n h h' _ _ _ may now (in_label {s = s} {s' = s'} {f = f} {f' = f'} {c = c} {c' = c'} {ev = ev} inner) = in_label (step_whole more n h h' (at s f c) (at s' f' c') ev may now inner)
    step_whole more n h h' _ _ _ may now (in_frame {s = s} {s' = s'} {g = g} {g' = g'} {c = c} {c' = c'} {ev = ev} inner) = in_frame (step_whole more (suc n) h h' (at s g c) (at s' g' c') ev may now inner)

    pub reach_before : (h h' : HostState D Fed W1 W2) (c d : Configuration) (es : List (HostCall × Errno)) → h'.input.failed ≡ false → Reach (HostState D Fed W1 W2) OverFed i h c es h' d → h.input.failed ≡ false
    reach_before h _ c _ _ now halts = now
    reach_before h h' c d _ now (makes {h' = g} {c' = b} ev es first rest) = (step_before 0 h g c b ev (reach_before g h' b d es now rest) first).0

    pub reach_whole : (more : List ℕ) (h h' : HostState D Fed W1 W2) (c d : Configuration) (es : List (HostCall × Errno)) → MayCome more h.input.reader → h'.input.failed ≡ false
        → Reach (HostState D Fed W1 W2) OverFed i h c es h' d → Reach (HostState D (List ℕ) W1 W2) OverWhole i (whole_host more h) c es (whole_host more h') d
    reach_whole more h _ c _ _ may now halts = halts
    reach_whole more h h' c d _ may now (makes {h' = g} {c' = b} ev es first rest) =
        let between = reach_before g h' b d es now rest in
        let same = (step_before 0 h g c b ev between first).1 in
        makes ev es (step_whole more 0 h g c b ev may between first) (reach_whole more g h' b d es (λ ended. may (sym same ∙ ended)) now rest)

  pub runs_of_the_whole : RunsOfTheWhole honest disk sectors_on failures goes_on out_contents err_contents out err
  runs_of_the_whole more i h h' c d es may now run = reach_whole i more h h' c d es may now run
