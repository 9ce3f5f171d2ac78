-- What is heard of streams in one call after another, and so in a run.
use Rattle.std.proofs.Common.{◌≡◌, ◌⊎◌, inl, inr, ℕ, Bool, true, false, List, refl, sym, ap, ◌∙◌, subst}
use Rattle.stream_answers.specs.Hearing.{Goes, Hears, Moves, Refuses}
use Rattle.stream_answers.proofs.Hearing.{then}
use Rattle.wasm_store.specs.declared.call.HostCall.{HostCall}
use Rattle.wasm_store.specs.declared.call.Errno.{Errno}
use Rattle.wasm_store.specs.declared.call.Answer.{Answer}
use Rattle.wasm_steps.specs.Configuration.{Instance, Configuration}
use Rattle.wasm_steps.specs.Steps.{CallsOf, Event, Step, plain_step, free_step, host_answers, host_exits, in_label, in_frame, Reach, stays, goes}
use Rattle.wasi_bodies.specs.declared.streams.Input.{Input}
use Rattle.wasi_bodies.specs.declared.streams.Output.{Output}
use Rattle.wasi_bodies.specs.host.Worlds.{Hearing, HearsInput, HearsOutput, HearsStreams, HostState, StreamCalls}
use Rattle.wasi_calls.specs.laws.Streams.{RunsHear}
use Rattle.wasi_calls.proofs.bodies.StreamsHeard.{unheard}
use Rattle.wasi_bodies.proofs.streams.ReaderBytes.{ended_or}

-- calls that went well, and then these
hears_then : {S : Type 0} (went refused : S → S → Type 0) (failed : Bool) (a b c : S) → Goes went a b → Hears went refused failed b c → Hears went refused failed a c
hears_then went refused false a b c first next = then first next
hears_then went refused true a b c first next = (next.0, then first next.1, next.2)

input_then : {R : Type 0} (calls : StreamCalls R) (a b c : Input R) → HearsInput calls a b → HearsInput calls b c → HearsInput calls a c
input_then {R} calls a b c first next = (
  λ failed. let same = first.0 failed in next.0 (ap (λ (i : Input R). i.failed) same ∙ failed) ∙ same,
  λ works. elim (ended_or b.failed) [
    | inl is ↦ subst (λ (i : Input R). Hears (Moves calls.moved) calls.refused i.failed a.reader i.reader) (sym (next.0 is)) (first.1 works)
    | inr not ↦ hears_then (Moves calls.moved) calls.refused c.failed a.reader b.reader c.reader
        (subst (λ (f : Bool). Hears (Moves calls.moved) calls.refused f a.reader b.reader) not (first.1 works)) (next.1 not)
  ],
)

output_then : {W : Type 0} (calls : StreamCalls W) (a b c : Output W) → HearsOutput calls a b → HearsOutput calls b c → HearsOutput calls a c
output_then {W} calls a b c first next = (
  λ failed. let same = first.0 failed in next.0 (ap (λ (o : Output W). o.failed) same ∙ failed) ∙ same,
  λ works. elim (ended_or b.failed) [
    | inl is ↦ subst (λ (o : Output W). Hears (Moves calls.moved) (Refuses calls.moved calls.refused) o.failed a.writer o.writer) (sym (next.0 is)) (first.1 works)
    | inr not ↦ hears_then (Moves calls.moved) (Refuses calls.moved calls.refused) c.failed a.writer b.writer c.writer
        (subst (λ (f : Bool). Hears (Moves calls.moved) (Refuses calls.moved calls.refused) f a.writer b.writer) not (first.1 works)) (next.1 not)
  ],
)

module _ {D R W1 W2 : Type 0} (ear : Hearing R W1 W2) where
  pub streams_then : (a b c : HostState D R W1 W2) → HearsStreams ear a b → HearsStreams ear b c → HearsStreams ear a c
  streams_then a b c first next = record {
    input = input_then ear.input a.input b.input c.input first.input next.input;
    out = output_then ear.out a.out b.out c.out first.out next.out;
    err = output_then ear.err a.err b.err c.err first.err next.err;
  }

  module _ (CallsH : CallsOf (HostState D R W1 W2))
      (hears : (h : HostState D R W1 W2) (m : List ℕ) (used : ℕ) (x : HostCall) (args : List ℕ) (h' : HostState D R W1 W2) (m' : List ℕ) (answer : Answer)
      → CallsH h m used x args h' m' answer → HearsStreams ear h h') where
    step_hears : (i : Instance) (n : ℕ) (h : HostState D R W1 W2) (c : Configuration) (ev : Event) (h' : HostState D R W1 W2) (c' : Configuration)
        → Step (HostState D R W1 W2) CallsH i n h c ev h' c' → HearsStreams ear h h'
    step_hears i n h c ev h' c' (plain_step r) = unheard ear h h refl refl refl
    step_hears i n h c ev h' c' (free_step r) = unheard ear h h refl refl refl
    step_hears i n h c ev h' c' (host_answers {call = x} args vs callee all count a) = hears h _ _ x _ h' _ _ a
    step_hears i n h c ev h' c' (host_exits {call = x} args vs callee all count a) = hears h _ _ x _ h' _ _ a
    step_hears i n h c ev h' c' (in_label s) = step_hears i n h _ ev h' _ s
    step_hears i n h c ev h' c' (in_frame s) = step_hears i _ h _ ev h' _ s

    reach_hears : (i : Instance) (h : HostState D R W1 W2) (c : Configuration) (answers : List (HostCall × Errno)) (h' : HostState D R W1 W2) (c' : Configuration)
        → Reach (HostState D R W1 W2) CallsH i h c answers h' c' → HearsStreams ear h h'
    reach_hears i h c answers h' c' stays = unheard ear h h refl refl refl
    reach_hears i h c answers h' c' (goes {h' = g} {c' = d} ev later s r) = streams_then h g h' (step_hears i 0 h c ev g d s) (reach_hears i g d later h' c' r)

    pub runs_hear : RunsHear ear CallsH
    runs_hear i h h' c c' answers reach = reach_hears i h c answers h' c' reach
