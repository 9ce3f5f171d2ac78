-- What is heard of streams that a call leaves as they are.
use Rattle.std.proofs.Common.{◌≡◌, Bool, false, refl, sym, subst}
use Rattle.stream_answers.specs.Hearing.{Hears, Moves, Refuses, stays}
use Rattle.wasi_bodies.specs.declared.streams.Input.{Input}
use Rattle.wasi_bodies.specs.declared.streams.Output.{Output}
use Rattle.wasi_bodies.specs.host.Worlds.{Hearing, HearsInput, HearsOutput, HearsStreams, HostState, StreamCalls}

pub input_unheard : {R : Type 0} (calls : StreamCalls R) (i : Input R) → HearsInput calls i i
input_unheard calls i = (λ failed. refl, λ works. subst (λ (b : Bool). Hears (Moves calls.moved) calls.refused b i.reader i.reader) (sym works) stays)

pub output_unheard : {W : Type 0} (calls : StreamCalls W) (o : Output W) → HearsOutput calls o o
output_unheard calls o = (λ failed. refl, λ works. subst (λ (b : Bool). Hears (Moves calls.moved) (Refuses calls.moved calls.refused) b o.writer o.writer) (sym works) stays)

module _ {D R W1 W2 : Type 0} (ear : Hearing R W1 W2) (old new : HostState D R W1 W2) where
  pub unheard : new.input ≡ old.input → new.out ≡ old.out → new.err ≡ old.err → HearsStreams ear old new
  unheard input out err = record {
    input = subst (λ (i : Input R). HearsInput ear.input old.input i) (sym input) (input_unheard ear.input old.input);
    out = subst (λ (o : Output W1). HearsOutput ear.out old.out o) (sym out) (output_unheard ear.out old.out);
    err = subst (λ (o : Output W2). HearsOutput ear.err old.err o) (sym err) (output_unheard ear.err old.err);
  }
