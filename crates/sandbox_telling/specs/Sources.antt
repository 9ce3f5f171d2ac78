-- What an execution reads and writes: the streams that the program was given, or files where a run names them. A stream
-- that it was given and that isn't the guest's is spared; the program's own lines go there on the side of errors.
use Rattle.std.specs.Prelude.{ℕ, List, Option, Some, None}
use Rattle.wasi_bodies.specs.host.Worlds.{Hearing, StreamCalls}
use Rattle.sandbox_telling.specs.declared.streams.InputSource.{InputSource}
use Rattle.sandbox_telling.specs.declared.streams.InputSource.TheVariants as source
use Rattle.sandbox_telling.specs.declared.streams.Sink.{Sink}
use Rattle.sandbox_telling.specs.declared.streams.Sink.TheVariants as sink

-- the bytes that reads will give, where they are known
abbrev pub source_remaining : {F R : Type 0} → (F → Option (List ℕ)) → (R → Option (List ℕ)) → InputSource F R → Option (List ℕ)
source_remaining of_file remaining (source.Given input) = remaining input
source_remaining of_file remaining (source.Opened file) = of_file file

-- the bytes that were written, where they are known
abbrev pub sink_contents : {F W : Type 0} → (F → Option (List ℕ)) → (W → Option (List ℕ)) → Sink F W → Option (List ℕ)
sink_contents of_file contents (sink.Given out) = contents out
sink_contents of_file contents (sink.Made file) = of_file file

-- one was flushed, or refused that, as the stream or the file in it was or did
abbrev pub sink_answered : {F W : Type 0} → (F → F → Type 0) → (W → W → Type 0) → Sink F W → Sink F W → Type 0
sink_answered of_file of_given (sink.Given before) (sink.Given after) = of_given before after
sink_answered of_file of_given (sink.Given before) (sink.Made after) = ⊥
sink_answered of_file of_given (sink.Made before) (sink.Given after) = ⊥
sink_answered of_file of_given (sink.Made before) (sink.Made after) = of_file before after

-- one gave bytes, or refused that, as the stream or the file in it did
abbrev pub source_answered : {F R : Type 0} → (F → F → Type 0) → (R → R → Type 0) → InputSource F R → InputSource F R → Type 0
source_answered of_file of_given (source.Given before) (source.Given after) = of_given before after
source_answered of_file of_given (source.Given before) (source.Opened after) = ⊥
source_answered of_file of_given (source.Opened before) (source.Given after) = ⊥
source_answered of_file of_given (source.Opened before) (source.Opened after) = of_file before after

-- what is told of the calls on one of them
abbrev pub source_calls : {F R : Type 0} → StreamCalls F → StreamCalls R → StreamCalls (InputSource F R)
source_calls of_file of_given = record {
  moved = λ before bytes after. source_answered (λ a b. of_file.moved a bytes b) (λ a b. of_given.moved a bytes b) before after;
  refused = source_answered of_file.refused of_given.refused;
}

abbrev pub sink_calls : {F W : Type 0} → StreamCalls F → StreamCalls W → StreamCalls (Sink F W)
sink_calls of_file of_given = record {
  moved = λ before bytes after. sink_answered (λ a b. of_file.moved a bytes b) (λ a b. of_given.moved a bytes b) before after;
  refused = sink_answered of_file.refused of_given.refused;
}

-- and on the three streams of a run, with files that it reads and writes
abbrev pub calls_of_run : {I O R W1 W2 : Type 0} → StreamCalls I → StreamCalls O → Hearing R W1 W2 → Hearing (InputSource I R) (Sink O W1) (Sink O W2)
calls_of_run reads writes given = record {
  input = source_calls reads given.input;
  out = sink_calls writes given.out;
  err = sink_calls writes given.err;
}

-- a guest reads the stream that the program was given, or a file where one is named
abbrev pub source_of : {F R : Type 0} → Option F → R → InputSource F R
source_of None input = source.Given input
source_of (Some file) input = source.Opened file

-- and writes to the stream that the program was given, or a file where one is named
abbrev pub sink_of : {F W : Type 0} → Option F → W → Sink F W
sink_of None out = sink.Given out
sink_of (Some file) out = sink.Made file

-- where there is a file, the stream that was given is spared
abbrev pub spare_of : {F S : Type 0} → Option F → S → Option S
spare_of None stream = None
spare_of (Some file) stream = Some stream

-- the program's own lines go to the guest's errors, or to the stream that was given where that is spared
abbrev pub own_of : {F W : Type 0} → Sink F W → Option W → Sink F W
own_of err None = err
own_of err (Some lines) = sink.Given lines

-- and then the guest's errors are in a file of their own
abbrev pub guest_of : {F W : Type 0} → Sink F W → Option W → Option (Sink F W)
guest_of err None = None
guest_of err (Some lines) = Some err
