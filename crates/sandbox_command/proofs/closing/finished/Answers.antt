use Rattle.std.proofs.Common.{Option, ap, subst}
use Rattle.sandbox_telling.specs.declared.streams.Sink.{Sink as SinkValue}
use Rattle.sandbox_telling.specs.Sources.{sink_contents}
use Rattle.sandbox_telling.specs.Streams.{AppendsSome}
use Rattle.sandbox_telling.proofs.Lines.{lines_then}
use Rattle.sandbox_command.proofs.closing.finished.Goals as goal

-- the lines go where the program's own lines go
pub returns-clause-left : goal.returns-clause-left
returns-clause-left g c = (
  c.tell_frames.new.err,
  subst (λ (own : SinkValue _ _). AppendsSome (sink_contents g.O.Write.contents g.W2.Write.contents own) (sink_contents g.O.Write.contents g.W2.Write.contents c.tell_frames.new.err))
      c.apart-own.ensures.own (lines_then _ _ _ c.tell_ending.ensures c.tell_frames.ensures),
  ap (λ (guest : Option (SinkValue _ _)). record {
    device = c.args.ended.device;
    input = c.args.ended.input;
    out = c.args.ended.out;
    guest = guest;
    own = c.tell_frames.new.err;
    spare_input = c.args.spare.input;
    spare_out = c.args.spare.out;
  }) c.apart-own.ensures.guest,
)
