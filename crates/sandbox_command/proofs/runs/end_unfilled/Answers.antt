use Rattle.std.proofs.Common.{ℕ, List, Option, None, Some, subst, sym}
use Rattle.sandbox_report.specs.declared.summary.Summary.{Summary}
use Rattle.sandbox_command.specs.declared.closing.RunLeft.{RunLeft}
use Rattle.sandbox_telling.specs.declared.streams.Sink.{Sink as SinkValue}
use Rattle.sandbox_command.specs.Alone.{IsProfiled, file_of}
use Rattle.sandbox_command.specs.Archive.{unfilled}
use Rattle.sandbox_telling.specs.Sources.{sink_contents}
use Rattle.sandbox_runs.specs.Status.{import_status}
use Rattle.sandbox_telling.specs.Stopping.{AreLinesOfNone}
use Rattle.sandbox_telling.specs.Streams.{AppendsSome}
use Rattle.sandbox_args.specs.Request.{Text}
use Rattle.sandbox_runs.proofs.Charged.{untold}
use Rattle.sandbox_command.proofs.Ledgers.{its_file}
use Rattle.sandbox_telling.proofs.Lines.{lines_then}
use Rattle.sandbox_command.proofs.runs.end_unfilled.Goals as goal

pub unfilled-said-requires : goal.unfilled-said-requires
unfilled-said-requires g c = c.refuse_archive-status.ensures.status

pub profiled-ending-requires-clause-file : goal.profiled-ending-requires-clause-file
profiled-ending-requires-clause-file g c = its_file g.P.Places.is_output _ _ _ c.parted-stacks.ensures.file c.requires.profile

pub profiled-ending-requires-clause-told : goal.profiled-ending-requires-clause-told
profiled-ending-requires-clause-told g c = untold c.parted-stacks.result.1

pub returns : goal.returns
returns g c archive why =
    let run = c.args.run.now in
    let refusal = c.args.failure in
    let p = c.args.places.now in
    let profiled = c.profiled-ending.new.places in
    let ending = c.profiled-ending.result in
    let bytes = c.as_slice-module.result.now in
    let status = c.refuse_archive-status.result in
    let wired = c.args.wired in
    record {
      refusal = refusal;
      why = why;
      before = ending.status;
      summary = ending.summary;
      profiled = profiled;
      profiles =
          subst (λ (b : List ℕ). IsProfiled g.P.Places g.P.Output.Write b None run.profile (file_of wired.profile) (import_status refusal) (Some (unfilled run refusal)) p profiled ending.status ending.summary) c.as_slice-module.ensures.value
          (subst (λ (n : ℕ). IsProfiled g.P.Places g.P.Output.Write bytes None run.profile (file_of wired.profile) n (Some (unfilled run refusal)) p profiled ending.status ending.summary) c.refuse_archive-status.ensures.status
          (subst (λ (s : Summary). IsProfiled g.P.Places g.P.Output.Write bytes None run.profile (file_of wired.profile) status (Some s) p profiled ending.status ending.summary) c.unfilled-said.ensures
          (subst (λ (f : Option _). IsProfiled g.P.Places g.P.Output.Write bytes None run.profile f status (Some c.unfilled-said.result) p profiled ending.status ending.summary) c.parted-stacks.ensures.file
          c.profiled-ending.ensures.profile)));
      lines_of_none = c.as_slice-lines.result.now;
      are_lines = subst (λ (text : Text). AreLinesOfNone text) (sym c.as_slice-lines.ensures.value) c.no_lines-lines.ensures;
      told = c.told-status.new.places;
      tells = c.told-status.ensures.tells;
      own = c.told-status.new.err;
      lines = subst (λ (own : SinkValue _ _). AppendsSome (sink_contents g.P.Output.Write.contents g.W2.Write.contents own) (sink_contents g.P.Output.Write.contents g.W2.Write.contents c.told-status.new.err)) c.apart-own.ensures.own
          (lines_then _ _ _ c.refuse_archive-status.ensures.lines (lines_then _ _ _ c.profiled-ending.ensures.lines c.told-status.ensures.lines));
      ended = subst (λ (guest : Option (SinkValue _ _)). g.P.Places.ended {X = RunLeft _ _ _ _ _ _} (record {
        device = tt;
        input = wired.streams.input;
        out = wired.streams.out;
        guest = guest;
        own = c.told-status.new.err;
        spare_input = wired.spare.input;
        spare_out = wired.spare.out;
      }) c.told-status.new.places c.end.new.self) c.apart-own.ensures.guest c.end.ensures;
    }
