use Rattle.std.proofs.Common.{Some, ◌∙◌, ap, inl, inr, refl, subst}
use Rattle.sandbox_telling.specs.Stopping.{AreLinesBy}
use Rattle.sandbox_telling.specs.internal.Runnable.{module_in}
use Rattle.sandbox_command.proofs.list_of_tests.tested.Goals as goal

pub returns-in-Ok : goal.returns-in-Ok
returns-in-Ok g c =
    let files = c.in-Ok.ensures in
    record {
      «module» = c.run_valid-runnable.ensures.«module»;
      tested = inr (record {
        prepared = c.prepare.new.places;
        asked_for = files.asked_for;
        input = c.in-Ok.field-0.streams.input;
        is_its_input = files.input;
        out = c.in-Ok.field-0.streams.out;
        is_its_output = files.out;
        err = c.in-Ok.field-0.streams.err;
        are_its_errors = files.err;
        device = c.in-Ok.field-0.device;
        new = files.new;
        of_image = files.of_image;
        left = c.run_valid-runnable.result.1;
        runs = c.run_valid-runnable.ensures.runs;
        answered = c.run_valid-runnable.ensures.answered;
        summary_is = refl;
        are_lines = subst (λ m. AreLinesBy c.args.files.«module».now m c.args.run.now.frames c.run_valid-runnable.result.1.stopped c.lines_of-frames.result.items) (c.«module».ensures ∙ ap module_in c.run_valid-runnable.ensures.«module») c.lines_of-frames.ensures;
        ended = c.end.ensures;
      });
    }

pub returns-in-Err : goal.returns-in-Err
returns-in-Err g c = record { «module» = refl; tested = inl (_, c.in-Err.ensures, ap Some c.unread.ensures, c.no_lines.ensures) }
