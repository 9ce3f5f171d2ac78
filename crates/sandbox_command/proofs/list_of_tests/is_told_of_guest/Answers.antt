use Rattle.std.proofs.Common.{◌≡◌, ◌++◌, ℕ, List, Option, Bool, false, Result, Ok, Err, IfErr, OnOk, is_ok, inl, inr, sym, subst}
use Rattle.std.specs.IoError.{error_kind}
use Rattle.std.specs.Io.KnownBytes.{Appends}
use Rattle.std.specs.declared.io.Error.{Error}
use Rattle.std.specs.declared.io.ErrorKind.{ErrorKind}
use Rattle.wasm_steps.specs.declared.pause.Outcome.{Outcome}
use Rattle.sandbox_report.specs.declared.end.End.TheVariants.{Ran, Refused}
use Rattle.sandbox_report.specs.declared.fault.Fault.{Fault}
use Rattle.sandbox_report.specs.declared.summary.Summary.{Summary}
use Rattle.sandbox_report.specs.Reporting.{report_text}
use Rattle.sandbox_args.specs.Request.{Text}
use Rattle.sandbox_places.specs.Places.{Access, Prints}
use Rattle.sandbox_command.specs.internal.Tests.{IsToldAs}
use Rattle.sandbox_command.proofs.list_of_tests.is_told_of_guest.Goals as goal

module _ {P : Type 0} (refuses : Access → ErrorKind → P → P → Type 0) (prints : Text → Text → P → P → Type 0) (name : Text) (summary : Summary) (frames : Text) (p q : P) (before after : Option (List ℕ))
    (r : Result (Unit {0}) Error) (refused : IfErr r (λ e. refuses (Prints name) (error_kind e) p q)) (printed : OnOk r (prints name (report_text summary ++ frames) p q)) (tells : OnOk r (Appends before after (report_text summary ++ frames))) where
  told_of_guest : (is_printed : Bool) (outcome : Outcome) → is_printed ≡ is_ok r → summary.end ≡ Ran outcome → IsToldAs refuses prints is_printed name summary frames p q before after
  told_of_guest is_printed outcome same ran = subst (λ (b : Bool). IsToldAs refuses prints b name summary frames p q before after) (sym same) (by r refused printed tells)
    where
      by : (s : Result (Unit {0}) Error) → IfErr s (λ e. refuses (Prints name) (error_kind e) p q) → OnOk s (prints name (report_text summary ++ frames) p q) → OnOk s (Appends before after (report_text summary ++ frames)) → IsToldAs refuses prints (is_ok s) name summary frames p q before after
      by (Ok x) refused printed tells = ((outcome, ran), printed, tells)
      by (Err e) refused printed tells = inl (error_kind e, refused)

  told_of_none : (fault : Fault) → summary.end ≡ Refused fault → IsToldAs refuses prints false name summary frames p q before after
  told_of_none fault is = by r refused printed
    where
      by : (s : Result (Unit {0}) Error) → IfErr s (λ e. refuses (Prints name) (error_kind e) p q) → OnOk s (prints name (report_text summary ++ frames) p q) → IsToldAs refuses prints false name summary frames p q before after
      by (Ok x) refused printed = inr (fault, is, printed)
      by (Err e) refused printed = inl (error_kind e, refused)

pub returns-in-Ran : goal.returns-in-Ran
returns-in-Ran g c = record {
  printed = c.print.new.self;
  asked_for = c.print.ensures.asked;
  left = c.print.new.file;
  told = told_of_guest g.P.Places.refused g.P.Places.printed c.args.name.now c.args.summary.now c.args.frames.now _ _ _ _ c.print.result c.print.ensures.refused c.print.ensures.printed c.print.ensures.tells
      c.is_ok-is_printed.result c.in-Ran.field-0 c.is_ok-is_printed.ensures.value c.in-Ran.is;
  ended = c.end.ensures;
}

pub returns-in-Refused : goal.returns-in-Refused
returns-in-Refused g c = record {
  printed = c.print.new.self;
  asked_for = c.print.ensures.asked;
  left = c.print.new.file;
  told = told_of_none g.P.Places.refused g.P.Places.printed c.args.name.now c.args.summary.now c.args.frames.now _ _ _ _ c.print.result c.print.ensures.refused c.print.ensures.printed c.print.ensures.tells
      c.in-Refused.field-0 c.in-Refused.is;
  ended = c.end.ensures;
}
