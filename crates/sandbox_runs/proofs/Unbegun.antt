-- The report of a run that could not begin.
use Rattle.std.proofs.Common.{◌≡◌, ℕ, ap, ◌∙◌}
use Rattle.sandbox_report.specs.declared.fault.Fault.{Fault}
use Rattle.sandbox_report.specs.declared.summary.VolumeEnd.{VolumeEnd}
use Rattle.sandbox_args.specs.declared.request.Run.{Run}
use Rattle.sandbox_telling.specs.Reporting.{not_run}

-- by equal parts
pub not_run_so : (run : Run) (fault reason : Fault) (kept became : VolumeEnd) (n status : ℕ) → fault ≡ reason → kept ≡ became → n ≡ status → not_run run fault kept n ≡ not_run run reason became status
not_run_so run fault reason kept became n status first second third =
    ap (λ (f : Fault). not_run run f kept n) first ∙ ap (λ (k : VolumeEnd). not_run run reason k n) second ∙ ap (λ (s : ℕ). not_run run reason became s) third
