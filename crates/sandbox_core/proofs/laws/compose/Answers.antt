use Rattle.wasm_interp.specs.Machine.{Represents}
use Rattle.sandbox_core.proofs.Reaching.{pauses_compose, resumes_compose}
use Rattle.sandbox_core.proofs.laws.compose.Goals as goal

-- by induction on the list of pauses
pub returns : goal.returns
returns g c = record {
  pauses = λ i ps h h' d d' follow. pauses_compose _ g.H.Host.calls i ps h h' d d' follow;
  resumes = λ i ps h h' s s' d stands follow used. resumes_compose _ g.H.Host.calls i Represents ps h h' s s' d stands follow used;
}
