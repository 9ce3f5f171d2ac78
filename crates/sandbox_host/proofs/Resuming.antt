-- What a host calls on a session is a list of resumes.
use Rattle.std.proofs.Common.{◌-◌, ◌^◌, min, List, [], ◌∷◌, refl}
use Rattle.wasm_syntax.specs.declared.module.Module.{Module}
use Rattle.wasm_operands.specs.Snapshots.{StandsFor}
use Rattle.sandbox_core.specs.Sessions.{used_by}
use Rattle.sandbox_core.specs.Headline as headline
use Rattle.sandbox_core.specs.Safety as safety
use Rattle.sandbox_host.specs.declared.numbers.Told.{Told}
use Rattle.sandbox_host.specs.declared.supplies.Supplies.{Supplies}
use Rattle.sandbox_host.specs.HostTypes.{State, known}
use Rattle.sandbox_host.specs.Begun.{ResumedBy, parts_of}
use Rattle.sandbox_host.specs.Headline.{HostUpholds, HostHeadline}
use Rattle.sandbox_host.proofs.Working.{works_of}

module _ (Stands : StandsFor) where
  -- the pauses of the calls
  gathered : (m : Module) (supplies : Supplies) (s s' : State) (rs : List (Told × State)) → ResumedBy Stands s rs s' → HostUpholds Stands m supplies s rs s'
  gathered m supplies s s' [] is = record { history = []; tells = tt; follow = is }
  gathered m supplies s s' (r ∷ rs) is =
      let one = is.0.1 in
      let more = gathered m supplies r.1 s' rs is.1 in
      record {
        history = (one.pause, r.1) ∷ more.history;
        tells = (one.tells, refl, more.tells);
        follow = ((min is.0.0 (2 ^ 64 - 1 - used_by s), one.resumes), more.follow);
      }

  pub host_headline : headline.Headline Stands known
      → safety.TurnsAreSafe known → HostHeadline Stands
  host_headline upholds safe m supplies origin s s' rs begins resumed =
      let parts = parts_of supplies begins.volume begins.out begins.err in
      let all = gathered m supplies s s' rs resumed in
      let lasts = (works_of origin begins.volume begins.is_volume).lasts in
      (all, upholds m parts (begins.volume.tree ∷ []) 0 s s' all.history begins.opens begins.shares tt (safe.opened begins.volume tt lasts) all.follow)
