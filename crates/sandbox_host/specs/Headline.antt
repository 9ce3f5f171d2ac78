-- The headline over what a host in C calls: one `resume` after another on a session that was opened. The law
-- `host_headline` says that these calls are resumes of `sandbox_core`, told by their numbers, and that its headline
-- holds of them.
use Rattle.std.specs.Prelude.{◌≡◌, List, [], ◌∷◌}
use Rattle.wasm_syntax.specs.declared.module.Module.{Module}
use Rattle.wasm_operands.specs.Snapshots.{StandsFor}
use Rattle.sandbox_core.specs.Sessions.{History, used_by}
use Rattle.sandbox_core.specs.Sessions as core
use Rattle.sandbox_core.specs.Headline as headline
use Rattle.sandbox_host.specs.declared.numbers.Told.{Told}
use Rattle.sandbox_host.specs.declared.supplies.Supplies.{Supplies}
use Rattle.sandbox_host.specs.declared.volumes.Origin.{Origin}
use Rattle.sandbox_host.specs.Telling.{told_pause}
use Rattle.sandbox_host.specs.Supplies.{most_pages}
use Rattle.sandbox_host.specs.HostTypes.{State, known}
use Rattle.sandbox_host.specs.Begun.{BeginsBy, ResumedBy}

-- these pauses of the session were told by these numbers, one after another
abbrev pub TellAll : History State → List (Told × State) → Type 0
TellAll [] [] = Unit {0}
TellAll [] (r ∷ rs) = ⊥
TellAll (h ∷ hs) [] = ⊥
TellAll (h ∷ hs) (r ∷ rs) = (r.0 ≡ told_pause h.0 (used_by h.1)) × (r.1 ≡ h.1) × TellAll hs rs

-- By whichever relation machines stand for configurations.
module _ (Stands : StandsFor) where
  -- The calls are resumes of the session, told by these numbers, and all that the headline says of them holds.
  pub record HostUpholds (m : Module) (supplies : Supplies) (s : State) (rs : List (Told × State)) (s' : State) : Type 0 where
    pub history : History State
    pub tells : TellAll history rs
    pub follow : core.FollowBy Stands known s history s'

  -- Whatever is called on a session that begins.
  abbrev pub HostHeadline : Type 0
  HostHeadline = (m : Module) (supplies : Supplies) (origin : Origin) (s s' : State) (rs : List (Told × State))
      → (begins : BeginsBy Stands m supplies origin s) → ResumedBy Stands s rs s'
      → (all : HostUpholds m supplies s rs s')
      × headline.Upholds Stands known m (most_pages supplies.limits) (begins.volume.tree ∷ []) 0 s all.history s'
