use Rattle.std.proofs.Common.{◌≡◌, ℕ, ◌+◌, ◌<◌, ◌∙◌, refl, sym, subst, arith, inl, inr}
use Rattle.std.specs.Prelude.{◌⊎◌}
use Rattle.wasm_interp.specs.declared.state.State.{State}
use Rattle.wasm_interp.specs.internal.Running.{CanBeAnswered}
use Rattle.wasm_interp.proofs.PlainSteps.Turns.{goes_none}
use Rattle.wasm_interp.proofs.PlainSteps.Pausing.{ended_stays, runs_on, runs_to}
use Rattle.wasm_interp.proofs.PlainSteps.Asking.{answers_of_run, left_of_run}
use Rattle.wasm_interp.proofs.state.State.go.Goals as goal

pub running-init : goal.running-init
running-init g c =
    record { goes = goes_none c.args.guest.now c.args.self.now; live = c.requires.live; units_left = omega arith; end_is = refl; same_host = refl; most = refl; runs = inr refl }

pub running-preserved : goal.running-preserved
running-preserved g c =
    runs_on _ g.H.Host.calls c.args.guest.now (c.args.self.now.used + c.args.units) c.args.units c.args.host.now c.args.self.now c.running.self c.running.host c.turn.new.host c.turn.new.self c.running.invariant c.in_default.ensures.continues c.turn.ensures.live c.in_default.ensures.runs c.turn.ensures.most

pub turn-requires : goal.turn-requires
turn-requires g c = record {
  live = c.running.invariant.live;
  units = c.running.invariant.units_left;
  awaited = λ between none. absurd (c.if-waits.ensures.no (inl (between, none)));
  unasked = λ a e. c.if-waits.ensures.no (inr (a, e));
}

-- it waits
pub returns-then-waits-clause-waits : goal.returns-then-waits-clause-waits
returns-then-waits-clause-waits g c =
    record { goes = c.running.invariant.goes; host = c.running.invariant.same_host; units_left = c.running.invariant.units_left; waits = c.if-waits.ensures.yes; left = left_of_run _ c.args.guest.now _ c.args.units _ _ _ _ c.running.invariant }

pub returns-then-waits-clause-answers : goal.returns-then-waits-clause-answers
returns-then-waits-clause-answers g c = answers_of_run _ c.args.guest.now _ c.args.units _ _ _ _ c.running.invariant c.requires.fits c.requires.answers

pub returns-then-waits-clause-most : goal.returns-then-waits-clause-most
returns-then-waits-clause-most g c = c.running.invariant.most

pub returns-then-waits-clause-rests : goal.returns-then-waits-clause-rests
returns-then-waits-clause-rests g c = λ o e. ended_stays _ c.args.guest.now (c.args.self.now.used + c.args.units) c.args.units c.args.host.now c.running.host c.args.self.now c.running.self c.running.self o e c.running.invariant (λ q f. refl)

pub returns-in-Some-clause-pauses : goal.returns-in-Some-clause-pauses
returns-in-Some-clause-pauses g c =
    runs_to _ g.H.Host.calls c.args.guest.now (c.args.self.now.used + c.args.units) c.args.units c.args.host.now c.args.self.now c.running.self c.running.host c.turn.new.host c.turn.new.self c.in-Some.pause c.running.invariant c.in-Some.ensures.continues

pub returns-in-Some-clause-answers : goal.returns-in-Some-clause-answers
returns-in-Some-clause-answers g c = λ a e. absurd (c.in-Some.ensures.continues.unasked a e)

pub returns-in-Some-clause-most : goal.returns-in-Some-clause-most
returns-in-Some-clause-most g c = c.turn.ensures.most ∙ c.running.invariant.most

pub returns-in-Some-clause-rests : goal.returns-in-Some-clause-rests
returns-in-Some-clause-rests g c = λ o e. ended_stays _ c.args.guest.now (c.args.self.now.used + c.args.units) c.args.units c.args.host.now c.running.host c.args.self.now c.running.self c.turn.new.self o e c.running.invariant c.turn.ensures.rests
