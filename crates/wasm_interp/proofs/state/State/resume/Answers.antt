use Rattle.std.proofs.Common.{◌+◌, ◌∙◌, refl, arith, inr}
use Rattle.wasm_interp.proofs.PlainSteps.Asking.{hosts_answer}
use Rattle.wasm_interp.proofs.PlainSteps.Turns.{goes_none}
use Rattle.wasm_interp.proofs.PlainSteps.Pausing.{ended_stays, runs_on, runs_to}
use Rattle.wasm_interp.proofs.state.State.resume.Goals as goal

pub running-init : goal.running-init
running-init g c =
    record { goes = goes_none c.args.guest.now c.args.self.now; live = c.requires.live; units_left = omega arith; end_is = refl; same_host = refl; most = refl; runs = inr refl }

pub running-preserved : goal.running-preserved
running-preserved g c =
    runs_on _ g.H.Host.calls c.args.guest.now (c.args.self.now.used + c.args.units) c.args.units c.args.host.now c.args.self.now c.running.self c.running.host c.turn.new.host c.turn.new.self c.running.invariant c.in_default.ensures.continues c.turn.ensures.live c.in_default.ensures.runs c.turn.ensures.most

pub turn-requires : goal.turn-requires
turn-requires g c = record { live = c.running.invariant.live; units = c.running.invariant.units_left; awaited = λ between none. c.running.invariant.goes.1.invoked ∙ c.requires.command; unasked = hosts_answer c.args.guest.now c.running.self c.running.invariant.live c.requires.hosted }

pub returns-in-Some-clause-pauses : goal.returns-in-Some-clause-pauses
returns-in-Some-clause-pauses g c =
    runs_to _ g.H.Host.calls c.args.guest.now (c.args.self.now.used + c.args.units) c.args.units c.args.host.now c.args.self.now c.running.self c.running.host c.turn.new.host c.turn.new.self c.in-Some.pause c.running.invariant c.in-Some.ensures.continues

pub returns-in-Some-clause-most : goal.returns-in-Some-clause-most
returns-in-Some-clause-most g c = c.turn.ensures.most ∙ c.running.invariant.most

-- a machine that has ended was turned at once
pub returns-in-Some-clause-rests : goal.returns-in-Some-clause-rests
returns-in-Some-clause-rests g c = λ o e. ended_stays _ c.args.guest.now (c.args.self.now.used + c.args.units) c.args.units c.args.host.now c.running.host c.args.self.now c.running.self c.turn.new.self o e c.running.invariant c.turn.ensures.rests
