use Rattle.std.proofs.Common.{rules, sym, ◌∙◌}
use Rattle.wasm_interp.specs.Frames.{frames_of}
use Rattle.observed_run.proofs.Functions.{read_one, read_all}
use Rattle.observed_run.proofs.slices.read_functions.Goals as goal

-- one more
pub loop-index-preserved : goal.loop-index-preserved
loop-index-preserved g c =
    read_one (frames_of (g.S.Resumable.state c.args.session.now).machine) _ _ _ _ _ c.loop-index.invariant (sym c.frame.ensures ∙ c.in-Some.is) c.push.ensures.items (search rules)

-- all of them
pub returns-in-None : goal.returns-in-None
returns-in-None g c = read_all (frames_of (g.S.Resumable.state c.args.session.now).machine) _ _ c.loop-index.invariant (sym c.frame.ensures ∙ c.in-None.is)
