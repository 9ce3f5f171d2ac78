use Rattle.sandbox_args.proofs.words.run_given.Goals as goal

pub returns : goal.returns
returns c = c.run_with.ensures c.in_ok-dirs.ensures c.in_ok-env.ensures c.in_ok-words.ensures
