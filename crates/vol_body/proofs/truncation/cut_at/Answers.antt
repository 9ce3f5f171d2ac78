use Rattle.std.proofs.Common.{◌∙◌, ◌++◌, ℕ, List, ap, replicate, drop, take}
use Rattle.std.proofs.lemmas.List.{drop-replicate}
use Rattle.vol_body.proofs.truncation.cut_at.Goals as goal

pub returns : goal.returns
returns c = ap (λ (l : List ℕ). l ++ drop c.args.kept (replicate 512 0)) c.copy_from_slice.ensures.after ∙ ap (λ (l : List ℕ). take c.args.kept c.args.image.now ++ l) (drop-replicate c.args.kept 512 0)
