use Rattle.std.proofs.Common.{◌≡◌, ◌<◌, ℕ, zero, suc, List, [], ◌∷◌, length, map, get_or, Option, None, inl, refl, sym, arith}
use Rattle.std.specs.Borrow.{Bor}
use Rattle.std.specs.List.{Contains}
use Rattle.std.proofs.lemmas.Grind.{common_steps}
use Rattle.sandbox_args.specs.Request.{Text, texts}
use Rattle.sandbox_telling.specs.Supplies.{split_at_equals}
use Rattle.sandbox_telling.proofs.supplies.preopens.Goals as goal

-- a word that isn't cut is one of them
uncut : (ws : List (Bor Text)) (i : ℕ) (d : Bor Text) → i < length ws → ◌≡◌ {A = Option (Text × Text)} None (split_at_equals (get_or ws i d).now) → Contains (map split_at_equals (texts ws)) None
uncut [] i d lt e = absurd (omega (arith, lt))
uncut (w ∷ ws) zero d lt e = (0, omega arith, sym e)
uncut (w ∷ ws) (suc i) d lt e = let later = uncut ws i d (omega (arith, lt)) e in (suc later.0, omega (arith, later.1), later.2)

-- this word has no `=`
pub returns-in_default-clause-refused : goal.returns-in_default-clause-refused
returns-in_default-clause-refused c = inl (refl, uncut c.args.words.now c.loop-word.word-index _ c.loop-word-test.true c.in_default.ensures)

pub loop-word-preserved : goal.loop-word-preserved
loop-word-preserved c = grind (arith, common_steps)

pub returns-clause-cut : goal.returns-clause-cut
returns-clause-cut c = grind (arith, common_steps)

pub returns-then-is_err-clause-refused : goal.returns-then-is_err-clause-refused
returns-then-is_err-clause-refused c = grind (arith, common_steps)
