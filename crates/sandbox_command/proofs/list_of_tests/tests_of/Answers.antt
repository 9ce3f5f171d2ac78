use Rattle.std.proofs.Common.{◌≡◌, ◌++◌, List, [], ◌∷◌, inl, inr, length, map, refl, sym, ◌∙◌, ap, subst, arith}
use Rattle.std.specs.Borrow.{Bor}
use Rattle.std.specs.List.{All}
use Rattle.std.specs.Str.Lines.{lines}
use Rattle.std.proofs.lemmas.List.{map-append}
use Rattle.std.proofs.lemmas.List.Elements.{All-push}
use Rattle.std.proofs.lemmas.Grind.{common_steps}
use Rattle.std.proofs.lemmas.Iterator.Consumers.{YieldsList-end, YieldsList-turn}
use Rattle.std.proofs.lemmas.Iterator.Splits.{YieldsList-from_lines}
use Rattle.sandbox_args.specs.Request.{Text}
use Rattle.sandbox_command.specs.ListOfTests.{IsTest, line_of}
use Rattle.sandbox_command.specs.declared.list_of_tests.TestFiles.{TestFiles}
use Rattle.sandbox_command.proofs.Words.{no_test_among}
use Rattle.sandbox_command.proofs.list_of_tests.tests_of.Goals as goal

-- one line more is one test more
one_more : (ts : List TestFiles) (t : TestFiles) (xs : List (Bor Text)) (x : Bor Text) → map line_of ts ≡ map (λ x. x.now) xs → line_of t ≡ x.now
    → map line_of (ts ++ (t ∷ [])) ≡ map (λ x. x.now) (xs ++ (x ∷ []))
one_more ts t xs x so_far here =
    map-append line_of ts (t ∷ []) ∙ (ap (λ l. l ++ (line_of t ∷ [])) so_far ∙ (ap (λ (w : Text). map (λ x. x.now) xs ++ (w ∷ [])) here ∙ sym (map-append (λ (x : Bor Text). x.now) xs (x ∷ []))))

pub loop-line-preserved : goal.loop-line-preserved
loop-line-preserved c =
    let e : c.push.new.self.items ≡ c.loop-line.tests.items ++ (c.in-Some-test_of.test ∷ []) = grind (arith, common_steps) in
    let is = c.in-Some-test_of.ensures in
    record {
      lines = subst (λ (l : List TestFiles). map line_of l ≡ map (λ x. x.now) (c.loop-line.yielded ++ (c.in-Some.line ∷ []))) (sym e)
          (one_more c.loop-line.tests.items c.in-Some-test_of.test c.loop-line.yielded c.in-Some.line c.loop-line.invariant.lines is.0);
      tests = subst (λ (l : List TestFiles). All IsTest l) (sym e) (All-push IsTest c.loop-line.tests.items c.in-Some-test_of.test c.loop-line.invariant.tests is.1);
    }

-- a line is no test
pub returns-in_default : goal.returns-in_default
returns-in_default c =
    let turn = YieldsList-turn (YieldsList-from_lines c.args.list.now cc) c.loop-line.yielded _ c.loop-line.yielded_by _ _ c.in-Some.line c.in-Some.is c.next.ensures.steps in
    record {
      tests = tt;
      refused = inl (refl, λ tests listed. no_test_among tests (length c.loop-line.yielded) c.in-Some.line.now (lines c.args.list.now) listed.0 turn.0 turn.1 listed.1 c.in_default.ensures);
    }

pub returns-then-is_err : goal.returns-then-is_err
returns-then-is_err c = record { tests = tt; refused = inr refl }

pub returns : goal.returns
returns c =
    let ended = YieldsList-end (YieldsList-from_lines c.args.list.now cc) c.loop-line.yielded _ c.loop-line.yielded_by _ _ c.in-None.is c.next.ensures.steps in
    record { tests = (c.loop-line.invariant.lines ∙ ended.0, c.loop-line.invariant.tests); refused = tt }
