use Rattle.std.proofs.Common.{◌≡◌, map}
use Rattle.std.specs.List.{All}
use Rattle.sandbox_command.specs.ListOfTests.{IsTest, line_of}
use Rattle.sandbox_command.proofs.list_of_tests.tests_of.Given as goal

-- the tests so far
abbrev pub invariant-loop-line : goal.invariant-loop-line
invariant-loop-line l = record {
  lines : map line_of l.tests.items ≡ map (λ x. x.now) l.yielded;
  tests : All IsTest l.tests.items;
}
