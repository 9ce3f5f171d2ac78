use Rattle.std.proofs.Common.{◌≤◌, ◌^◌, List, length, leb, All, IsTrue, sym, subst}
use Rattle.std.proofs.lemmas.Bool.{leb-true, le-leb}
use Rattle.wasm_syntax.specs.declared.module.Limits.{Limits}
use Rattle.wasm_valid.specs.Validity.{LimitsFit}
use Rattle.wasm_valid.specs.internal.Rules.{LimitsHold}
use Rattle.wasm_valid.proofs.Refusals.{refused}
use Rattle.wasm_valid.proofs.validating.check_limits.Goals as goal

pub returns-in_err-rule : goal.returns-in_err-rule
returns-in_err-rule c =
    let tables = c.args.tables.now in
    refused c.from_residual.result c.in_err-rule.field-0.0 (IsTrue (leb (length tables) 1)) (LimitsHold c.args.module.now) c.from_residual.ensures.1 c.in_err-rule.ensures
    (λ fit. le-leb (length tables) 1 (subst (λ (ts : List Limits). length ts ≤ 1) (sym c.requires.tables) fit.one_table))

pub returns-in_err-rule-2 : goal.returns-in_err-rule-2
returns-in_err-rule-2 c =
    let memories = c.args.memories.now in
    refused c.from_residual-in_err-rule-2.result c.in_err-rule-2.field-0.0 (IsTrue (leb (length memories) 1)) (LimitsHold c.args.module.now) c.from_residual-in_err-rule-2.ensures.1 c.in_err-rule-2.ensures
    (λ fit. le-leb (length memories) 1 (subst (λ (ms : List Limits). length ms ≤ 1) (sym c.requires.memories) fit.one_memory))

pub returns-in_err-rule-3 : goal.returns-in_err-rule-3
returns-in_err-rule-3 c =
    refused c.from_residual-in_err-rule-3.result c.in_err-rule-3.field-0.0 (IsTrue c.all_limits_fit.result) (LimitsHold c.args.module.now) c.from_residual-in_err-rule-3.ensures.1 c.in_err-rule-3.ensures
    (λ fit. c.all_limits_fit.ensures.1 (subst (All (LimitsFit (2 ^ 32))) (sym c.requires.tables) fit.tables))

pub returns-in_err-rule-4 : goal.returns-in_err-rule-4
returns-in_err-rule-4 c =
    refused c.from_residual-in_err-rule-4.result c.in_err-rule-4.field-0.0 (IsTrue c.all_limits_fit-2.result) (LimitsHold c.args.module.now) c.from_residual-in_err-rule-4.ensures.1 c.in_err-rule-4.ensures
    (λ fit. c.all_limits_fit-2.ensures.1 (subst (All (LimitsFit 65536)) (sym c.requires.memories) fit.memories))

pub returns : goal.returns
returns c = record {
  one_table = subst (λ (ts : List Limits). length ts ≤ 1) c.requires.tables (leb-true _ _ c.in_ok-rule.ensures);
  one_memory = subst (λ (ms : List Limits). length ms ≤ 1) c.requires.memories (leb-true _ _ c.in_ok-rule-2.ensures);
  tables = subst (All (LimitsFit (2 ^ 32))) c.requires.tables (c.all_limits_fit.ensures.0 c.in_ok-rule-3.ensures);
  memories = subst (All (LimitsFit 65536)) c.requires.memories (c.all_limits_fit-2.ensures.0 c.in_ok-rule-4.ensures);
}
