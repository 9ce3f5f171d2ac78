use Rattle.std.proofs.Common.{◌≡◌, ◌<◌, ◌≤◌, ◌∙◌, ◌+◌, ◌-◌, ◌++◌, ◌∷◌, [], ℕ, List, length, drop, get_or, true, false, not, count_by, sym, ap, subst, arith, rules}
use Rattle.std.proofs.lemmas.List.{get_or_default, drop_all}
use Rattle.std.proofs.lemmas.Result.{IfOk-from_err}
use Rattle.vol_alloc.specs.internal.Numbers.{AreFree}
use Rattle.vol_alloc.proofs.Free.{free_none, counted_same, free_more, counted_more, above_more}
use Rattle.vol_alloc.proofs.sectors.free_ones.Goals as goal

pub loop-i-preserved-in-Continue-branch-2 : goal.loop-i-preserved-in-Continue-branch-2
loop-i-preserved-in-Continue-branch-2 c =
    let first = c.args.first in
    let taken = c.args.taken.now in
    let i = c.loop-i.i - 1 in
    let so_far = c.loop-i.invariant in
    let old = c.loop-i.free.items in
    let again : i + 1 ≡ c.loop-i.i = omega (arith, c.loop-i-test.true) in
    let lt : i < length taken = omega (arith, so_far.end) in
    let clear : get_or taken i true ≡ false = get_or_default taken i true false lt ∙ c.if-not-taken-i.true in
    let place : first + i - first ≡ i = omega arith in
    let items : c.push.new.self.items ≡ old ++ (first + i) ∷ [] = c.in_ok-push.ensures.items in
    record {
      end = omega arith;
      listed = subst (AreFree first taken) (sym items) (free_more first taken old (first + i) so_far.listed (omega arith) (omega arith) (ap (λ (q : ℕ). get_or taken q true) place ∙ clear) (λ k l same. absurd (omega (arith, so_far.above k l))));
      above = subst (λ (ns : List ℕ). (k : ℕ) → k < length ns → first + i ≤ get_or ns k 0) (sym items) (above_more old (first + i) (λ k l. omega (arith, so_far.above k l)));
      counted = omega (arith, c.in_ok-push.ensures.len, so_far.counted, counted_more taken i true lt clear, ap (λ (k : ℕ). count_by not (drop k taken)) again);
      reserved = search rules;
    }

pub loop-i-init : goal.loop-i-init
loop-i-init c =
    let made = c.in_ok-free.ensures in
    let taken = c.args.taken.now in
    record {
      end = omega arith;
      listed = free_none c.args.first taken c.in_ok-free.free.items made.items;
      above = λ k lt. absurd (omega (arith, lt, ap length made.items));
      counted = made.len ∙ sym (ap (count_by not) (drop_all (length taken) taken (omega arith)));
      reserved = made.capacity;
    }

pub loop-i-preserved : goal.loop-i-preserved
loop-i-preserved c =
    let taken = c.args.taken.now in
    let i = c.loop-i.i - 1 in
    let so_far = c.loop-i.invariant in
    let again : i + 1 ≡ c.loop-i.i = omega (arith, c.loop-i-test.true) in
    let lt : i < length taken = omega (arith, c.loop-i-test.true, so_far.end) in
    record {
      end = omega (arith, so_far.end);
      listed = so_far.listed;
      above = λ k below. omega (arith, so_far.above k below);
      counted = so_far.counted ∙ ap (λ (k : ℕ). count_by not (drop k taken)) (sym again) ∙ sym (counted_same taken i false lt c.if-not-taken-i.false);
      reserved = so_far.reserved;
    }

pub returns-in_err-free : goal.returns-in_err-free
returns-in_err-free c =
    let r = c.from_residual.result in
    let is_err_now = c.from_residual.ensures.0 in
    record { listed = IfOk-from_err r _ is_err_now; counted = IfOk-from_err r _ is_err_now; reserved = IfOk-from_err r _ is_err_now }

pub returns-in_err-push : goal.returns-in_err-push
returns-in_err-push c =
    let r = c.from_residual-in_err-push.result in
    let is_err_now = c.from_residual-in_err-push.ensures.0 in
    record { listed = IfOk-from_err r _ is_err_now; counted = IfOk-from_err r _ is_err_now; reserved = IfOk-from_err r _ is_err_now }

pub returns : goal.returns
returns c =
    let so_far = c.loop-i.invariant in
    let none : c.loop-i.i ≡ 0 = omega (arith, c.loop-i-test.false) in
    record {
      listed = so_far.listed;
      counted = so_far.counted ∙ ap (λ (k : ℕ). count_by not (drop k c.args.taken.now)) none;
      reserved = so_far.reserved;
    }
