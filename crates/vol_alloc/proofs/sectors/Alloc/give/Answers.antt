use Rattle.std.proofs.Common.{◌≡◌, ◌≢◌, ◌<◌, ◌∙◌, ◌-◌, ℕ, length, get_or, set, true, false, sym, ap, subst, arith, rules}
use Rattle.std.proofs.lemmas.Bool.{false≢true}
use Rattle.std.proofs.lemmas.List.{get_or-set_same, get_or_default, length-set}
use Rattle.std.proofs.lemmas.Grind.{common_steps}
use Rattle.vol_alloc.specs.internal.Numbers.{AreFree}
use Rattle.vol_alloc.proofs.Free.{taken_there, flag_there, free_more, free_cleared, cleared, some_taken}
use Rattle.vol_alloc.proofs.sectors.Alloc.give.Goals as goal

pub invariant_of-self : goal.invariant_of-self
invariant_of-self c =
    let self = c.args.self.now in
    let taken = self.taken.items in
    let i = c.args.n - self.first in
    let is = taken_there self.first c.args.n taken c.requires in
    let there : i < length taken = flag_there taken i is.1 in
    let flag : get_or taken i true ≡ true = get_or_default taken i true false there ∙ is.1 in
    let new : (k : ℕ) → k < length self.free.items → get_or self.free.items k 0 ≢ c.args.n = λ k lt same.
    false≢true (sym (self.listed.free k lt) ∙ (ap (λ (x : ℕ). get_or taken (x - self.first) true) same ∙ flag)) in
    record {
      size = self.size;
      few = self.few;
      listed = subst (AreFree self.first (set taken i false)) (sym c.in-Ok.ensures.items)
          (free_more self.first (set taken i false) self.free.items c.args.n (free_cleared self.first taken self.free.items i self.listed) is.0
          (omega (arith, length-set taken i false)) (get_or-set_same taken i false true there) new);
      counted = omega (arith, cleared taken i false there is.1, self.counted, c.in-Ok.ensures.len);
      reserved = search rules;
    }

pub returns-in-Err-clause-taken : goal.returns-in-Err-clause-taken
returns-in-Err-clause-taken c k =
    let self = c.args.self.now in
    let taken = self.taken.items in
    let i = c.args.n - self.first in
    let is = taken_there self.first c.args.n taken c.requires in
    absurd (omega (arith, c.in-Err.ensures.full, some_taken taken i false (flag_there taken i is.1) is.1, self.counted, self.reserved, self.taken.ok.0))

pub returns-in-Err-clause-count : goal.returns-in-Err-clause-count
returns-in-Err-clause-count c =
    let self = c.args.self.now in
    let taken = self.taken.items in
    let i = c.args.n - self.first in
    let is = taken_there self.first c.args.n taken c.requires in
    absurd (omega (arith, c.in-Err.ensures.full, some_taken taken i false (flag_there taken i is.1) is.1, self.counted, self.reserved, self.taken.ok.0))

pub index_mut-requires : goal.index_mut-requires
index_mut-requires c = grind (arith, common_steps)
