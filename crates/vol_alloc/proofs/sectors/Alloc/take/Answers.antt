use Rattle.std.proofs.Common.{◌≡◌, ◌∙◌, ◌<◌, ◌+◌, ◌-◌, ◌++◌, ◌∷◌, [], ℕ, Option, length, get_or, true, false, sym, ap, subst, refl, arith, rules}
use Rattle.std.specs.Option.{option_to_list}
use Rattle.std.proofs.lemmas.List.{length_push, get_or_push}
use Rattle.std.proofs.lemmas.Grind.{common_steps}
use Rattle.vol_alloc.specs.internal.Numbers.{AreFree}
use Rattle.vol_alloc.proofs.Free.{free_taken, flagged}
use Rattle.vol_alloc.proofs.sectors.Alloc.take.Goals as goal

pub invariant_of-self : goal.invariant_of-self
invariant_of-self c =
    let self = c.args.self.now in
    let n = c.unwrap-n.result in
    let rest = c.pop.new.self.items in
    let before : self.free.items ≡ rest ++ n ∷ [] = c.pop.ensures.items ∙ ap (λ (o : Option ℕ). rest ++ option_to_list o) c.unwrap-n.ensures in
    let old : AreFree self.first self.taken.items (rest ++ n ∷ []) = subst (AreFree self.first self.taken.items) before self.listed in
    let last : length rest < length (rest ++ n ∷ []) = omega (arith, length_push rest n) in
    let same : get_or (rest ++ n ∷ []) (length rest) 0 ≡ n = get_or_push rest n 0 (length rest) refl in
    let there : n - self.first < length self.taken.items = omega (arith, old.there (length rest) last, same) in
    let clear : get_or self.taken.items (n - self.first) true ≡ false = ap (λ (k : ℕ). get_or self.taken.items (k - self.first) true) (sym same) ∙ old.free (length rest) last in
    record {
      size = self.size;
      few = self.few;
      listed = free_taken self.first self.taken.items rest n old;
      counted = omega (arith, flagged self.taken.items (n - self.first) true there clear, self.counted, c.pop.ensures.len, ap length before, length_push rest n, c.pop.new.self.ok.0, self.free.ok.0);
      reserved = search rules;
    }

pub returns-clause-below : goal.returns-clause-below
returns-clause-below c = grind (arith, common_steps)
