use Rattle.std.proofs.Common.{ℕ, inl, inr, replicate, arith, rules}
use Rattle.std.proofs.lemmas.Bool.{cases_lt}
use Rattle.std.proofs.lemmas.List.{get_or-replicate, length-replicate, get_or_past}
use Rattle.vol_body.proofs.shrinking.kept_pointers.Goals as goal

pub loop-j-init : goal.loop-j-init
loop-j-init c = record {
  long = length-replicate {A = ℕ} 61 0;
  beyond = λ k le. elim (cases_lt k 61) [
    | inl lt ↦ get_or-replicate 61 k 0 0 lt
    | inr past ↦ get_or_past (replicate 61 0) k 0 (omega (arith, length-replicate {A = ℕ} 61 0))
  ];
  kept = λ k lt. absurd (omega (arith, lt));
}

pub loop-j-preserved : goal.loop-j-preserved
loop-j-preserved c = search rules
