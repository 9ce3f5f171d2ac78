use Rattle.std.proofs.Common.{◌≡◌, ◌≤◌, ◌-◌, ◌∙◌, ℕ, List, ◌++◌, length, min, take, drop, refl, sym, ap, subst, arith, drop-drop, length-take-le, length-drop}
use Rattle.std.proofs.lemmas.List.{take-append-drop}
use Rattle.std.proofs.Math.Nat.{min-le_left}
use Rattle.std.proofs.Math.Seq.{take-append_seam, take-length}
use Rattle.fed_input.proofs.fed.FedInput.give.Goals as goal

-- a slice to its end is all that is left
rest : (read : ℕ) (xs : List ℕ) → take (length xs - read) (drop read xs) ≡ drop read xs
rest read xs = subst (λ (k : ℕ). take k (drop read xs) ≡ drop read xs) (length-drop read xs) (take-length (drop read xs))

pub returns-clause-gave : goal.returns-clause-gave
returns-clause-gave c =
    let n : ℕ = c.min-count.result in
    let read : ℕ = c.self.inside.read in
    let seen : List ℕ = c.as_slice.result.now in
    let left : List ℕ = drop read c.self.inside.bytes.items in
    let given : List ℕ = c.copy_from_slice.new.self in
    let whole : take (length seen - read) (drop read seen) ≡ left = rest read seen ∙ ap (λ (xs : List ℕ). drop read xs) c.as_slice.ensures.value in
    let copied : given ≡ take n left = c.copy_from_slice.ensures.after ∙ ap (λ (xs : List ℕ). take n xs) whole in
    let there : n ≤ length left = grind (arith, c.min-count.ensures, ap length whole, min-le_left (length (take (length seen - read) (drop read seen))) (length c.args.buf.now)) in
    let long : length given ≡ n = ap length copied ∙ length-take-le n left there in
    let front : take n (given ++ drop n c.args.buf.now) ≡ given = subst (λ (k : ℕ). take k (given ++ drop n c.args.buf.now) ≡ given) long (take-append_seam given (drop n c.args.buf.now)) in
    rw (← c.self.view_is) (record {
      given = sym (take-append-drop n left) ∙ ap (λ (xs : List ℕ). xs ++ drop n left) (sym copied ∙ sym front) ∙ ap (λ (xs : List ℕ). take n (given ++ drop n c.args.buf.now) ++ xs) (drop-drop n read c.self.inside.bytes.items);
      ended = refl;
    })
