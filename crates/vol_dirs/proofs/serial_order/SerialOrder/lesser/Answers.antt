use Rattle.std.proofs.Common.{◌≡◌, ◌<◌, ◌≤◌, ◌*◌, ◌-◌, inl, inr, ℕ, List, [], get_or, refl, sym, ◌∙◌, ap, arith}
use Rattle.std.specs.Prelude.{vec_len}
use Rattle.std.specs.List.{Contains}
use Rattle.std.proofs.lemmas.List.{get_or_default}
use Rattle.vol_dirs.specs.internal.Listing.{key_order}
use Rattle.vol_dirs.specs.SerialOrder.{serials_of, key_with}
use Rattle.vol_dirs.specs.declared.serial_order.SerialOrder.{SerialOrder}
use Rattle.vol_dirs.proofs.Places.{serial_in, serials_joined, less_is, less_not}
use Rattle.vol_dirs.proofs.serial_order.SerialOrder.lesser.Goals as goal

bounds : {n : ℕ} (o : SerialOrder n) (s : ℕ) → Contains (serials_of o) s → (1 ≤ s) × (s ≤ vec_len o.keys)
bounds o s held = serial_in (vec_len o.keys) (serials_of o) s (serials_joined (vec_len o.keys) o.long.items o.late.items o.long_serials o.late_serials) held

own_key : {n : ℕ} (o : SerialOrder n) (s : ℕ) (key : List ℕ) → Contains (serials_of o) s → key ≡ get_or o.keys.items (s - 1) key → (key, s) ≡ key_with o s
own_key o s key held is =
    let inside = bounds o s held in
    let same : key ≡ get_or o.keys.items (s - 1) [] = is ∙ get_or_default o.keys.items (s - 1) key [] (omega (arith, inside.0, inside.1, o.keys.ok.0)) in
    ap (λ (k : List ℕ). (k, s)) same

pub is_over-requires : goal.is_over-requires
is_over-requires g c =
    let o = c.args.self.now in
    let size : g.row.N * 1 < 9223372036854775808 = omega (arith, o.narrow) in
    let inside = bounds o c.args.other c.requires.other_held in
    (size, (inside.0, omega (arith, inside.1, c.deref.ensures.len)))

pub returns-then-is_over : goal.returns-then-is_over
returns-then-is_over g c =
    let o = c.args.self.now in
    let answer = rw c.deref.ensures.value at c.is_over.ensures in
    let own = own_key o c.args.one c.index.result.now c.requires.one_held c.index.ensures in
    inl (refl, ap (λ (x : List ℕ × ℕ). key_order x (key_with o c.args.other)) (sym own) ∙ less_is _ (sym answer ∙ c.if-is_over.true))

pub returns-else-is_over : goal.returns-else-is_over
returns-else-is_over g c =
    let o = c.args.self.now in
    let answer = rw c.deref.ensures.value at c.is_over.ensures in
    let own = own_key o c.args.one c.index.result.now c.requires.one_held c.index.ensures in
    inr (refl, λ less. less_not _ (sym answer ∙ c.if-is_over.false) (ap (λ (x : List ℕ × ℕ). key_order x (key_with o c.args.other)) own ∙ less))
