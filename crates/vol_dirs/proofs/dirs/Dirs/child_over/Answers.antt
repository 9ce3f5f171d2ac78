use Rattle.std.proofs.Common.{◌≡◌, ◌<◌, ◌^◌, ◌∙◌, ℕ, sym, ap, arith}
use Rattle.byteorder.specs.Endian.{big_bytes}
use Rattle.std.proofs.lemmas.Bool.{false≢true}
use Rattle.std.proofs.lemmas.Slice.Eq.{bytes_eq-Decides}
use Rattle.vol_dirs.proofs.Lookups.{one_or_none, none_at_all, no_child_over, next_child_is, no_child_is}
use Rattle.vol_dirs.proofs.dirs.Dirs.child_over.Goals as goal

pub returns-in_err-serial : goal.returns-in_err-serial
returns-in_err-serial c =
    let key_is : c.child_key_of-key.result ≡ big_bytes 4 c.args.parent = c.child_key_of-key.ensures ∙ ap (λ (p : ℕ). big_bytes 4 p) c.number.ensures in
    let narrow : c.args.parent < 2 ^ 32 = omega arith in
    none_at_all _ _ _ c.from_residual.ensures (let none = rw key_is at c.in_err-serial.ensures.none in no_child_over c.args.self.now c.args.parent c.args.after narrow none)

pub returns : goal.returns
returns c =
    let key_is : c.child_key_of-key.result ≡ big_bytes 4 c.args.parent = c.child_key_of-key.ensures ∙ ap (λ (p : ℕ). big_bytes 4 p) c.number.ensures in
    let narrow : c.args.parent < 2 ^ 32 = omega arith in
    let found = rw (sym c.key.ensures) at c.in_ok-serial.ensures.found in
    let least = rw key_is at found in
    let tells = bytes_eq-Decides c.key.result.now c.child_key_of-key.result in
    one_or_none _ _ _ _ _ (rw c.new.ensures at c.then_some.ensures)
    (λ test. next_child_is c.args.self.now c.args.parent c.args.after c.in_ok-serial.serial c.key.result.now narrow least (tells.0 (sym c.eq.ensures ∙ test) ∙ key_is))
    (λ test. no_child_is c.args.self.now c.args.parent c.args.after c.in_ok-serial.serial c.key.result.now narrow least (λ same. false≢true (sym test ∙ c.eq.ensures ∙ tells.1 (same ∙ sym key_is))))
