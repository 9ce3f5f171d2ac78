use Rattle.std.proofs.Common.{◌≡◌, ◌≢◌, ◌<◌, ◌^◌, ◌∙◌, ℕ, List, sym, ap, subst, arith}
use Rattle.std.specs.List.{Contains}
use Rattle.std.proofs.lemmas.Bool.{false≢true}
use Rattle.std.proofs.lemmas.Slice.Eq.{bytes_eq-Decides}
use Rattle.vol_dirs.specs.Key.{key_of}
use Rattle.vol_dirs.specs.SerialOrder.{keys_of}
use Rattle.vol_dirs.specs.internal.Listing.{key_order}
use Rattle.vol_dirs.specs.internal.Rising.{IsLeastOver}
use Rattle.vol_dirs.proofs.Spelled.{plain_name}
use Rattle.vol_dirs.proofs.Lookups.{one_or_none, none_at_all, no_key, no_key_before, least_key}
use Rattle.vol_dirs.proofs.dirs.Dirs.serial_of.Goals as goal

pub returns-in_err-serial-clause-found : goal.returns-in_err-serial-clause-found
returns-in_err-serial-clause-found c = none_at_all _ _ _ c.from_residual.ensures (λ s held.
    let dirs = c.args.self.now in
    let key_is : c.key_of-key.result ≡ key_of c.args.parent c.args.name.now = c.key_of-key.ensures ∙ ap (λ (k : ℕ). key_of k c.args.name.now) c.number.ensures in
    let none = rw key_is at c.in_err-serial.ensures.none in
    let bounds = dirs.listing.numbered (key_of c.args.parent c.args.name.now) s held.held in
    no_key (keys_of dirs.keys) (key_of c.args.parent c.args.name.now) s none bounds.0 held.held)

pub returns-in_err-serial-clause-least : goal.returns-in_err-serial-clause-least
returns-in_err-serial-clause-least c = none_at_all _ _ _ c.from_residual.ensures tt

pub returns-clause-least : goal.returns-clause-least
returns-clause-least c =
    let dirs = c.args.self.now in
    let key_is : c.key_of-key.result ≡ key_of c.args.parent c.args.name.now = c.key_of-key.ensures ∙ ap (λ (k : ℕ). key_of k c.args.name.now) c.number.ensures in
    let key = key_of c.args.parent c.args.name.now in
    let serial = c.in_ok-serial.serial in
    let found = rw (sym c.key.ensures) at c.in_ok-serial.ensures.found in
    let least = rw key_is at found in
    let tells = bytes_eq-Decides c.key.result.now c.key_of-key.result in
    one_or_none _ _ _ _ _ (rw c.new.ensures at c.then_some.ensures)
    (λ test t held.
    let same : c.key.result.now ≡ key = tells.0 (sym c.eq.ensures ∙ test) ∙ key_is in
    let bounds = dirs.listing.numbered key t held.held in
    least_key (keys_of dirs.keys) key serial t (subst (λ (k : List ℕ). IsLeastOver key_order (keys_of dirs.keys) (key, 0) (k, serial)) same least) bounds.0 held.held)
    (λ test. tt)

pub returns-clause-found : goal.returns-clause-found
returns-clause-found c =
    let dirs = c.args.self.now in
    let key_is : c.key_of-key.result ≡ key_of c.args.parent c.args.name.now = c.key_of-key.ensures ∙ ap (λ (k : ℕ). key_of k c.args.name.now) c.number.ensures in
    let key = key_of c.args.parent c.args.name.now in
    let found = rw (sym c.key.ensures) at c.in_ok-serial.ensures.found in
    let least = rw key_is at found in
    let tells = bytes_eq-Decides c.key.result.now c.key_of-key.result in
    let narrow : c.args.parent < 2 ^ 32 = omega arith in
    one_or_none _ _ _ _ _ (rw c.new.ensures at c.then_some.ensures)
    (λ test.
    let same : c.key.result.now ≡ key = tells.0 (sym c.eq.ensures ∙ test) ∙ key_is in
    record { narrow = narrow; plain = plain_name c.args.name.now c.requires; held = subst (λ (k : List ℕ). Contains (keys_of dirs.keys) (k, c.in_ok-serial.serial)) same least.there })
    (λ test s held.
    let differ : c.key.result.now ≢ key = λ same. false≢true (sym test ∙ c.eq.ensures ∙ tells.1 (same ∙ sym key_is)) in
    let bounds = dirs.listing.numbered key s held.held in
    no_key_before (keys_of dirs.keys) key c.key.result.now c.in_ok-serial.serial s least differ bounds.0 held.held)
