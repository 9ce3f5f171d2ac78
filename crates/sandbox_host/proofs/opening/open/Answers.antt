use Rattle.std.proofs.Common.{◌≡◌, ◌∙◌, Some, true, false, refl, ap, sym, inl, inr, arith}
use Rattle.std.proofs.lemmas.Bool.{false≢true}
use Rattle.std.specs.Option.{is_none}
use Rattle.sandbox_host.specs.Volumes.{origin_of}
use Rattle.sandbox_host.proofs.opening.open.Goals as goal

pub returns : goal.returns
returns c =
    let closed : is_none c.args.session.now.held ≡ true = sym c.is_closed.ensures.0 ∙ c.if-not-is_closed.false in
    let named : origin_of c.args.volume.now ≡ Some c.in-Some.origin = sym c.origin.ensures ∙ c.in-Some.is in
    record {
      misuse = λ wrong. elim wrong [ inl is_open ↦ absurd (false≢true (sym is_open ∙ closed)) | inr unknown ↦ absurd (false≢true (sym (ap is_none named) ∙ unknown)) ];
      opened = λ _. rw named c.open_from.ensures.opened;
      refused = λ _. rw named c.open_from.ensures.refused;
      bytes = c.open_from.ensures.bytes;
    }

pub returns-then-not-is_closed : goal.returns-then-not-is_closed
returns-then-not-is_closed c =
    let is_open : is_none c.args.session.now.held ≡ false = sym c.is_closed.ensures.0 ∙ c.if-not-is_closed.true in
    record {
      misuse = λ _. (refl, c.is_closed.ensures.1, refl);
      opened = λ closed. absurd (false≢true (sym is_open ∙ closed));
      refused = λ closed. absurd (false≢true (sym is_open ∙ closed));
      bytes = λ e. absurd (omega (arith, e));
    }
