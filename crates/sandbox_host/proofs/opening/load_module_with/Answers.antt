use Rattle.std.proofs.Common.{◌≡◌, ◌∙◌, Option, true, false, refl, ap, sym, subst, inl, inr, arith}
use Rattle.std.proofs.lemmas.Bool.{false≢true}
use Rattle.std.specs.Option.{IsSomeAnd, is_none}
use Rattle.sandbox_host.specs.declared.handle.Handle.{Handle}
use Rattle.sandbox_host.specs.declared.held.HandleContent.{HandleContent}
use Rattle.sandbox_host.specs.Sessions.{loaded, prepared, bytes_of, IsLoadedWith}
use Rattle.sandbox_host.specs.Supplies.{profile_of}
use Rattle.sandbox_host.proofs.Closed.{none_of}
use Rattle.sandbox_host.proofs.opening.load_module_with.Goals as goal

pub returns-in-Ok : goal.returns-in-Ok
returns-in-Ok c =
    let closed : is_none c.args.module.now.held ≡ true = sym c.is_closed.ensures.0 ∙ c.if-not-is_closed.false in
    record {
      misuse = λ is_open. absurd (false≢true (sym is_open ∙ closed));
      loaded = λ _ e. (subst (λ (h : Option HandleContent). IsSomeAnd (loaded h) (IsLoadedWith (profile_of c.args.floats) c.args.bytes.now)) (sym (c.keep.ensures.kept e)) c.in-Ok.ensures.loaded, ap prepared (c.keep.ensures.kept e), refl);
      refused = λ _ e. let no = c.keep.ensures.refused e in (no.1, inr (no.0, refl));
      bytes = λ e. ap bytes_of (c.keep.ensures.kept e) ∙ c.new.ensures;
    }

pub returns-in-Err : goal.returns-in-Err
returns-in-Err c =
    let closed : is_none c.args.module.now.held ≡ true = sym c.is_closed.ensures.0 ∙ c.if-not-is_closed.false in
    record {
      misuse = λ is_open. absurd (false≢true (sym is_open ∙ closed));
      loaded = λ _ e. absurd (c.in-Err.ensures.some e);
      refused = λ _ _. (ap (λ (h : Handle). h.held) c.is_closed.ensures.1 ∙ none_of _ closed, inl (refl, c.in-Err.ensures.refused));
      bytes = λ e. absurd (c.in-Err.ensures.some e);
    }

pub returns-then-not-is_closed : goal.returns-then-not-is_closed
returns-then-not-is_closed c =
    let is_open : is_none c.args.module.now.held ≡ false = sym c.is_closed.ensures.0 ∙ c.if-not-is_closed.true in
    record {
      misuse = λ _. (refl, c.is_closed.ensures.1, refl);
      loaded = λ closed. absurd (false≢true (sym is_open ∙ closed));
      refused = λ closed. absurd (false≢true (sym is_open ∙ closed));
      bytes = λ e. absurd (omega (arith, e));
    }
