use Rattle.std.proofs.Common.{◌≡◌, ◌∙◌, Some, true, ap, sym, inl, inr, arith}
use Rattle.std.proofs.lemmas.Bool.{false≢true}
use Rattle.std.proofs.lemmas.Option.{IfSome_then}
use Rattle.std.specs.Option.{is_none}
use Rattle.sandbox_host.specs.declared.handle.Handle.{Handle}
use Rattle.sandbox_host.specs.Sessions.{finished, finished_in, loaded, prepared, bytes_of}
use Rattle.sandbox_host.proofs.closing.close_loaded.Goals as goal

-- the module of the session that was finished
pub returns-then-number-eq-OK : goal.returns-then-number-eq-OK
returns-then-number-eq-OK c =
    let closed : is_none c.args.module.now.held ≡ true = sym c.is_closed.ensures.0 ∙ c.if-not-is_closed.false in
    let had : c.args.session.now.held ≡ Some c.replace.result = sym c.in-Some.ensures.taken ∙ ap Some (sym c.replace.ensures.value) in
    let has : c.put.new.self.held ≡ Some c.unloaded-after.result.0 = c.put.ensures ∙ ap Some c.replace-2.ensures.after in
    let unloaded = c.unloaded-after.ensures in
    record {
      misuse = λ wrong. elim wrong [
        | inl none ↦ let other = unloaded.other (sym (ap (λ o. is_none (finished o)) had) ∙ none) in absurd (omega (arith, other.0, c.if-number-eq-OK.true))
        | inr is_open ↦ absurd (false≢true (sym is_open ∙ closed))
      ];
      closed = rw had (IfSome_then (finished_in c.replace.result) unloaded.kept (λ e kept _. (kept.0, c.take.ensures.closed, ap loaded has ∙ kept.1, ap prepared has ∙ kept.2)));
      bytes = λ _. ap bytes_of has ∙ (unloaded.bytes ∙ sym (ap bytes_of had));
    }

-- what the session's handle had is put back
pub returns-else-number-eq-OK : goal.returns-else-number-eq-OK
returns-else-number-eq-OK c =
    let closed : is_none c.args.module.now.held ≡ true = sym c.is_closed.ensures.0 ∙ c.if-not-is_closed.false in
    let had : c.args.session.now.held ≡ Some c.replace.result = sym c.in-Some.ensures.taken ∙ ap Some (sym c.replace.ensures.value) in
    let has : c.put-else-number-eq-OK.new.self.held ≡ Some c.unloaded-after.result.0 = c.put-else-number-eq-OK.ensures ∙ ap Some c.replace-2.ensures.after in
    let unloaded = c.unloaded-after.ensures in
    record {
      misuse = λ wrong. elim wrong [
        | inl none ↦ let other = unloaded.other (sym (ap (λ o. is_none (finished o)) had) ∙ none) in (other.0, has ∙ (ap Some other.1 ∙ sym had), ap (λ (h : Handle). h.held) c.is_closed.ensures.1)
        | inr is_open ↦ absurd (false≢true (sym is_open ∙ closed))
      ];
      closed = rw had (IfSome_then (finished_in c.replace.result) unloaded.kept (λ e kept _. absurd (c.if-number-eq-OK.false kept.0)));
      bytes = λ none. absurd (c.if-number-eq-OK.false none);
    }
