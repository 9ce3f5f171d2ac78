use Rattle.std.proofs.Common.{◌≡◌, ◌∙◌, Option, Some, true, ap, sym, subst, inl, inr, arith}
use Rattle.std.proofs.lemmas.Bool.{false≢true}
use Rattle.std.proofs.lemmas.Option.{IfSome_then}
use Rattle.std.specs.Option.{IsSomeAnd, is_none}
use Rattle.sandbox_host.specs.declared.handle.Handle.{Handle}
use Rattle.sandbox_host.specs.declared.held.HandleContent.{HandleContent}
use Rattle.sandbox_host.specs.Sessions.{running, loaded, loaded_in, prepared, bytes_of, Begins}
use Rattle.sandbox_host.specs.Volumes.{origin_of}
use Rattle.sandbox_host.proofs.opening.open_loaded.Goals as goal

-- the session that begins
pub returns-then-number-eq-OK : goal.returns-then-number-eq-OK
returns-then-number-eq-OK c =
    let closed : is_none c.args.session.now.held ≡ true = sym c.is_closed.ensures.0 ∙ c.if-not-is_closed.false in
    let named : origin_of c.args.volume.now ≡ Some c.in-Some.origin = sym c.origin.ensures ∙ c.in-Some.is in
    let had : c.args.module.now.held ≡ Some c.replace.result = sym c.in-Some-take.ensures.taken ∙ ap Some (sym c.replace.ensures.value) in
    let has : c.put.new.self.held ≡ Some c.begun-after.result.0 = c.put.ensures ∙ ap Some c.replace-2.ensures.after in
    let begun = c.begun-after.ensures in
    record {
      misuse = λ wrong. elim wrong [
        | inl told ↦ elim told [ inl is_open ↦ absurd (false≢true (sym is_open ∙ closed)) | inr unknown ↦ absurd (false≢true (sym (ap is_none named) ∙ unknown)) ]
        | inr none ↦ let other = begun.other (sym (ap (λ o. is_none (loaded o)) had) ∙ none) in absurd (omega (arith, other.0, c.if-number-eq-OK.true))
      ];
      opened = λ _. rw (named, had) (IfSome_then (loaded_in c.replace.result) begun.begins (λ m begins none. let both = begins none in (
        subst (λ (h : Option HandleContent). IsSomeAnd (running h) (Begins m c.args.supplies.now c.in-Some.origin)) (sym has) both.0,
        c.take.ensures.closed,
        ap prepared has ∙ both.1,
      )));
      refused = λ _. rw (named, had) (IfSome_then (loaded_in c.replace.result) begun.begins (λ m _ some. absurd (some c.if-number-eq-OK.true)));
      bytes = λ _. ap bytes_of has ∙ (begun.bytes ∙ sym (ap bytes_of had));
    }

-- what the module's handle had is put back
pub returns-else-number-eq-OK : goal.returns-else-number-eq-OK
returns-else-number-eq-OK c =
    let closed : is_none c.args.session.now.held ≡ true = sym c.is_closed.ensures.0 ∙ c.if-not-is_closed.false in
    let named : origin_of c.args.volume.now ≡ Some c.in-Some.origin = sym c.origin.ensures ∙ c.in-Some.is in
    let had : c.args.module.now.held ≡ Some c.replace.result = sym c.in-Some-take.ensures.taken ∙ ap Some (sym c.replace.ensures.value) in
    let has : c.put-else-number-eq-OK.new.self.held ≡ Some c.begun-after.result.0 = c.put-else-number-eq-OK.ensures ∙ ap Some c.replace-2.ensures.after in
    let same : c.is_closed.new.self.held ≡ c.args.session.now.held = ap (λ (h : Handle). h.held) c.is_closed.ensures.1 in
    let begun = c.begun-after.ensures in
    record {
      misuse = λ wrong. elim wrong [
        | inl told ↦ elim told [ inl is_open ↦ absurd (false≢true (sym is_open ∙ closed)) | inr unknown ↦ absurd (false≢true (sym (ap is_none named) ∙ unknown)) ]
        | inr none ↦ let other = begun.other (sym (ap (λ o. is_none (loaded o)) had) ∙ none) in (other.0, same, has ∙ (ap Some other.1 ∙ sym had))
      ];
      opened = λ _. rw (named, had) (IfSome_then (loaded_in c.replace.result) begun.begins (λ m _ none. absurd (c.if-number-eq-OK.false none)));
      refused = λ _. rw (named, had) (IfSome_then (loaded_in c.replace.result) begun.refused (λ m refused some. let told = refused some in (same, has ∙ ap Some told.0, told.1)));
      bytes = λ none. absurd (c.if-number-eq-OK.false none);
    }
