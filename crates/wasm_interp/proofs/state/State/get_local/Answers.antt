use Rattle.std.proofs.Common.{ℕ, ◌+◌, List, Ok, refl, sym, ap, ◌∙◌, subst, length, arith}
use Rattle.std.specs.Prelude.{slice_get}
use Rattle.std.proofs.lemmas.List.{reverse-reverse}
use Rattle.std.proofs.lemmas.Option.{slice_get_read}
use Rattle.wasm_interp.specs.declared.state.State.{State}
use Rattle.wasm_operands.specs.internal.Standing.{worked}
use Rattle.wasm_interp.specs.internal.Running.{Pushes, flat_of}
use Rattle.wasm_interp.proofs.state.State.get_local.Goals as goal

pub returns : goal.returns
returns c =
    let s = c.args.self.now in
    let items = s.values.items in
    let place : ℕ = s.current.locals + c.args.index in
    let value = c.index-value.result.now in
    record {
      pushed = record {
        number = value;
        read = ap (λ (xs : List ℕ). slice_get xs place) (reverse-reverse items) ∙ slice_get_read items (length items) place value refl (omega (arith, c.requires.inside, s.values.ok.0)) c.index-value.ensures;
        is = ap flat_of c.go_on.ensures ∙ ap (λ (vs : List ℕ). worked (flat_of s) vs s.memory s.globals) c.in_ok-push.ensures.pushed;
      };
      pushes = subst (λ (t : State). Pushes s t (Ok tt)) (sym c.go_on.ensures) (record { stays = refl; used = refl; full = tt; spare = c.push.ensures.spare; room = c.push.ensures.room; bound = c.push.ensures.bound });
    }
