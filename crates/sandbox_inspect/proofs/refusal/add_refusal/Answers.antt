use Rattle.std.proofs.Common.{ℕ, Option, Result, Ok, Err, OnOk, List, ◌++◌, codes, ap, subst, ◌∙◌}
use Rattle.sandbox_inspect.specs.Words.{name_text}
use Rattle.sandbox_inspect.specs.Refusal.{fault_lines, LiesIn, name_of}
use Rattle.sandbox_inspect.proofs.Lists.{joined}
use Rattle.sandbox_inspect.proofs.refusal.add_refusal.Goals as goal

on_ok : {T E P Q : Type 0} (r : Result T E) → (P → Q) → OnOk r P → OnOk r Q
on_ok (Ok x) follows p = follows p
on_ok (Err e) follows p = tt

pub returns : goal.returns
returns c =
    let f = c.in_ok-function.function in
    let bytes = c.args.bytes.now in
    on_ok c.write_all.result (λ last. (
      f,
      subst (λ (at : Option ℕ). LiesIn c.args.profile bytes at f) c.offset.ensures c.in_ok-function.ensures,
      joined _ _ _ _ (fault_lines c.args.fault f) (name_text (name_of bytes f)) (codes "\n") c.in_ok-add_fault_lines.ensures
          (c.in_ok-add_name.ensures ∙ ap (λ (name : List ℕ). c.add_fault_lines.new.text.items ++ name_text name) c.name_of.ensures) last,
    )) c.write_all.ensures.bytes
