use Rattle.std.proofs.Common.{List, ℕ, inr, subst}
use Rattle.wasm_syntax.specs.declared.profile.Profile.{Profile}
use Rattle.sandbox_telling.specs.Modules.{profile_for}
use Rattle.sandbox_runs.specs.Inspecting.{Inspects}
use Rattle.sandbox_command.proofs.files.inspect_file.Goals as goal

pub returns-in-Ok-clause-tells : goal.returns-in-Ok-clause-tells
returns-in-Ok-clause-tells g c =
    let left = c.inspect-left.result in
    let told = c.inspect-left.ensures.tells in (
      c.bytes.new.self,
      c.bytes.ensures.asked,
      inr (
        c.in-Ok.«module».items,
        c.in-Ok.ensures.bytes,
        record {
          left = left;
          printed = told.2.0;
          failed = told.0;
          heard = told.2.1;
          inspects = subst (λ (b : List ℕ). Inspects (profile_for c.args.floats) b (g.W1.Write.contents c.args.given.out) (g.W1.Write.contents left.out) told.0 left.flushed left.status) c.as_slice.ensures.value (subst (λ (q : Profile). Inspects q c.as_slice.result.now (g.W1.Write.contents c.args.given.out) (g.W1.Write.contents left.out) told.0 left.flushed left.status) c.profile_for.ensures told.1);
          answered = c.inspect-left.ensures.answered;
          input_is = c.inspect-left.ensures.input;
          lines = c.inspect-left.ensures.err;
          ended = c.end.ensures;
        },
      ),
    )
