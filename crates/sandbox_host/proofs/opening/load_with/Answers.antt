use Rattle.std.proofs.Common.{subst}
use Rattle.wasm_syntax.specs.declared.profile.Profile.{Profile}
use Rattle.sandbox_host.specs.Refusals.{NotLoadedWith}
use Rattle.sandbox_host.proofs.opening.load_with.Goals as goal

pub returns-in-Err-clause-refused : goal.returns-in-Err-clause-refused
returns-in-Err-clause-refused c =
    subst (λ (p : Profile). NotLoadedWith p c.args.bytes.now c.why_of.result) c.profile_of.ensures
    (record {
      fault = c.in-Err.fault;
      refuses = record { no = c.in-Err.ensures.no; none = c.in-Err.ensures.refused };
      tells = c.why_of.ensures.why;
    })
