use Rattle.std.proofs.Common.{sym, ap, subst}
use Rattle.wasm_interp.specs.Machine.{Snapshot}
use Rattle.wasm_interp.proofs.Limiting.{limited_represents}
use Rattle.sandbox_core.specs.internal.Running.{HasConfiguration}
use Rattle.sandbox_core.proofs.session.Session.limit_values.Goals as goal

-- the machine stands for the same configuration
pub invariant_of-self : goal.invariant_of-self
invariant_of-self g c =
    let k = c.self.invariant in
    subst HasConfiguration (sym c.limit_values.ensures) (record { instance = k.instance; configuration = k.configuration; stands = limited_represents c.args.most c.self.inside.machine k.instance k.configuration k.stands })

pub returns : goal.returns
returns g c = rw (← c.self.view_is) (ap (λ (m : Snapshot). record { machine = m; host = c.self.inside.host }) c.limit_values.ensures)
