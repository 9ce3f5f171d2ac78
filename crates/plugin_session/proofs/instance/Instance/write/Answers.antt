use Rattle.std.proofs.Common.{refl}
use Rattle.wasm_store.specs.Bytes.{written}
use Rattle.plugin_core.specs.Handling.{writes}
use Rattle.plugin_session.proofs.Doing.{length_written}
use Rattle.plugin_session.proofs.instance.Instance.write.Goals as goal

pub returns-clause-written : goal.returns-clause-written
returns-clause-written g c =
    let memory = c.self.inside.machine.memory in
    let k = c.in-Ok.ensures.written in
    rw (← c.self.view_is) record {
      may = c.in_ok-may_write.ensures.may;
      handled = writes (written memory c.args.address c.args.bytes.now) (length_written memory c.args.bytes.now c.args.address k.0) k.1;
      stage = refl;
    }
