use Rattle.wasm_store.specs.Bytes.{written}
use Rattle.plugin_core.specs.Handling as acts
use Rattle.sandbox_host.specs.Kinds.{machine_at}
use Rattle.sandbox_host.specs.Instances.{Does, NoWrite}
use Rattle.sandbox_host.proofs.Answering.{told_of}
use Rattle.sandbox_host.proofs.guest_memory.store.Goals as goal

pub returns : goal.returns
returns c =
    told_of c.write.result c.number_of.result c.args.instance.now c.write.new.self (Does c.args.instance.now (acts.wrote (written (machine_at c.args.instance.now).memory c.args.address c.args.bytes.now)) c.write.new.self) (NoWrite c.args.instance.now c.args.address c.args.bytes.now)
    c.number_of.ensures c.write.ensures.written c.write.ensures.refused
