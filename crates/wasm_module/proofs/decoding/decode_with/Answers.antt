use Rattle.wasm_module.proofs.Modules.{is_found, is_refused}
use Rattle.wasm_module.proofs.decoding.decode_with.Goals as goal

pub returns-clause-found : goal.returns-clause-found
returns-clause-found c = is_found c.args.profile c.args.bytes.now c.module.result c.module.ensures

pub returns-clause-refused : goal.returns-clause-refused
returns-clause-refused c = is_refused c.args.profile c.args.bytes.now c.module.result c.module.ensures
