use Rattle.std.proofs.Common.{sym, ◌∙◌, ◌++◌}
use Rattle.wasi_calls.specs.host.Links.{supply_calls, descriptor_calls, byte_calls, path_calls}
use Rattle.wasi_calls.proofs.host.LinkedCalls.{in_first, in_rest}
use Rattle.wasi_calls.proofs.host.linking.call_named.Goals as goal

pub returns-in-Some : goal.returns-in-Some
returns-in-Some c = sym (in_first supply_calls (descriptor_calls ++ (byte_calls ++ path_calls)) c.args.name.now _ (sym c.in-Some.ensures))

pub returns-in-Some-descriptor_named : goal.returns-in-Some-descriptor_named
returns-in-Some-descriptor_named c =
    sym (in_rest supply_calls (descriptor_calls ++ (byte_calls ++ path_calls)) c.args.name.now (sym c.in_default.ensures) ∙ in_first descriptor_calls (byte_calls ++ path_calls) c.args.name.now _ (sym c.in-Some-descriptor_named.ensures))

pub returns-in-Some-byte_named : goal.returns-in-Some-byte_named
returns-in-Some-byte_named c =
    sym (in_rest supply_calls (descriptor_calls ++ (byte_calls ++ path_calls)) c.args.name.now (sym c.in_default.ensures) ∙ (in_rest descriptor_calls (byte_calls ++ path_calls) c.args.name.now (sym c.in_default-descriptor_named.ensures)
    ∙ in_first byte_calls path_calls c.args.name.now _ (sym c.in-Some-byte_named.ensures)))
