use Rattle.std.proofs.Common.{rules, tests}
use Rattle.std.proofs.lemmas.Iterator.{items_from_collect, YieldsList-from_slice}
use Rattle.std.proofs.lemmas.Iterator.Consumers.{YieldsList-from_filter_map}
use Rattle.wasm_valid.specs.Spaces.{imported_table}
use Rattle.wasm_valid.proofs.OfKind.{of_kind}
use Rattle.wasm_valid.proofs.module_rules.imported_tables.Goals as goal

pub returns : goal.returns
returns c =
    rw (← of_kind imported_table c.args.imports.now)
    (items_from_collect _ c.collect.ensures.ran (YieldsList-from_filter_map _ _ (YieldsList-from_slice c.args.imports.now cc) c.filter_map.ensures.closure (λ x r q k. search (rules, tests))))
