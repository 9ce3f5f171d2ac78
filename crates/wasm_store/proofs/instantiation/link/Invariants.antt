use Rattle.std.specs.Option.{option_map}
use Rattle.wasm_store.specs.internal.Finding.{links_with}
use Rattle.wasm_store.proofs.Imports.{LinkedTo}
use Rattle.wasm_store.proofs.instantiation.link.Given as goal

abbrev pub invariant-loop-import : goal.invariant-loop-import
invariant-loop-import g l = LinkedTo (links_with (g.H.Host.links l.fn.host) (option_map (λ s. s.now) l.fn.embedder)) l.fn.guest l.import-index l.calls.items
