use Rattle.std.proofs.Common.{rules, tests, ◌≡◌, ℕ, Bool, true, false, List, Option, Some, refl, ap, ◌∙◌}
use Rattle.std.specs.Bool.{then_some}
use Rattle.std.specs.List.{slice_get}
use Rattle.std.specs.Option.{option_map, option_and_then}
use Rattle.std.proofs.lemmas.Iterator.{YieldsList-from_slice}
use Rattle.std.proofs.lemmas.Iterator.Search.{all_from_yields_List}
use Rattle.wasm_syntax.specs.declared.instruction.ValueType.{ValueType}
use Rattle.wasm_syntax.specs.declared.instruction.BlockType.{BlockType}
use Rattle.wasm_valid.specs.Arities.{results_of}
use Rattle.wasm_valid.specs.Typing.{Labels}
use Rattle.wasm_valid.specs.internal.Stack.{if_true}
use Rattle.wasm_valid.specs.internal.Effects.{keeps, all_keep, table_label}
use Rattle.wasm_valid.specs.internal.Operands.{control_frame_labels}
use Rattle.wasm_valid.proofs.instructions.kept_by_all.Goals as goal

then_kept : (t : Bool) (k : BlockType) → option_map results_of (then_some t k) ≡ if_true t (results_of k)
then_kept true k = refl
then_kept false k = refl

chosen : (ls : Labels) (table : List ℕ) (default : ℕ) (kept : BlockType) (t : Bool) (r : Option BlockType) → Some (results_of kept) ≡ slice_get ls default → t ≡ all_keep ls (results_of kept) table → r ≡ then_some t kept → option_map results_of r ≡ table_label ls table default
chosen ls table default kept t r found all is =
    ap (option_map results_of) is ∙ then_kept t kept ∙ ap (λ (b : Bool). if_true b (results_of kept)) all
    ∙ ap (option_and_then (λ (k : List ValueType). if_true (all_keep ls k table) k)) found

pub returns : goal.returns
returns c =
    let ls = control_frame_labels c.args.control_frames.now in
    let table = c.args.table.now in
    let kept = c.in_ok-kept.kept in
    let all = all_from_yields_List (λ (l : ℕ). keeps (results_of kept) (slice_get ls l)) _ _ c.all.result c.all.ensures.ran (YieldsList-from_slice table.0 cc) (λ x b q k. search (rules, tests)) in
    chosen ls table.0 table.1 kept c.all.result c.then_some.result (c.in_ok-kept.ensures ∙ ap (slice_get ls) c.default_label.ensures) all c.then_some.ensures
