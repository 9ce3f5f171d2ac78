-- The group is the first whose end is past the local's index.
use Rattle.std.proofs.Common.{rules, tests, length, leb, List, sym, ◌∙◌, ap, arith, Some, None}
use Rattle.std.specs.List.{slice_get}
use Rattle.std.specs.Option.{option_map}
use Rattle.std.proofs.lemmas.List.Sorted.{IsPartitionPoint-from_clause}
use Rattle.wasm_syntax.specs.declared.instruction.ValueType.{ValueType}
use Rattle.wasm_syntax.specs.declared.module.Locals.{Locals}
use Rattle.wasm_valid.proofs.Contexts.{copied_at}
use Rattle.wasm_valid.proofs.Groups.{located, ends_part_of}
use Rattle.wasm_valid.proofs.locals.LocalTypes.get.Goals as goal

pub returns-in_err-get : goal.returns-in_err-get
returns-in_err-get c =
    let inside = c.self.inside in
    let params = inside.params.now in
    let groups = inside.groups.now in
    let k = c.partition_point-group.result in
    let are = c.as_slice.ensures.value ∙ c.self.invariant in
    let part = IsPartitionPoint-from_clause (λ e. leb e c.args.index) c.as_slice.result.now k c.partition_point-group.ensures.partitioned (ends_part_of groups (length params) c.args.index c.as_slice.result.now are) (λ a r f q. search (rules, tests)) in
    let gone = copied_at groups k None c.in_err-get.ensures.lookup in
    c.from_residual.ensures
    ∙ ap (option_map (λ (g : Locals). g.value_type)) gone
    ∙ sym (located params groups c.as_slice.result.now c.args.index k c.in_default.ensures.lookup.3 (omega arith) are part)
    ∙ ap (λ (l : List ValueType). slice_get l c.args.index) c.self.view_is

pub returns : goal.returns
returns c =
    let inside = c.self.inside in
    let params = inside.params.now in
    let groups = inside.groups.now in
    let k = c.partition_point-group.result in
    let are = c.as_slice.ensures.value ∙ c.self.invariant in
    let part = IsPartitionPoint-from_clause (λ e. leb e c.args.index) c.as_slice.result.now k c.partition_point-group.ensures.partitioned (ends_part_of groups (length params) c.args.index c.as_slice.result.now are) (λ a r f q. search (rules, tests)) in
    let there = copied_at groups k (Some c.in_ok-get.field-0) c.in_ok-get.ensures.lookup in
    ap (option_map (λ (g : Locals). g.value_type)) there
    ∙ sym (located params groups c.as_slice.result.now c.args.index k c.in_default.ensures.lookup.3 (omega arith) are part)
    ∙ ap (λ (l : List ValueType). slice_get l c.args.index) c.self.view_is
