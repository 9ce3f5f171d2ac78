use Rattle.std.proofs.Common.{List, subst, sym}
use Rattle.wasm_syntax.specs.declared.instruction.ValueType.{ValueType}
use Rattle.value_words.specs.Numbers.{AreNumbersOf, HasNone}
use Rattle.sandbox_args.specs.Request.{texts}
use Rattle.sandbox_runs.specs.Invoking.{HasNoArguments}
use Rattle.sandbox_runs.proofs.Results.{arguments_are, no_function, no_numbers}
use Rattle.sandbox_runs.proofs.invoking.arguments_of.Goals as goal

-- no function has the name
pub returns-in_default : goal.returns-in_default
returns-in_default c = no_function c.args.guest.now c.args.name.now (texts c.args.run.now.words.items) c.in_default.ensures.missing

-- the words write its numbers
pub returns-in-Ok : goal.returns-in-Ok
returns-in-Ok c = arguments_are c.args.guest.now c.args.name.now (texts c.args.run.now.words.items) c.in-Some.func_type.now c.in-Ok.numbers.items c.value_type_of.result
    c.in-Some.ensures.found
    (subst (λ (types : List ValueType). AreNumbersOf types (texts c.args.run.now.words.items) c.in-Ok.numbers.items) c.as_slice-types.ensures
    (subst (λ words. AreNumbersOf c.as_slice-types.result.now (texts words) c.in-Ok.numbers.items) c.as_slice-words.ensures.value c.in-Ok.ensures))
    c.value_type_of.ensures

-- or they don't
pub returns-in-Err : goal.returns-in-Err
returns-in-Err c = subst (λ f. HasNoArguments c.args.guest.now c.args.name.now (texts c.args.run.now.words.items) f) (sym c.fault_of.ensures)
    (no_numbers c.args.guest.now c.args.name.now (texts c.args.run.now.words.items) c.in-Some.func_type.now c.in-Err.why c.in-Some.ensures.found
    (subst (λ (types : List ValueType). HasNone types (texts c.args.run.now.words.items) c.in-Err.why) c.as_slice-types.ensures
    (subst (λ words. HasNone c.as_slice-types.result.now (texts words) c.in-Err.why) c.as_slice-words.ensures.value c.in-Err.ensures)))
