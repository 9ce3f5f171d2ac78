use Rattle.std.proofs.Common.{refl}
use Rattle.std.proofs.lemmas.Result.{on_ok_weaker}
use Rattle.sandbox_inspect.specs.Places.{called}
use Rattle.sandbox_inspect.specs.Sites.{function_of, site_text}
use Rattle.sandbox_inspect.proofs.sites.add_site.Goals as goal

pub returns : goal.returns
returns c =
    let function = function_of c.args.«module».now c.args.own in
    on_ok_weaker c.add_offset_and_function.result
    (λ added. (
      site_text c.own_offset-offset.result function (called c.args.bytes.now function),
      record { offset = c.own_offset-offset.result; stands = c.own_offset-offset.ensures.stands; told = c.own_offset-offset.ensures.told; text_is = refl },
      added,
    ))
    c.add_offset_and_function.ensures
