use Rattle.std.proofs.Common.{string_bytes}
use Rattle.sandbox_device.specs.Contents.{bytes_of}
use Rattle.sandbox_places.proofs.OfName.{for_name, is_given}
use Rattle.sandbox_places.proofs.host_places.HostPlaces.replaced.Goals as goal

-- what was opened for this name got it
pub returns : goal.returns
returns c =
    let it = c.in-Some.receiver in
    is_given c.args.name.now (bytes_of c.args.contents) it.file c.fill.result
    (for_name c.args.name.now c.as_str.result.now (string_bytes it.name) it.file c.as_str.ensures.value c.if-ne.ensures it.of_name)
    c.fill.ensures.given
