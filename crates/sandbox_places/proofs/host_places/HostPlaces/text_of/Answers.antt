use Rattle.std.proofs.Common.{string_bytes}
use Rattle.sandbox_places.proofs.OfName.{is_text}
use Rattle.sandbox_places.proofs.host_places.HostPlaces.text_of.Goals as goal

pub returns : goal.returns
returns c = is_text string_bytes c.args.name.now c.in_ok-bytes.bytes.items 67108865 c.text_in.result c.in_ok-bytes.ensures c.text_in.ensures
