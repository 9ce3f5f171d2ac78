use Rattle.sandbox_places.proofs.OfName.{is_read}
use Rattle.sandbox_places.proofs.host_places.HostPlaces.bytes_of.Goals as goal

pub returns : goal.returns
returns c =
    is_read (λ v. v.items) c.args.name.now c.args.most c.in_ok-file.file c.read_whole.new.input c.read_whole.result c.in_ok-file.ensures c.read_whole.ensures.whole
