use Rattle.std.proofs.Common.{◌≡◌, inl, false}
use Rattle.sandbox_device.specs.declared.opening.FileOutput.{FileOutput}
use Rattle.sandbox_device.specs.Opening.{StandsApart}
use Rattle.sandbox_device.specs.Named.{WasOpened}
use Rattle.sandbox_places.proofs.OfName.{told}
use Rattle.sandbox_places.proofs.host_places.HostPlaces.made.Goals as goal

pub returns-clause-named : goal.returns-clause-named
returns-clause-named c =
    let is = told (λ (it : FileOutput). StandsApart it.on.file × WasOpened c.args.name.now it.on.file × (it.on.is_cut ≡ false))
    c.open.result c.in_ok-file.file c.in_ok-file.ensures c.open.ensures.opened in
    inl is.1
