use Rattle.sandbox_places.proofs.host_volume.HostVolumeDevice.sync.Goals as goal

-- the device inside goes on from that of the first
pub returns-clause-goes_on : goal.returns-clause-goes_on
returns-clause-goes_on c end first from = c.sync.ensures.goes_on end first.device from
