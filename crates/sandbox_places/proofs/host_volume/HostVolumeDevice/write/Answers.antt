use Rattle.sandbox_places.proofs.host_volume.HostVolumeDevice.write.Goals as goal

-- the device inside goes on from that of the first
pub returns-clause-goes_on : goal.returns-clause-goes_on
returns-clause-goes_on c end lt first from = c.write.ensures.goes_on end lt first.device from
