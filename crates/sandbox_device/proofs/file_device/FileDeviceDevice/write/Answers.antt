use Rattle.std.proofs.Common.{◌≡◌, ◌<◌, length, set, List, ℕ, ◌∷◌, arith}
use Rattle.vol_sector.specs.Disk.{After, Keeps, Leaves, Wrote}
use Rattle.sandbox_device.specs.declared.moments.Moments.{Moments}
use Rattle.sandbox_device.specs.Ram.{Sectors}
use Rattle.sandbox_device.specs.File.{IsMixed, kept}
use Rattle.sandbox_device.proofs.File.{keeps_more, leaves_written}
use Rattle.sandbox_device.proofs.Ram.{put_in}
use Rattle.std.proofs.Common.{inr, ap, ◌∙◌}
use Rattle.vol_sector.specs.Past.{LeavesPast}
use Rattle.vol_sector.specs.Record.{image_of}
use Rattle.vol_sector.specs.internal.PastLaws.{past_then, past_wrote}
use Rattle.sandbox_device.proofs.file_device.FileDeviceDevice.write.Goals as goal

-- a write is one more time, and its sectors before it
module _ (sectors : Sectors) (moments : Moments) (n : ℕ) (bytes : List ℕ) (within : n < length sectors) (new : Sectors) (new_is : new ≡ set sectors n bytes) (after : Moments)
    (is : (after.unsynced ≡ sectors ∷ moments.unsynced) × (after.times ≡ (sectors ∷ moments.unsynced) ∷ moments.times)) where
  abbrev now : Sectors
  now = sectors

  crash : Leaves (kept now moments.unsynced moments.times) (kept new after.unsynced after.times) (After (Wrote n bytes) (IsMixed (now ∷ moments.unsynced)))
  crash = rw (new_is, is.0, is.1) (leaves_written now (set now n bytes) moments.unsynced n bytes (put_in now n bytes within) moments.times)

  keeps : Keeps (kept now moments.unsynced moments.times) (kept new after.unsynced after.times)
  keeps = rw (new_is, is.0, is.1) (keeps_more (set now n bytes) now (now ∷ moments.unsynced) moments.unsynced moments.times)

  past : (end : ℕ) → n < end → LeavesPast end (kept now moments.unsynced moments.times) (kept new after.unsynced after.times)
  past end lt = past_wrote end n bytes _ _ lt (inr (ap image_of new_is ∙ put_in now n bytes within)) crash

pub returns-in-Ok-clause-crash : goal.returns-in-Ok-clause-crash
returns-in-Ok-clause-crash g c h = crash c.args.self.now.sectors c.args.self.now.moments c.args.n c.args.image.now (omega (arith, c.requires)) c.put.new.self c.put.ensures c.after_writing-self.result c.after_writing-self.ensures

pub returns-in-Ok-clause-keeps : goal.returns-in-Ok-clause-keeps
returns-in-Ok-clause-keeps g c h = keeps c.args.self.now.sectors c.args.self.now.moments c.args.n c.args.image.now (omega (arith, c.requires)) c.put.new.self c.put.ensures c.after_writing-self.result c.after_writing-self.ensures

pub returns-in-Err-clause-crash : goal.returns-in-Err-clause-crash
returns-in-Err-clause-crash g c h =
    rw (c.fail.ensures.sectors, c.fail.ensures.moments) (crash c.args.self.now.sectors c.args.self.now.moments c.args.n c.args.image.now (omega (arith, c.requires)) c.put.new.self c.put.ensures c.after_writing-self.result c.after_writing-self.ensures)

pub returns-in-Err-clause-keeps : goal.returns-in-Err-clause-keeps
returns-in-Err-clause-keeps g c h =
    rw (c.fail.ensures.sectors, c.fail.ensures.moments) (keeps c.args.self.now.sectors c.args.self.now.moments c.args.n c.args.image.now (omega (arith, c.requires)) c.put.new.self c.put.ensures c.after_writing-self.result c.after_writing-self.ensures)

pub returns-in-Ok-clause-goes_on : goal.returns-in-Ok-clause-goes_on
returns-in-Ok-clause-goes_on g c end lt first from = past_then end _ _ _ from (past c.args.self.now.sectors c.args.self.now.moments c.args.n c.args.image.now (omega (arith, c.requires)) c.put.new.self c.put.ensures c.after_writing-self.result c.after_writing-self.ensures end lt)

pub returns-in-Err-clause-goes_on : goal.returns-in-Err-clause-goes_on
returns-in-Err-clause-goes_on g c end lt first from =
    past_then end _ _ _ from (rw (c.fail.ensures.sectors, c.fail.ensures.moments) (past c.args.self.now.sectors c.args.self.now.moments c.args.n c.args.image.now (omega (arith, c.requires)) c.put.new.self c.put.ensures c.after_writing-self.result c.after_writing-self.ensures end lt))
