-- What an upgrade to a newer version leaves of a volume's parts: that version, or where an operation failed, now or before,
-- the numbers that it had. Until it is done, and in the second case after it, a crash may leave this tree in either
-- version, or a tree that a crash could leave before.
use Rattle.std.specs.Prelude.{◌≡◌, ◌↔◌, Bool, true, false}
use Rattle.vol_sector.specs.Disk.{Leaves, counted}
use Rattle.vol_sector.specs.declared.device.Device.{Ghosts}
use Rattle.vol_log.specs.Log.{device_of, has_failed}
use Rattle.vol_inode.specs.declared.version.Version.{Version}
use Rattle.vol_tree.specs.declared.parts.Parts.{Parts}
use Rattle.vol_tree.specs.Stands.{StandsAs}
use Rattle.vol_tree.specs.Clauses.{raised, MayUpgrade}
use Rattle.vol_tree.specs.Opened.{GoesOn}
use Rattle.vol_tree.specs.Parts.{opened}
use Rattle.vol_tree.specs.internal.Parts.{IsOpen}

pub record Upgrades {D : Type 0} {g : Ghosts D} (to : Version) (old new : Parts D g) (io : Bool) : Type 0 where
  pub is_open : IsOpen new
  pub tree : g.honest (device_of old.log) → (opened new).tree ≡ (opened old).tree
  pub done : io ≡ false → new.numbers ≡ raised to old.numbers
  pub undone : io ≡ true → new.numbers ≡ old.numbers
  pub crash : g.honest (device_of old.log) → Leaves (g.disk (device_of old.log)) (g.disk (device_of new.log)) (MayUpgrade (g.disk (device_of old.log)) old.numbers to (opened old).tree)
  pub durable : io ≡ false → g.honest (device_of old.log) → (c : _) → (g.disk (device_of new.log)).may_leave c → StandsAs c new.numbers (opened new).tree
  pub failed : has_failed new.log ≡ io
  pub failures : has_failed old.log ≡ false → g.failures (device_of new.log) ≡ counted io (g.failures (device_of old.log))
  pub idle : has_failed old.log ≡ true → (device_of new.log ≡ device_of old.log) × (io ≡ true)
  pub honest : g.honest (device_of old.log) ↔ g.honest (device_of new.log)
  pub size : g.size (device_of new.log) ≡ g.size (device_of old.log)
  pub goes_on : GoesOn g.goes_on (opened old) (opened new)
