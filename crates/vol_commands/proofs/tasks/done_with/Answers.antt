use Rattle.std.proofs.Common.{◌⊎◌, inl, Bool, ap, sym, subst, arith, ◌∙◌}
use Rattle.std.proofs.KnownBytes.{Keeps-refl}
use Rattle.std.proofs.lemmas.Grind.{common_steps}
use Rattle.vol_sector.specs.Disk.{Leaves, counted}
use Rattle.vol_inode.specs.declared.version.Version.{Version}
use Rattle.vol_tree.specs.Clauses.{MayUpgrade}
use Rattle.sandbox_args.specs.declared.request.Task.{Task}
use Rattle.vol_commands.specs.Tasks.{ReflectsAny, IsPartOfPut}
use Rattle.vol_commands.specs.Changes.{IsPartOfChange}
use Rattle.vol_commands.specs.Replacing.{IsPartOfWhole, path_beside}
use Rattle.vol_commands.specs.Doing.{IsPartOf, IsRaised, version_after, prints, reads_input}
use Rattle.vol_tar.proofs.Moments.{leaves_more}
use Rattle.vol_commands.proofs.Beginning.{upgrade_any}
use Rattle.stream_answers.specs.Hearing.{Moves}
use Rattle.vol_commands.proofs.Blamed.{exactly}
use Rattle.std.proofs.lemmas.Bool.{false≢true}
use Rattle.vol_commands.proofs.tasks.done_with.Goals as goal

pub returns-in-Put-clause-crash : goal.returns-in-Put-clause-crash
returns-in-Put-clause-crash g c h =
    let v = c.args.volume.now in
    let these = IsPartOfPut v.numbers v.tree c.in-Put.path.now (g.R.Read.remaining c.args.input.now) in
    subst (λ (t : Task). Leaves (g.D.Device.disk v.device) (g.D.Device.disk c.put.new.volume.device)
    (λ m. ReflectsAny (g.D.Device.disk v.device) v.numbers (IsPartOf t v.numbers v.tree (g.R.Read.remaining c.args.input.now)) m ⊎ IsRaised t v.numbers v.tree m)) (sym c.in-Put.is)
    (leaves_more (g.D.Device.disk v.device) (g.D.Device.disk c.put.new.volume.device) (ReflectsAny (g.D.Device.disk v.device) v.numbers these) (λ m. ReflectsAny (g.D.Device.disk v.device) v.numbers these m ⊎ ⊥) (λ m p. inl p) (c.put.ensures.crash h))

pub returns-in-PutWhole-clause-crash : goal.returns-in-PutWhole-clause-crash
returns-in-PutWhole-clause-crash g c h =
    let v = c.args.volume.now in
    let these = IsPartOfWhole v.numbers v.tree (path_beside c.in-PutWhole.path.now) c.in-PutWhole.path.now (g.R.Read.remaining c.args.input.now) in
    subst (λ (t : Task). Leaves (g.D.Device.disk v.device) (g.D.Device.disk c.put_whole.new.volume.device)
    (λ m. ReflectsAny (g.D.Device.disk v.device) v.numbers (IsPartOf t v.numbers v.tree (g.R.Read.remaining c.args.input.now)) m ⊎ IsRaised t v.numbers v.tree m)) (sym c.in-PutWhole.is)
    (leaves_more (g.D.Device.disk v.device) (g.D.Device.disk c.put_whole.new.volume.device) (ReflectsAny (g.D.Device.disk v.device) v.numbers these) (λ m. ReflectsAny (g.D.Device.disk v.device) v.numbers these m ⊎ ⊥) (λ m p. inl p) (c.put_whole.ensures.crash h))

pub returns-in-Change-clause-crash : goal.returns-in-Change-clause-crash
returns-in-Change-clause-crash g c h =
    let v = c.args.volume.now in
    let these = IsPartOfChange v.tree c.in-Change.change in
    subst (λ (t : Task). Leaves (g.D.Device.disk v.device) (g.D.Device.disk c.change_tree.new.volume.device)
    (λ m. ReflectsAny (g.D.Device.disk v.device) v.numbers (IsPartOf t v.numbers v.tree (g.R.Read.remaining c.args.input.now)) m ⊎ IsRaised t v.numbers v.tree m)) (sym c.in-Change.is)
    (leaves_more (g.D.Device.disk v.device) (g.D.Device.disk c.change_tree.new.volume.device) (ReflectsAny (g.D.Device.disk v.device) v.numbers these) (λ m. ReflectsAny (g.D.Device.disk v.device) v.numbers these m ⊎ ⊥) (λ m p. inl p) (c.change_tree.ensures.crash h))

pub returns-in-Stat-clause-crash : goal.returns-in-Stat-clause-crash
returns-in-Stat-clause-crash c = grind (arith, common_steps)

pub returns-in-Check-clause-crash : goal.returns-in-Check-clause-crash
returns-in-Check-clause-crash c = grind (arith, common_steps)

pub returns-in-Get-clause-crash : goal.returns-in-Get-clause-crash
returns-in-Get-clause-crash c = grind (arith, common_steps)

pub returns-in-List-clause-crash : goal.returns-in-List-clause-crash
returns-in-List-clause-crash c = grind (arith, common_steps)

pub returns-in-Check-clause-failures : goal.returns-in-Check-clause-failures
returns-in-Check-clause-failures g c = ap (λ (b : Bool). counted b (g.D.Device.failures c.args.volume.now.device)) (sym c.check.ensures.asks_nothing)

pub returns-in_err-upgrade-in-Upgrade-clause-crash : goal.returns-in_err-upgrade-in-Upgrade-clause-crash
returns-in_err-upgrade-in-Upgrade-clause-crash g c h =
    let v = c.args.volume.now in
    let disk = g.D.Device.disk in
    subst (λ (t : Task). Leaves (disk v.device) (disk c.upgrade.new.self.device)
    (λ m. ReflectsAny (disk v.device) v.numbers (IsPartOf t v.numbers v.tree (g.R.Read.remaining c.args.input.now)) m ⊎ IsRaised t v.numbers v.tree m)) (sym c.in-Upgrade.is)
    (upgrade_any (disk v.device) (disk c.upgrade.new.self.device) v.numbers (version_after c.in-Upgrade.huge) v.tree (subst (λ (to : Version). Leaves (disk v.device) (disk c.upgrade.new.self.device) (MayUpgrade (disk v.device) v.numbers to v.tree)) c.version_after.ensures (c.upgrade.ensures.crash h)))

pub returns-in_ok-upgrade-in-Upgrade-clause-crash : goal.returns-in_ok-upgrade-in-Upgrade-clause-crash
returns-in_ok-upgrade-in-Upgrade-clause-crash g c h =
    let v = c.args.volume.now in
    let disk = g.D.Device.disk in
    subst (λ (t : Task). Leaves (disk v.device) (disk c.upgrade.new.self.device)
    (λ m. ReflectsAny (disk v.device) v.numbers (IsPartOf t v.numbers v.tree (g.R.Read.remaining c.args.input.now)) m ⊎ IsRaised t v.numbers v.tree m)) (sym c.in-Upgrade.is)
    (upgrade_any (disk v.device) (disk c.upgrade.new.self.device) v.numbers (version_after c.in-Upgrade.huge) v.tree (subst (λ (to : Version). Leaves (disk v.device) (disk c.upgrade.new.self.device) (MayUpgrade (disk v.device) v.numbers to v.tree)) c.version_after.ensures (c.upgrade.ensures.crash h)))

pub returns-in_err-upgrade-in-Upgrade-clause-prints_nothing : goal.returns-in_err-upgrade-in-Upgrade-clause-prints_nothing
returns-in_err-upgrade-in-Upgrade-clause-prints_nothing g c nothing = Keeps-refl (g.W.Write.contents c.args.out.now)

pub returns-in_ok-upgrade-in-Upgrade-clause-prints_nothing : goal.returns-in_ok-upgrade-in-Upgrade-clause-prints_nothing
returns-in_ok-upgrade-in-Upgrade-clause-prints_nothing g c nothing = Keeps-refl (g.W.Write.contents c.args.out.now)

pub returns-in-List-clause-heard : goal.returns-in-List-clause-heard
returns-in-List-clause-heard g c is = absurd (false≢true (sym (ap reads_input c.in-List.is) ∙ is))

pub returns-in-ListAs-clause-heard : goal.returns-in-ListAs-clause-heard
returns-in-ListAs-clause-heard g c is = absurd (false≢true (sym (ap reads_input c.in-ListAs.is) ∙ is))

pub returns-in-Get-clause-heard : goal.returns-in-Get-clause-heard
returns-in-Get-clause-heard g c is = absurd (false≢true (sym (ap reads_input c.in-Get.is) ∙ is))

pub returns-in-Check-clause-heard : goal.returns-in-Check-clause-heard
returns-in-Check-clause-heard g c is = absurd (false≢true (sym (ap reads_input c.in-Check.is) ∙ is))

pub returns-in-Stat-clause-heard : goal.returns-in-Stat-clause-heard
returns-in-Stat-clause-heard g c is = absurd (false≢true (sym (ap reads_input c.in-Stat.is) ∙ is))

pub returns-in-Change-clause-heard : goal.returns-in-Change-clause-heard
returns-in-Change-clause-heard g c is = absurd (false≢true (sym (ap reads_input c.in-Change.is) ∙ is))

pub returns-in_err-upgrade-in-Upgrade-clause-heard : goal.returns-in_err-upgrade-in-Upgrade-clause-heard
returns-in_err-upgrade-in-Upgrade-clause-heard g c is = absurd (false≢true (sym (ap reads_input c.in-Upgrade.is) ∙ is))

pub returns-in_ok-upgrade-in-Upgrade-clause-heard : goal.returns-in_ok-upgrade-in-Upgrade-clause-heard
returns-in_ok-upgrade-in-Upgrade-clause-heard g c is = absurd (false≢true (sym (ap reads_input c.in-Upgrade.is) ∙ is))

pub returns-in-Put-clause-heard : goal.returns-in-Put-clause-heard
returns-in-Put-clause-heard g c is = exactly (Moves g.R.Inlet.gave) g.R.Inlet.refused c.put.result _ _ c.put.ensures.heard

pub returns-in-PutWhole-clause-heard : goal.returns-in-PutWhole-clause-heard
returns-in-PutWhole-clause-heard g c is = c.put_whole.ensures.heard

-- ---- what the output refused

pub returns-in-Get-clause-printed : goal.returns-in-Get-clause-printed
returns-in-Get-clause-printed g c is = c.get.ensures.heard

pub returns-in-List-clause-printed : goal.returns-in-List-clause-printed
returns-in-List-clause-printed g c is = c.list.ensures.heard

pub returns-in-ListAs-clause-printed : goal.returns-in-ListAs-clause-printed
returns-in-ListAs-clause-printed g c is = c.list-in-ListAs.ensures.heard

pub returns-in-Put-clause-printed : goal.returns-in-Put-clause-printed
returns-in-Put-clause-printed g c is = absurd (false≢true (sym (ap prints c.in-Put.is) ∙ is))

pub returns-in-PutWhole-clause-printed : goal.returns-in-PutWhole-clause-printed
returns-in-PutWhole-clause-printed g c is = absurd (false≢true (sym (ap prints c.in-PutWhole.is) ∙ is))

pub returns-in-Check-clause-printed : goal.returns-in-Check-clause-printed
returns-in-Check-clause-printed g c is = c.check.ensures.heard

pub returns-in-Stat-clause-printed : goal.returns-in-Stat-clause-printed
returns-in-Stat-clause-printed g c is = c.describe.ensures.heard

pub returns-in-Change-clause-printed : goal.returns-in-Change-clause-printed
returns-in-Change-clause-printed g c is = absurd (false≢true (sym (ap prints c.in-Change.is) ∙ is))

pub returns-in_err-upgrade-in-Upgrade-clause-printed : goal.returns-in_err-upgrade-in-Upgrade-clause-printed
returns-in_err-upgrade-in-Upgrade-clause-printed g c is = absurd (false≢true (sym (ap prints c.in-Upgrade.is) ∙ is))

pub returns-in_ok-upgrade-in-Upgrade-clause-printed : goal.returns-in_ok-upgrade-in-Upgrade-clause-printed
returns-in_ok-upgrade-in-Upgrade-clause-printed g c is = absurd (false≢true (sym (ap prints c.in-Upgrade.is) ∙ is))
