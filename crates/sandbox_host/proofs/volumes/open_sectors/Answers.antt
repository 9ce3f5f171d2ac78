use Rattle.std.proofs.Common.{◌≡◌, ◌∙◌, List, length, ap, sym, subst, ⊎_elim, ℕ, arith}
use Rattle.vol_sector.specs.Disk.{Image}
use Rattle.vol_tree.specs.Stands.{StandsAs}
use Rattle.sandbox_device.proofs.Recorded.{unused_leaves}
use Rattle.vol_sector.specs.Record.{image_of}
use Rattle.vol_tree.specs.Opening.{StandsOn}
use Rattle.sandbox_host.specs.Volumes.{IsIn, RefusesSectors}
use Rattle.sandbox_host.proofs.Working.{refused_as}
use Rattle.sandbox_host.proofs.RecordKept.{goes_from_itself}
use Rattle.sandbox_host.proofs.volumes.open_sectors.Goals as goal

-- the device has the sectors, so what they stand for is found
pub returns-in-Ok-clause-opens : goal.returns-in-Ok-clause-opens
returns-in-Ok-clause-opens c =
    let v = c.in-Ok.volume in
    let d = c.in_ok-device.device in
    let unused = c.in_ok-device.ensures.unused in
    let same : d.sectors ≡ c.args.sectors.now = c.in_ok-device.ensures.sectors in
    let stood : StandsOn (length d.sectors) (image_of d.sectors) v.numbers v.tree = c.in-Ok.ensures.opens.stands tt in
    let crash = c.in-Ok.ensures.crash v.numbers v.tree tt stood in
    let went = c.in-Ok.ensures.goes_on_ok v.numbers.sectors (omega arith) d (goes_from_itself v.numbers.sectors d) in
    let is_in : IsIn c.args.is_huge c.args.sectors.now v = record {
      few = omega (arith, c.if-sectors-most.false, c.most_sectors-most.ensures.most);
      stands = subst (λ (xs : List (List ℕ)). StandsOn (length xs) (image_of xs) v.numbers v.tree) same stood;
      size = c.in-Ok.ensures.kept.size ∙ ap length same;
      working = record { works = c.in-Ok.ensures.opens.working; lasts = c.in-Ok.ensures.opens.durable tt };
      since = λ i left. ⊎_elim (λ first. subst (λ (image : Image). StandsAs image v.numbers v.tree) (sym (unused_leaves d unused.1 unused.2 i first)) stood.stands) (λ is. is)
          (crash.since 0 i (omega arith) left);
    } in
    record {
      is_in = is_in;
      began = went.began ∙ unused.0;
      is_recorded = went.is_recorded ∙ c.in_ok-device.ensures.recorded.0;
    }

-- what the volume is refused for
pub returns-clause-refused : goal.returns-clause-refused
returns-clause-refused c =
    let e = c.in-Err.ensures in
    let f = c.in-Err.field-0.fault in
    subst (λ (xs : List (List ℕ)). RefusesSectors c.args.is_huge xs f) c.in_ok-device.ensures.sectors
    (refused_as c.args.is_huge c.in_ok-device.device.sectors f (e.why.not_a_volume tt) (e.why.version tt) (e.why.damaged tt) e.kept.failures e.why.faults_named)
