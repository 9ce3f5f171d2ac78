use Rattle.std.proofs.Common.{◌≡◌, ◌<◌, ◌≤◌, ◌-◌, ◌∙◌, get_or, IfOk, refl, sym, ap, subst, arith}
use Rattle.vol_log.specs.Log.{view}
use Rattle.vol_alloc.specs.Alloc.{taken_of}
use Rattle.vol_body.specs.Body.{BlockPosition, double_indirect_block, named}
use Rattle.vol_body.specs.internal.Writing.{Mirrors}
use Rattle.vol_body.proofs.Places.{known_at}
use Rattle.vol_body.proofs.OneStaged.{known_taken}
use Rattle.vol_body.proofs.Loads.{loaded, double_mirrored}
use Rattle.vol_body.proofs.pointer_sectors.load_double.Goals as goal

pub load-requires : goal.load-requires
load-requires g c = record { taken = λ some. absurd (some refl); there = c.requires.there; working = c.requires.working }

pub returns-then-last-lt-LISTED : goal.returns-then-last-lt-LISTED
returns-then-last-lt-LISTED g c =
    let e = c.load.ensures in
    record { right = λ h names reaches mirror. absurd (omega (arith, reaches)); known = e.known; reads = e.reads; failed = e.failed }

pub load-requires-then-d-eq0 : goal.load-requires-then-d-eq0
load-requires-then-d-eq0 g c = record { taken = known_taken (taken_of c.args.sectors.now) (get_or c.args.entry.now.pointers 59 0) c.taken_or_zero-first.result c.taken_or_zero-first.ensures; there = c.requires.there; working = c.requires.working }

pub returns-then-d-eq0 : goal.returns-then-d-eq0
returns-then-d-eq0 g c =
    let content = view c.args.log.now in
    let e = c.args.entry.now in
    let done = c.load-then-d-eq0.ensures in
    record {
      right = λ h names reaches mirror.
          let known : c.taken_or_zero-first.result ≡ named content e (double_indirect_block 0) = c.taken_or_zero-first.ensures ∙ known_at (taken_of c.args.sectors.now) content e names (double_indirect_block 0) (omega arith) (get_or e.pointers 59 0) refl in
          subst (λ (p : BlockPosition). IfOk c.load-then-d-eq0.result (λ s. Mirrors content e p s.number s.image)) (sym (ap double_indirect_block c.if-d-eq0.true))
          (loaded content e (double_indirect_block 0) c.taken_or_zero-first.result c.load-then-d-eq0.result known done.number (done.image h));
      known = done.known;
      reads = done.reads;
      failed = done.failed;
    }

pub load-requires-2 : goal.load-requires-2
load-requires-2 g c = record { taken = known_taken (taken_of c.args.sectors.now) c.number_at.result c.taken_or_zero-number.result c.taken_or_zero-number.ensures; there = c.requires.there; working = c.requires.working }

pub returns : goal.returns
returns g c =
    let done = c.load-2.ensures in
    record {
      right = λ h names reaches mirror.
          let content = view c.args.log.now in
          let e = c.args.entry.now in
          let d = c.args.d in
          let some : 1 ≤ d = omega (arith, c.if-d-eq0.false) in
          let here = mirror (omega (arith, reaches, some)) in
          let below : d < 129 = omega (arith, reaches, c.requires.small) in
          let number : c.number_at.result ≡ named content e (double_indirect_block d) = c.number_at.ensures ∙ double_mirrored content e d c.args.triple.now.number c.args.triple.now.image some here in
          let known : c.taken_or_zero-number.result ≡ named content e (double_indirect_block d) = c.taken_or_zero-number.ensures ∙ known_at (taken_of c.args.sectors.now) content e names (double_indirect_block d) below c.number_at.result number in
          loaded content e (double_indirect_block d) c.taken_or_zero-number.result c.load-2.result known c.load-2.ensures.number (c.load-2.ensures.image h);
      known = done.known;
      reads = done.reads;
      failed = done.failed;
    }
