use Rattle.std.proofs.Common.{◌≡◌, ◌<◌, ◌-◌, ◌∙◌, get_or, IfOk, refl, sym, ap, subst, arith}
use Rattle.vol_log.specs.Log.{view}
use Rattle.vol_alloc.specs.Alloc.{taken_of}
use Rattle.vol_body.specs.Body.{BlockPosition, indirect_block, inner_block, named}
use Rattle.vol_body.specs.internal.Writing.{Mirrors, segment}
use Rattle.vol_body.proofs.Places.{known_at}
use Rattle.vol_body.proofs.OneStaged.{known_taken}
use Rattle.vol_body.proofs.Loads.{loaded, segment_later, number_mirrored}
use Rattle.vol_body.proofs.pointer_sectors.load_segment.Goals as goal

pub load-requires : goal.load-requires
load-requires g c = record { taken = λ some. absurd (some refl); there = c.requires.there; working = c.requires.working }

pub returns-then-last-lt-DIRECT : goal.returns-then-last-lt-DIRECT
returns-then-last-lt-DIRECT g c =
    let e = c.load.ensures in
    record { right = λ h names reaches mirror. absurd (omega (arith, reaches)); known = e.known; reads = e.reads; failed = e.failed }

pub load-requires-then-group-eq0 : goal.load-requires-then-group-eq0
load-requires-then-group-eq0 g c = record { taken = known_taken (taken_of c.args.sectors.now) (get_or c.args.entry.now.pointers 58 0) c.taken_or_zero-first.result c.taken_or_zero-first.ensures; there = c.requires.there; working = c.requires.working }

pub returns-then-group-eq0 : goal.returns-then-group-eq0
returns-then-group-eq0 g c =
    let content = view c.args.log.now in
    let e = c.args.entry.now in
    let done = c.load-then-group-eq0.ensures in
    record {
      right = λ h names reaches mirror.
          let known : c.taken_or_zero-first.result ≡ named content e indirect_block = c.taken_or_zero-first.ensures ∙ known_at (taken_of c.args.sectors.now) content e names indirect_block tt (get_or e.pointers 58 0) refl in
          subst (λ (p : BlockPosition). IfOk c.load-then-group-eq0.result (λ s. Mirrors content e p s.number s.image)) (sym (ap segment c.if-group-eq0.true))
          (loaded content e indirect_block c.taken_or_zero-first.result c.load-then-group-eq0.result known done.number (done.image h));
      known = done.known;
      reads = done.reads;
      failed = done.failed;
    }

pub load-requires-2 : goal.load-requires-2
load-requires-2 g c = record { taken = known_taken (taken_of c.args.sectors.now) c.number_at.result c.taken_or_zero-number.result c.taken_or_zero-number.ensures; there = c.requires.there; working = c.requires.working }

pub returns : goal.returns
returns g c =
    let done = c.load-2.ensures in
    record {
      right = λ h names reaches mirror.
          let content = view c.args.log.now in
          let e = c.args.entry.now in
          let i = c.args.group - 1 in
          let here = mirror (omega (arith, reaches, c.if-group-eq0.false)) in
          let below : i < 16512 = omega (arith, reaches, c.requires.small, c.if-group-eq0.false) in
          let number : c.number_at.result ≡ named content e (inner_block i) = c.number_at.ensures ∙ number_mirrored content e i c.args.above.now.number c.args.above.now.image here in
          let known : c.taken_or_zero-number.result ≡ named content e (inner_block i) = c.taken_or_zero-number.ensures ∙ known_at (taken_of c.args.sectors.now) content e names (inner_block i) below c.number_at.result number in
          subst (λ (p : BlockPosition). IfOk c.load-2.result (λ s. Mirrors content e p s.number s.image)) (sym (segment_later c.args.group c.if-group-eq0.false))
          (loaded content e (inner_block i) c.taken_or_zero-number.result c.load-2.result known c.load-2.ensures.number (c.load-2.ensures.image h));
      known = done.known;
      reads = done.reads;
      failed = done.failed;
    }
