use Rattle.std.proofs.Common.{◌∙◌, get_or, refl, arith}
use Rattle.vol_log.specs.Log.{view}
use Rattle.vol_alloc.specs.Alloc.{taken_of}
use Rattle.vol_body.specs.Body.{triple_indirect_block}
use Rattle.vol_body.proofs.Places.{known_at}
use Rattle.vol_body.proofs.OneStaged.{known_taken}
use Rattle.vol_body.proofs.Loads.{loaded}
use Rattle.vol_body.proofs.pointer_sectors.load_triple.Goals as goal

pub load-requires : goal.load-requires
load-requires g c = record { taken = λ some. absurd (some refl); there = c.requires.there; working = c.requires.working }

pub returns-then-last-lt-TWICE_LISTED : goal.returns-then-last-lt-TWICE_LISTED
returns-then-last-lt-TWICE_LISTED g c =
    let e = c.load.ensures in
    record { right = λ h names reaches. absurd (omega (arith, reaches, c.if-last-lt-TWICE_LISTED.true)); known = e.known; reads = e.reads; failed = e.failed }

pub load-requires-2 : goal.load-requires-2
load-requires-2 g c = record { taken = known_taken (taken_of c.args.sectors.now) (get_or c.args.entry.now.pointers 60 0) c.taken_or_zero-number.result c.taken_or_zero-number.ensures; there = c.requires.there; working = c.requires.working }

pub returns : goal.returns
returns g c =
    let done = c.load-2.ensures in
    record {
      right = λ h names reaches.
          let content = view c.args.log.now in
          let e = c.args.entry.now in
          loaded content e triple_indirect_block c.taken_or_zero-number.result c.load-2.result
          (c.taken_or_zero-number.ensures ∙ known_at (taken_of c.args.sectors.now) content e names triple_indirect_block tt (get_or e.pointers 60 0) refl)
          c.load-2.ensures.number (c.load-2.ensures.image h);
      known = done.known;
      reads = done.reads;
      failed = done.failed;
    }
