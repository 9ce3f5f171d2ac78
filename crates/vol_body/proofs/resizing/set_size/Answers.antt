use Rattle.std.proofs.Common.{◌≡◌, ◌<◌, ◌∙◌, Result, Ok, Err, OnErr, is_err, true, sym, ap, subst, arith}
use Rattle.std.proofs.lemmas.Bool.{false≢true}
use Rattle.std.proofs.lemmas.Result.{on_err_weaker}
use Rattle.vol_sector.specs.Disk.{Image, put}
use Rattle.vol_log.specs.Log.{view, room_of, is_staged}
use Rattle.vol_log.specs.Reading.{OnlyReads}
use Rattle.vol_log.proofs.Readings.{reads_same}
use Rattle.vol_alloc.specs.Alloc.{first_of, end_of, taken_of}
use Rattle.vol_inode.specs.Spelling.{spelling}
use Rattle.vol_inode.specs.Entry.{HasWidths}
use Rattle.vol_inode.specs.declared.entry.Entry.{Entry}
use Rattle.vol_body.specs.Body.{bytes_of}
use Rattle.vol_body.specs.Change.{OthersStay, TakesAndGives}
use Rattle.vol_body.proofs.Parts.{length-bytes_of}
use Rattle.vol_body.proofs.CutSectors.{put_there}
use Rattle.vol_body.proofs.Grown.{grown_others, grown_taken, grown_resized, slot_is_other}
use Rattle.vol_body.proofs.NoneLost.{none_lost}
use Rattle.vol_body.proofs.Rights.{right_file, one, both, four}
use Rattle.vol_body.proofs.Stagings.{stages_one}
use Rattle.vol_body.proofs.resizing.set_size.Goals as goal

pub returns-clause-entry : goal.returns-clause-entry
returns-clause-entry g c =
    let e = c.args.entry.now in
    both c.grow.result _ _ _ (λ is longer. record {
      entry = longer ∙ sym (ap (λ (x : Entry). record e { size = c.args.size; pointers = x.pointers }) longer);
      staged = ap (λ (m : Image). m c.args.inode_sector) is ∙ put_there c.args.inode_sector (spelling c.grow.new.entry) (view c.args.log.now);
    }) c.grow.ensures.staged c.grow.ensures.entry

pub returns-clause-file : goal.returns-clause-file
returns-clause-file g c h names body =
    let content = view c.args.log.now in
    let e = c.args.entry.now in
    let size = c.args.size in
    let place = c.args.inode_sector in
    let after = view c.grow.new.log in
    let changed = c.grow.new.entry in
    let others = slot_is_other c.args.sectors.now content e place (omega (arith, c.requires.can.after_log)) c.requires.can.slot names in
    let first = first_of c.args.sectors.now in
    let end = end_of c.args.sectors.now in
    let taken = taken_of c.args.sectors.now in
    four c.grow.result _ _ _ _ _ (λ is longer bytes rules. record {
      bytes = bytes ∙ sym (grown_resized (bytes_of content e) e.size size (length-bytes_of content e) (omega (arith, c.if-size-entry.false)));
      rules = rules;
      others = subst (λ (m : Image). OthersStay place first end taken content m e) (sym is) (grown_others content e size place (spelling changed) others first end taken);
      taken = subst (λ (m : Image). TakesAndGives taken taken content m e changed) (sym is)
          (subst (λ (x : Entry). TakesAndGives taken taken content (put place (spelling changed) content) e x) (sym longer) (grown_taken content e size place (spelling changed) others taken names));
      right = λ version right none small.
          let size_is = ap (λ (x : Entry). x.size) longer in
          right_file version after e changed size right (λ directory. sym size_is ∙ none directory) (omega (arith, small, size_is))
          (longer ∙ sym (ap (λ (x : Entry). record e { size = size; pointers = x.pointers }) longer)) (subst HasWidths (sym longer) (record { parent = right.widths.parent; size = omega (arith, c.requires.small); name = right.widths.name; pointers = right.widths.pointers; each = right.widths.each })) rules;
    }) c.grow.ensures.staged c.grow.ensures.entry (c.grow.ensures.bytes body others) (c.grow.ensures.rules body others)

pub returns-clause-none_lost : goal.returns-clause-none_lost
returns-clause-none_lost g c h names body =
    let sectors = c.args.sectors.now in
    let some : 0 < first_of sectors = omega (arith, c.requires.can.slot) in
    one c.grow.result _ _ (λ file. none_lost sectors sectors (view c.args.log.now) (view c.grow.new.log) c.args.entry.now c.grow.new.entry some (λ i. first_of sectors, λ i. end_of sectors) c.requires.can.small_before names body file.rules file.taken) (returns-clause-file g c h names body)

pub shrink-requires : goal.shrink-requires
shrink-requires g c = record { can = c.requires.can; shorter = c.if-size-entry.true }

pub returns-then-size-entry : goal.returns-then-size-entry
returns-then-size-entry g c =
    let e = c.shrink.ensures in
    record {
      file = e.file;
      none_lost = e.none_lost;
      entry = e.entry;
      steps = e.steps;
      refused = e.refused;
      idle = e.idle;
    }

pub grow-requires : goal.grow-requires
grow-requires g c = record {
  after_log = c.requires.can.after_log;
  there = c.requires.can.within;
  room = omega (arith, c.requires.can.room);
  sizes = (c.if-size-entry.false, c.requires.small);
}

pub returns-clause-steps : goal.returns-clause-steps
returns-clause-steps g c =
    let grown = c.grow.ensures in
    stages_one 5 c.args.log.now c.grow.new.log c.args.sectors.now c.grow.result (is_staged c.args.log.now c.args.inode_sector) (omega arith) grown.log.0 grown.log.1 grown.log.2 grown.fails grown.room
    (on_err_weaker c.grow.result (λ same. ap room_of same.0) grown.refused)

pub returns-clause-refused : goal.returns-clause-refused
returns-clause-refused g c = on_err_weaker c.grow.result (λ same. (subst (OnlyReads c.args.log.now) (sym same.0) (reads_same c.args.log.now), same.1)) c.grow.ensures.refused

-- what holds where it is refused
where_err : {T E : Type 0} (r : Result T E) (P : Type 0) → is_err r ≡ true → OnErr r P → P
where_err (Ok x) P is holds = absurd (false≢true is)
where_err (Err e) P is holds = holds

pub returns-clause-idle : goal.returns-clause-idle
returns-clause-idle g c failed =
    let is_err_now = c.grow.ensures.fails ∙ failed in
    ((where_err c.grow.result _ is_err_now c.grow.ensures.refused).0, is_err_now)
