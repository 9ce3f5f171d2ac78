use Rattle.std.proofs.Common.{⊎_elim, ◌+◌, refl, sym, ◌∙◌, ap, subst}
use Rattle.std.proofs.lemmas.Result.{IfOk-from_err}
use Rattle.vol_inode.specs.Entry.{IsEntry, HasName}
use Rattle.vol_inode.specs.declared.version.Version.TheVariants.{One}
use Rattle.vol_inode.specs.Spelling.{spelling}
use Rattle.vol_sector.specs.declared.fault.VolumeFault.TheVariants as faults
use Rattle.vol_body.proofs.SurveyExits.{handed_on}
use Rattle.vol_tree.proofs.Empty.{root_is_entry}
use Rattle.vol_tree.proofs.FreshVolumes.{first_slot, other_slots, no_places, fresh_parts}
use Rattle.vol_tree.proofs.fresh.empty_parts.Goals as goal
use Rattle.vol_log.specs.declared.layout.TheConstants.{FIRST_AFTER_LOG}

pub of_root-requires : goal.of_root-requires
of_root-requires c =
    let root = root_is_entry One in
    record { some = c.requires.ranges.some_slots; named = subst HasName (sym c.root.ensures) root.rules.name }

pub returns-in_err-dirs : goal.returns-in_err-dirs
returns-in_err-dirs c =
    let r = c.from_residual.result in
    let is_err_now = c.from_residual.ensures.0 in
    record {
      slots = IfOk-from_err r _ is_err_now;
      first = IfOk-from_err r _ is_err_now;
      end = IfOk-from_err r _ is_err_now;
      parts = λ content written. IfOk-from_err r _ is_err_now;
      refused = handed_on r _ faults.Memory c.from_residual.ensures.1 refl;
    }

pub returns-in_err-sectors : goal.returns-in_err-sectors
returns-in_err-sectors c =
    let r = c.from_residual-in_err-sectors.result in
    let is_err_now = c.from_residual-in_err-sectors.ensures.0 in
    let x = c.in_err-sectors.field-0.0 in
    let e = c.in_err-sectors.ensures in
    record {
      slots = IfOk-from_err r _ is_err_now;
      first = IfOk-from_err r _ is_err_now;
      end = IfOk-from_err r _ is_err_now;
      parts = λ content written. IfOk-from_err r _ is_err_now;
      refused = handed_on r _ x c.from_residual-in_err-sectors.ensures.1 (⊎_elim (λ damaged. absurd (e.damaged damaged (no_places (FIRST_AFTER_LOG + c.args.numbers.now.slots) c.args.numbers.now.sectors))) (λ memory. memory) e.faults_named);
    }

pub returns : goal.returns
returns c =
    let v = c.args.numbers.now in
    let ranges = c.requires.ranges in
    let is = c.root.ensures in
    let e = c.in_ok-sectors.ensures in
    record {
      slots = c.in_ok-dirs.ensures.slots;
      first = e.range.0;
      end = e.range.1;
      parts = λ content written.
          let shows = c.in_ok-dirs.ensures.shows v.version content (subst (IsEntry v.version) (sym is) (root_is_entry v.version)) (first_slot content v ranges written ∙ ap spelling (sym is)) (other_slots content v ranges written) in
          fresh_parts content v ranges written c.in_ok-dirs.dirs c.in_ok-sectors.sectors shows e.taken;
      refused = tt;
    }
