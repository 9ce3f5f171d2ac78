use Rattle.std.proofs.Common.{◌≡◌, ◌↔◌, ◌+◌, ◌<◌, ◌≤◌, ◌∙◌, ℕ, List, IsTrue, true, true≢false, inl, inr, refl, sym, subst}
use Rattle.std.proofs.lemmas.Result.{IfOk-from_err}
use Rattle.vol_sector.specs.declared.fault.VolumeFault.TheVariants as faults
use Rattle.vol_log.specs.Log.{view, device_of}
use Rattle.vol_alloc.specs.Numbers.{AreDistinct, ArePlaces, ListsNumber}
use Rattle.vol_alloc.specs.Alloc.{taken_of}
use Rattle.vol_body.proofs.SurveyExits.{handed_on, failed_on, not_device, or_memory}
use Rattle.vol_tree.proofs.ChecksHold.{tree_passes, places_pass}
use Rattle.vol_tree.proofs.ChecksSuffice.{HasPassed, is_content, space_found, taken_found}
use Rattle.vol_tree.proofs.Refusals.{memory_not_damage}
use Rattle.vol_tree.proofs.checking.check_entries.Goals as goal
use Rattle.vol_log.specs.declared.layout.TheConstants.{FIRST_AFTER_LOG}

pub make_a_tree-requires : goal.make_a_tree-requires
make_a_tree-requires g c =
    let ranges = c.requires.can.ranges in
    let count = c.in_ok-found.ensures.count in
    record {
      some = subst (λ (n : ℕ). 0 < n) (sym count) ranges.some_slots;
      few = subst (λ (n : ℕ). n ≤ 1048576) (sym count) ranges.few_slots;
    }

pub returns-in_err-found : goal.returns-in_err-found
returns-in_err-found g c =
    let r = c.from_residual.result in
    let is_err_now = c.from_residual.ensures.0 in
    let is = c.from_residual.ensures.1 in
    let x = c.in_err-found.field-0.0 in
    let e = c.in_err-found.ensures in
    record {
      slots = e.slots;
      first = IfOk-from_err r _ is_err_now;
      end = IfOk-from_err r _ is_err_now;
      parts = λ h. IfOk-from_err r _ is_err_now;
      damaged = λ h. handed_on r _ x is (e.damaged h);
      refused = handed_on r _ x is e.refused;
      reads = e.reads;
      failed = failed_on r x _ is e.failed;
    }

pub returns-in_err-make_a_tree : goal.returns-in_err-make_a_tree
returns-in_err-make_a_tree g c =
    let r = c.from_residual-in_err-make_a_tree.result in
    let is_err_now = c.from_residual-in_err-make_a_tree.ensures.0 in
    let is = c.from_residual-in_err-make_a_tree.ensures.1 in
    let read = c.in_ok-found.ensures in
    record {
      slots = read.slots;
      first = IfOk-from_err r _ is_err_now;
      end = IfOk-from_err r _ is_err_now;
      parts = λ h. IfOk-from_err r _ is_err_now;
      damaged = λ h. handed_on r _ faults.Memory is (λ damaged. memory_not_damage damaged);
      refused = handed_on r _ faults.Memory is (inr (inr refl));
      reads = read.reads;
      failed = failed_on r faults.Memory _ is read.failed;
    }

pub returns-then-not-branch : goal.returns-then-not-branch
returns-then-not-branch g c =
    let read = c.in_ok-found.ensures in
    record {
      slots = read.slots;
      first = tt;
      end = tt;
      parts = λ h. tt;
      damaged = λ h is volume.
          let yes : c.in_ok-make_a_tree.field-0 ≡ true = c.in_ok-make_a_tree.ensures.no (tree_passes (view c.args.log.now) c.args.numbers.now volume c.in_ok-found.found (read.read h)) in
          true≢false (sym yes ∙ c.if-not-branch.true);
      refused = inl tt;
      reads = read.reads;
      failed = read.failed;
    }

pub returns-in_err-sectors : goal.returns-in_err-sectors
returns-in_err-sectors g c =
    let v = c.args.numbers.now in
    let r = c.from_residual-in_err-sectors.result in
    let is_err_now = c.from_residual-in_err-sectors.ensures.0 in
    let is = c.from_residual-in_err-sectors.ensures.1 in
    let x = c.in_err-sectors.field-0.0 in
    let e = c.in_err-sectors.ensures in
    let read = c.in_ok-found.ensures in
    record {
      slots = read.slots;
      first = IfOk-from_err r _ is_err_now;
      end = IfOk-from_err r _ is_err_now;
      parts = λ h. IfOk-from_err r _ is_err_now;
      damaged = λ h. handed_on r _ x is
          (λ yes volume. e.damaged yes (subst (ArePlaces (FIRST_AFTER_LOG + v.slots) v.sectors) (sym c.deref.ensures.value) (places_pass (view c.args.log.now) v volume c.in_ok-found.found (read.read h))));
      refused = handed_on r _ x is (or_memory x e.faults_named);
      reads = read.reads;
      failed = failed_on r x _ is (read.failed ∙ sym (not_device x e.faults_named));
    }

pub returns : goal.returns
returns g c =
    let content = view c.args.log.now in
    let v = c.args.numbers.now in
    let dirs = c.read_entries.new.dirs in
    let found = c.in_ok-found.found in
    let read = c.in_ok-found.ensures in
    let e = c.in_ok-sectors.ensures in
    let same = c.deref.ensures.value in
    let tree = c.in_ok-make_a_tree.ensures.yes c.if-not-branch.false in
    let passed = λ (h : g.D.Device.honest (device_of c.args.log.now)).
    let is : HasPassed content v found = record {
      ranges = c.requires.can.ranges;
      read = read.read h;
      within = read.within;
      distinct = subst AreDistinct same e.right.distinct;
      top = tree.top;
      stand = tree.stand;
      lead = tree.lead;
    } in
    is in
    record {
      slots = read.slots;
      first = e.range.0;
      end = e.range.1;
      parts = λ h. record {
        volume = is_content content v found (passed h);
        shows = read.shows h;
        taken = taken_found content v found (passed h) c.in_ok-sectors.sectors (subst (λ (l : List ℕ). (n : ℕ) → IsTrue (taken_of c.in_ok-sectors.sectors n) ↔ ListsNumber l n) same e.taken);
        reserved = space_found content v found (passed h);
      };
      damaged = λ h. tt;
      refused = tt;
      reads = read.reads;
      failed = read.failed;
    }
