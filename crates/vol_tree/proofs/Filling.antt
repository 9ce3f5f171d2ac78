-- A call that writes a file anew, and a call that fails on its way.
use Rattle.std.proofs.Common.{◌≡◌, inr, ℕ, suc, ◌+◌, ◌-◌, ◌≤◌, ◌<◌, true, false, Bool, List, length, Some, Result, Ok, Err, IsErrAnd, refl, sym, ◌∙◌, ap, subst, arith}
use Rattle.std.proofs.lemmas.List.FromFn.{length-map-range_with_len}
use Rattle.vol_sector.specs.Disk.{Image, counted}
use Rattle.vol_sector.specs.declared.device.Device.{Ghosts}
use Rattle.vol_log.specs.Log.{device_of, has_failed}
use Rattle.vol_log.specs.Reading.{OnlyReads}
use Rattle.vol_log.specs.declared.log.Log.{Log}
use Rattle.vol_log.proofs.Moments.{leaves_quiet}
use Rattle.vol_inode.specs.declared.entry.Entry.{Entry}
use Rattle.vol_inode.specs.declared.entry.Kind.{Kind}
use Rattle.vol_inode.specs.declared.entry.Kind.TheVariants as kinds
use Rattle.vol_inode.specs.Space.{size_limit, need_of}
use Rattle.vol_body.specs.Body.{bytes_of, byte_at}
use Rattle.vol_body.specs.Reading.{OnlyStages}
use Rattle.vol_alloc.specs.declared.sectors.Alloc.{Alloc}
use Rattle.vol_alloc.specs.Alloc.{first_of, end_of}
use Rattle.vol_dirs.specs.Names.{Shows}
use Rattle.vol_tree.specs.declared.errno.Errno.{Errno}
use Rattle.vol_tree.specs.declared.errno.Errno.TheVariants as errno
use Rattle.vol_tree.specs.declared.parts.Parts.{Parts}
use Rattle.vol_tree.specs.declared.superblock.Superblock.{Superblock}
use Rattle.vol_tree.specs.Tree as tree
use Rattle.vol_tree.specs.Tree.{Tree, Node, Directory, File, IsTree, changed}
use Rattle.vol_tree.specs.Calls.{if_it_fits}
use Rattle.vol_tree.specs.Space.{space, size_of}
use Rattle.vol_tree.specs.Stands.{entry_of, node_by}
use Rattle.vol_tree.specs.Clauses.{slots_in, tree_in}
use Rattle.vol_tree.specs.Opened.{data_sectors, geometry, Keeps}
use Rattle.vol_tree.specs.internal.Slots.{slot_of}
use Rattle.vol_tree.specs.Parts.{opened}
use Rattle.vol_tree.specs.internal.Parts.{IsContent, AreTaken}
use Rattle.vol_tree.specs.internal.Commits.{Commits}
use Rattle.vol_tree.specs.internal.Changes.{Changes, Stages}
use Rattle.vol_tree.specs.internal.Removals.{Fails}
use Rattle.vol_tree.proofs.Changing.{fault_is_io}
use Rattle.vol_tree.proofs.Rewriting.{Rewrites, filled_tree, rewritten_tree, rewritten_taken, rewritten_content, rewritten_front, rewritten_shows}
use Rattle.vol_tree.proofs.Finding.{tree_entry, length_tree, slot_within}
use Rattle.vol_tree.proofs.Writes.{it_fits, space_changed}
use Rattle.vol_log.specs.declared.layout.TheConstants.{FIRST_AFTER_LOG}

-- ---- a call that fails

module _ {D : Type 0} {g : Ghosts D} where
  pub fails_after : (old mid : Parts D g) (log : Log D g) (sectors : Alloc) → Commits old mid false → OnlyReads mid.log log → has_failed log ≡ true → first_of sectors ≡ first_of mid.sectors → end_of sectors ≡ end_of mid.sectors
      → Fails old (record mid { log = log; sectors = sectors })
  fails_after old mid log sectors c r failed first end =
      let is = c.is_open in
      record {
        is_open = record {
          ranges = is.ranges;
          sectors = r.sectors ∙ is.sectors;
          on_device = omega (arith, r.size, is.on_device);
          first = first ∙ is.first;
          end = end ∙ is.end;
          slots = is.slots;
          content = λ h. let h0 = r.honest.1 h in subst (λ m. IsContent m mid.numbers) (sym (r.view h0)) (is.content h0);
          reserved = λ h. let h0 = r.honest.1 h in is.reserved h0 ∙ ap (λ m. space (tree_in m mid.numbers)) (sym (r.view h0));
          shows = λ h. let h0 = r.honest.1 h in subst (λ m. Shows mid.numbers.version m mid.numbers.slots mid.dirs) (sym (r.view h0)) (is.shows h0);
          working = λ h ok. absurd (let e : true ≡ false = sym failed ∙ ok in cc);
        };
        tree = λ h. ap (λ m. tree_in m mid.numbers) (r.view (c.kept.honest.0 h)) ∙ c.tree h;
        crash = λ h. leaves_quiet (g.disk (device_of old.log)) (g.disk (device_of mid.log)) (g.disk (device_of log)) _ (c.crash h) (r.crash (c.kept.honest.0 h));
        kept = record {
          numbers = c.kept.numbers;
          failed = failed;
          failures = λ ok. r.failures c.kept.failed ∙ ap (λ (b : Bool). counted b (g.failures (device_of mid.log))) failed ∙ ap (counted true) (c.kept.failures ok);
          idle = λ was. absurd (let i = (c.kept.idle was).1 in cc);
          honest = (λ h. r.honest.0 (c.kept.honest.0 h), λ h. c.kept.honest.1 (r.honest.1 h));
          size = r.size ∙ c.kept.size;
        };
        goes_on = λ end le first from. r.goes_on end first (c.goes_on end le first from);
      }

  pub fails_io : {X : Type 0} (meant : Result (Tree × X) Errno) (old new : Parts D g) (r : Result X Errno) → IsErrAnd r (λ e. e ≡ errno.Io) → Fails old new → Changes meant old new r
  fails_io meant old new (Ok x) p f = absurd p
  fails_io {X} meant old new (Err e) p f = record {
    is_open = f.is_open;
    answer = λ h. (f.tree h, inr p);
    crash = f.crash;
    refused = λ h other. absurd (other p);
    kept = subst (λ (io : Bool). Keeps g.honest g.size g.failures (opened old) (opened new) io) (sym (fault_is_io {X = X} (Err e) p)) f.kept;
    goes_on = f.goes_on;
  }

  -- ---- a file is written

  pub file_stages : (old : Parts D g) (log : Log D g) (sectors : Alloc) (reserved : ℕ) → OnlyStages old.log log → has_failed old.log ≡ false → has_failed log ≡ false
      → first_of sectors ≡ first_of old.sectors → end_of sectors ≡ end_of old.sectors → Stages old (record old { log = log; sectors = sectors; reserved = reserved })
  file_stages old log sectors reserved s ok fine first end = record {
    seen = s.seen;
    crash = s.crash;
    failed = fine;
    numbers = refl;
    log_sectors = s.sectors;
    first = first;
    end = end;
    slots = refl;
    honest = s.honest;
    size = s.size;
    goes_on = s.goes_on;
    failures = s.failures ok ∙ ap (λ (b : Bool). counted b (g.failures (device_of old.log))) fine;
  }

-- the file's slot is written anew, for these bytes
pub record Fills (a b : Image) (v : Superblock) (file : ℕ) (d e : Entry) (old new : Alloc) (before after : ℕ) (bytes : List ℕ) : Type 0 where
  pub slot : slot_of a v file ≡ Some d
  pub kind : d.kind ≡ kinds.File
  pub rewrites : Rewrites a b v (file - 1) d e old new
  pub content : bytes_of b e ≡ bytes
  pub reserved : before + need_of e.size ≡ after + need_of d.size
  pub fits : after ≤ data_sectors v

module _ {D : Type 0} {g : Ghosts D} (a b : Image) (v : Superblock) (file : ℕ) (first : 1 ≤ file) (d e : Entry) (mid : Parts D g) (new : Alloc) (after : ℕ) (bytes : List ℕ)
    (is : IsContent a v) (first_is : first_of mid.sectors ≡ FIRST_AFTER_LOG + v.slots) (end_is : end_of mid.sectors ≡ v.sectors) (low : FIRST_AFTER_LOG + v.slots < v.sectors) (taken : AreTaken a v (slots_in a v.slots) mid.sectors)
    (total : mid.reserved ≡ space (tree_in a v)) (r : Fills a b v file d e mid.sectors new mid.reserved after bytes) where
  abbrev T : Tree
  T = tree_in a v

  abbrev was : tree.Entry
  was = entry_of a d

  abbrev U : Tree
  U = changed T file (Some (record was { node = File bytes }))

  here : suc (file - 1) ≡ file
  here = omega arith

  at : tree.entry T file ≡ Some was
  at = tree_entry a v file d first r.slot

  node_was : was.node ≡ File (bytes_of a d)
  node_was = ap (λ (k : Kind). node_by k (bytes_of a d)) r.kind

  filled_entry : entry_of b e ≡ record was { node = File bytes }
  filled_entry =
      let kind : e.kind ≡ kinds.File = r.rewrites.kind ∙ r.kind in
      λ i. record { parent = r.rewrites.parent i; name = r.rewrites.name i; node = node_by (kind i) (r.content i) }

  whole : changed T (suc (file - 1)) (Some (entry_of b e)) ≡ U
  whole = ap (λ (s : ℕ). changed T s (Some (entry_of b e))) here ∙ ap (λ (x : tree.Entry). changed T file (Some x)) filled_entry

  pub filled_is : tree_in b v ≡ U
  filled_is = rewritten_tree a b v (file - 1) d e mid.sectors new is r.slot first_is end_is low taken r.rewrites ∙ whole

  is_file : was.node ≡ Directory → ⊥
  is_file same = let both : File (bytes_of a d) ≡ Directory = sym node_was ∙ same in cc

  tree_stays : IsTree U
  tree_stays = filled_tree T is.volume.tree file was at is_file bytes

  long : length bytes ≡ e.size
  long = ap length (sym r.content) ∙ length-map-range_with_len (byte_at b e) 0 e.size

  pub space_is : after ≡ space U
  space_is =
      let lt : file - 1 < length T = omega (arith, length_tree a v, slot_within a v.slots (file - 1) d r.slot) in
      let sums = space_changed T (file - 1) was (record was { node = File bytes }) (ap (tree.entry T) here ∙ at) lt in
      let same : space (changed T (suc (file - 1)) (Some (record was { node = File bytes }))) ≡ space U = ap (λ (s : ℕ). space (changed T s (Some (record was { node = File bytes })))) here in
      let long_was : length (bytes_of a d) ≡ d.size = length-map-range_with_len (byte_at a d) 0 d.size in
      let needs_was : need_of (size_of was.node) ≡ need_of d.size = ap (λ (n : Node). need_of (size_of n)) node_was ∙ ap need_of long_was in
      let needs_now : need_of (length bytes) ≡ need_of e.size = ap need_of long in
      let reserved = r.reserved in
      omega (arith, sums, same, needs_was, needs_now, reserved, total)

  space_fits : space U ≤ data_sectors v
  space_fits = let fits = r.fits in omega (arith, space_is, fits)

  pub filled_fits : e.size ≤ size_limit v.version → if_it_fits (geometry v) T file bytes ≡ Ok U
  filled_fits small = it_fits (geometry v) T file was at bytes (omega (arith, small, long)) space_fits

  pub filled_content : IsContent b v
  filled_content = rewritten_content a b v (file - 1) d e mid.sectors new is r.slot first_is end_is low taken r.rewrites (subst IsTree (sym whole) tree_stays) (subst (λ (V : Tree). space V ≤ data_sectors v) (sym whole) space_fits)

  pub filled_taken : AreTaken b v (slots_in b v.slots) new
  filled_taken = rewritten_taken a b v (file - 1) d e mid.sectors new is r.slot first_is end_is low taken r.rewrites

  pub filled_front : b 0 ≡ a 0
  filled_front = rewritten_front a b v (file - 1) d e mid.sectors new is r.slot first_is end_is low taken r.rewrites

  pub filled_shows : Shows v.version a v.slots mid.dirs → Shows v.version b v.slots mid.dirs
  filled_shows shows = rewritten_shows a b v (file - 1) d e mid.sectors new is r.slot first_is end_is low taken r.rewrites mid.dirs shows
