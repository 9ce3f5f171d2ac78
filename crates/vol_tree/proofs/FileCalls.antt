-- A call on a file's bytes, from the entry that was read to its answer.
use Rattle.std.proofs.Common.{is_some, ◌≡◌, ◌≤◌, ◌<◌, inl, ℕ, ◌+◌, ◌-◌, true, false, List, length, max, get_or, Some, None, Result, Ok, Err, sym, ◌∙◌, ap, subst, arith}
use Rattle.vol_sector.specs.declared.device.Device.{Ghosts}
use Rattle.vol_log.specs.Log.{view, device_of, has_failed, room_of}
use Rattle.vol_log.specs.declared.log.Log.{Log}
use Rattle.vol_inode.specs.declared.entry.Entry.{Entry}
use Rattle.vol_inode.specs.Entry.{IsEntry, name_of}
use Rattle.vol_inode.specs.Space.{size_limit, need_of}
use Rattle.vol_body.specs.Body.{bytes_of}
use Rattle.vol_body.specs.Reading.{OnlyStages}
use Rattle.vol_body.specs.Change.{CanChange, EntryBecomes, FileBecomes, IfSound, OthersStay, used_of}
use Rattle.vol_body.proofs.Rights.{not_both}
use Rattle.vol_alloc.specs.declared.sectors.Alloc.{Alloc}
use Rattle.vol_alloc.specs.Alloc.{first_of, end_of, taken_of, free_of}
use Rattle.vol_dirs.specs.Slots.{slot_sector}
use Rattle.vol_tree.specs.declared.errno.Errno.{Errno}
use Rattle.vol_tree.specs.declared.errno.Errno.TheVariants as errno
use Rattle.vol_tree.specs.declared.parts.Parts.{Parts}
use Rattle.vol_tree.specs.declared.superblock.Superblock.{Superblock}
use Rattle.vol_tree.specs.Tree as tree
use Rattle.vol_tree.specs.Tree.{Tree}
use Rattle.vol_tree.specs.Calls.{if_it_fits, with_unit, is_file_at, bytes_at}
use Rattle.vol_tree.specs.Space.{space}
use Rattle.vol_tree.specs.Stands.{Slots, entry_of}
use Rattle.vol_tree.specs.Clauses.{tree_in}
use Rattle.vol_tree.specs.Opened.{data_sectors, geometry}
use Rattle.vol_tree.specs.internal.Slots.{slot_of}
use Rattle.vol_tree.specs.internal.Parts.{IsOpen}
use Rattle.vol_tree.specs.internal.Commits.{Commits, ReadsOnly}
use Rattle.vol_tree.specs.internal.Changes.{Changes}
use Rattle.vol_tree.proofs.Changing.{refused, done}
use Rattle.vol_tree.proofs.Committing.{commits_then}
use Rattle.vol_tree.proofs.Filling.{Fills, file_stages, filled_front, filled_content, filled_is, filled_fits, filled_shows, filled_taken, space_is}
use Rattle.vol_tree.proofs.Finding.{tree_entry}
use Rattle.vol_tree.proofs.OneTree.{limit_small}
use Rattle.vol_tree.proofs.WriteCalls.{enough, file_used, is_file, need_le, old_bytes, space_with}
use Rattle.vol_tree.proofs.Writes.{no_space, too_big}

-- The sectors that all files need become this many where one has a new size in place of its old one, and there are as many.
abbrev pub IsReserved : Superblock → (before after old new : ℕ) → Type 0
IsReserved v before after old new = need_of old ≤ before → (after + need_of old ≡ before + need_of new) × (after ≤ data_sectors v)

-- A call makes other bytes of those of a file, by `rewrite`. `old` are the parts when it begins, `one` those once the file's entry
-- is read.
module _ {D : Type 0} {g : Ghosts D} (old one : Parts D g) (file : ℕ) (d : Entry) (rewrite : List ℕ → List ℕ) (meant : Result (Tree × Unit {0}) Errno) (is : IsOpen old) (first : 1 ≤ file) (read : ReadsOnly old one false)
    (used : g.honest (device_of old.log) → is_file_at (tree_in (view old.log) old.numbers) file ≡ true)
    (found : g.honest (device_of old.log) → is_some (tree.entry (tree_in (view old.log) old.numbers) file) ≡ true → slot_of (view old.log) old.numbers file ≡ Some d)
    (meant_is : meant ≡ with_unit (if_it_fits (geometry old.numbers) (tree_in (view old.log) old.numbers) file (rewrite (bytes_at (tree_in (view old.log) old.numbers) file)))) where
  abbrev T : Tree
  T = tree_in (view old.log) old.numbers

  abbrev B : List ℕ
  B = rewrite (bytes_at T file)

  slot_is : g.honest (device_of old.log) → slot_of (view old.log) old.numbers file ≡ Some d
  slot_is h = found h (file_used T file (used h))

  entry_is : g.honest (device_of old.log) → tree.entry T file ≡ Some (entry_of (view old.log) d)
  entry_is h = tree_entry (view old.log) old.numbers file d first (slot_is h)

  pub is_too_big : (n : ℕ) → (g.honest (device_of old.log) → slot_of (view old.log) old.numbers file ≡ Some d → length B ≡ n) → size_limit one.numbers.version < n → Changes meant old one (Err errno.TooBig)
  is_too_big n long over = refused meant old one errno.TooBig read (λ h.
      let more = subst (λ (w : Superblock). size_limit w.version < n) read.commits.kept.numbers over in
      inl (meant_is ∙ ap with_unit (too_big (geometry old.numbers) T file (entry_of (view old.log) d) (entry_is h) B (omega (arith, more, long h (slot_is h))))))

  -- the file's old sectors are among those that are needed
  le : g.honest (device_of old.log) → need_of d.size ≤ one.reserved
  le h = omega (arith, need_le (view old.log) old.numbers (is.content h) file first d (slot_is h) (used h), read.commits.reserved, is.reserved h)

  pub has_no_space : (n : ℕ) → (g.honest (device_of old.log) → slot_of (view old.log) old.numbers file ≡ Some d → length B ≡ n) → n ≤ size_limit one.numbers.version
      → (need_of d.size ≤ one.reserved → data_sectors one.numbers + need_of d.size < one.reserved + need_of n) → Changes meant old one (Err errno.NoSpace)
  has_no_space n long small few = refused meant old one errno.NoSpace read (λ h.
      let limit = subst (λ (w : Superblock). n ≤ size_limit w.version) read.commits.kept.numbers small in
      let more = few (le h) in
      let room : data_sectors one.numbers ≡ data_sectors old.numbers = ap data_sectors read.commits.kept.numbers in
      let needs : need_of (length B) ≡ need_of n = ap need_of (long h (slot_is h)) in
      let sums = space_with (view old.log) old.numbers (is.content h) file first d (slot_is h) (used h) B in
      inl (meant_is ∙ ap with_unit (no_space (geometry old.numbers) T file (entry_of (view old.log) d) (entry_is h) B (omega (arith, limit, long h (slot_is h))) (omega (arith, more, room, needs, sums, read.commits.reserved, is.reserved h)))))

  -- a file that isn't cut stays within the limit
  pub stays_small : IsEntry old.numbers.version d → (end size : ℕ) → size ≡ max d.size end → end ≤ size_limit one.numbers.version → size ≤ size_limit one.numbers.version
  stays_small right end size is_size small =
      let before = subst (λ (w : Superblock). d.size ≤ size_limit w.version) (sym read.commits.kept.numbers) right.rules.size.small in
      omega (arith, before, small, is_size)

  -- ---- the parts are `mid` once there is room for what the call stages

  module _ (mid : Parts D g) (made : Commits one mid false) where
    commits : Commits old mid false
    commits = commits_then old one mid false read.commits made

    pub can_change : (most at : ℕ) → most ≤ room_of mid.log → file ≤ old.numbers.slots → at ≡ slot_sector file → IsEntry old.numbers.version d → CanChange most at mid.log mid.sectors d
    can_change most at room last place right =
        let open_now = commits.is_open in
        let within = subst (λ (w : Superblock). file ≤ w.slots) (sym commits.kept.numbers) last in
        record {
          after_log = omega (arith, first, place);
          slot = omega (arith, within, open_now.first, place);
          within = omega (arith, within, open_now.sectors, open_now.ranges.room, place);
          there = omega (arith, open_now.end, open_now.sectors);
          room = room;
          small_before = omega (arith, right.rules.size.small, limit_small old.numbers.version);
        }

    slot_mid : g.honest (device_of old.log) → slot_of (view mid.log) mid.numbers file ≡ Some d
    slot_mid h = ap (λ (s : Slots). get_or s (file - 1) None) (commits.slots h) ∙ slot_is h

    file_mid : g.honest (device_of old.log) → is_file_at (tree_in (view mid.log) mid.numbers) file ≡ true
    file_mid h = ap (λ (U : Tree). is_file_at U file) (commits.tree h) ∙ used h

    room_is : data_sectors mid.numbers ≡ data_sectors one.numbers
    room_is = ap data_sectors made.kept.numbers

    pub has_enough : (after size : ℕ) → IsReserved one.numbers one.reserved after d.size size → g.honest (device_of mid.log) → need_of size ≤ free_of mid.sectors + used_of (view mid.log) d
    has_enough after size reserved h1 =
        let h = commits.kept.honest.1 h1 in
        let is_open = commits.is_open in
        let sums = reserved (le h) in
        enough (view mid.log) mid.numbers (is_open.content h1) file first d (slot_mid h) (file_mid h) mid.sectors size (is_open.working h1 commits.kept.failed).taken is_open.first is_open.end
        (omega (arith, sums.0, sums.1, room_is, made.reserved, is_open.reserved h1))

    -- the file is changed, and its new size is counted
    module _ (log : Log D g) (new : Alloc) (after at size : ℕ) (e : Entry) (bytes : List ℕ) (place : at ≡ slot_sector file) (small : size ≤ size_limit one.numbers.version) (reserved : IsReserved one.numbers one.reserved after d.size size)
        (staged : OnlyStages mid.log log) (fine : has_failed log ≡ false) (range : (first_of new ≡ first_of mid.sectors) × (end_of new ≡ end_of mid.sectors)) (becomes : EntryBecomes at size (view log) d e)
        (file_becomes : IfSound mid.log mid.sectors d (FileBecomes at mid.sectors new (view mid.log) (view log) d e bytes)) (rewritten : bytes ≡ rewrite (bytes_of (view mid.log) d)) where
      abbrev bytes_now : List ℕ
      bytes_now = rewrite (bytes_at (tree_in (view mid.log) mid.numbers) file)

      size_is : e.size ≡ size
      size_is = ap (λ (x : Entry). x.size) becomes.entry

      limit : e.size ≤ size_limit mid.numbers.version
      limit = subst (λ (w : Superblock). e.size ≤ size_limit w.version) (sym made.kept.numbers) (omega (arith, small, size_is))

      fills : g.honest (device_of old.log) → Fills (view mid.log) (view log) mid.numbers file d e mid.sectors new mid.reserved after bytes_now
      fills h =
          let is_open = commits.is_open in
          let h1 = commits.kept.honest.0 h in
          let content = is_open.content h1 in
          let slot = slot_mid h in
          let kind = is_file (view mid.log) mid.numbers content file first d slot (file_mid h) in
          let body = file_becomes h1 ((is_open.working h1 commits.kept.failed).taken.named (file - 1) d slot) (content.volume.sectors.bodies (file - 1) d slot) in
          let sums = reserved (le h) in
          let needs : need_of size ≡ need_of e.size = ap need_of (sym size_is) in
          let slot_at : at ≡ slot_sector (file - 1 + 1) = omega (arith, first, place) in
          record {
            slot = slot;
            kind = kind;
            rewrites = record {
              entry = body.right mid.numbers.version (content.volume.holds.entries (file - 1) d slot) (λ directory. absurd (not_both d kind directory)) limit;
              kind = ap (λ (x : Entry). x.kind) becomes.entry;
              parent = ap (λ (x : Entry). x.parent) becomes.entry;
              name = ap name_of becomes.entry;
              body = body.rules;
              staged = ap (view log) (sym slot_at) ∙ becomes.staged;
              others = subst (λ (k : ℕ). OthersStay k (first_of mid.sectors) (end_of mid.sectors) (taken_of mid.sectors) (view mid.log) (view log) d) slot_at body.others;
              taken = body.taken;
              first = range.0;
              end = range.1;
            };
            content = body.bytes ∙ rewritten ∙ ap rewrite (sym (old_bytes (view mid.log) mid.numbers content file first d slot (file_mid h)));
            reserved = omega (arith, sums.0, needs, made.reserved);
            fits = omega (arith, sums.1, room_is);
          }

      pub is_filled : Changes meant old (record mid { log = log; sectors = new; reserved = after }) (Ok tt)
      is_filled =
          let a = view mid.log in
          let b = view log in
          let v = mid.numbers in
          let is_open = commits.is_open in
          let low = is_open.ranges.room in
          done meant old mid (record mid { log = log; sectors = new; reserved = after }) tt commits (file_stages mid log new after staged commits.kept.failed fine range.0 range.1)
          (λ h.
          let h1 = commits.kept.honest.0 h in
          let content = is_open.content h1 in
          let working = is_open.working h1 commits.kept.failed in
          let total = is_open.reserved h1 in
          record {
            front = filled_front a b v file first d e mid new after bytes_now content is_open.first is_open.end low working.taken total (fills h) ∙ working.front;
            content = filled_content a b v file first d e mid new after bytes_now content is_open.first is_open.end low working.taken total (fills h);
            reserved = space_is a b v file first d e mid new after bytes_now content is_open.first is_open.end low working.taken total (fills h)
                ∙ ap space (sym (filled_is a b v file first d e mid new after bytes_now content is_open.first is_open.end low working.taken total (fills h)));
            shows = filled_shows a b v file first d e mid new after bytes_now content is_open.first is_open.end low working.taken total (fills h) (is_open.shows h1);
            taken = filled_taken a b v file first d e mid new after bytes_now content is_open.first is_open.end low working.taken total (fills h);
          })
          (λ h.
          let h1 = commits.kept.honest.0 h in
          let taken = (is_open.working h1 commits.kept.failed).taken in
          let fits = filled_fits a b v file first d e mid new after bytes_now (is_open.content h1) is_open.first is_open.end low taken (is_open.reserved h1) (fills h) limit in
          let tree_is = filled_is a b v file first d e mid new after bytes_now (is_open.content h1) is_open.first is_open.end low taken (is_open.reserved h1) (fills h) in
          meant_is
          ∙ ap (λ (x : Superblock × Tree). with_unit (if_it_fits (geometry x.0) x.1 file (rewrite (bytes_at x.1 file)))) (λ i. (sym commits.kept.numbers i, sym (commits.tree h) i))
          ∙ ap with_unit fits ∙ ap (λ (V : Tree). Ok (V, tt)) (sym tree_is))
