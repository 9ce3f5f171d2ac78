use Rattle.std.proofs.Common.{◌≡◌, ◌∙◌, ◌≤◌, ◌-◌, ◌++◌, Bool, true, false, take, drop, get_or, Some, None, IsTrue, IsErrAnd, ap, refl, sym, subst, arith}
use Rattle.vol_log.specs.Log.{view, device_of}
use Rattle.vol_log.proofs.Moments.{leaves_quiet}
use Rattle.vol_inode.specs.declared.entry.Entry.{Entry}
use Rattle.vol_body.specs.Body.{bytes_of}
use Rattle.vol_tree.specs.Calls.{is_file_at}
use Rattle.vol_tree.specs.Clauses.{tree_in}
use Rattle.vol_tree.specs.Opened.{Opened, Keeps}
use Rattle.vol_tree.specs.Parts.{opened}
use Rattle.vol_tree.specs.declared.errno.Errno.{Errno}
use Rattle.vol_tree.specs.declared.errno.Errno.TheVariants as errno
use Rattle.vol_tree.specs.internal.Slots.{slot_of}
use Rattle.vol_tree.specs.Stands.{Slots}
use Rattle.vol_sector.specs.Disk.{Image}
use Rattle.vol_tree.proofs.Committing.{reads_commit, commits_then}
use Rattle.vol_tree.proofs.Changing.{fault_is_io}
use Rattle.vol_tree.proofs.Taking.{passed_io}
use Rattle.vol_tree.proofs.ReadCalls.{log_reads, read_all, read_some, tells_io}
use Rattle.vol_tree.proofs.WriteCalls.{file_used}
use Rattle.vol_tree.proofs.volume.Volume.read.Goals as goal

pub entry-requires : goal.entry-requires
entry-requires g c =
    let old = c.self.inside.parts in
    record {
      is_open = c.self.invariant;
      first = c.requires.first;
      last = subst (λ (o : Opened _). c.args.file ≤ o.numbers.slots) (sym c.self.view_is) c.requires.last;
    }

pub returns-in_err-entry : goal.returns-in_err-entry
returns-in_err-entry g c =
    let old = c.self.inside.parts in
    let n = c.args.file in
    let r = c.from_residual.result in
    let is = c.from_residual.ensures.1 in
    let x = c.in_err-entry.field-0.0 in
    let e = c.in_err-entry.ensures in
    let used = subst (λ (o : Opened _). g.D.Device.honest o.device → IsTrue (is_file_at o.tree n)) (sym c.self.view_is) c.requires.used in
    rw (← c.self.view_is) (record {
      answer = λ h.
          let io : x ≡ errno.Io = e.found h (file_used (tree_in (view old.log) old.numbers) n (used h)) in
          tells_io _ c.args.buffer.now c.args.buffer.now _ _ r (subst (λ (y : Errno). IsErrAnd r (λ f. f ≡ y)) io is) (e.reads.commits.tree h) (0, omega arith, refl);
      crash = e.reads.quiet;
      kept = subst (λ (io : Bool). Keeps g.D.Device.honest g.D.Device.size g.D.Device.failures (opened old) (opened c.entry.new.self) io) (passed_io Entry r x is) e.reads.commits.kept;
      goes_on = e.reads.commits.goes_on;
    })

pub invariant_of-self-in_err-read_at : goal.invariant_of-self-in_err-read_at
invariant_of-self-in_err-read_at g c =
    let commits = c.in_ok-entry.ensures.reads.commits in
    (reads_commit c.entry.new.self c.read_at.new.log _ commits.is_open (log_reads c.entry.new.self.log c.read_at.new.log _ c.read_at.ensures.reads commits.kept.failed refl)).is_open

pub returns-in_err-read_at : goal.returns-in_err-read_at
returns-in_err-read_at g c =
    let old = c.self.inside.parts in
    let mid = c.entry.new.self in
    let commits = c.in_ok-entry.ensures.reads.commits in
    let n = c.args.file in
    let used = subst (λ (o : Opened _). g.D.Device.honest o.device → IsTrue (is_file_at o.tree n)) (sym c.self.view_is) c.requires.used in
    let reads = c.read_at.ensures.reads in
    let new = record mid { log = c.read_at.new.log } in
    let read = reads_commit mid c.read_at.new.log true commits.is_open (log_reads mid.log c.read_at.new.log true reads commits.kept.failed c.in_err-read_at.ensures.failed) in
    let all = commits_then old mid new true commits read in
    rw (← c.self.view_is) (record {
      answer = λ h.
          let h1 = commits.kept.honest.0 h in
          let file = used h in
          let found = c.in_ok-entry.ensures.found h (file_used (tree_in (view old.log) old.numbers) n file) in
          let content = c.self.invariant.content h in
          let same : view mid.log ≡ view old.log = c.in_ok-entry.ensures.reads.view h in
          let working = commits.is_open.working h1 commits.kept.failed in
          let slot : slot_of (view mid.log) mid.numbers n ≡ Some c.in_ok-entry.entry = ap (λ (s : Slots). get_or s (n - 1) None) (commits.slots h) ∙ found in
          let names = working.taken.named (n - 1) c.in_ok-entry.entry slot in
          let tree = ap (λ (m : Image). tree_in m mid.numbers) (c.read_at.ensures.reads.view h1) ∙ commits.tree h in
          let part = c.in_err-read_at.ensures.beginning h1 names in
          let bytes : c.read_at.new.buffer ≡ take part.0 (drop c.args.offset (bytes_of (view old.log) c.in_ok-entry.entry)) ++ drop part.0 c.args.buffer.now = part.2 ∙ ap (λ (m : Image). take part.0 (drop c.args.offset (bytes_of m c.in_ok-entry.entry)) ++ drop part.0 c.args.buffer.now) same in
          tells_io _ c.args.buffer.now c.read_at.new.buffer _ _ c.from_residual-in_err-read_at.result c.from_residual-in_err-read_at.ensures.1 tree
          (read_some (view old.log) old.numbers content n c.requires.first c.in_ok-entry.entry found file c.args.offset c.args.buffer.now part.0 c.read_at.new.buffer part.1 bytes);
      crash = λ h. leaves_quiet (g.D.Device.disk (device_of old.log)) (g.D.Device.disk (device_of mid.log)) (g.D.Device.disk (device_of c.read_at.new.log)) _ (c.in_ok-entry.ensures.reads.quiet h) (reads.crash (commits.kept.honest.0 h));
      kept = subst (λ (io : Bool). Keeps g.D.Device.honest g.D.Device.size g.D.Device.failures (opened old) (opened new) io) (sym (fault_is_io c.from_residual-in_err-read_at.result c.from_residual-in_err-read_at.ensures.1)) all.kept;
      goes_on = all.goes_on;
    })

pub invariant_of-self-2 : goal.invariant_of-self-2
invariant_of-self-2 g c =
    let commits = c.in_ok-entry.ensures.reads.commits in
    (reads_commit c.entry.new.self c.read_at.new.log _ commits.is_open (log_reads c.entry.new.self.log c.read_at.new.log _ c.read_at.ensures.reads commits.kept.failed refl)).is_open

pub returns : goal.returns
returns g c =
    let old = c.self.inside.parts in
    let mid = c.entry.new.self in
    let commits = c.in_ok-entry.ensures.reads.commits in
    let n = c.args.file in
    let used = subst (λ (o : Opened _). g.D.Device.honest o.device → IsTrue (is_file_at o.tree n)) (sym c.self.view_is) c.requires.used in
    let reads = c.read_at.ensures.reads in
    let new = record mid { log = c.read_at.new.log } in
    let read = reads_commit mid c.read_at.new.log false commits.is_open (log_reads mid.log c.read_at.new.log false reads commits.kept.failed c.in_ok-read_at.ensures.failed) in
    let all = commits_then old mid new false commits read in
    rw (← c.self.view_is) (record {
      answer = λ h.
          let h1 = commits.kept.honest.0 h in
          let file = used h in
          let found = c.in_ok-entry.ensures.found h (file_used (tree_in (view old.log) old.numbers) n file) in
          let content = c.self.invariant.content h in
          let same : view mid.log ≡ view old.log = c.in_ok-entry.ensures.reads.view h in
          let working = commits.is_open.working h1 commits.kept.failed in
          let slot : slot_of (view mid.log) mid.numbers n ≡ Some c.in_ok-entry.entry = ap (λ (s : Slots). get_or s (n - 1) None) (commits.slots h) ∙ found in
          let names = working.taken.named (n - 1) c.in_ok-entry.entry slot in
          let tree = ap (λ (m : Image). tree_in m mid.numbers) (c.read_at.ensures.reads.view h1) ∙ commits.tree h in
          let k = c.in_ok-read_at.field-0 in
          let bytes : c.read_at.new.buffer ≡ take k (drop c.args.offset (bytes_of (view old.log) c.in_ok-entry.entry)) ++ drop k c.args.buffer.now = c.in_ok-read_at.ensures.bytes h1 names ∙ ap (λ (m : Image). take k (drop c.args.offset (bytes_of m c.in_ok-entry.entry)) ++ drop k c.args.buffer.now) same in
          let all = read_all (view old.log) old.numbers content n c.requires.first c.in_ok-entry.entry found file c.args.offset c.args.buffer.now k c.read_at.new.buffer c.in_ok-read_at.ensures.count bytes in
          (all.0, all.1, tree);
      crash = λ h. leaves_quiet (g.D.Device.disk (device_of old.log)) (g.D.Device.disk (device_of mid.log)) (g.D.Device.disk (device_of c.read_at.new.log)) _ (c.in_ok-entry.ensures.reads.quiet h) (reads.crash (commits.kept.honest.0 h));
      kept = all.kept;
      goes_on = all.goes_on;
    })
