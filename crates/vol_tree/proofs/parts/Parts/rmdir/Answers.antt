use Rattle.std.proofs.Common.{◌≡◌, ◌∙◌, true, false, inl, sym, ap}
use Rattle.vol_log.specs.Log.{view, has_failed}
use Rattle.vol_dirs.proofs.Lookups.{equal, different}
use Rattle.vol_tree.specs.declared.errno.Errno.TheVariants as errno
use Rattle.vol_tree.specs.Calls.{with_unit}
use Rattle.vol_tree.specs.Clauses.{tree_in}
use Rattle.vol_tree.proofs.Committing.{no_commit}
use Rattle.vol_tree.proofs.Changing.{no_reads, refused, refused_io}
use Rattle.vol_tree.proofs.Children.{none_in, some_in, childless_empty, removed_root, removed_full, removed_is}
use Rattle.vol_tree.proofs.Taking.{changes_after}
use Rattle.vol_tree.proofs.Entries.{directory_used}
use Rattle.vol_tree.proofs.parts.Parts.rmdir.Goals as goal

pub returns-in_err-child : goal.returns-in_err-child
returns-in_err-child g c =
    let old = c.args.self.now in
    refused_io _ old old c.from_residual.result c.from_residual.ensures.1 (no_commit old true c.requires.is_open (sym c.in_err-child.ensures.failed))

pub returns-then-eq : goal.returns-then-eq
returns-then-eq g c =
    let old = c.args.self.now in
    refused _ old old errno.Invalid (no_reads old c.requires.is_open (sym c.in_ok-child.ensures.failed)) (λ h.
    inl (ap with_unit (removed_root (tree_in (view old.log) old.numbers) c.args.directory (equal c.args.directory 1 (sym c.eq.ensures ∙ c.if-eq.true)))))

pub returns-then-is_some : goal.returns-then-is_some
returns-then-is_some g c =
    let old = c.args.self.now in
    let ok : has_failed old.log ≡ false = sym c.in_ok-child.ensures.failed in
    refused _ old old errno.NotEmpty (no_reads old c.requires.is_open ok) (λ h.
    let full = some_in (view old.log) old.numbers old.dirs (c.requires.is_open.content h) (c.requires.is_open.shows h) c.in_ok-child.child c.args.directory c.in_ok-child.ensures.found (sym c.is_some.ensures ∙ c.if-is_some.true) in
    inl (ap with_unit (removed_full (tree_in (view old.log) old.numbers) c.args.directory (different c.args.directory 1 (sym c.eq.ensures ∙ c.if-eq.false)) full)))

pub remove-requires : goal.remove-requires
remove-requires g c =
    let old = c.args.self.now in
    record {
      is_open = c.requires.is_open;
      first = c.requires.first;
      last = c.requires.last;
      bare = λ h. record {
        used = directory_used (tree_in (view old.log) old.numbers) c.args.directory (c.requires.used h);
        not_top = different c.args.directory 1 (sym c.eq.ensures ∙ c.if-eq.false);
        bare = none_in (view old.log) old.numbers old.dirs (c.requires.is_open.content h) (c.requires.is_open.shows h) c.in_ok-child.child c.args.directory c.in_ok-child.ensures.found (sym c.is_some.ensures ∙ c.if-is_some.false);
      };
    }

pub returns : goal.returns
returns g c =
    let old = c.args.self.now in
    let n = c.args.directory in
    changes_after _ _ old old c.remove.new.self c.remove.result (no_reads old c.requires.is_open (sym c.in_ok-child.ensures.failed)) c.remove.ensures (λ h.
    let T = tree_in (view old.log) old.numbers in
    let bare = none_in (view old.log) old.numbers old.dirs (c.requires.is_open.content h) (c.requires.is_open.shows h) c.in_ok-child.child n c.in_ok-child.ensures.found (sym c.is_some.ensures ∙ c.if-is_some.false) in
    sym (ap with_unit (removed_is T n (different n 1 (sym c.eq.ensures ∙ c.if-eq.false)) (childless_empty T n bare))))
