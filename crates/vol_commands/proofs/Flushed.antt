-- A task whose output was flushed afterwards.
use Rattle.std.proofs.Common.{⊎_elim, inl, inr, ℕ, List, Option, Result, Ok}
use Rattle.std.specs.Io.KnownBytes.{Keeps}
use Rattle.std.proofs.KnownBytes.{Keeps-trans}
use Rattle.vol_sector.specs.Disk.{Disk}
use Rattle.vol_tree.specs.declared.superblock.Superblock.{Superblock}
use Rattle.vol_tree.specs.Tree.{Tree}
use Rattle.sandbox_args.specs.declared.request.Task.{Task}
use Rattle.sandbox_args.specs.declared.request.Task.TheVariants.{List as Ls, ListAs as LsAs, Get, Put, PutWhole, Check, Upgrade, Stat, Change as Changing}
use Rattle.vol_commands.specs.declared.failure.Failure.{Failure}
use Rattle.vol_commands.specs.Listing.{plain}
use Rattle.vol_commands.specs.Tasks.{printed_facts, printed_file, printed_listing, summary}
use Rattle.vol_commands.specs.Doing.{Does, Performs, WasDone, WasRefused}
use Rattle.vol_commands.proofs.Printed.{prints_kept}

does_kept : (task : Task) (v : Superblock) (T : Tree) (given unread a b c : Option (List ℕ)) (U : Tree) (done : Result (Unit {0}) Failure)
    → Does task v T given unread a b U done → Keeps b c → Does task v T given unread a c U done
does_kept (Ls path) v T given unread a b c U done does kept = (prints_kept (printed_listing plain T path.now) a b c done does.0 kept, does.1)
does_kept (LsAs path form) v T given unread a b c U done does kept = (prints_kept (printed_listing form T path.now) a b c done does.0 kept, does.1)
does_kept (Get path) v T given unread a b c U done does kept = (prints_kept (printed_file T path.now) a b c done does.0 kept, does.1)
does_kept (Put path) v T given unread a b c U done does kept = does
does_kept (PutWhole path) v T given unread a b c U done does kept = does
does_kept Check v T given unread a b c U done does kept = (prints_kept (Ok (summary v T)) a b c done does.0 kept, does.1)
does_kept (Upgrade huge) v T given unread a b c U done does kept = does
does_kept (Stat path) v T given unread a b c U done does kept = (prints_kept (printed_facts T path.now) a b c done does.0 kept, does.1)
does_kept (Changing change) v T given unread a b c U done does kept = does

module _ {D : Type 0} (is_honest : D → Type 0) (disk : D → Disk) (size failures : D → ℕ) (task : Task) (device : D) (given unread before printed after : Option (List ℕ)) (left : D) (done : Result (Unit {0}) Failure) where
  pub performs_flushed : Performs is_honest disk size failures task device given unread before printed left done → Keeps printed after
      → Performs is_honest disk size failures task device given unread before after left done
  performs_flushed performs kept = record {
    ends = λ h. ⊎_elim (λ (done_with : WasDone is_honest disk size failures task device given unread before printed left done). inl (record {
      numbers = done_with.numbers;
      tree = done_with.tree;
      stands = done_with.stands;
      new_tree = done_with.new_tree;
      does = does_kept task done_with.numbers done_with.tree given unread before printed after done_with.new_tree done done_with.does kept;
      crash = done_with.crash;
      lasts = done_with.lasts;
    })) (λ (refused : WasRefused is_honest disk size failures task device given unread before printed left done). inr (record {
      fault = refused.fault;
      is = refused.is;
      why = refused.why;
      crash = refused.crash;
      unwritten = refused.unwritten;
      untouched = refused.untouched;
      installs = refused.installs;
      reads_nothing = refused.reads_nothing;
      prints_nothing = Keeps-trans before printed after refused.prints_nothing kept;
    })) (performs.ends h);
    honest = performs.honest;
    size = performs.size;
    failed = performs.failed;
    reads_nothing = performs.reads_nothing;
    prints_nothing = λ silent. Keeps-trans before printed after (performs.prints_nothing silent) kept;
  }
