use Rattle.vol_log.specs.Log.{view}
use Rattle.vol_tree.specs.Clauses.{tree_in}
use Rattle.vol_tree.proofs.Children.{file_bare}
use Rattle.vol_tree.proofs.parts.Parts.unlink.Goals as goal

pub remove-requires : goal.remove-requires
remove-requires g c =
    let old = c.args.self.now in
    record {
      is_open = c.requires.is_open;
      first = c.requires.first;
      last = c.requires.last;
      bare = λ h. file_bare (tree_in (view old.log) old.numbers) (c.requires.is_open.content h).volume.tree c.args.file (c.requires.used h);
    }
