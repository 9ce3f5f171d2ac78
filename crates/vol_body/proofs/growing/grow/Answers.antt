use Rattle.std.proofs.Common.{◌∙◌, ℕ, List, sym, ap, subst}
use Rattle.vol_sector.specs.Disk.{Image, put}
use Rattle.vol_log.specs.Log.{view}
use Rattle.vol_inode.specs.Spelling.{spelling}
use Rattle.vol_inode.specs.declared.entry.Entry.{Entry}
use Rattle.vol_body.specs.Body.{bytes_of, IsBody}
use Rattle.vol_body.proofs.Same.{same_file, same_list, same_rules}
use Rattle.vol_body.proofs.Grown.{grown_bytes, grown_rules, put_elsewhere}
use Rattle.vol_body.proofs.growing.grow.Goals as goal

pub returns-clause-staged : goal.returns-clause-staged
returns-clause-staged g c = c.stage.ensures.view ∙ ap (λ (bytes : List ℕ). put c.args.inode_sector bytes (view c.args.log.now)) c.write_entry.ensures.bytes

pub returns-clause-bytes : goal.returns-clause-bytes
returns-clause-bytes g c body others =
    let content = view c.args.log.now in
    let e = c.args.entry.now in
    let size = c.args.size in
    let longer : Entry = record e { size = size } in
    let after = put c.args.inode_sector (spelling longer) content in
    let same = same_file content after longer (put_elsewhere content e size c.args.inode_sector (spelling longer) others) in
    ap (λ (m : Image). bytes_of m longer) (returns-clause-staged g c)
    ∙ same_list content after longer same c.requires.sizes.1
    ∙ grown_bytes content e size body c.requires.sizes.0 c.requires.sizes.1

pub returns-clause-rules : goal.returns-clause-rules
returns-clause-rules g c body others =
    let content = view c.args.log.now in
    let e = c.args.entry.now in
    let size = c.args.size in
    let longer : Entry = record e { size = size } in
    let after = put c.args.inode_sector (spelling longer) content in
    let same = same_file content after longer (put_elsewhere content e size c.args.inode_sector (spelling longer) others) in
    subst (λ (m : Image). IsBody m longer) (sym (returns-clause-staged g c))
    (same_rules content after longer same (grown_rules content e size body c.requires.sizes.0))
