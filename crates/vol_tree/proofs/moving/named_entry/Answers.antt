use Rattle.std.proofs.Common.{length, refl, arith}
use Rattle.vol_inode.specs.declared.entry.Entry.{Entry}
use Rattle.vol_tree.proofs.Creating.{name_kept, renamed_is_entry}
use Rattle.vol_tree.proofs.moving.named_entry.Goals as goal

pub padded-requires : goal.padded-requires
padded-requires c = c.requires.name.short

pub returns : goal.returns
returns c =
    let n = c.args.name.now in
    let was = c.args.entry.now in
    let e : Entry = record { kind = was.kind; name_length = length n; parent = c.number.result; size = was.size; name = c.padded.result; pointers = was.pointers } in
    record {
      right = λ version is. renamed_is_entry version was e n is (omega (arith, c.requires.parent, c.number.ensures)) (omega arith) refl refl refl c.padded.ensures c.requires.name refl;
      parent = c.number.ensures;
      name = name_kept e n refl c.padded.ensures;
      kind = refl;
      size = refl;
      pointers = refl;
    }
