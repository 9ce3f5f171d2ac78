use Rattle.std.proofs.Common.{◌≡◌, inl, inr, Option, IfSome, subst}
use Rattle.vol_inode.specs.declared.entry.Entry.{Entry}
use Rattle.vol_inode.specs.Entry.{IsEntry}
use Rattle.vol_inode.specs.Spelling.{spelling}
use Rattle.vol_dirs.proofs.Shown.{spelled_by, spelled_is}
use Rattle.vol_dirs.proofs.dirs.Dirs.hold_image.Goals as goal

pub returns-clause-names : goal.returns-clause-names
returns-clause-names c p n s =
    let v = c.args.version in
    let image = c.args.image.now in
    let e = c.in-Ok-Some.entry in
    let right = subst (λ (o : Option Entry). IfSome o (λ f. IsEntry v f × (image ≡ spelling f))) c.in-Ok-Some.field-0-is c.in-Ok-Some.ensures.right in
    let names = c.hold.ensures.names p n s in (
      λ h. elim (names.0 h) [ inl old ↦ inl old | inr that ↦ inr (that.serial_is, spelled_by v image e c.args.serial p n s right.0 right.1 that) ],
      λ either. names.1 (elim either [ inl old ↦ inl old | inr (same, spelled) ↦ inr (spelled_is v image e c.args.serial p n s right.0 right.1 same spelled) ]),
    )
