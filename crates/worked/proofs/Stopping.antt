-- What a crash leaves over one call after another.
use Rattle.std.proofs.Common.{◌≡◌, ℕ, ◌≤◌, subst, arith, inl, inr}
use Rattle.std.specs.Prelude.{◌⊎◌}
use Rattle.vol_sector.specs.Disk.{Image, Disk, Leaves}
use Rattle.vol_tree.specs.declared.superblock.Superblock.{Superblock}
use Rattle.vol_tree.specs.Tree.{Tree}
use Rattle.vol_tree.specs.Stands.{StandsAs}
use Rattle.vol_tree.specs.Opened.{ReflectsOr}
use Rattle.worked.specs.Stored.{IsFirstPart}

-- an image stands for one tree
abbrev pub OneTree : Type 0
OneTree = (image : Image) (v w : Superblock) (T U : Tree) → StandsAs image v T → StandsAs image w U → (v ≡ w) × (T ≡ U)

module _ (one : OneTree) (a : Disk) (v : Superblock) (Trees : Tree → Type 0) where
  -- the first call
  pub begins : (b : Disk) (T : Tree) → Trees T → Leaves a b (ReflectsOr a v T) → Leaves a b (IsFirstPart a v Trees)
  begins b T k l = record { later = l.later; since = λ t c le left. by_case c (l.since t c le left); now = λ c may. by_case c (l.now c may) } where
    known : (c : Image) → ReflectsOr a v T c → IsFirstPart a v Trees c
    known c (inl r) = inl r
    known c (inr s) = inr (T, k, s)

    by_case : {X : Type 0} (c : Image) → X ⊎ ReflectsOr a v T c → X ⊎ IsFirstPart a v Trees c
    by_case c (inl x) = inl x
    by_case c (inr r) = inr (known c r)

  -- what stands for the tree of an image that could be left before
  as_before : (e c : Image) (T : Tree) → a.may_leave e ⊎ IsFirstPart a v Trees e → StandsAs e v T → StandsAs c v T → IsFirstPart a v Trees c
  as_before e c T (inl could) stood stands = inl (record { earlier = e; could = could; tree = T; stood = stood; stands = stands })
  as_before e c T (inr (inl r)) stood stands =
      inl (record { earlier = r.earlier; could = r.could; tree = r.tree; stood = r.stood; stands = subst (λ (U : Tree). StandsAs c v U) (one e v v T r.tree stood r.stands).1 stands })
  as_before e c T (inr (inr (U, k, s))) stood stands = inr (U, k, subst (λ (V : Tree). StandsAs c v V) (one e v v T U stood s).1 stands)

  -- and one more
  pub goes_on : (b d : Disk) (w : Superblock) (U : Tree) → w ≡ v → Trees U → Leaves a b (IsFirstPart a v Trees) → Leaves b d (ReflectsOr b w U) → Leaves a d (IsFirstPart a v Trees)
  goes_on b d w U same k first next = record {
    later = omega (arith, first.later, second.later);
    since = λ t c le left. since t c le (second.since t c (omega (arith, le, first.later)) left);
    now = λ c may. now c (second.now c may);
  } where
    second : Leaves b d (ReflectsOr b v U)
    second = subst (λ (u : Superblock). Leaves b d (ReflectsOr b u U)) same next

    known : (c : Image) → ReflectsOr b v U c → IsFirstPart a v Trees c
    known c (inl r) = as_before r.earlier c r.tree (first.now r.earlier r.could) r.stood r.stands
    known c (inr s) = inr (U, k, s)

    since : (t : ℕ) (c : Image) → t ≤ a.operation_count → b.left_since t c ⊎ ReflectsOr b v U c → a.left_since t c ⊎ IsFirstPart a v Trees c
    since t c le (inl left) = first.since t c le left
    since t c le (inr r) = inr (known c r)

    now : (c : Image) → b.may_leave c ⊎ ReflectsOr b v U c → a.may_leave c ⊎ IsFirstPart a v Trees c
    now c (inl may) = first.now c may
    now c (inr r) = inr (known c r)
