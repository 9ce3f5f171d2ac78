-- Laws of a record of writes and syncs: a crash may leave what reads give, and since the newest moment it may have left
-- only what it may leave now. `MemoryDevice` has its `may_stay` from `stays_left`, and its other two laws of a `Device`
-- from `left_now` and `only_left` with those of `CountingLaws`.
use Rattle.std.specs.Prelude.{◌≡◌, ◌≤◌, ◌==◌, ℕ, List, [], ◌∷◌, ◌++◌, length, take, refl, if◌then◌else◌, Bool, true, false}
use Rattle.std.proofs.Common.{inl, inr, sym, ◌∙◌, ap, subst, arith}
use Rattle.std.proofs.lemmas.List.{take_all, append-nil, append_assoc}
use Rattle.vol_sector.specs.Disk.{Image}
use Rattle.vol_sector.specs.Record.{newest, choices, Among, LeftBy, LeftSince}
use Rattle.vol_sector.specs.declared.record.Operation.{Operation}
use Rattle.vol_sector.specs.declared.record.Operation.TheVariants.{Write, Sync}

among_push : (values : List (List ℕ)) (value : List ℕ) → Among (values ++ value ∷ []) value
among_push [] value = inl refl
among_push (one ∷ values) value = inr (among_push values value)

-- a sector's newest value is one of its choices
newest_among : (n : ℕ) (value : List ℕ) (so_far : List (List ℕ)) (ops : List Operation) → Among so_far value → Among (choices n value so_far ops) (newest n value ops)
newest_among n value so_far [] is = is
newest_among n value so_far (Write sector image ∷ ops) is =
    newest_among n (if n == sector then image else value) (if n == sector then so_far ++ image ∷ [] else so_far) ops (step (n == sector))
  where
    step : (b : Bool) → Among (if b then so_far ++ image ∷ [] else so_far) (if b then image else value)
    step true = among_push so_far image
    step false = is
newest_among n value so_far (Sync ∷ ops) is = newest_among n value (value ∷ []) ops (inl refl)

pub stays_left : (first : Image) (ops : List Operation) → LeftBy first ops (λ n. newest n (first n) ops)
stays_left first ops n = newest_among n (first n) (first n ∷ []) ops (inl refl)

pub left_now : (first : Image) (ops : List Operation) (t : ℕ) (c : Image) → t ≤ length ops → LeftBy first ops c → LeftSince first ops t c
left_now first ops t c le left =
    let all : take (length ops) ops ≡ ops = take_all (length ops) ops (omega arith) in
    (length ops, le, omega arith, subst (λ (r : List Operation). LeftBy first r c) (sym all) left)

pub only_left : (first : Image) (ops : List Operation) (c : Image) → LeftSince first ops (length ops) c → LeftBy first ops c
only_left first ops c since =
    let all : take since.0 ops ≡ ops = take_all since.0 ops since.1 in
    subst (λ (r : List Operation). LeftBy first r c) all since.3

-- a record that begins with another
pub begins_itself : (ops : List Operation) → ops ≡ ops ++ []
begins_itself ops = sym (append-nil ops)

pub begins_further : (a b c more last : List Operation) → b ≡ a ++ more → c ≡ b ++ last → c ≡ a ++ (more ++ last)
begins_further a b c more last one two = two ∙ ap (λ (ops : List Operation). ops ++ last) one ∙ append_assoc a more last
