-- What a file is after it was made shorter.
use Rattle.std.proofs.Common.{◌≡◌, ◌≢◌, ◌⊎◌, inl, inr, ⊎_elim, ◌≤◌, ◌<◌, ◌-◌, ◌/◌, ℕ, zero, suc, Bool, true, false, List, ◌++◌, length, take, replicate, get_or, nat_lt, if◌then◌else◌, refl, sym, ◌∙◌, ap, subst, arith}
use Rattle.std.proofs.lemmas.Bool.{cases_lt}
use Rattle.std.proofs.lemmas.List.{ext_get_or, length-append, length-take-le, get_or-take, get_or_append_left}
use Rattle.vol_sector.specs.Disk.{Image, put}
use Rattle.vol_inode.specs.declared.entry.Entry.{Entry}
use Rattle.vol_inode.specs.Space.{blocks_for_size}
use Rattle.vol_body.specs.declared.truncation.CutSector.{CutSector}
use Rattle.vol_body.specs.declared.truncation.Truncation.{Truncation}
use Rattle.vol_body.specs.Body.{BlockPosition, data_block, indirect_block, inner_block, double_indirect_block, triple_indirect_block, IsPosition, first_served, named, bytes_of, IsBody, NamesTaken}
use Rattle.vol_body.specs.Bytes.{resized_bytes}
use Rattle.vol_body.specs.Change.{OthersStay, TakesAndGives}
use Rattle.vol_body.specs.internal.Truncated.{kept_bytes, cut_data_block, cut_segment, cut_double, zeroed_from, IsCut, IsTruncation, AreWithin, with_cut, with_truncation, Frees, IsFreed}
use Rattle.vol_body.specs.internal.Writing.{segment, segment_of, double_of}
use Rattle.vol_inode.specs.Entry.{first_block_of_pointer}
use Rattle.vol_body.proofs.Parts.{length-bytes_of, get_or-bytes_of}
use Rattle.vol_body.proofs.CutSectors.{put_past, cut_elsewhere, cut_there}
use Rattle.vol_body.proofs.Truncated.{IsTruncated, keeps, loses, kept_byte_at, lost_byte_at}
use Rattle.vol_inode.specs.declared.version.TheConstants.{LARGEST_SIZE}

-- how a file is made shorter
pub record Shrinks (size place first end : ℕ) (content : Image) (e changed : Entry) (truncation : Truncation) (was now : ℕ → Bool) : Type 0 where
  pub body : IsBody content e
  pub names : NamesTaken was content e
  pub are_cut : IsTruncation content e size truncation
  pub within : AreWithin first end truncation
  pub frees : Frees was now (IsFreed content e (blocks_for_size size))
  pub new_size : changed.size ≡ size
  pub pointers : (j : ℕ) → j < 61 → get_or changed.pointers j 0 ≡ (if nat_lt (first_block_of_pointer j) (blocks_for_size size) then get_or e.pointers j 0 else 0)
  pub shorter : size < e.size
  pub small : e.size ≤ LARGEST_SIZE
  pub slot : (n : ℕ) → was n ≡ true → n ≢ place

-- a position of which only a beginning is kept
one_of_four : (size : ℕ) (p : BlockPosition) → 0 < kept_bytes size p → kept_bytes size p < 512 → (p ≡ cut_data_block size) ⊎ ((p ≡ cut_segment size) ⊎ ((p ≡ cut_double size) ⊎ (p ≡ triple_indirect_block)))
one_of_four size (data_block j) some short = inl (let at : j ≡ size / 512 = omega arith in ap data_block at)
one_of_four size indirect_block some short = inr (inl (let at : 0 ≡ segment_of (size / 512) = omega arith in ap segment at))
one_of_four size (inner_block i) some short = inr (inl (let at : suc i ≡ segment_of (size / 512) = omega arith in ap segment at))
one_of_four size (double_indirect_block d) some short = inr (inr (inl (let at : d ≡ double_of (segment_of (size / 512)) = omega arith in ap double_indirect_block at)))
one_of_four size triple_indirect_block some short = inr (inr (inr refl))

part_no_segment : (g j : ℕ) → data_block j ≡ segment g → ⊥
part_no_segment zero j is = cc
part_no_segment (suc i) j is = cc

double_no_segment : (d g : ℕ) → double_indirect_block d ≡ segment g → ⊥
double_no_segment d zero is = cc
double_no_segment d (suc i) is = cc

triple_no_segment : (g : ℕ) → triple_indirect_block ≡ segment g → ⊥
triple_no_segment zero is = cc
triple_no_segment (suc i) is = cc

part_no_double : (j d : ℕ) → data_block j ≡ double_indirect_block d → ⊥
part_no_double j d is = cc

part_no_triple : (j : ℕ) → data_block j ≡ triple_indirect_block → ⊥
part_no_triple j is = cc

double_no_triple : (d : ℕ) → double_indirect_block d ≡ triple_indirect_block → ⊥
double_no_triple d is = cc

segment_there : (g : ℕ) → g < 16513 → IsPosition (segment g)
segment_there zero lt = tt
segment_there (suc i) lt = omega (arith, lt)

false_if : (b : Bool) → (b ≡ true → ⊥) → b ≡ false
false_if true never = absurd (never refl)
false_if false never = refl

out_of_range : (first end n : ℕ) → (n < first) ⊎ (end ≤ n) → (k : ℕ) → (first ≤ k) × (k < end) → k ≡ n → ⊥
out_of_range first end n (inl before) k within is = omega (arith, before, within.0, is)
out_of_range first end n (inr past) k within is = omega (arith, past, within.1, is)

module _ (size place first end : ℕ) (content : Image) (e changed : Entry) (truncation : Truncation) (was now : ℕ → Bool) (s : Shrinks size place first end content e changed truncation was now) (bytes : List ℕ) where
  abbrev pub after : Image
  after = put place bytes (with_truncation truncation content)

  part_there : IsPosition (cut_data_block size)
  part_there = omega (arith, s.shorter, s.small)

  above_there : IsPosition (cut_segment size)
  above_there = segment_there (segment_of (size / 512)) (omega (arith, s.shorter, s.small))

  -- what is written for one position isn't the sector of another
  apart : (p q : BlockPosition) (kept : ℕ) (c : CutSector) → IsPosition p → IsPosition q → (p ≡ q → ⊥) → named content e p ≢ 0 → IsCut content (named content e q) kept c → c.sector ≢ 0 → c.sector ≢ named content e p
  apart p q kept c a b other some is set same = other (s.body.distinct p q a b some (sym same ∙ is.sector set))

  double_there : IsPosition (cut_double size)
  double_there = omega (arith, s.shorter, s.small)

  untouched : (n : ℕ) → (truncation.data_block.sector ≢ 0 → truncation.data_block.sector ≢ n) → (truncation.above.sector ≢ 0 → truncation.above.sector ≢ n)
      → (truncation.double.sector ≢ 0 → truncation.double.sector ≢ n) → (truncation.triple.sector ≢ 0 → truncation.triple.sector ≢ n) → with_truncation truncation content n ≡ content n
  untouched n a b c d =
      cut_elsewhere truncation.triple (with_cut truncation.double (with_cut truncation.above (with_cut truncation.data_block content))) n d
      ∙ cut_elsewhere truncation.double (with_cut truncation.above (with_cut truncation.data_block content)) n c
      ∙ cut_elsewhere truncation.above (with_cut truncation.data_block content) n b ∙ cut_elsewhere truncation.data_block content n a

  elsewhere : (n : ℕ) → n ≢ place → after n ≡ with_truncation truncation content n
  elsewhere n other = put_past place n bytes (with_truncation truncation content) other

  named_elsewhere : (p : BlockPosition) → IsPosition p → named content e p ≢ 0 → after (named content e p) ≡ with_truncation truncation content (named content e p)
  named_elsewhere p there some = elsewhere (named content e p) (s.slot (named content e p) (s.names p there some))

  whole_stays : (p : BlockPosition) → IsPosition p → named content e p ≢ 0 → kept_bytes size p ≡ 512 → after (named content e p) ≡ content (named content e p)
  whole_stays p there some whole =
      let long : (q : BlockPosition) (c : CutSector) → IsCut content (named content e q) (kept_bytes size q) c → c.sector ≢ 0 → p ≡ q → ⊥ = λ q c is set same.
      let kept : kept_bytes size p ≡ kept_bytes size q = ap (kept_bytes size) same in omega (arith, is.short set, kept, whole) in
      named_elsewhere p there some
      ∙ untouched (named content e p)
      (λ set. apart p (cut_data_block size) (kept_bytes size (cut_data_block size)) truncation.data_block there part_there (long (cut_data_block size) truncation.data_block s.are_cut.data_block set) some s.are_cut.data_block set)
      (λ set. apart p (cut_segment size) (kept_bytes size (cut_segment size)) truncation.above there above_there (long (cut_segment size) truncation.above s.are_cut.above set) some s.are_cut.above set)
      (λ set. apart p (cut_double size) (kept_bytes size (cut_double size)) truncation.double there double_there (long (cut_double size) truncation.double s.are_cut.double set) some s.are_cut.double set)
      (λ set. apart p triple_indirect_block (kept_bytes size triple_indirect_block) truncation.triple there tt (long triple_indirect_block truncation.triple s.are_cut.triple set) some s.are_cut.triple set)

  -- each of the four sectors is cut
  abbrev IsCutAt : BlockPosition → Type 0
  IsCutAt p = named content e p ≢ 0 → 0 < kept_bytes size p → kept_bytes size p < 512 → with_truncation truncation content (named content e p) ≡ zeroed_from (kept_bytes size p) (content (named content e p))

  -- what is written for one of them isn't another position's sector
  not_part : (p : BlockPosition) → IsPosition p → (p ≡ cut_data_block size → ⊥) → named content e p ≢ 0 → truncation.data_block.sector ≢ 0 → truncation.data_block.sector ≢ named content e p
  not_part p there other some set = apart p (cut_data_block size) (kept_bytes size (cut_data_block size)) truncation.data_block there part_there other some s.are_cut.data_block set

  not_above : (p : BlockPosition) → IsPosition p → (p ≡ cut_segment size → ⊥) → named content e p ≢ 0 → truncation.above.sector ≢ 0 → truncation.above.sector ≢ named content e p
  not_above p there other some set = apart p (cut_segment size) (kept_bytes size (cut_segment size)) truncation.above there above_there other some s.are_cut.above set

  not_double : (p : BlockPosition) → IsPosition p → (p ≡ cut_double size → ⊥) → named content e p ≢ 0 → truncation.double.sector ≢ 0 → truncation.double.sector ≢ named content e p
  not_double p there other some set = apart p (cut_double size) (kept_bytes size (cut_double size)) truncation.double there double_there other some s.are_cut.double set

  not_triple : (p : BlockPosition) → IsPosition p → (p ≡ triple_indirect_block → ⊥) → named content e p ≢ 0 → truncation.triple.sector ≢ 0 → truncation.triple.sector ≢ named content e p
  not_triple p there other some set = apart p triple_indirect_block (kept_bytes size triple_indirect_block) truncation.triple there tt other some s.are_cut.triple set

  abbrev with_one : Image
  with_one = with_cut truncation.data_block content

  abbrev with_two : Image
  with_two = with_cut truncation.above with_one

  abbrev with_three : Image
  with_three = with_cut truncation.double with_two

  cuts_part : IsCutAt (cut_data_block size)
  cuts_part some kept short =
      let p = cut_data_block size in
      let n = named content e p in
      cut_elsewhere truncation.triple with_three n (not_triple p part_there (part_no_triple (size / 512)) some)
      ∙ cut_elsewhere truncation.double with_two n (not_double p part_there (part_no_double (size / 512) (double_of (segment_of (size / 512)))) some)
      ∙ cut_elsewhere truncation.above with_one n (not_above p part_there (part_no_segment (segment_of (size / 512)) (size / 512)) some)
      ∙ cut_there content n (kept_bytes size p) truncation.data_block content s.are_cut.data_block some kept short refl

  cuts_above : IsCutAt (cut_segment size)
  cuts_above some kept short =
      let p = cut_segment size in
      let n = named content e p in
      cut_elsewhere truncation.triple with_three n (not_triple p above_there (λ is. triple_no_segment (segment_of (size / 512)) (sym is)) some)
      ∙ cut_elsewhere truncation.double with_two n (not_double p above_there (λ is. double_no_segment (double_of (segment_of (size / 512))) (segment_of (size / 512)) (sym is)) some)
      ∙ cut_there content n (kept_bytes size p) truncation.above with_one s.are_cut.above some kept short
      (cut_elsewhere truncation.data_block content n (not_part p above_there (λ is. part_no_segment (segment_of (size / 512)) (size / 512) (sym is)) some))

  cuts_double : IsCutAt (cut_double size)
  cuts_double some kept short =
      let p = cut_double size in
      let n = named content e p in
      let d = double_of (segment_of (size / 512)) in
      cut_elsewhere truncation.triple with_three n (not_triple p double_there (double_no_triple d) some)
      ∙ cut_there content n (kept_bytes size p) truncation.double with_two s.are_cut.double some kept short
      (cut_elsewhere truncation.above with_one n (not_above p double_there (double_no_segment d (segment_of (size / 512))) some)
      ∙ cut_elsewhere truncation.data_block content n (not_part p double_there (λ is. part_no_double (size / 512) d (sym is)) some))

  cuts_triple : IsCutAt triple_indirect_block
  cuts_triple some kept short =
      let p = triple_indirect_block in
      let n = named content e p in
      cut_there content n (kept_bytes size p) truncation.triple with_three s.are_cut.triple some kept short
      (cut_elsewhere truncation.double with_two n (not_double p tt (λ is. double_no_triple (double_of (segment_of (size / 512))) (sym is)) some)
      ∙ cut_elsewhere truncation.above with_one n (not_above p tt (triple_no_segment (segment_of (size / 512))) some)
      ∙ cut_elsewhere truncation.data_block content n (not_part p tt (λ is. part_no_triple (size / 512) (sym is)) some))

  cuts_place : (p : BlockPosition) → IsCutAt p
  cuts_place p some kept short = ⊎_elim (λ is. subst IsCutAt (sym is) cuts_part some kept short)
      (λ either. ⊎_elim (λ is. subst IsCutAt (sym is) cuts_above some kept short)
      (λ rest. ⊎_elim (λ is. subst IsCutAt (sym is) cuts_double some kept short) (λ is. subst IsCutAt (sym is) cuts_triple some kept short) rest) either)
      (one_of_four size p kept short)

  shorter : IsTruncated size content after e changed
  shorter = record {
    pointers = s.pointers;
    whole = whole_stays;
    cut = λ p there some kept short. named_elsewhere p there some ∙ cuts_place p some kept short;
  }

  pub shrunk_others : OthersStay place first end was content after e
  shrunk_others = record {
    outside = λ n other out.
        let out_of = out_of_range first end n out in
        elsewhere n other ∙ untouched n (λ set. out_of truncation.data_block.sector (s.within.data_block set)) (λ set. out_of truncation.above.sector (s.within.above set)) (λ set. out_of truncation.double.sector (s.within.double set)) (λ set. out_of truncation.triple.sector (s.within.triple set));
    taken = λ n other is_taken foreign. elsewhere n other ∙ untouched n
        (λ set is. foreign (cut_data_block size) part_there (sym (s.are_cut.data_block.sector set) ∙ is))
        (λ set is. foreign (cut_segment size) above_there (sym (s.are_cut.above.sector set) ∙ is))
        (λ set is. foreign (cut_double size) double_there (sym (s.are_cut.double.sector set) ∙ is))
        (λ set is. foreign triple_indirect_block tt (sym (s.are_cut.triple.sector set) ∙ is));
  }

  -- what the file names now it named before, at a position that is kept
  named_before : (p : BlockPosition) → IsPosition p → named after changed p ≢ 0 → (first_served p < blocks_for_size size) × (named after changed p ≡ named content e p)
  named_before p there some = elim (cases_lt (first_served p) (blocks_for_size size)) [
    | inl kept ↦ (kept, keeps size content after e changed shorter p there kept)
    | inr lost ↦ absurd (some (loses size content after e changed shorter p there lost))
  ]

  pub shrunk_rules : IsBody after changed
  shrunk_rules = record {
    distinct = λ p q a b some equal.
        let before_p = named_before p a some in
        let before_q = named_before q b (λ none. some (equal ∙ none)) in
        s.body.distinct p q a b (λ none. some (before_p.1 ∙ none)) (sym before_p.1 ∙ equal ∙ before_q.1);
    past = λ p there le. loses size content after e changed shorter p there (subst (λ (k : ℕ). blocks_for_size k ≤ first_served p) s.new_size le);
    zeros = λ k le lt. lost_byte_at size content after e changed shorter k lt (omega (arith, le, s.new_size));
  }

  pub shrunk_bytes : bytes_of after changed ≡ resized_bytes size (bytes_of content e)
  shrunk_bytes =
      let old = bytes_of content e in
      let more : List ℕ = replicate (size - length old) 0 in
      let enough : size ≤ length (old ++ more) = omega (arith, length-append old more, length-bytes_of content e, s.shorter) in
      ext_get_or 0 (bytes_of after changed) (take size (old ++ more)) (length-bytes_of after changed ∙ s.new_size ∙ sym (length-take-le size (old ++ more) enough)) (λ k lt.
      let below : k < size = omega (arith, lt, length-bytes_of after changed, s.new_size) in
      get_or-bytes_of after changed k (omega (arith, below, s.new_size))
      ∙ kept_byte_at size content after e changed shorter k (omega (arith, below, s.shorter, s.small)) below
      ∙ sym (get_or-take size (old ++ more) k 0 below ∙ get_or_append_left old more 0 k (omega (arith, below, length-bytes_of content e, s.shorter)) ∙ get_or-bytes_of content e k (omega (arith, below, s.shorter))))

  -- what goes isn't named any more
  kept_stays : (p : BlockPosition) → IsPosition p → first_served p < blocks_for_size size → named content e p ≢ 0 → IsFreed content e (blocks_for_size size) (named content e p) → ⊥
  kept_stays p there kept some goes =
      let same : p ≡ goes.0 = s.body.distinct p goes.0 there goes.1 some (sym goes.3) in
      let at : first_served p ≡ first_served goes.0 = ap first_served same in
      omega (arith, kept, goes.2, at)

  now_taken : (p : BlockPosition) → IsPosition p → named after changed p ≢ 0 → now (named after changed p) ≡ true
  now_taken p there some =
      let before = named_before p there some in
      let was_some : named content e p ≢ 0 = λ none. some (before.1 ∙ none) in
      subst (λ (n : ℕ). now n ≡ true) (sym before.1) (s.frees.others (named content e p) (kept_stays p there before.0 was_some) ∙ s.names p there was_some)

  pub shrunk_taken : TakesAndGives was now content after e changed
  shrunk_taken = record {
    taken = now_taken;
    fresh = λ n is foreign.
        let p = is.position.0 in
        let before = named_before p is.position.1 (λ none. is.some (sym is.position.2 ∙ none)) in
        absurd (foreign p is.position.1 (sym before.1 ∙ is.position.2));
    given = λ n was_named foreign.
        let p = was_named.position.0 in
        elim (cases_lt (first_served p) (blocks_for_size size)) [
          | inl kept ↦ absurd (foreign p was_named.position.1 (keeps size content after e changed shorter p was_named.position.1 kept ∙ was_named.position.2))
          | inr lost ↦ false_if (now n) (s.frees.freed n (p, was_named.position.1, lost, was_named.position.2))
        ];
    others = λ n foreign foreign_now. s.frees.others n (λ goes. foreign goes.0 goes.1 goes.3);
  }
