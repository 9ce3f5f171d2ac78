use Rattle.std.proofs.Common.{rules, ◌≡◌, ◌≢◌, ◌∙◌, ◌≤◌, ◌<◌, ◌+◌, ◌^◌, ◌∷◌, ◌++◌, List, [], ℕ, length, get_or, sym, ap, subst, refl, arith}
use Rattle.std.proofs.lemmas.List.{take_more, take_all, length-map, map_push, get_or-take, length_push}
use Rattle.vol_log.specs.Header.{Places, header_bytes}
use Rattle.vol_log.specs.internal.Batch.{numbers}
use Rattle.vol_log.specs.declared.staged.Staged.{Staged}
use Rattle.vol_log.proofs.Parse.{same_bytes, count_is, number_is, places_more}
use Rattle.vol_log.proofs.header.read_header.Goals as goal
use Rattle.vol_log.proofs.header.read_header.Goals.{then-sector-lt-FIRST_AFTER_LOG-via-then-sector-lt-FIRST_AFTER_LOG, then-sector-lt-FIRST_AFTER_LOG-via-else-sector-lt-FIRST_AFTER_LOG+then-sectors-sector, then-sector-lt-FIRST_AFTER_LOG-via-else-sector-lt-FIRST_AFTER_LOG+else-sectors-sector+then-is_staged}

pub returns-then-sector-lt-FIRST_AFTER_LOG-clause-only : goal.returns-then-sector-lt-FIRST_AFTER_LOG-clause-only
returns-then-sector-lt-FIRST_AFTER_LOG-clause-only c ns right =
    let header = c.args.header.now in
    let sectors = c.args.sectors in
    let i = c.loop-i.i in
    let batch = c.loop-i.batch.items in
    let fits : sectors < 256 ^ 4 = c.ranges.sectors.fits in
    let count : c.read_u32-count.result ≡ length ns = c.read_u32-count.ensures ∙ count_is sectors header ns right in
    let lt : i < length ns = omega (arith, c.loop-i-test.true) in
    let sector : c.read_u32-sector.result ≡ get_or ns i 0 = c.read_u32-sector.ensures ∙ number_is sectors header ns i fits right lt in
    let after_log = right.places.after_log i lt in
    let there = right.places.there i lt in
    absurd (elim c.then-sector-lt-FIRST_AFTER_LOG.branch [
      | then-sector-lt-FIRST_AFTER_LOG-via-then-sector-lt-FIRST_AFTER_LOG w ↦ omega (arith, w.if-sector-lt-FIRST_AFTER_LOG.true)
      | then-sector-lt-FIRST_AFTER_LOG-via-else-sector-lt-FIRST_AFTER_LOG+then-sectors-sector w ↦ omega (arith, w.if-sectors-sector.true)
      | then-sector-lt-FIRST_AFTER_LOG-via-else-sector-lt-FIRST_AFTER_LOG+else-sectors-sector+then-is_staged w ↦
          let found = w.if-is_staged.ensures.yes refl in
          let same : w.deref.result.now ≡ batch = w.deref.ensures.value in
          let short : length batch ≡ i = c.loop-i.invariant.count in
          let k_lt : found.0 < i = omega (arith, found.1, ap length same) in
          let named : get_or (numbers batch) found.0 0 ≡ c.read_u32-sector.result = ap (λ (l : List Staged). get_or (numbers l) found.0 0) (sym same) ∙ found.2 in
          let old : get_or (numbers batch) found.0 0 ≡ get_or ns found.0 0 = ap (λ (l : List ℕ). get_or l found.0 0) (c.loop-i.invariant.only ns right) ∙ get_or-take i ns found.0 0 k_lt in
          right.places.distinct found.0 i k_lt lt (sym old ∙ named ∙ sector)
    ])

pub returns-clause-only : goal.returns-clause-only
returns-clause-only c ns right =
    let header = c.args.header.now in
    let batch = c.loop-i.batch.items in
    let count : c.read_u32-count.result ≡ length ns = c.read_u32-count.ensures ∙ count_is c.args.sectors header ns right in
    let all : length ns ≤ c.loop-i.i = omega (arith, c.loop-i-test.false) in
    let named : numbers batch ≡ ns = c.loop-i.invariant.only ns right ∙ take_all c.loop-i.i ns all in
    let same : c.header_image.result ≡ header = c.header_image.ensures ∙ ap (λ (l : List Staged). header_bytes (numbers l)) c.deref-2.ensures.value ∙ ap header_bytes named ∙ sym right.spelled in
    (c.eq.ensures ∙ same_bytes c.header_image.result header same, named)

pub loop-i-preserved : goal.loop-i-preserved
loop-i-preserved c =
    let header = c.args.header.now in
    let sectors = c.args.sectors in
    let i = c.loop-i.i in
    let batch = c.loop-i.batch.items in
    let n = c.read_u32-sector.result in
    let so_far = c.loop-i.invariant in
    let fits : sectors < 256 ^ 4 = c.ranges.sectors.fits in
    let items = c.in-Ok.ensures.items in
    let named : numbers c.push.new.self.items ≡ numbers batch ++ n ∷ [] = ap numbers items ∙ map_push (λ (t : Staged). t.sector) batch _ in
    let long : length (numbers batch) ≡ length batch = length-map batch (λ (t : Staged). t.sector) in
    let new : (k : ℕ) → k < length (numbers batch) → get_or (numbers batch) k 0 ≢ n = λ k lt is.
    let k_lt : k < length c.deref.result.now = omega (arith, lt, long, ap length c.deref.ensures.value) in
    let same : get_or (numbers c.deref.result.now) k 0 ≡ n = ap (λ (l : List Staged). get_or (numbers l) k 0) c.deref.ensures.value ∙ is in
    let yes = c.if-is_staged.ensures.no k k_lt same in cc in
    record {
      places = subst (Places sectors) (sym named) (places_more sectors (numbers batch) n so_far.places (omega (arith, long)) (omega arith) (omega arith) new);
      count = ap length items ∙ length_push batch _ ∙ ap (λ (k : ℕ). k + 1) so_far.count;
      capacity = search rules;
      grown = search rules;
      only = λ ns right.
          let count : c.read_u32-count.result ≡ length ns = c.read_u32-count.ensures ∙ count_is sectors header ns right in
          let lt : i < length ns = omega (arith, c.loop-i-test.true) in
          let sector : n ≡ get_or ns i 0 = c.read_u32-sector.ensures ∙ number_is sectors header ns i fits right lt in
          named ∙ (λ j. so_far.only ns right j ++ sector j ∷ []) ∙ sym (take_more ns i 0 lt);
    }
