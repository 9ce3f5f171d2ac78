use Rattle.std.proofs.Common.{◌≡◌, ◌∙◌, ◌∷◌, ◌++◌, [], List, sym, ap, subst, length, arith, ℕ, ◌+◌, Bool, if◌then◌else◌, vec_len}
use Rattle.std.specs.List.{insert}
use Rattle.std.proofs.lemmas.List.{get_or_read, map_push, length-map}
use Rattle.std.proofs.lemmas.Grind.{common_steps}
use Rattle.vol_log.specs.Header.{Places}
use Rattle.vol_log.specs.Batch.{over, holds}
use Rattle.vol_log.specs.internal.Batch.{numbers}
use Rattle.vol_log.specs.internal.Index.{Index, IsIndex}
use Rattle.vol_log.specs.internal.Index.{IsEntryOfNumber, IsGapFor}
use Rattle.vol_log.specs.declared.staged.Staged.{Staged}
use Rattle.vol_log.proofs.Finding.{index_more}
use Rattle.vol_log.proofs.Staging.{found_place, none_at_all, over_set, over_push, numbers_replaced, places_push, holds_at, holds_none, holds_set, holds_push}
use Rattle.vol_log.proofs.batch.Batch.replace.Goals as goal
use Rattle.vol_log.proofs.batch.Batch.replace.Goals.{in-Ok-insert, in-Err-insert}

pub returns-in-Ok-clause-over : goal.returns-in-Ok-clause-over
returns-in-Ok-clause-over c m =
    let old = c.args.self.now.staged.items in
    let index = c.args.self.now.index.items in
    let found = subst (λ (l : Index). IsEntryOfNumber l c.args.new.sector c.in-Ok.at) c.deref.ensures.value c.in-Ok.ensures.found in
    let entry = get_or_read index c.in-Ok.at c.index.result.now found.in_range c.index.ensures (0, 0) in
    let place = found_place old index c.requires.indexed c.args.new.sector c.in-Ok.at found c.index.result.now.1 (ap (λ (e : ℕ × ℕ). e.1) entry) in
    over_set old _ c.args.new m place.inside place.here place.before

pub returns-in-Ok-clause-places : goal.returns-in-Ok-clause-places
returns-in-Ok-clause-places c s places short after_log there =
    let old = c.args.self.now.staged.items in
    let index = c.args.self.now.index.items in
    let found = subst (λ (l : Index). IsEntryOfNumber l c.args.new.sector c.in-Ok.at) c.deref.ensures.value c.in-Ok.ensures.found in
    let entry = get_or_read index c.in-Ok.at c.index.result.now found.in_range c.index.ensures (0, 0) in
    let place = found_place old index c.requires.indexed c.args.new.sector c.in-Ok.at found c.index.result.now.1 (ap (λ (e : ℕ × ℕ). e.1) entry) in
    subst (Places s) (sym (numbers_replaced old _ c.args.new place.inside place.here)) places

pub returns-in-Ok-clause-len : goal.returns-in-Ok-clause-len
returns-in-Ok-clause-len c =
    let old = c.args.self.now.staged.items in
    let index = c.args.self.now.index.items in
    let found = subst (λ (l : Index). IsEntryOfNumber l c.args.new.sector c.in-Ok.at) c.deref.ensures.value c.in-Ok.ensures.found in
    let entry = get_or_read index c.in-Ok.at c.index.result.now found.in_range c.index.ensures (0, 0) in
    let place = found_place old index c.requires.indexed c.args.new.sector c.in-Ok.at found c.index.result.now.1 (ap (λ (e : ℕ × ℕ). e.1) entry) in
    let before = vec_len c.args.self.now.staged in
    ap (λ (b : Bool). if b then before else before + 1) (sym (holds_at old _ c.args.new.sector place.inside place.here))

pub returns-in-Ok-clause-holds : goal.returns-in-Ok-clause-holds
returns-in-Ok-clause-holds c k =
    let old = c.args.self.now.staged.items in
    let index = c.args.self.now.index.items in
    let found = subst (λ (l : Index). IsEntryOfNumber l c.args.new.sector c.in-Ok.at) c.deref.ensures.value c.in-Ok.ensures.found in
    let entry = get_or_read index c.in-Ok.at c.index.result.now found.in_range c.index.ensures (0, 0) in
    let place = found_place old index c.requires.indexed c.args.new.sector c.in-Ok.at found c.index.result.now.1 (ap (λ (e : ℕ × ℕ). e.1) entry) in
    holds_set old _ c.args.new k place.inside place.here

pub returns-in-Ok-clause-indexed : goal.returns-in-Ok-clause-indexed
returns-in-Ok-clause-indexed c =
    let old = c.args.self.now.staged.items in
    let index = c.args.self.now.index.items in
    let found = subst (λ (l : Index). IsEntryOfNumber l c.args.new.sector c.in-Ok.at) c.deref.ensures.value c.in-Ok.ensures.found in
    let entry = get_or_read index c.in-Ok.at c.index.result.now found.in_range c.index.ensures (0, 0) in
    let place = found_place old index c.requires.indexed c.args.new.sector c.in-Ok.at found c.index.result.now.1 (ap (λ (e : ℕ × ℕ). e.1) entry) in
    subst (λ (ns : List ℕ). IsIndex ns index) (sym (numbers_replaced old _ c.args.new place.inside place.here)) c.requires.indexed

pub returns-in-Ok-push-clause-over : goal.returns-in-Ok-push-clause-over
returns-in-Ok-push-clause-over c m =
    let old = c.args.self.now.staged.items in
    let index = c.args.self.now.index.items in
    let gap = subst (λ (l : Index). IsGapFor l c.args.new.sector c.in-Err.at) c.deref.ensures.value c.in-Err.ensures.absent in
    let none = none_at_all old index c.requires.indexed c.args.new.sector c.in-Err.at gap in
    let items : c.push.new.self.items ≡ old ++ c.args.new ∷ [] = c.in-Ok-push.ensures.items in
    ap (λ (b : List Staged). over b m) items ∙ over_push old c.args.new m none

pub returns-in-Ok-push-clause-places : goal.returns-in-Ok-push-clause-places
returns-in-Ok-push-clause-places c s places short after_log there =
    let old = c.args.self.now.staged.items in
    let index = c.args.self.now.index.items in
    let gap = subst (λ (l : Index). IsGapFor l c.args.new.sector c.in-Err.at) c.deref.ensures.value c.in-Err.ensures.absent in
    let none = none_at_all old index c.requires.indexed c.args.new.sector c.in-Err.at gap in
    let items : c.push.new.self.items ≡ old ++ c.args.new ∷ [] = c.in-Ok-push.ensures.items in
    subst (λ (b : List Staged). Places s (numbers b)) (sym items) (places_push s old c.args.new places (omega arith) after_log there none)

pub returns-in-Ok-push-clause-len : goal.returns-in-Ok-push-clause-len
returns-in-Ok-push-clause-len c =
    let old = c.args.self.now.staged.items in
    let index = c.args.self.now.index.items in
    let gap = subst (λ (l : Index). IsGapFor l c.args.new.sector c.in-Err.at) c.deref.ensures.value c.in-Err.ensures.absent in
    let none = none_at_all old index c.requires.indexed c.args.new.sector c.in-Err.at gap in
    let items : c.push.new.self.items ≡ old ++ c.args.new ∷ [] = c.in-Ok-push.ensures.items in
    let before = vec_len c.args.self.now.staged in
    c.in-Ok-push.ensures.len ∙ ap (λ (b : Bool). if b then before else before + 1) (sym (holds_none old c.args.new.sector none))

pub returns-in-Ok-push-clause-holds : goal.returns-in-Ok-push-clause-holds
returns-in-Ok-push-clause-holds c k =
    let old = c.args.self.now.staged.items in
    let index = c.args.self.now.index.items in
    let gap = subst (λ (l : Index). IsGapFor l c.args.new.sector c.in-Err.at) c.deref.ensures.value c.in-Err.ensures.absent in
    let none = none_at_all old index c.requires.indexed c.args.new.sector c.in-Err.at gap in
    let items : c.push.new.self.items ≡ old ++ c.args.new ∷ [] = c.in-Ok-push.ensures.items in
    ap (λ (b : List Staged). holds b k) items ∙ holds_push old c.args.new k

pub returns-in-Ok-push-clause-indexed : goal.returns-in-Ok-push-clause-indexed
returns-in-Ok-push-clause-indexed c =
    let old = c.args.self.now.staged.items in
    let index = c.args.self.now.index.items in
    let gap = subst (λ (l : Index). IsGapFor l c.args.new.sector c.in-Err.at) c.deref.ensures.value c.in-Err.ensures.absent in
    let none = none_at_all old index c.requires.indexed c.args.new.sector c.in-Err.at gap in
    let items : c.push.new.self.items ≡ old ++ c.args.new ∷ [] = c.in-Ok-push.ensures.items in
    let long : length (numbers old) ≡ c.len-place.result = length-map old (λ (t : Staged). t.sector) ∙ (omega (arith, c.len-place.ensures)) in
    let named : numbers c.push.new.self.items ≡ numbers old ++ c.args.new.sector ∷ [] = ap numbers items ∙ map_push (λ (t : Staged). t.sector) old c.args.new in
    let entries : c.insert.new.self.items ≡ insert index c.in-Err.at (c.args.new.sector, c.len-place.result) = elim c.match-insert.branch [ in-Ok-insert w ↦ w.in-Ok-insert.ensures.items | in-Err-insert w ↦ absurd (omega (arith, w.in-Err-insert.ensures.full, c.requires.index_room)) ] in
    subst (λ (ns : List ℕ). IsIndex ns c.insert.new.self.items) (sym named)
    (subst (λ (l : Index). IsIndex (numbers old ++ c.args.new.sector ∷ []) l) (sym (entries ∙ ap (λ (k : ℕ). insert index c.in-Err.at (c.args.new.sector, k)) (sym long)))
    (index_more (numbers old) index c.requires.indexed c.args.new.sector c.in-Err.at gap))

pub index_mut-requires : goal.index_mut-requires
index_mut-requires c = grind (arith, common_steps)

pub search-requires : goal.search-requires
search-requires c = grind (arith, common_steps)
