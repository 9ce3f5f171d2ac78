-- `slice_mut` lends a part of memory, which memory follows, or nothing, where memory stays.
use Rattle.std.proofs.Common.{ℕ, ◌+◌, ◌<◌, ◌≤◌, List, [], ◌∷◌, length, Bool, Option, Some, None, IfSome, IfNone, IsTrue, ◌↔◌, refl, sym, ap, ◌∙◌, lit<, lt_of_not-le, true≢false, w32, Bor, MutBor}
use Rattle.std.proofs.VecSteps.Element.{Some-of, none_of}
use Rattle.std.proofs.raw_atomic.Walks.{proved}
use Rattle.std.specs.contracts.option.Option as Opt
use base.Fml.{flent, flft, fres, ftrue, Incl-refl}
use base.Fraction.{full_share}
use base.Logic.{id⊢, emp}
use contract.Monad.{fact, fact_i}
use contract.Running.{tables}
use denote.Builtin.{bool, u8, u32}
use denote.Exit.{yes, no}
use denote.Follow.{follows_by}
use denote.Laws.{shows}
use denote.Lend.{lends_shr}
use denote.Memory.{mem, part_at}
use denote.Plain.{uint_vals, uint_Tells, uint_Makes}
use denote.Ref.{MutRef, ShrRef, mut_vals, mut_Tells, shr_vals}
use denote.Signature.{plain, mut_ref_to}
use denote.Slice.{MutSlice, slice_val}
use denote.Steps.{nothing, owned, heard, peeks, only}
use denote.Triple.Call.{calls_at}
use denote.Triple.Clauses.{lasts, Lasts}
use denote.Triple.Spec.{triple_of}
use denote.Triple.Table.{framed}
use denote.Triple.Walked.{Stays, walk_of, says, stay_dropped, Goes-dropped, Goes-spent_ref, ends_at}
use lib.Ieee.Bits.{is_true, is_false}
use mir.Syntax.{named}
use mir.Val.{Val, vint, of_list}
use types.ByLocal.{alloc_all, pass_all, free_all, look_at, get, through, sets, sets_last, lands_as, env}
use types.Kit.{‵, raw, ◌⊛◌, some, later, prop, at_ret, Sq, ◌$◌, ◌∵◌, !, qed, done, move, keep, drop, use0, use1, use2, split, join, fsplit3, fjoin3, feq_i, feq_l, pick, await, rewrite, suffices, frame}
use types.Match.{live}
use types.Mut.{open_ref, close_ref}
use types.Part.{agg}
use types.Run.{enter, of_opd, lit, addr, stop, no_more, and_then, first, branches, exec, returns}
use types.Tokens.{lft_new, lft_end, lent_back}
use Rattle.wasm_store.specs.Lending.{IsPart, LendsPart, LendsPartIf}
use Rattle.wasm_store.specs.contracts.memory.Memory.{the_row as R}
use Rattle.wasm_store.specs.contracts.memory.Memory.slice_mut as f
use Rattle.wasm_store.specs.contracts.memory.Memory.has_range as has
use Rattle.wasm_store.specs.contracts.memory.Memory.range_mut as range
use Rattle.wasm_store.proofs.memory.Memory.TheLaws.{the_row_laws, the_within}
use Rattle.wasm_store.proofs.memory.Memory.has_range.Met.{met as has-met}
use Rattle.wasm_store.proofs.memory.Memory.range_mut.Met.{met as range-met}
use Rattle.wasm_store.proofs.memory.Memory.slice_mut.Statement.{statement}
use Rattle.wasm_store.proofs.memory.Memory.slice_mut.Code as code

abbrev stayed : Stays f.ended.signature.params f.ended.kept
stayed = (stay_dropped (mut_ref_to (0 ∷ []) tt (plain (λ _. R))) no, (stay_dropped _ yes, (stay_dropped _ yes, tt)))

pub slice_mut_spec : {M : Type 1} → statement M
unfolding follows_by
slice_mut_spec 𝓤 𝓛 𝓜 𝓡 wired =
    let c = f.clauses 𝓛 𝓜.mem 𝓡.returns in let W = walk_of 𝓛 f.ended stayed c in let 𝓣 = tables 𝓤 𝓛.H 𝓜 𝓡 𝓡.env in
    let goes = Goes-dropped 𝓛 1 (plain (λ _. u32)) yes (λ κs x w. refl) in
    proved 𝓛 f.ended stayed c 𝓜 𝓡 (Goes-spent_ref 𝓛 1 (0 ∷ []) tt (plain (λ _. R)), (goes, (goes, tt)))
    f.Key.name code.function (code.unfolded 𝓤 𝓛.H 𝓜 𝓡 wired)
    (λ κs. (mut_vals, (uint_vals w32, (uint_vals w32, tt)))) (λ κs. (mut_Tells (named 0) κs.0 R, (uint_Tells w32, (uint_Tells w32, tt)))) (λ κs qs bounds a _ are.
    let κ = κs.0 in let q = qs.0 in let self = a.0 in let address = a.1.0 in let len = a.1.1.0 in let address_fits = are.1.0.1 in let len_fits = are.1.1.0.1 in
    let b = self.ref_ptr.0 in let o = self.ref_ptr.1 in let γ = self.ghost_name in let old = self.now in
    let Self = MutRef (named 0) κ R in let Part = MutSlice (named 0) κ u8 in
    let words : List Val × (List Val × Unit {0}) = (vint w32 address ∷ [], (vint w32 len ∷ [], tt)) in
    let y : W.Ghost = ((κs, qs, bounds, a, (mut_vals self, words)), tt) in
    -- [the result; what memory ends as; the token]
    let out : (v : Val) (r : Option (MutBor (List ℕ))) → IfSome r (λ s. (address + len ≤ length old) × (IsPart old address len s.now)) → IfNone r (length old < address + len)
    → Sq 𝓛 (‵ ((Opt.the_row Part).own_val r (v ∷ [])) ∷ ‵ (LendsPartIf self address r) ∷ ‵ (flft κ q) ∷ []) (prop (W.post y v)) = λ v r inside outside.
    suffices ! _ (ends_at 𝓛 f.ended stayed c y v r (tt, (tt, (tt, tt))) (tt, (tt, (tt, tt)))) $
    nothing ! $ nothing ! $ join ! $ nothing ! $ join ! $ nothing ! $ join ! $ join ! $
    nothing ! $ move ! (3 ∷ 0 ∷ []) $ join ! $ join ! $ frame ! $ frame ! $ says ! outside $ use0 𝓛 (raw (fact 𝓤 _)) (fact_i 𝓤 _ (emp 𝓤) inside) $ done ! in
    qed 𝓛 (((‵ (flft κ q) ⊛ ‵ ftrue) ⊛ ‵ (Self.own_val self (mut_vals self)) ⊛ ‵ (u32.own_val address (vint w32 address ∷ [])) ⊛ ‵ (u32.own_val len (vint w32 len ∷ [])) ⊛ ‵ ftrue) ∷ ‵ ftrue ∷ []) ∵
    split ! $ split ! $ move ! (2 ∷ []) $ split ! $ keep ! (0 ∷ 2 ∷ []) $
    enter ! _ _ _ _ _ $
    alloc_all ! (λ l. pass_all ! refl ((tt, tt), ((tt, record { fits = address_fits }), ((tt, record { fits = len_fits }), tt))) $
    -- [self; the token]: memory is lent for the test
    sets ! (addr ! (through ! refl (stop !))) refl (tt, tt) $
    fsplit3 ! $ move ! (1 ∷ 2 ∷ 3 ∷ []) $ open_ref ! tt (mem R) $ lft_new ! tt (λ α. move ! (1 ∷ 0 ∷ []) $
    let shown : Bor (List ℕ) = record { ref_ptr = self.ref_ptr; now = old } in
    use2 𝓛 (later ((‵ ((ShrRef (named 0) (α ∷ []) R).own_val shown (shr_vals shown)) ⊛ ‵ (flent (α ∷ []) (part_at R full_share old b o))) ⊛ ‵ (flft (α ∷ []) full_share)))
    (lends_shr 𝓛 R (named 0) (α ∷ []) full_share old b o R.lives (the_row_laws.shares 𝓛 old) ((α ∷ [], full_share) ∷ []) (the_within (α ∷ [])) (Incl-refl (α ∷ []))) $ await ! tt $ split ! $ split ! $
    let G = triple_of 𝓛 has.signature (has.spec 𝓛 𝓜.mem 𝓡.returns) in
    let z : G.Ghost = (((α ∷ [], tt), (full_share, tt), tt, (shown, (address, (len, tt))), (shr_vals shown, words)), tt) in
    -- [what is lent; the way back; the token of α; the open borrow, in three entries; nothing]
    nothing ! $ owned ! u32 _ (uint_Makes 𝓛 w32) len _ (refl, len_fits) $ join ! $ owned ! u32 _ (uint_Makes 𝓛 w32) address _ (refl, address_fits) $ join ! $ move ! (1 ∷ 0 ∷ []) $ join ! $
    nothing ! $ move ! (3 ∷ 0 ∷ []) $ join ! $ join ! $ nothing ! $ move ! (1 ∷ 0 ∷ []) $ use2 𝓛 (raw (G.pre z)) (id⊢ 𝓤 _) $
    calls_at ! (framed 𝓤 𝓛.H 𝓜 𝓣) G (has-met 𝓤 𝓛 𝓜 𝓡 (code.calls-wasm_store::memory::Memory::has_range 𝓡.env wired)) z
    (and_then ! (get ! refl) (and_then ! (get ! refl) (and_then ! (get ! refl) (no_more !)))) (λ v.
    use1 𝓛 (later (some (λ (t : Bool). ((‵ (flft (α ∷ []) full_share) ⊛ ‵ ftrue) ⊛ ‵ (bool.own_val t (v ∷ []))) ⊛
    some (λ (ws : Lasts has.ended z.0.0 z.0.3). ‵ (lasts has.ended z.0.0 z.0.3 ws) ⊛ raw (fact 𝓤 (IsTrue t ↔ (address + len ≤ length old))))))) (id⊢ 𝓤 _) $
    await ! tt $ pick ! (λ t. split ! $ move ! (1 ∷ []) $ pick ! (λ ws. split ! $ drop ! $ heard ! _ (λ tells. split ! $ split ! $ lft_end ! tt $ move ! (2 ∷ []) $ feq_l ! (λ is.
    lands_as ! (ap only is) refl (tt, tt) $
    move ! (0 ∷ 2 ∷ []) $ lent_back ! tt $ move ! (0 ∷ 2 ∷ 3 ∷ 4 ∷ []) $ close_ref ! tt (mem R) old $ feq_i ! (List Val) (mut_vals self) (mut_vals self) refl $ fjoin3 ! $
    -- [self; the token]
    first ! $ branches ! (get ! refl)
    (λ is_inside.
    let within = tells.0 (is_true t is_inside) in
    let G = triple_of 𝓛 range.signature (range.spec 𝓛 𝓜.mem 𝓡.returns) in
    let z : G.Ghost = ((κs, qs, tt, (self, (address, (len, tt))), (mut_vals self, words)), tt) in
    sets ! (addr ! (through ! refl (stop !))) refl (tt, tt) $
    nothing ! $ owned ! u32 _ (uint_Makes 𝓛 w32) len _ (refl, len_fits) $ join ! $ owned ! u32 _ (uint_Makes 𝓛 w32) address _ (refl, address_fits) $ join ! $ move ! (1 ∷ 0 ∷ []) $ join ! $
    nothing ! $ move ! (2 ∷ 0 ∷ []) $ join ! $ join ! $ use0 𝓛 (raw (fact 𝓤 (address + len ≤ length old))) (fact_i 𝓤 _ (emp 𝓤) within) $ move ! (1 ∷ 0 ∷ []) $ use2 𝓛 (raw (G.pre z)) (id⊢ 𝓤 _) $
    calls_at ! (framed 𝓤 𝓛.H 𝓜 𝓣) G (range-met 𝓤 𝓛 𝓜 𝓡 (code.calls-wasm_store::memory::Memory::range_mut 𝓡.env wired)) z
    (and_then ! (get ! refl) (and_then ! (get ! refl) (and_then ! (get ! refl) (no_more !)))) (λ v.
    use1 𝓛 (later (some (λ (s : MutBor (List ℕ)). ((‵ (flft κ q) ⊛ ‵ ftrue) ⊛ ‵ (Part.own_val s (v ∷ []))) ⊛
    some (λ (ws : Lasts range.ended κs z.0.3). ‵ (lasts range.ended κs z.0.3 ws) ⊛ ‵ (LendsPart self address s) ⊛ raw (fact 𝓤 (IsPart old address len s.now)))))) (id⊢ 𝓤 _) $
    await ! tt $ pick ! (λ s. split ! $ split ! $ split ! $ move ! (3 ∷ []) $ pick ! (λ ws. split ! $ drop ! $ split ! $ move ! (1 ∷ []) $ heard ! _ (λ value.
    -- [what memory ends as; the token; nothing; the part]
    move ! (3 ∷ []) $ peeks ! Part _ (shows 𝓛 Part) s _ (λ is. rewrite ! 0 (λ (us : List Val). ‵ (Part.own_val s us)) is.0.0 refl $
    let part = slice_val s.ref_ptr (length s.now) in
    lands_as ! (ap only is.0.0) refl (tt, (tt, (record { fits = is.0.1.0 }, tt))) $
    sets_last ! (agg ! (and_then ! (lit ! tt) (and_then ! (get ! refl) (no_more !)))) refl (tt, (record { fits = lit< tt }, ((tt, (record { fits = is.0.1.0 }, tt)), tt))) $
    exec ! 𝓣.C 𝓣.Λ (env code.Mir.locals l) code.Mir.t-4 (at_ret _ (W.post y)) $
    sets ! (of_opd ! (get ! refl)) refl (tt, (record { fits = lit< tt }, ((tt, (record { fits = is.0.1.0 }, tt)), tt))) $
    use1 𝓛 (‵ ((Opt.the_row Part).own_val (Some s) (live 1 (of_list (part ∷ [])) ∷ []))) (Some-of 𝓛 Part s part) $
    returns ! (look_at ! 0 refl) $ free_all ! refl $ keep ! (0 ∷ 1 ∷ 2 ∷ []) $ out _ (Some s) (within, value) tt))))))
    (λ is_outside.
    let passes : length old < address + len = lt_of_not-le (λ le. true≢false (sym (tells.1 le) ∙ is_false t is_outside)) in
    sets_last ! (agg ! (and_then ! (lit ! tt) (no_more !))) refl (tt, (record { fits = lit< tt }, tt)) $
    exec ! 𝓣.C 𝓣.Λ (env code.Mir.locals l) code.Mir.t-4 (at_ret _ (W.post y)) $
    sets ! (of_opd ! (get ! refl)) refl (tt, (record { fits = lit< tt }, tt)) $
    returns ! (look_at ! 0 refl) $ free_all ! refl $ fsplit3 ! $ keep ! (1 ∷ 3 ∷ []) $
    use1 𝓛 (‵ (fres γ (R.coded.code old))) (𝓛.names.obs-res γ (R.coded.code old)) $
    use0 𝓛 (‵ ((Opt.the_row Part).own_val None (live 0 (of_list []) ∷ []))) (none_of 𝓛 Part) $ out _ None tt passes)))))))))
