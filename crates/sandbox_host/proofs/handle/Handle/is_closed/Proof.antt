-- `is_closed` compares the handle's pointer with null, which what it owns allows, and tells whether it has anything.
use Rattle.std.proofs.Common.{◌≡◌, List, [], ◌∷◌, refl, sym, subst, lit<, Bool, true, false}
use Rattle.std.proofs.raw_atomic.Walks.{proved}
use lib.Dec.{T}
use seplogic.Ra.Ura.{Ura}
use base.Fraction.{full_share}
use base.Logic.{guard_i, ent, emp, via, fst∗, snd∗, never, never_e}
use base.Fml.{ftrue, flft, feq}
use mir.Syntax.{ty_ptr, ptr_eq, named}
use mir.Raw.{raw as bare}
use mir.Val.{Val, vbool, vnull, op2_val, has_ty, WT}
use contract.Monad.{fact, fact_i, fact_mono, fact_use}
use contract.Running.{tables}
use types.Logic.{Logic, sem}
use types.Kit.{‵, raw, ◌⊛◌, ◌$◌, ◌∵◌, !, qed, done, move, keep, use0, use1, split, join, fsplit, fsplit3, fjoin, feq_i, feq_l, given, learn, rewrite, suffices, frame, group}
use types.Run.{enter, of_opd, lit, bin, load, stop, fld, returns}
use types.ByLocal.{alloc_all, pass_all, free_all, look_at, get, through, sets, is}
use types.Part.{whole, sub, look_in}
use denote.Laws.{shows}
use denote.Memory.{cell_at, lone}
use denote.RawPtr.{Ptr, block_ptr, null_ptr, ptr_val, Testable, tests_null}
use denote.Ref.{MutRef, mut_vals, mut_Tells}
use denote.Signature.{plain}
use denote.Steps.{nothing, opens, closes, peeks}
use denote.Triple.Walked.{Stays, walk_of, says, stay_ref, Goes-ref, ends_at}
use Rattle.std.specs.Prelude.{Option, None, Some, is_none}
use Rattle.std_heap.specs.contracts.GlobalAllocator.TheImpl.{ghosts}
use Rattle.std_heap.specs.declared.Global.{Global}
use Rattle.std_heap.proofs.GlobalToken.{dealloc_token-Testable}
use Rattle.core.specs.Ptr.{points_to}
use Rattle.sandbox_host.specs.Handles.{handle_owns}
use Rattle.sandbox_host.specs.contracts.held.HandleContent as HandleContent
use Rattle.sandbox_host.specs.contracts.handle.Handle.is_closed as f
use Rattle.sandbox_host.proofs.handle.Handle.is_closed.Statement.{statement}
use Rattle.sandbox_host.proofs.handle.Handle.is_closed.Code as code
use Rattle.sandbox_host.specs.contracts.handle.Handle.{the_row as R}
use Rattle.sandbox_host.proofs.handle.Handle.TheLaws.{lowers}

abbrev stayed : Stays f.ended.signature.params f.ended.kept
stayed = (stay_ref (0 ∷ []) tt (plain (λ _. R)), tt)

-- what the comparison needs and what it answers
abbrev Told : Ptr → Bool → Type 0
Told p y = Testable p × (op2_val ptr_eq (ptr_val p) vnull ≡ vbool y)

module _ {M : Type 1} {𝓤 : Ura M} (𝓛 : Logic 𝓤) (a : Global) where
  tells : (p : Ptr) (t : Option HandleContent.the_row.Denot) → ent 𝓤 (sem 𝓛 (handle_owns (ghosts.dealloc_token a) p t)) (fact 𝓤 (Told p (is_none t)))
  tells p None = qed 𝓛 (‵ (feq Ptr p null_ptr) ∷ []) ∵ feq_l ! (λ e. use0 𝓛 (raw (fact 𝓤 (Told p true))) (fact_i 𝓤 (Told p true) (emp 𝓤) (subst (λ (s : Ptr). Told s true) (sym e) (lit< tt, refl))) $ done !)
  tells (block_ptr b o) (Some x) = via 𝓤 (fact 𝓤 (Testable (block_ptr b o))) (via 𝓤 (sem 𝓛 (ghosts.dealloc_token a (bare (lone HandleContent.the_row.mir)) (block_ptr b o))) (snd∗ 𝓤 (sem 𝓛 (points_to HandleContent.the_row (block_ptr b o) x)) (sem 𝓛 (ghosts.dealloc_token a (bare (lone HandleContent.the_row.mir)) (block_ptr b o)))) (dealloc_token-Testable 𝓛 a (bare (lone HandleContent.the_row.mir)) (block_ptr b o)))
      (fact_mono 𝓤 (Testable (block_ptr b o)) (Told (block_ptr b o) false) (λ e. (e, refl)))
  tells null_ptr (Some x) = via 𝓤 (never 𝓤) (fst∗ 𝓤 (never 𝓤) (sem 𝓛 (ghosts.dealloc_token a (bare (lone HandleContent.the_row.mir)) null_ptr))) (never_e 𝓤 _)

typed : (s : Ptr) → T (has_ty ty_ptr (ptr_val s)) × WT (ptr_val s)
typed (block_ptr b o) = (tt, tt)
typed null_ptr = (tt, record { fits = lit< tt })

pub is_closed_spec : {M : Type 1} → statement M
is_closed_spec 𝓤 𝓛 𝓜 𝓡 wired =
    let c = f.clauses 𝓛 𝓜.mem 𝓡.returns in let W = walk_of 𝓛 f.ended stayed c in let 𝓣 = tables 𝓤 𝓛.H 𝓜 𝓡 𝓡.env in
    proved 𝓛 f.ended stayed c 𝓜 𝓡 (Goes-ref 𝓛 1 0 tt (plain (λ _. R)), tt)
    f.Key.name code.function (code.unfolded 𝓤 𝓛.H 𝓜 𝓡 wired)
    (λ κs. (mut_vals, tt)) (λ κs. (mut_Tells (named 0) κs.0 R, tt)) (λ κs qs bounds a _ are.
    let b = a.0.ref_ptr.0 in let o = a.0.ref_ptr.1 in let h = a.0.now in let vs = mut_vals a.0 in let closed : Bool = is_none h.held in
    let y : W.Ghost = ((κs, qs, bounds, a, (vs, tt)), tt) in let Owned = handle_owns (ghosts.dealloc_token h.alloc) h.at h.held in
    qed 𝓛 (((‵ (flft κs.0 qs.0) ⊛ ‵ ftrue) ⊛ ‵ ((MutRef (named 0) κs.0 R).own_val a.0 vs) ⊛ ‵ ftrue) ∷ ‵ ftrue ∷ []) ∵
    split ! $ split ! $ move ! (2 ∷ []) $ split ! $ keep ! (0 ∷ 2 ∷ []) $
    enter ! _ _ _ _ _ $ alloc_all ! (λ l. pass_all ! refl ((tt, tt), tt) $
    fsplit3 ! $ move ! (1 ∷ 2 ∷ 3 ∷ []) $ opens ! tt R b o (λ us.
    move ! (1 ∷ []) $ peeks ! R _ (shows 𝓛 R) h us (λ shown. fsplit ! $ move ! (1 ∷ []) $
    use1 𝓛 (given (Told h.at closed) (‵ Owned)) (fact_use 𝓤 (Told h.at closed) (tells 𝓛 h.alloc h.at h.held) (guard_i 𝓤 (Told h.at closed) (sem 𝓛 Owned))) $ learn ! (λ told.
    let word = lowers.val_is h us shown in
    let Cell = λ (ws : List Val). ‵ (cell_at full_share R.mir ws b o) in
    rewrite ! 2 Cell word refl $
    -- [what the handle owns; what the fields own; the struct's cell; the open borrow, in three entries]
    sets ! (of_opd ! (load ! (through ! refl (fld ! refl (stop !))) (look_in ! 2 (sub ! 0 refl (whole !))))) refl (typed h.at) $
    sets ! (is ! (bin ! (get ! refl) (lit ! tt) (tests_null h.at told.0)) told.1) refl (tt, tt) $
    rewrite ! 2 Cell (sym word) refl $
    move ! (1 ∷ []) $ fjoin ! $ move ! (1 ∷ []) $ closes ! tt R h us b o $
    -- [two parts of self; the token; self's first part]
    returns ! (look_at ! 0 refl) $ free_all ! refl $ move ! (3 ∷ []) $
    suffices ! _ (ends_at 𝓛 f.ended stayed c y (vbool closed) closed (h, tt) (tt, tt)) $ says ! (refl, refl) $
    group ! 3 $ nothing ! $ move ! (1 ∷ 0 ∷ []) $ join ! $ nothing ! $ move ! (2 ∷ 0 ∷ []) $ join ! $ frame ! $ frame ! $
    feq_i ! _ (vbool closed ∷ []) _ refl $ done !)))))
