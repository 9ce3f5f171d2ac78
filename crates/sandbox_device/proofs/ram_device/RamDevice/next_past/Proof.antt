-- `next_past` adds the sectors before one operation more. Assumes `Logic`.
use Rattle.std.proofs.Common.{List, [], ◌∷◌, ◌++◌, refl}
use Rattle.std.proofs.raw_atomic.Walks.{proved_at}
use mir.Val.{Val, vptr}
use base.Logic.{SProp}
use prog.Wp.{WpFn}
use contract.Running.{tables}
use types.Kit.{‵, raw, ◌⊛◌, prop, ◌$◌, ◌∵◌, !, qed, move, keep, split, fjoin, regoal, suffices, done}
use types.Part.{agg}
use types.Run.{enter, returns, no_more}
use types.ByLocal.{alloc_all, pass_all, free_all, look_at, sets}
use denote.Exit.{yes}
use denote.RattleType.{owns}
use denote.Builtin.{RefOf}
use denote.Signature.{plain, types_at}
use denote.Steps.{nothing}
use denote.Triple.Entry.{alive}
use denote.Triple.Walked.{says, Stays, stay_dropped, walk_of, ends_at, Goes-dropped}
use Rattle.vol_sector.proofs.Walks.{none, none_made}
use Rattle.sandbox_device.specs.contracts.past.Past as Past
use Rattle.sandbox_device.specs.contracts.ram_device.RamDevice as RamDevice
use Rattle.sandbox_device.specs.contracts.ram_device.RamDevice.next_past.{ended, clauses}
use Rattle.sandbox_device.specs.contracts.ram_device.RamDevice.next_past.Key.{name as #self}
use Rattle.sandbox_device.proofs.ram_device.RamDevice.next_past.Statement.{statement}
use Rattle.sandbox_device.proofs.ram_device.RamDevice.next_past.Code as code

pub next_past_spec : {M : Type 1} → statement M
next_past_spec 𝓤 𝓛 𝓜 𝓡 wired =
    let H = 𝓛.H in
    let C = (tables 𝓤 H 𝓜 𝓡 𝓡.env).C in
    let Λ = (tables 𝓤 H 𝓜 𝓡 𝓡.env).Λ in
    let held = clauses 𝓛 𝓜.mem 𝓡.returns in
    let stayed : Stays ended.signature.params ended.kept = (stay_dropped _ yes, tt) in
    proved_at 𝓛 ended stayed held 𝓜 𝓡 (Goes-dropped 𝓛 1 (RefOf (0 ∷ []) tt (plain (λ _. RamDevice.the_row)) (λ _. tt)) yes (λ κs x f. refl), tt) #self code.function (code.unfolded 𝓤 H 𝓜 𝓡 wired) (λ z are.
    let Post : Val → SProp 𝓤 = (walk_of 𝓛 ended stayed held).post z in
    let a = z.0.3 in
    let u : Val = vptr a.0.ref_ptr.0 a.0.ref_ptr.1 in
    let made : (Past.the_row).Denot = record { images = a.0.now.sectors ∷ a.0.now.past.images } in
    qed 𝓛 ((raw (alive 𝓛 ended.signature z.0.0 z.0.1) ⊛ ‵ (owns (types_at ended.signature.params z.0.0) a z.0.4)) ∷ raw ((held z.0.0 a).requires z.1) ∷ []) ∵
    keep ! (0 ∷ []) $ split ! $ keep ! (0 ∷ []) $
    regoal ! (λ (us : List Val). prop (WpFn 𝓤 H C Λ code.function us Post)) (λ i. are.0.0 i ++ []) refl $
    enter ! C Λ code.function (u ∷ []) Post $ alloc_all ! (λ l. pass_all ! refl ((tt, tt), tt) $
    sets ! (agg ! (no_more !)) refl (tt, tt) $
    nothing ! $ none_made ! $ fjoin ! $
    returns ! (look_at ! 0 refl) $ free_all ! refl $
    suffices ! _ (ends_at 𝓛 ended stayed held z none made (tt, tt) (tt, tt)) $ says ! refl $
    nothing ! $ nothing ! $ fjoin ! $ move ! (2 ∷ 0 ∷ 1 ∷ []) $ done !))
