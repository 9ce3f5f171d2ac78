use Rattle.std.proofs.Common.{◌≡◌, ℕ, ◌+◌, ◌<◌, List, [], ◌∷◌, ◌++◌, length, map, take, get_or, sym, ap, ◌∙◌}
use Rattle.std.proofs.lemmas.List.{map-append, take_more, take_all}
use Rattle.std.proofs.lemmas.Result.{IfOk-from_err}
use Rattle.wasm_syntax.specs.declared.module.GlobalEntry.{GlobalEntry}
use Rattle.wasm_valid.proofs.module_rules.own_globals.Goals as goal

-- one item more of a list that is mapped
mapped_more : {X Y : Type 0} (f : X → Y) (xs : List X) (i : ℕ) (x : X) (so_far more : List Y) → i < length xs → x ≡ get_or xs i x → so_far ≡ map f (take i xs) → more ≡ so_far ++ f x ∷ [] → more ≡ map f (take (i + 1) xs)
mapped_more {X} {Y} f xs i x so_far more lt is before pushed =
    let front : take (i + 1) xs ≡ take i xs ++ x ∷ [] = take_more xs i x lt ∙ ap (λ (y : X). take i xs ++ y ∷ []) (sym is) in
    pushed ∙ ap (λ (ys : List Y). ys ++ f x ∷ []) before ∙ sym (ap (map f) front ∙ map-append f (take i xs) (x ∷ []))

pub returns-in_err-push : goal.returns-in_err-push
returns-in_err-push c = IfOk-from_err c.from_residual.result _ c.from_residual.ensures.0

pub loop-global-init : goal.loop-global-init
loop-global-init c = c.new-types.ensures.items

pub loop-global-preserved : goal.loop-global-preserved
loop-global-preserved c =
    mapped_more (λ (g : GlobalEntry). g.global_type) c.args.globals.now c.loop-global.global-index c.global-item.result c.loop-global.types.items c.push.new.self.items c.loop-global-test.true c.global-item.is c.loop-global.invariant c.in_ok-push.ensures.items

pub returns : goal.returns
returns c =
    let all : take c.loop-global.global-index c.args.globals.now ≡ c.args.globals.now = take_all c.loop-global.global-index c.args.globals.now c.loop-global-test.false in
    c.loop-global.invariant ∙ ap (map (λ (g : GlobalEntry). g.global_type)) all
