use Rattle.std.proofs.Common.{◌≡◌, ℕ, List, refl, sym, ap, ◌∙◌, subst, inl}
use Rattle.path_walk.specs.Paths.{components_of, path_read, wants_directory, resolved, stays_inside}
use Rattle.path_walk.specs.Walk.{GivesOrIo}
use Rattle.path_walk.specs.declared.walking.Reached.{Reached as ReachedValue}
use Rattle.wasi_bodies.specs.internal.paths.Walks.{ReachesFrom}
use Rattle.wasi_bodies.proofs.checks.CausesOf29.{no_text_io, walk_io}
use Rattle.wasi_paths.proofs.paths.Walks.{by_text, reaches_by, same_or_kept, step_by, places}
use Rattle.wasi_bodies.proofs.bodies.Resting.{volume_rests}
use Rattle.wasi_paths.proofs.paths.reach.Goals as goal

pub returns-in-Ok-clause-reaches : goal.returns-in-Ok-clause-reaches
returns-in-Ok-clause-reaches g c = λ h w o path serial is shown.
    let text = c.args.text.now in
    let v = c.args.volume.now in
    let same : c.in-Ok.path ≡ text = c.in-Ok.ensures.0 in
    subst (λ (l : List ℕ). ReachesFrom c.walk.new.volume w o l c.walk.result) is
    (reaches_by g.D.Device.honest g.D.Device.disk g.D.Device.size g.D.Device.failures g.D.Device.goes_on v c.walk.new.volume w o text (components_of text) c.walk.result
    c.in-Ok.ensures.1 shown (c.walk.ensures.tree h)
    (subst (λ (n : ℕ). GivesOrIo (resolved v.tree n (wants_directory text) (components_of text)) c.walk.result) (sym serial)
    (subst (λ (l : List ℕ). GivesOrIo (resolved v.tree c.args.directory (wants_directory l) (components_of l)) c.walk.result) same (c.walk.ensures.answer h)))
    (λ inside. c.walk.ensures.kept (ap (λ (l : List ℕ). stays_inside 0 (components_of l)) same ∙ inside))
    (λ out. c.walk.ensures.outside (ap (λ (l : List ℕ). stays_inside 0 (components_of l)) same ∙ out)))

pub returns-in-Ok-clause-kept : goal.returns-in-Ok-clause-kept
returns-in-Ok-clause-kept g c =
    same_or_kept g.D.Device.honest g.D.Device.disk g.D.Device.size g.D.Device.failures g.D.Device.goes_on (stays_inside 0 (components_of c.in-Ok.path)) c.args.volume.now c.walk.new.volume _
    c.walk.ensures.kept (λ out. (c.walk.ensures.outside out).0)

pub returns-in-Err-clause-kept : goal.returns-in-Err-clause-kept
returns-in-Err-clause-kept g c = inl refl

pub returns-in-Ok-clause-step : goal.returns-in-Ok-clause-step
returns-in-Ok-clause-step g c =
    step_by g.D.Device.honest g.D.Device.disk g.D.Device.size g.D.Device.failures g.D.Device.goes_on (components_of c.in-Ok.path) c.args.volume.now c.walk.new.volume _
    c.walk.ensures.kept (λ out. (c.walk.ensures.outside out).0) c.walk.ensures.crash c.walk.ensures.goes_on

pub returns-in-Err-clause-reaches : goal.returns-in-Err-clause-reaches
returns-in-Err-clause-reaches g c = λ h w o path serial is shown.
    inl (record { is = by_text w o path c.in-Err.errno (ap path_read (sym is) ∙ c.in-Err.ensures); same = sym shown })

pub returns-in-Ok-clause-place : goal.returns-in-Ok-clause-place
returns-in-Ok-clause-place g c = λ h.
    places c.args.volume.now.tree c.args.directory (wants_directory c.in-Ok.path) (components_of c.in-Ok.path) c.walk.result (c.walk.ensures.answer h)

pub returns-in-Err-clause-step : goal.returns-in-Err-clause-step
returns-in-Err-clause-step g c = volume_rests g.D.Device.honest g.D.Device.disk g.D.Device.size g.D.Device.failures g.D.Device.goes_on c.args.volume.now

pub returns-in-Err-clause-io : goal.returns-in-Err-clause-io
returns-in-Err-clause-io g c = λ is. absurd (no_text_io ReachedValue c.args.text.now c.in-Err.errno c.in-Err.ensures is)

pub returns-in-Ok-clause-io : goal.returns-in-Ok-clause-io
returns-in-Ok-clause-io g c = walk_io {honest = g.D.Device.honest} {sectors_on = g.D.Device.size} {failures = g.D.Device.failures} (stays_inside 0 (components_of c.in-Ok.path)) c.args.volume.now c.walk.new.volume c.walk.result c.walk.ensures.kept c.walk.ensures.outside

pub walk-requires : goal.walk-requires
walk-requires g c = record { directory = c.requires }
