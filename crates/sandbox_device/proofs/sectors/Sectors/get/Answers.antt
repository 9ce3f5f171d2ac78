use Rattle.std.proofs.Common.{◌%◌, ◌∙◌, sym, ap, arith, ℕ, List, [], length, get_or}
use Rattle.std.proofs.lemmas.List.{get_or_read}
use Rattle.sandbox_device.proofs.InParts.{found_in}
use Rattle.sandbox_device.proofs.sectors.Sectors.get.Goals as goal

pub index-requires : goal.index-requires
index-requires c =
    let s = c.self.inside in
    let at = found_in s.parts.items c.args.self.now c.args.n c.self.invariant.0 c.self.view_is c.requires in
    omega (arith, at.part, s.parts.ok)

pub get-requires : goal.get-requires
get-requires c =
    let s = c.self.inside in
    let at = found_in s.parts.items c.args.self.now c.args.n c.self.invariant.0 c.self.view_is c.requires in
    let part = get_or_read s.parts.items _ _ at.part c.index.ensures [] in
    omega (arith, at.place, ap length part)

pub returns : goal.returns
returns c =
    let s = c.self.inside in
    let at = found_in s.parts.items c.args.self.now c.args.n c.self.invariant.0 c.self.view_is c.requires in
    let part = get_or_read s.parts.items _ _ at.part c.index.ensures [] in
    c.get.ensures ∙ ap (λ (l : List (List ℕ)). get_or l (c.args.n % 131072) []) part ∙ sym at.read ∙ ap (λ (l : List (List ℕ)). get_or l c.args.n []) c.self.view_is
