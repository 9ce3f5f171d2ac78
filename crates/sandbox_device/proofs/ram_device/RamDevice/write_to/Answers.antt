use Rattle.std.proofs.Common.{◌≡◌, ◌∙◌, ◌+◌, ◌<◌, ◌≤◌, ◌++◌, List, ℕ, [], ◌∷◌, ap, sym, subst, take, length, get_or, append-nil}
use Rattle.std.proofs.KnownBytes.{Appends-trans, Appends-nil}
use Rattle.std.proofs.lemmas.List.{take_more, take_all}
use Rattle.std.proofs.lemmas.Grind.{flat_map-append}
use Rattle.std.specs.Io.KnownBytes.{Appends}
use Rattle.sandbox_device.specs.Ram.{joined_sectors}
use Rattle.sandbox_device.proofs.ram_device.RamDevice.write_to.Goals as goal

pub loop-n-init : goal.loop-n-init
loop-n-init g c = Appends-nil (g.W.Write.contents c.args.out.now)

-- the bytes of one sector more
one_more : (sectors : List (List ℕ)) (n : ℕ) → n < length sectors → joined_sectors (take n sectors) ++ get_or sectors n [] ≡ joined_sectors (take (n + 1) sectors)
one_more sectors n lt = ap (λ b. joined_sectors (take n sectors) ++ b) (sym (append-nil (get_or sectors n [])))
    ∙ (sym (flat_map-append (λ s. s) (take n sectors) (get_or sectors n [] ∷ [])) ∙ ap joined_sectors (sym (take_more sectors n [] lt)))

pub loop-n-preserved : goal.loop-n-preserved
loop-n-preserved g c =
    let contents = g.W.Write.contents in
    let lt : c.loop-n.n < length c.args.self.now.sectors = subst (λ m. c.loop-n.n < m) c.len-n-end.ensures.count c.loop-n-test.true in
    let all = Appends-trans (contents c.args.out.now) (contents c.loop-n.out) (contents c.write_all.new.self) (joined_sectors (take c.loop-n.n c.args.self.now.sectors)) c.get.result
    c.loop-n.invariant c.in_ok-write_all.ensures.bytes in
    subst (Appends (contents c.args.out.now) (contents c.write_all.new.self))
    (ap (λ b. joined_sectors (take c.loop-n.n c.args.self.now.sectors) ++ b) c.get.ensures ∙ one_more c.args.self.now.sectors c.loop-n.n lt) all

-- all are written
pub returns : goal.returns
returns g c =
    let contents = g.W.Write.contents in
    let over : length c.args.self.now.sectors ≤ c.loop-n.n = subst (λ m. m ≤ c.loop-n.n) c.len-n-end.ensures.count c.loop-n-test.false in
    subst (λ s. Appends (contents c.args.out.now) (contents c.loop-n.out) (joined_sectors s)) (take_all c.loop-n.n c.args.self.now.sectors over) c.loop-n.invariant
