use Rattle.std.proofs.Common.{sym, ap, arith, ◌∙◌, [], length, length-set}
use Rattle.std.proofs.lemmas.List.{get_or_read}
use Rattle.sandbox_device.proofs.InParts.{found_in, put_in_parts, put_joined}
use Rattle.sandbox_device.proofs.sectors.Sectors.put.Goals as goal

pub index_mut-requires : goal.index_mut-requires
index_mut-requires c =
    let s = c.self.inside in
    let at = found_in s.parts.items c.args.self.now c.args.n c.self.invariant.0 c.self.view_is c.requires in
    omega (arith, at.part, s.parts.ok)

pub put-requires : goal.put-requires
put-requires c =
    let s = c.self.inside in
    let at = found_in s.parts.items c.args.self.now c.args.n c.self.invariant.0 c.self.view_is c.requires in
    omega (arith, at.place, ap length (get_or_read s.parts.items _ _ at.part c.index_mut.ensures.value []))

pub invariant_of-self : goal.invariant_of-self
invariant_of-self c =
    let s = c.self.inside in
    let joined_is = put_joined s.parts.items c.args.self.now c.index_mut.result.now c.put.new.self c.args.n c.args.image.now c.self.invariant.0 c.self.view_is c.requires c.index_mut.ensures.value c.put.ensures in (
      put_in_parts s.parts.items c.args.self.now c.index_mut.result.now c.put.new.self c.args.n c.args.image.now c.self.invariant.0 c.self.view_is c.requires c.index_mut.ensures.value c.put.ensures,
      ap length joined_is ∙ length-set c.args.self.now c.args.n c.args.image.now ∙ sym (ap length c.self.view_is) ∙ c.self.invariant.1,
    )

pub returns : goal.returns
returns c =
    let s = c.self.inside in
    put_joined s.parts.items c.args.self.now c.index_mut.result.now c.put.new.self c.args.n c.args.image.now c.self.invariant.0 c.self.view_is c.requires c.index_mut.ensures.value c.put.ensures
