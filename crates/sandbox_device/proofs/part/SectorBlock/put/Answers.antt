use Rattle.std.proofs.Common.{arith, ◌∙◌}
use Rattle.sandbox_device.proofs.Packing.{put_over, has_room, put_packed, put_new, put_zeros}
use Rattle.sandbox_device.proofs.part.SectorBlock.put.Goals as goal

pub push_reserved-requires : goal.push_reserved-requires
push_reserved-requires c =
    let s = c.self.inside in
    let room = has_room s.written.items s.places.items c.args.self.now c.args.n c.index-place.result.now c.args.image.now c.self.invariant.0 c.self.view_is c.requires c.index-place.ensures
    (omega (arith, c.if-place-gt0.false)) in
    omega (arith, room, c.self.invariant.1, s.written.ok, s.places.ok)

pub invariant_of-self-then-not-is_zeros : goal.invariant_of-self-then-not-is_zeros
invariant_of-self-then-not-is_zeros c =
    let s = c.self.inside in (
      put_packed s.written.items s.places.items c.args.self.now c.args.n c.index-place.result.now c.args.image.now c.self.invariant.0 c.self.view_is c.requires c.index-place.ensures
          (omega (arith, c.if-place-gt0.false)) c.push_reserved.new.self.items c.len.result c.push_reserved.ensures.items (c.len.ensures ∙ c.push_reserved.new.self.ok.0),
      omega (arith, c.self.invariant.1, c.push_reserved.ensures.capacity),
      c.self.invariant.2,
    )

pub returns-then-place-gt0 : goal.returns-then-place-gt0
returns-then-place-gt0 c =
    let s = c.self.inside in
    put_over s.written.items s.places.items c.args.self.now c.args.n c.index-place.result.now c.args.image.now c.self.invariant.0 c.self.view_is c.requires c.index-place.ensures c.if-place-gt0.true

pub returns-then-not-is_zeros : goal.returns-then-not-is_zeros
returns-then-not-is_zeros c =
    let s = c.self.inside in
    put_new s.written.items s.places.items c.args.self.now c.args.n c.index-place.result.now c.args.image.now c.self.invariant.0 c.self.view_is c.requires c.index-place.ensures
    (omega (arith, c.if-place-gt0.false)) c.push_reserved.new.self.items c.len.result c.push_reserved.ensures.items (c.len.ensures ∙ c.push_reserved.new.self.ok.0)

pub returns-else-not-is_zeros : goal.returns-else-not-is_zeros
returns-else-not-is_zeros c =
    let s = c.self.inside in
    put_zeros s.written.items s.places.items c.args.self.now c.args.n c.index-place.result.now c.args.image.now c.self.invariant.0 c.self.view_is c.requires c.index-place.ensures
    (omega (arith, c.if-place-gt0.false)) (c.is_zeros.ensures c.if-not-is_zeros.false)
