use Rattle.std.proofs.Common.{take, length-take, arith, refl}
use Rattle.wasi_bodies.proofs.streams.inputs.read_some.Goals as goal

pub returns-in-Ok : goal.returns-in-Ok
returns-in-Ok g c = record {
  long = c.put_at.ensures.length;
  came = let told = c.in-Ok.ensures in
      let least = length-take c.in-Ok.count c.read_piece.new.piece in
      record {
        bytes = take c.in-Ok.count c.read_piece.new.piece;
        consumed = told.came;
        many = omega (arith, least, told.few.1, c.read_piece.auto.piece);
        few = told.few.0;
        stand = c.put_at.ensures.bytes;
      };
  end = c.in-Ok.ensures.end;
  broke = tt;
  kept = tt;
  heard = c.in-Ok.ensures.heard;
}

pub returns-in-Err : goal.returns-in-Err
returns-in-Err g c = record {
  long = refl;
  came = tt;
  end = tt;
  broke = c.in-Err.ensures.broke;
  kept = refl;
  heard = c.in-Err.ensures.heard;
}
