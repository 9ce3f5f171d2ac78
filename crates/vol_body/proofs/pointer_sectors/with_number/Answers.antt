use Rattle.std.proofs.Common.{◌∙◌, ◌*◌, ℕ, List, drop, ap, arith}
use Rattle.byteorder.specs.Endian.{little_number}
use Rattle.vol_body.proofs.Listed.{number_written, number_not_written}
use Rattle.vol_body.proofs.pointer_sectors.with_number.Goals as goal

pub returns-clause-one : goal.returns-clause-one
returns-clause-one c = ap (λ (l : List ℕ). little_number 4 (drop (4 * c.args.i) l)) c.put_number.ensures ∙ number_written c.args.image.now c.args.i c.args.n (omega arith) (omega arith)

pub returns-clause-rest : goal.returns-clause-rest
returns-clause-rest c k below other = ap (λ (l : List ℕ). little_number 4 (drop (4 * k) l)) c.put_number.ensures ∙ number_not_written c.args.image.now c.args.i c.args.n k (omega arith) other
