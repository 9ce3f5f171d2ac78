use Rattle.std.proofs.Common.{◌≡◌, length, arith, rules}
use Rattle.sandbox_device.proofs.Reading.{put_too}
use Rattle.sandbox_device.proofs.file_device.read_piece.Goals as goal

-- those before, and those that were read then
pub returns-clause-read : goal.returns-clause-read
returns-clause-read g c n lt =
    let same : length c.read_into.new.images ≡ length c.args.images.now = search rules in
    put_too c.args.first c.args.sectors.now c.read_into.new.images c.put_all.new.self (omega (arith, same, c.requires.fit)) c.put_all.ensures
    (λ k bytes. g.F.SectorFile.gave c.args.file.now k bytes) c.requires.read c.in_ok-read_into.ensures.gave n (omega (arith, same, lt))
