use Rattle.std.proofs.Common.{rules}
use Rattle.wasi_bodies.proofs.settings.Settings.fits.Goals as goal

pub returns-then-names_fit : goal.returns-then-names_fit
returns-then-names_fit c = search rules
