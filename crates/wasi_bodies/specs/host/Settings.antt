-- The settings that a session can have (`docs/USING.md`, "Limits"). `WasiHost::new` refuses any others as `Setting`,
-- and the definition of a session cites the same test.
use Rattle.std.specs.Prelude.{◌&&◌, Bool, List, nat_le, length}
use Rattle.std.specs.List.{list_all}
use Rattle.wasi_bodies.specs.declared.settings.Preopen.{Preopen}
use Rattle.wasi_bodies.specs.declared.settings.Settings.{Settings}
use Rattle.wasi_bodies.specs.supplies.Texts.{texts_fit, name_fits}
use Rattle.wasi_bodies.specs.declared.settings.TheConstants.{MOST_PREOPENS, MOST_PAGES}

-- not too many directories, each with a name that a guest can know it by
abbrev pub preopens_fit : List Preopen → Bool
preopens_fit ps = nat_le (length ps) MOST_PREOPENS && list_all (λ p. name_fits p.guest_name.now) ps

-- what a guest can be given: texts and names that fit, and pages up to the limit
abbrev pub settings_fit : Settings → Bool
settings_fit s = texts_fit s.args.now && texts_fit s.env.now && preopens_fit s.preopens.now && nat_le s.pages MOST_PAGES
