-- What is told of a damaged volume that is checked: the line of the fault, and a second one that says which rule of
-- the format is broken, and in which sector where that is known (`docs/USING.md`, "Faults"). `Execution` cites
-- `TellsChecked` for every task, but `checked_damage` gives a damage for `check` alone.
use Rattle.std.specs.Prelude.{ℕ, List, [], ◌∷◌, Option, Some, None, Result, Ok, Err, codes, decimal}
use Rattle.std.specs.List.{concat}
use Rattle.vol_sector.specs.declared.fault.Damage.{Damage}
use Rattle.vol_sector.specs.declared.fault.VolumeFault.TheVariants as fault
use Rattle.sandbox_report.specs.Faults.{Text, rule_text}
use Rattle.sandbox_args.specs.declared.request.Task.{Task}
use Rattle.sandbox_args.specs.declared.request.Task.TheVariants.{List as Ls, ListAs as LsAs, Get, Put, PutWhole, Check, Upgrade, Stat, Change as Changing}
use Rattle.vol_commands.specs.declared.failure.Failure.{Failure}
use Rattle.vol_commands.specs.declared.failure.Failure.TheVariants as failure
use Rattle.stream_answers.specs.Printing.{AppendsPart}
use Rattle.sandbox_telling.specs.Streams.{AppendsSome}

-- the sector of a damage, or nothing where it isn't known
abbrev pub place_text : Option ℕ → Text
place_text None = []
place_text (Some sector) = concat (codes "sector " ∷ decimal sector ∷ codes ": " ∷ [])

-- both lines of a damage
abbrev pub damage_lines : Damage → Text
damage_lines d = concat (codes "sandbox: fault 32\nsandbox: " ∷ place_text d.sector ∷ rule_text d.rule ∷ codes "\n" ∷ [])

-- the damage for which a volume is refused
abbrev pub damage_of : Result (Unit {0}) Failure → Option Damage
damage_of (Ok x) = None
damage_of (Err (failure.Volume fault.NotAVolume)) = None
damage_of (Err (failure.Volume fault.Version)) = None
damage_of (Err (failure.Volume (fault.Damaged damage))) = Some damage
damage_of (Err (failure.Volume fault.Device)) = None
damage_of (Err (failure.Volume fault.TooSmall)) = None
damage_of (Err (failure.Volume fault.Upgraded)) = None
damage_of (Err (failure.Volume fault.Geometry)) = None
damage_of (Err (failure.Volume fault.Memory)) = None
damage_of (Err (failure.Tree e)) = None
damage_of (Err failure.Stream) = None

-- only checking tells more of it than the fault
abbrev pub checked_damage : Task → Result (Unit {0}) Failure → Option Damage
checked_damage (Ls path) done = None
checked_damage (LsAs path form) done = None
checked_damage (Get path) done = None
checked_damage (Put path) done = None
checked_damage (PutWhole path) done = None
checked_damage Check done = damage_of done
checked_damage (Upgrade huge) done = None
checked_damage (Stat path) done = None
checked_damage (Changing change) done = None

-- Both lines follow, or a beginning of them where the side of errors takes no more, and then what the fault means; and of what is no
-- damage some line.
abbrev pub TellsChecked : Option Damage → Option (List ℕ) → Option (List ℕ) → Type 0
TellsChecked None before after = AppendsSome before after
TellsChecked (Some damage) before after = (told : Option (List ℕ)) × AppendsPart before told (damage_lines damage) × AppendsSome told after
