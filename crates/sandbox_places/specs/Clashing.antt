-- Which options don't go together.
use Rattle.std.specs.Prelude.{◌≡◌, ◌⊎◌, Some, None, IsSome, IsTrue}
use Rattle.sandbox_args.specs.declared.request.Run.{Run}
use Rattle.sandbox_args.specs.declared.request.Invocation.{Invocation}
use Rattle.sandbox_args.specs.declared.request.Invocation.TheVariants as asked

-- what each run of a list of tests has of its own, or can't have
abbrev pub IsForOneRun : Run → Type 0
IsForOneRun run = IsSome run.stdin ⊎ (IsSome run.stdout ⊎ (IsSome run.stderr ⊎ (IsSome run.report ⊎ (IsSome run.volume ⊎ (IsSome run.volume_out ⊎ (IsSome run.profile ⊎ (IsSome run.image_from ⊎ IsSome run.out_to)))))))

-- its stack is to be looked at in steps of no unit, or for no profile
abbrev pub HasWrongSteps : Run → Type 0
HasWrongSteps run = (run.profile_every ≡ Some 0) ⊎ (IsSome run.profile_every × (run.profile ≡ None))

-- it would begin with two volumes: one of its own, an image, or what a tar stream makes
abbrev pub HasTwoVolumes : Run → Type 0
HasTwoVolumes run = (IsSome run.image × IsSome run.volume) ⊎ (IsSome run.image_from × (IsSome run.volume ⊎ IsSome run.image))

-- What it leaves would be given out where nothing but its own file has it, or twice: its volume without an image or a tar stream to
-- begin with, or its tree beside a volume of its own, or beside its volume.
abbrev pub IsMisgiven : Run → Type 0
IsMisgiven run = (IsSome run.volume_out × (run.image ≡ None) × (run.image_from ≡ None)) ⊎ (IsSome run.out_to × (IsSome run.volume ⊎ IsSome run.volume_out))

-- what tells of a command's run alone
abbrev pub IsForCommand : Run → Type 0
IsForCommand run = IsSome run.tests ⊎ (IsSome run.report ⊎ IsSome run.profile)

-- A run whose options don't go together: two volumes, what it leaves given out so, a seed beside random bytes, a list of tests beside
-- what is for one run, steps of a profile that isn't wanted, or a call of an exported function beside what tells of a command's run.
-- Or a volume is to be large and huge.
abbrev pub Clashes : Invocation → Type 0
Clashes (asked.Run run) = HasTwoVolumes run ⊎ (IsMisgiven run ⊎ ((IsSome run.seed × IsSome run.random)
    ⊎ ((IsSome run.tests × IsForOneRun run) ⊎ (HasWrongSteps run ⊎ (IsSome run.invoke × IsForCommand run)))))
Clashes (asked.Format file sectors slots large huge new) = IsTrue large × IsTrue huge
Clashes _ = ⊥
