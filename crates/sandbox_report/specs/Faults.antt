-- The faults of the program, of runs, of tasks on volumes and of sessions: their numbers and offsets (`docs/USING.md`,
-- "Faults"), and their words, which are those of the register (`meanings`); and in `rule_text` what is wrong where a rule of the
-- volume's format is broken. Out of memory has no number and no words here, since a report says it as an end of its own; the
-- library answers 40 for it.
use Rattle.std.specs.Prelude.{ℕ, List, [], Option, Some, None, unwrap_or, codes}
use Rattle.meanings.specs.Tables.{fault_text as meaning_of_fault}
use Rattle.meanings.specs.Status.{status_of_fault}
use Rattle.vol_sector.specs.declared.fault.VolumeFault.{VolumeFault}
use Rattle.vol_sector.specs.declared.fault.VolumeFault.TheVariants as volume
use Rattle.vol_sector.specs.declared.fault.Rule.{Rule}
use Rattle.vol_sector.specs.declared.fault.Rule.TheVariants as rules
use Rattle.wasm_syntax.specs.declared.fault.LoadFault.{LoadFault}
use Rattle.wasm_syntax.specs.declared.fault.LoadFault.TheVariants as load
use Rattle.wasm_store.specs.declared.fault.InstanceFault.{InstanceFault}
use Rattle.wasm_store.specs.declared.fault.InstanceFault.TheVariants as instance
use Rattle.sandbox_report.specs.declared.fault.Fault.{Fault}
use Rattle.sandbox_report.specs.declared.fault.Fault.TheVariants.{Module, Volume, Instance, Setting, Preopen, File, Memory}

abbrev pub Text : Type 0
Text = List ℕ

-- what the register says of the number of a fault, if it has one
abbrev pub number_meaning : Option ℕ → Text
number_meaning None = []
number_meaning (Some n) = meaning_of_fault n

-- a fault of a module
abbrev pub load_number : LoadFault → Option ℕ
load_number (load.Truncated at) = Some 1
load_number (load.BadMagic at) = Some 2
load_number (load.BadVersion at) = Some 3
load_number (load.BadInteger at) = Some 4
load_number (load.SectionOrder at) = Some 5
load_number (load.SectionSize at) = Some 6
load_number (load.BadByte at) = Some 7
load_number (load.NotUtf8 at) = Some 8
load_number (load.CountMismatch at) = Some 9
load_number (load.Float at) = Some 10
load_number (load.Limit at) = Some 11
load_number (load.Invalid f at) = Some 12
load_number load.Memory = None

-- where in the module's bytes it is
abbrev pub load_offset : LoadFault → Option ℕ
load_offset (load.Truncated at) = Some at
load_offset (load.BadMagic at) = Some at
load_offset (load.BadVersion at) = Some at
load_offset (load.BadInteger at) = Some at
load_offset (load.SectionOrder at) = Some at
load_offset (load.SectionSize at) = Some at
load_offset (load.BadByte at) = Some at
load_offset (load.NotUtf8 at) = Some at
load_offset (load.CountMismatch at) = Some at
load_offset (load.Float at) = Some at
load_offset (load.Limit at) = Some at
load_offset (load.Invalid f at) = Some at
load_offset load.Memory = None

-- a fault of a volume
abbrev pub volume_number : VolumeFault → Option ℕ
volume_number volume.NotAVolume = Some 30
volume_number volume.Version = Some 31
volume_number (volume.Damaged damage) = Some 32
volume_number volume.Device = Some 33
volume_number volume.TooSmall = Some 34
volume_number volume.Upgraded = Some 35
volume_number volume.Geometry = Some 36
volume_number volume.Memory = None

-- what is wrong where a rule of a volume's format is broken
abbrev pub rule_text : Rule → Text
rule_text rules.Superblock = codes "a number of the superblock is out of its range, or its rest is not zeros"
rule_text rules.DeviceSize = codes "the superblock names more sectors than the file has"
rule_text rules.LogHeader = codes "the log's header has a wrong count or number, or its rest is not zeros"
rule_text rules.Kind = codes "the kind of an entry is not 3 or 4, or an unused slot is not zeros"
rule_text rules.Root = codes "the root is not a directory without a name"
rule_text rules.Name = codes "a name is not 1 to 255 bytes of UTF-8, has / or NUL, or is . or .."
rule_text rules.Zeros = codes "a byte between the fields of an entry is not zero"
rule_text rules.Size = codes "a directory has a size, or a file is larger than the version allows"
rule_text rules.PointerPastSize = codes "a pointer at or past the size is not 0"
rule_text rules.RootSerial = codes "serial 1 has a parent, or another entry has none"
rule_text rules.NameTwice = codes "two entries agree in parent and name"
rule_text rules.Pointer = codes "a pointer is not the number of a data sector"
rule_text rules.SectorTwice = codes "a data sector is named twice"
rule_text rules.LastBlock = codes "a byte of the last block past the size is not zero"
rule_text rules.Space = codes "the needs of the files add up to more than the data sectors"
rule_text rules.Parent = codes "the parent of an entry is not a directory"
rule_text rules.Ancestors = codes "parents do not lead to the root"

-- a fault of instantiating
abbrev pub instance_number : InstanceFault → Option ℕ
instance_number instance.Import = Some 13
instance_number instance.NoStart = Some 14
instance_number instance.DataOutOfBounds = Some 20
instance_number instance.ElementOutOfBounds = Some 21
instance_number instance.PageLimit = Some 22
instance_number instance.Memory = None

abbrev pub fault_number : Fault → Option ℕ
fault_number (Module f) = load_number f
fault_number (Volume f) = volume_number f
fault_number (Instance f) = instance_number f
fault_number Setting = Some 15
fault_number Preopen = Some 16
fault_number File = Some 41
fault_number Memory = None

abbrev pub fault_offset : Fault → Option ℕ
fault_offset (Module f) = load_offset f
fault_offset (Volume f) = None
fault_offset (Instance f) = None
fault_offset Setting = None
fault_offset Preopen = None
fault_offset File = None
fault_offset Memory = None

-- as the library answers it: 40 where it is out of memory
abbrev pub fault_answer : Fault → ℕ
fault_answer f = unwrap_or (fault_number f) 40

-- what a command ends with that it refuses
abbrev pub fault_status : Fault → ℕ
fault_status f = status_of_fault (fault_answer f)

-- in words, as the register has it for its number
abbrev pub fault_text : Fault → Text
fault_text f = number_meaning (fault_number f)

abbrev pub load_text : LoadFault → Text
load_text f = fault_text (Module f)
