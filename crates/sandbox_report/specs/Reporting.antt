-- The text of a report: lines of a key and a value, in a fixed order. `report_text` is the text of a `Summary`, and
-- `blame_of` decides between the guest and the machine.
use Rattle.std.specs.Prelude.{◌||◌, ℕ, Bool, true, false, not, [], ◌∷◌, ◌++◌, Option, Some, None, if◌then◌else◌, codes, decimal}
use Rattle.std.specs.List.{concat}
use Rattle.sandbox_report.specs.declared.summary.VolumeEnd.{VolumeEnd}
use Rattle.sandbox_report.specs.declared.summary.VolumeEnd.TheVariants as kept
use Rattle.sandbox_report.specs.declared.summary.CutStreams.{CutStreams}
use Rattle.sandbox_report.specs.declared.summary.Summary.{Summary}
use Rattle.sandbox_report.specs.Faults.{Text}
use Rattle.sandbox_report.specs.Ends.{end_code, end_offset, end_text, is_machines, label_of}

abbrev pub kept_text : VolumeEnd → Text
kept_text kept.None = codes "none"
kept_text kept.Kept = codes "kept"
kept_text kept.Failed = codes "failed"

abbrev pub keeping_failed : VolumeEnd → Bool
keeping_failed kept.None = false
keeping_failed kept.Kept = false
keeping_failed kept.Failed = true

-- which streams were refused more than they take
abbrev pub cut_text : CutStreams → Text
cut_text c = if c.output then (if c.errors then codes "both" else codes "output") else (if c.errors then codes "errors" else codes "none")

-- The machine is to blame where a file, a device or memory before the guest ran failed, where a read or a write of a stream
-- failed, or an output couldn't be flushed; else the guest has brought the end about.
abbrev pub blame_of : Summary → Text
blame_of s = if is_machines s.end || (keeping_failed s.volume || (not s.flushed || s.broken)) then codes "machine" else codes "guest"

-- a number, or nothing
abbrev pub number_text : Option ℕ → Text
number_text None = []
number_text (Some n) = decimal n

abbrev pub ending_text : Summary → Text
ending_text s = concat (codes "end:" ∷ label_of s.end ∷ codes "\ncode:" ∷ number_text (end_code s.end) ∷ codes "\ntext:" ∷ end_text s.end
    ∷ codes "\noffset:" ∷ number_text (end_offset s.end) ∷ codes "\nstatus:" ∷ decimal s.status ∷ codes "\n" ∷ [])

abbrev pub use_text : Summary → Text
use_text s = concat (codes "units:" ∷ decimal s.units ∷ codes "\nfuel:" ∷ decimal s.fuel ∷ codes "\npages:" ∷ decimal s.pages ∷ codes "\nread:" ∷ decimal s.read
    ∷ codes "\nwritten:" ∷ decimal s.written ∷ codes "\ncomplained:" ∷ decimal s.complained ∷ codes "\ncalls:" ∷ decimal s.calls
    ∷ codes "\nsyncs:" ∷ decimal s.syncs ∷ codes "\n" ∷ [])

abbrev pub last_text : Summary → Text
last_text s = concat (codes "volume:" ∷ kept_text s.volume ∷ codes "\nblame:" ∷ blame_of s ∷ codes "\ncut:" ∷ cut_text s.cut ∷ codes "\n" ∷ [])

-- how the run ended, what it used, and what became of it
abbrev pub report_text : Summary → Text
report_text s = ending_text s ++ (use_text s ++ last_text s)
