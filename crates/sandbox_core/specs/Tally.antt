-- How many calls some resumes answered, how many syncs with success among them, and how many calls with each errno. Each of these
-- counts goes up to the greatest number that it holds, and stays there.
use Rattle.std.specs.Prelude.{◌≡◌, ◌-◌, ◌<◌, ◌^◌, ℕ, length, min, replicate, slice_index}
use Rattle.std.specs.List.{count_by}
use Rattle.wasm_steps.specs.declared.pause.Pause.{Pause}
use Rattle.sandbox_core.specs.declared.tally.Tally.{Tally}
use Rattle.sandbox_core.specs.Session.{History, is_answered, is_called, is_synced}

-- that of no resume
abbrev pub no_tally : Tally
no_tally = record { calls = 0; syncs = 0; answers = replicate 77 0 }

-- The tally has the calls that were answered, the syncs that were answered with success, and the calls that were answered with
-- each errno, each up to the greatest count.
pub record Tallies {S : Type 0} (resumes : History S) (tally : Tally) : Type 0 where
  pub calls : tally.calls ≡ min (count_by (λ (r : Pause × S). is_called r.0) resumes) (2 ^ 64 - 1)
  pub syncs : tally.syncs ≡ min (count_by (λ (r : Pause × S). is_synced r.0) resumes) (2 ^ 64 - 1)
  pub errnos : length tally.answers ≡ 77
  pub answers : (k : ℕ) → k < 77
      → slice_index tally.answers k ≡ min (count_by (λ (r : Pause × S). is_answered k r.0) resumes) (2 ^ 64 - 1)
