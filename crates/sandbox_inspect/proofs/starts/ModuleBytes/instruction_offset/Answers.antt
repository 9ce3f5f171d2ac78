use Rattle.std.proofs.Common.{◌≡◌, ℕ, ◌≤◌, List, ◌++◌, length, None, Some, ap, ◌∙◌, refl, arith, length-append}
use Rattle.wasm_syntax.specs.declared.profile.Profile.{Profile}
use Rattle.wasm_syntax.specs.declared.module.Body.{Body}
use Rattle.wasm_valid.specs.Offsets.{StandsBehind}
use Rattle.wasm_module.proofs.Laws.{some_is}
use Rattle.sandbox_inspect.specs.Places.{own_entry}
use Rattle.sandbox_inspect.proofs.Entries.{own_ends}
use Rattle.sandbox_inspect.proofs.starts.ModuleBytes.instruction_offset.Goals as goal

-- what stands before an instruction is no longer than the body
within : (p : Profile) (b : Body) (index : ℕ) (before : List ℕ) → StandsBehind p b index before → length before ≤ length b.bytes
within p b index before s = omega (arith, ap length s.bytes, length-append before s.after)

-- the start of an entry that is there is found
is_found : (n : ℕ) → None ≡ Some n → ◌≡◌ {A = ℕ} 0 1
is_found n e = cc

pub returns-in-Some-clause-found : goal.returns-in-Some-clause-found
returns-in-Some-clause-found c = λ behind e. (c.in-Some.place, refl, c.in-Some.ensures.found c.in-Some.place behind refl e)

pub returns-in_err-start-clause-found : goal.returns-in_err-start-clause-found
returns-in_err-start-clause-found c = λ behind e. absurd (omega (arith, is_found _ (c.in_err-start.ensures.found c.args.body.now.bytes behind (ap (λ (x : List ℕ). own_entry x c.args.own) c.look_up.ensures ∙ e))))

pub returns-clause-found : goal.returns-clause-found
returns-clause-found c = λ behind e.
    let ends = own_ends c.args.self.now c.args.own c.args.body.now.bytes behind e in (
      c.saturating_add.result,
      refl,
      record {
        front = ends.0;
        behind = behind;
        entry = e;
        parts = ends.1;
        offset_is = λ p before s. omega (arith, c.start.ensures.fits, c.saturating_add.ensures, some_is _ _ (c.in_ok-start.ensures.found c.args.body.now.bytes behind (ap (λ (x : List ℕ). own_entry x c.args.own) c.look_up.ensures ∙ e)), ap length c.look_up.ensures, c.instruction_place.ensures p before s, within p c.args.body.now c.args.index before s, ap length ends.1, length-append ends.0 (c.args.body.now.bytes ++ behind), length-append c.args.body.now.bytes behind);
      },
    )
