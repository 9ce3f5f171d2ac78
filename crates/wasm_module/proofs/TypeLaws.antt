-- The laws of types.
use Rattle.std.proofs.Common.{◌≡◌, ℕ, Bool, true, false, cond, eqb, leb, List, [], ◌∷◌, ◌++◌, Option, Some, None, refl, sym, ap, subst, ◌∙◌, append_assoc, inl, inr}
use Rattle.std.proofs.lemmas.Bool.{eqb-true, leb-true, le-leb}
use Rattle.wasm_syntax.specs.declared.profile.Profile.{Profile}
use Rattle.wasm_syntax.specs.declared.instruction.ValueType.{ValueType}
use Rattle.wasm_syntax.specs.declared.instruction.ValueType.TheVariants.{I32, I64, F32, F64}
use Rattle.wasm_syntax.specs.declared.instruction.BlockType.{BlockType}
use Rattle.wasm_syntax.specs.declared.instruction.BlockType.TheVariants.{Empty, Value}
use Rattle.wasm_syntax.specs.declared.module.FuncType.{FuncType}
use Rattle.wasm_syntax.specs.declared.module.Limits.{Limits}
use Rattle.wasm_syntax.specs.declared.module.GlobalType.{GlobalType}
use Rattle.wasm_syntax.specs.Grammar.{Then, U32}
use Rattle.wasm_syntax.specs.Types.{SpellsValueType, SpellsBlockType, SpellsFuncType, SpellsBounds, SpellsLimits, SpellsTable, SpellsMutability, SpellsGlobalType}
use Rattle.wasm_syntax.specs.internal.TypesReading.{value_type_of, value_type_at, block_type_at, func_type_at, bounds_after, limits_at, table_at, mutability_of, mutability_at, global_type_at}
use Rattle.wasm_syntax.specs.Reading.{◌>>=◌, byte_at, u32_at, then_at}
use Rattle.wasm_module.proofs.Laws.{bind_some, guard_some, chosen, some_is, picked, picked_with, ended, Front, Reads}
use Rattle.wasm_module.proofs.Combine.{reads_byte, reads_then, reads_as, reads_u32, reads_vector, operand_then, reread, tagged, untagged}

module _ (profile : Profile) where
  -- ---- value types

  -- a value type has its byte
  pub value_type_takes : (b : ℕ) (t : ValueType) → value_type_of profile b ≡ Some t → SpellsValueType profile (b ∷ []) t
  value_type_takes b t =
      picked (SpellsValueType profile (b ∷ [])) b 0x7F I32 t _ (λ is. ap (λ (c : ℕ). c ∷ []) is) (
      picked (SpellsValueType profile (b ∷ [])) b 0x7E I64 t _ (λ is. ap (λ (c : ℕ). c ∷ []) is) (
      picked_with (SpellsValueType profile (b ∷ [])) profile b 0x7D F32 t _ (λ is taken. (taken, ap (λ (c : ℕ). c ∷ []) is)) (
      picked_with (SpellsValueType profile (b ∷ [])) profile b 0x7C F64 t _ (λ is taken. (taken, ap (λ (c : ℕ). c ∷ []) is)) (
      ended))))

  -- value types
  pub reads_value_type : Reads ValueType (SpellsValueType profile) (value_type_at profile)
  unfolding value_type_at
  reads_value_type = record { takes = takes; again = again } where
    takes : (bytes : List ℕ) (t : ValueType) (rest : List ℕ) → value_type_at profile bytes ≡ Some (t, rest) → Front ValueType (SpellsValueType profile) bytes t rest
    takes [] t rest e = absurd cc
    takes (b ∷ bs) t rest e =
        let s = bind_some (value_type_of profile b) (λ t. Some (t, bs)) (t, rest) e in
        let p = some_is (s.0, bs) (t, rest) s.2 in
        subst (λ (q : ValueType × List ℕ). Front ValueType (SpellsValueType profile) (b ∷ bs) q.0 q.1) p (record { text = b ∷ []; spells = value_type_takes b s.0 s.1; parts = refl })

    again : (text : List ℕ) (t : ValueType) (rest : List ℕ) → SpellsValueType profile text t → value_type_at profile (text ++ rest) ≡ Some (t, rest)
    again text I32 rest h = rw h refl
    again text I64 rest h = rw h refl
    again text F32 rest h = rw (h.0, h.1) refl
    again text F64 rest h = rw (h.0, h.1) refl

  -- ---- block types

  -- block types
  pub reads_block_type : Reads BlockType (SpellsBlockType profile) (block_type_at profile)
  unfolding block_type_at
  reads_block_type = record { takes = takes; again = again } where
    takes : (bytes : List ℕ) (t : BlockType) (rest : List ℕ) → block_type_at profile bytes ≡ Some (t, rest) → Front BlockType (SpellsBlockType profile) bytes t rest
    takes [] t rest e = absurd cc
    takes (b ∷ bs) t rest e =
        elim (chosen (eqb b 0x40) (Some (Empty, bs)) (value_type_of profile b >>= λ t. Some (Value t, bs)) (Some (t, rest)) e) [
          | inl h ↦ subst (λ (q : BlockType × List ℕ). Front BlockType (SpellsBlockType profile) (b ∷ bs) q.0 q.1) (some_is (Empty, bs) (t, rest) h.1) (record { text = b ∷ []; spells = ap (λ (c : ℕ). c ∷ []) (eqb-true _ _ h.0); parts = refl })
          | inr h ↦
              let s = bind_some (value_type_of profile b) (λ t. Some (Value t, bs)) (t, rest) h.1 in
              subst (λ (q : BlockType × List ℕ). Front BlockType (SpellsBlockType profile) (b ∷ bs) q.0 q.1) (some_is (Value s.0, bs) (t, rest) s.2) (record { text = b ∷ []; spells = value_type_takes b s.0 s.1; parts = refl })
        ]

    again : (text : List ℕ) (t : BlockType) (rest : List ℕ) → SpellsBlockType profile text t → block_type_at profile (text ++ rest) ≡ Some (t, rest)
    again text Empty rest h = rw h refl
    again text (Value I32) rest h = rw h refl
    again text (Value I64) rest h = rw h refl
    again text (Value F32) rest h = rw (h.0, h.1) refl
    again text (Value F64) rest h = rw (h.0, h.1) refl

  -- ---- function types

  -- function types
  pub reads_func_type : Reads FuncType (SpellsFuncType profile) (func_type_at profile)
  unfolding func_type_at
  reads_func_type =
      let types = reads_vector reads_value_type in
      reads_as (reads_then (reads_byte 0x60) (reads_then types types)) (λ p. record { params = p.1.0; results = p.1.1 }) (λ t. (tt, (t.params, t.results))) (λ p. refl) (λ t. refl)

-- ---- limits

-- limits without an upper one
abbrev open_limits : ℕ → Limits
open_limits min = record { min = min; max = None }

-- limits with an upper one
abbrev closed_limits : ℕ × ℕ → Limits
closed_limits p = record { min = p.0; max = Some p.1 }

-- two numbers
reads_two : Reads (ℕ × ℕ) (Then U32 U32) (then_at u32_at u32_at)
reads_two = reads_then reads_u32 reads_u32

-- the numbers that follow the first byte
bounds_take : (b : ℕ) (rest : List ℕ) (x : Limits) (after : List ℕ) → bounds_after b rest ≡ Some (x, after) → Front Limits SpellsLimits (b ∷ rest) x after
unfolding bounds_after
bounds_take b rest x after =
    operand_then open_limits 0x00 _ reads_u32 (tagged U32 0x00) (
    operand_then closed_limits 0x01 _ reads_two (tagged (Then U32 U32) 0x01) (
    λ e. absurd cc))

-- limits that are read are spelled so
limits_take : (bytes : List ℕ) (x : Limits) (rest : List ℕ) → limits_at bytes ≡ Some (x, rest) → Front Limits SpellsLimits bytes x rest
unfolding limits_at
limits_take [] x rest e = absurd cc
limits_take (b ∷ bs) x rest e = bounds_take b bs x rest e

-- limits that are spelled so are read
bounds_again : (text : List ℕ) (min : ℕ) (max : Option ℕ) (rest : List ℕ) → SpellsBounds text min max → limits_at (text ++ rest) ≡ Some (record { min = min; max = max }, rest)
unfolding limits_at bounds_after
bounds_again text min None rest h = reread open_limits limits_at 0x00 min rest reads_u32 (λ s. refl) (untagged U32 0x00 text min h) h.3
bounds_again text min (Some max) rest h = reread closed_limits limits_at 0x01 (min, max) rest reads_two (λ s. refl) (untagged (Then U32 U32) 0x01 text (min, max) h) h.3

-- limits
pub reads_limits : Reads Limits SpellsLimits limits_at
reads_limits = record { takes = limits_take; again = λ text x rest h. bounds_again text x.min x.max rest h }

-- ---- tables

-- types of tables
pub reads_table : Reads Limits SpellsTable table_at
unfolding table_at
reads_table = record { takes = takes; again = again } where
  takes : (bytes : List ℕ) (x : Limits) (rest : List ℕ) → table_at bytes ≡ Some (x, rest) → Front Limits SpellsTable bytes x rest
  takes bytes x rest e =
      let s = bind_some (byte_at 0x70 bytes) (λ b. limits_at b.1 >>= λ l. cond (leb l.0.min 1000000) (Some l) None) (x, rest) e in
      let t = bind_some (limits_at s.0.1) (λ l. cond (leb l.0.min 1000000) (Some l) None) (x, rest) s.2 in
      let g = guard_some (leb t.0.0.min 1000000) t.0 (x, rest) t.2 in
      let fa = (reads_byte 0x70).takes bytes s.0.0 s.0.1 s.1 in
      let fb = reads_limits.takes s.0.1 t.0.0 t.0.1 t.1 in
      let made : Front Limits SpellsTable bytes t.0.0 t.0.1 = record {
        text = fa.text ++ fb.text;
        spells = ((fa.text, fb.text, fa.spells, fb.spells, refl), leb-true _ _ g.0);
        parts = fa.parts ∙ ap (λ (r : List ℕ). fa.text ++ r) fb.parts ∙ sym (append_assoc fa.text fb.text t.0.1);
      } in
      subst (λ (q : Limits × List ℕ). Front Limits SpellsTable bytes q.0 q.1) g.1 made

  again : (text : List ℕ) (x : Limits) (rest : List ℕ) → SpellsTable text x → table_at (text ++ rest) ≡ Some (x, rest)
  again text x rest h =
      let p = h.0 in
      let regrouped : text ++ rest ≡ p.0 ++ (p.1 ++ rest) = rw p.4 (append_assoc p.0 p.1 rest) in
      rw (regrouped, (reads_byte 0x70).again p.0 tt (p.1 ++ rest) p.2, reads_limits.again p.1 x rest p.3, le-leb _ _ h.1) refl

-- ---- global types

-- a mutability has its byte
mutability_takes : (b : ℕ) (m : Bool) → mutability_of b ≡ Some m → SpellsMutability (b ∷ []) m
mutability_takes b m e =
    elim (chosen (eqb b 0x00) (Some false) (cond (eqb b 0x01) (Some true) None) (Some m) e) [
      | inl h ↦ subst (SpellsMutability (b ∷ [])) (some_is false m h.1) (ap (λ (c : ℕ). c ∷ []) (eqb-true _ _ h.0))
      | inr h ↦ let g = guard_some (eqb b 0x01) true m h.1 in subst (SpellsMutability (b ∷ [])) g.1 (ap (λ (c : ℕ). c ∷ []) (eqb-true _ _ g.0))
    ]

-- mutability
reads_mutability : Reads Bool SpellsMutability mutability_at
unfolding mutability_at
reads_mutability = record { takes = takes; again = again } where
  takes : (bytes : List ℕ) (m : Bool) (rest : List ℕ) → mutability_at bytes ≡ Some (m, rest) → Front Bool SpellsMutability bytes m rest
  takes [] m rest e = absurd cc
  takes (b ∷ bs) m rest e =
      let s = bind_some (mutability_of b) (λ m. Some (m, bs)) (m, rest) e in
      subst (λ (q : Bool × List ℕ). Front Bool SpellsMutability (b ∷ bs) q.0 q.1) (some_is (s.0, bs) (m, rest) s.2) (record { text = b ∷ []; spells = mutability_takes b s.0 s.1; parts = refl })

  again : (text : List ℕ) (m : Bool) (rest : List ℕ) → SpellsMutability text m → mutability_at (text ++ rest) ≡ Some (m, rest)
  again text false rest h = rw h refl
  again text true rest h = rw h refl

module _ (profile : Profile) where
  -- types of globals
  pub reads_global_type : Reads GlobalType (SpellsGlobalType profile) (global_type_at profile)
  unfolding global_type_at
  reads_global_type = reads_as (reads_then (reads_value_type profile) reads_mutability) (λ p. record { value_type = p.0; mutable = p.1 }) (λ g. (g.value_type, g.mutable)) (λ p. refl) (λ g. refl)
