use Rattle.std.proofs.Common.{◌≡◌, ℕ, ◌+◌, ◌<◌, ◌≤◌, List, [], ◌∷◌, length, drop, reverse, refl, sym, ap, subst, arith, length-drop}
use Rattle.std.specs.Global.{Vec}
use Rattle.std.specs.Prelude.{max, vec_len, vec_capacity}
use Rattle.std.proofs.lemmas.List.{length-reverse}
use Rattle.std.proofs.lemmas.Grind.{common_steps}
use Rattle.wasm_syntax.specs.declared.instruction.Instruction.{Instruction}
use Rattle.wasm_num.specs.declared.trap.Trap.{Trap}
use Rattle.wasm_num.specs.declared.trap.Trap.TheVariants as traps
use Rattle.wasm_valid.specs.Arities.{float_takes}
use Rattle.wasm_operands.specs.internal.Plain.Performing.{IsReady, Performs, Traps}
use Rattle.wasm_operands.proofs.PlainSteps.FloatOperands.{are_there, some_taken}
use Rattle.wasm_operands.proofs.work.work.Goals as goal

-- what is said of the instruction that it is
is_ready : {i k : Instruction} (vs : List ℕ) → i ≡ k → IsReady i vs → IsReady k vs
is_ready vs is ready = subst (λ (y : Instruction). IsReady y vs) is ready

-- the values that are left
taken_off : (vs ws : List ℕ) (n : ℕ) → ws ≡ drop n vs → length ws ≤ length vs
taken_off vs ws n is = omega (arith, ap length is, length-drop n vs)

put_for : (vs ws : List ℕ) (x n : ℕ) → 0 < n → n ≤ length vs → ws ≡ x ∷ drop n vs → length ws ≤ length vs
put_for vs ws x n some there is = omega (arith, some, there, ap length is, length-drop n vs)

dropped_top : (vs ws : List ℕ) → 0 < length vs → ws ≡ drop 1 vs → (v : ℕ) × (vs ≡ v ∷ ws)
dropped_top [] ws some is = absurd (omega (arith, some))
dropped_top (v ∷ vs) ws some is = (v, ap (λ (y : List ℕ). v ∷ y) (sym is))

-- there is as much room as before, for no more values
spare_still : (old new : Vec ℕ) → length (reverse new.items) ≤ length (reverse old.items) → vec_len old < vec_capacity old → vec_capacity new ≡ vec_capacity old → vec_len new < vec_capacity new
spare_still old new few spare same = omega (arith, few, spare, same, old.ok.0, new.ok.0, length-reverse old.items, length-reverse new.items)

same_few : (old new : List ℕ) → new ≡ old → length (reverse new) ≤ length (reverse old)
same_few old new is = omega (arith, ap (λ (y : List ℕ). length (reverse y)) is)

-- what is ensured where an instruction is performed, and where it traps
abbrev Done : ℕ → ℕ → Instruction → Vec ℕ → List ℕ → Vec ℕ → List ℕ → Type 0
Done most limit i old memory new memory' = record {
  performed : Performs limit i (reverse old.items) memory (reverse new.items) memory';
  halted : Unit {0};
  same : Unit {0};
  spare : vec_len new < vec_capacity new;
  room : vec_capacity old ≤ vec_capacity new;
  bound : vec_capacity new ≤ max (vec_capacity old) (most + 1);
}

abbrev Trapped : ℕ → Trap → Instruction → Vec ℕ → List ℕ → Vec ℕ → List ℕ → Type 0
Trapped most e i old memory new memory' = record {
  performed : Unit {0};
  halted : Traps e i (reverse old.items) memory;
  same : (new.items ≡ old.items) × (memory' ≡ memory);
  spare : vec_len new < vec_capacity new;
  room : vec_capacity old ≤ vec_capacity new;
  bound : vec_capacity new ≤ max (vec_capacity old) (most + 1);
}

-- it left no more values
done : {k i : Instruction} (most limit : ℕ) (old new : Vec ℕ) (memory memory' : List ℕ) → vec_len old < vec_capacity old → i ≡ k → Performs limit k (reverse old.items) memory (reverse new.items) memory'
    → length (reverse new.items) ≤ length (reverse old.items) → vec_capacity new ≡ vec_capacity old → Done most limit i old memory new memory'
done most limit old new memory memory' spare is performed few room = record {
  performed = subst (λ (y : Instruction). Performs limit y (reverse old.items) memory (reverse new.items) memory') (sym is) performed;
  halted = tt;
  same = tt;
  spare = spare_still old new few spare room;
  room = omega (arith, room);
  bound = omega (arith, room);
}

-- it put one value in the place of the topmost n
put : {k i : Instruction} (most limit : ℕ) (old new : Vec ℕ) (memory : List ℕ) (x n : ℕ) → vec_len old < vec_capacity old → i ≡ k → IsReady i (reverse old.items) → 0 < n → (IsReady k (reverse old.items) → n ≤ length (reverse old.items))
    → Performs limit k (reverse old.items) memory (reverse new.items) memory → reverse new.items ≡ x ∷ drop n (reverse old.items) → vec_capacity new ≡ vec_capacity old → Done most limit i old memory new memory
put most limit old new memory x n spare is ready some there performed items room =
    done most limit old new memory memory spare is performed (put_for (reverse old.items) (reverse new.items) x n some (there (is_ready (reverse old.items) is ready)) items) room

-- it trapped, and left all as it was
trapped : {k i : Instruction} (most : ℕ) (e : Trap) (old new : Vec ℕ) (memory memory' : List ℕ) → vec_len old < vec_capacity old → i ≡ k → Traps e k (reverse old.items) memory → new.items ≡ old.items → memory' ≡ memory → vec_capacity new ≡ vec_capacity old → Trapped most e i old memory new memory'
trapped most e old new memory memory' spare is misses items same room = record {
  performed = tt;
  halted = subst (λ (y : Instruction). Traps e y (reverse old.items) memory) (sym is) misses;
  same = (items, same);
  spare = spare_still old new (same_few _ _ items) spare room;
  room = omega (arith, room);
  bound = omega (arith, room);
}

pub returns-in-Unreachable : goal.returns-in-Unreachable
returns-in-Unreachable c = trapped c.args.most traps.Unreachable c.args.values.now c.args.values.now c.args.memory.now c.args.memory.now c.requires.spare c.in-Unreachable.is refl refl refl refl

pub select_top-requires : goal.select_top-requires
select_top-requires c = is_ready (reverse c.args.values.now.items) c.in-Select.is c.requires.ready

pub load_top-requires : goal.load_top-requires
load_top-requires c = is_ready (reverse c.args.values.now.items) c.in-Load.is c.requires.ready

pub store_top-requires : goal.store_top-requires
store_top-requires c = is_ready (reverse c.args.values.now.items) c.in-Store.is c.requires.ready

pub grow_top-requires : goal.grow_top-requires
grow_top-requires c = is_ready (reverse c.args.values.now.items) c.in-MemoryGrow.is c.requires.ready

pub copy_top-requires : goal.copy_top-requires
copy_top-requires c = is_ready (reverse c.args.values.now.items) c.in-MemoryCopy.is c.requires.ready

pub fill_top-requires : goal.fill_top-requires
fill_top-requires c = is_ready (reverse c.args.values.now.items) c.in-MemoryFill.is c.requires.ready

pub compare_top-requires : goal.compare_top-requires
compare_top-requires c = is_ready (reverse c.args.values.now.items) c.in-Compare.is c.requires.ready

pub binary_top-requires : goal.binary_top-requires
binary_top-requires c = is_ready (reverse c.args.values.now.items) c.in-Binary.is c.requires.ready

pub extend_top-requires : goal.extend_top-requires
extend_top-requires c = is_ready (reverse c.args.values.now.items) c.in-I64ExtendI32S.is c.requires.ready

pub returns-in-Drop : goal.returns-in-Drop
returns-in-Drop c =
    let vs = reverse c.args.values.now.items in
    let ws = reverse c.remove.new.values.items in
    let dropped = dropped_top vs ws (is_ready vs c.in-Drop.is c.requires.ready) c.remove.ensures.removed in
    done c.args.most c.args.limit c.args.values.now c.remove.new.values c.args.memory.now c.args.memory.now c.requires.spare c.in-Drop.is (dropped, refl) (taken_off vs ws 1 c.remove.ensures.removed) c.remove.ensures.room

pub returns-in-Select : goal.returns-in-Select
returns-in-Select c = put c.args.most c.args.limit c.args.values.now c.select_top.new.values c.args.memory.now _ 3 c.requires.spare c.in-Select.is c.requires.ready (omega arith) (λ r. r) (c.select_top.ensures.selected, refl) c.select_top.ensures.selected c.select_top.ensures.room

pub returns-in-Eqz : goal.returns-in-Eqz
returns-in-Eqz c = put c.args.most c.args.limit c.args.values.now c.test_top.new.values c.args.memory.now _ 1 c.requires.spare c.in-Eqz.is c.requires.ready (omega arith) (λ r. r.0) (c.test_top.ensures.tested, refl) c.test_top.ensures.tested.0 c.test_top.ensures.room

pub returns-in-Compare : goal.returns-in-Compare
returns-in-Compare c = put c.args.most c.args.limit c.args.values.now c.compare_top.new.values c.args.memory.now _ 2 c.requires.spare c.in-Compare.is c.requires.ready (omega arith) (λ r. r.0) (c.compare_top.ensures.compared, refl) c.compare_top.ensures.compared.0 c.compare_top.ensures.room

pub returns-in-Unary : goal.returns-in-Unary
returns-in-Unary c = put c.args.most c.args.limit c.args.values.now c.unary_top.new.values c.args.memory.now _ 1 c.requires.spare c.in-Unary.is c.requires.ready (omega arith) (λ r. r.1.0) (c.unary_top.ensures.given, refl) c.unary_top.ensures.given.0 c.unary_top.ensures.room

pub returns-in-I32WrapI64 : goal.returns-in-I32WrapI64
returns-in-I32WrapI64 c = put c.args.most c.args.limit c.args.values.now c.wrap_top.new.values c.args.memory.now _ 1 c.requires.spare c.in-I32WrapI64.is c.requires.ready (omega arith) (λ r. r.0) (c.wrap_top.ensures.given, refl) c.wrap_top.ensures.given.0 c.wrap_top.ensures.room

pub returns-in-I64ExtendI32S : goal.returns-in-I64ExtendI32S
returns-in-I64ExtendI32S c = put c.args.most c.args.limit c.args.values.now c.extend_top.new.values c.args.memory.now _ 1 c.requires.spare c.in-I64ExtendI32S.is c.requires.ready (omega arith) (λ r. r.0) (c.extend_top.ensures.given, refl) c.extend_top.ensures.given.0 c.extend_top.ensures.room

pub returns-in_default-binary_top : goal.returns-in_default-binary_top
returns-in_default-binary_top c = put c.args.most c.args.limit c.args.values.now c.binary_top.new.values c.args.memory.now _ 2 c.requires.spare c.in-Binary.is c.requires.ready (omega arith) (λ r. r.0) (c.in_default-binary_top.ensures.given, refl) c.in_default-binary_top.ensures.given.2.0 c.binary_top.ensures.room

pub returns-else-not-load_top : goal.returns-else-not-load_top
returns-else-not-load_top c =
    let done = put c.args.most c.args.limit c.args.values.now c.load_top.new.values c.args.memory.now _ 1 c.requires.spare c.in-Load.is c.requires.ready (omega arith) (λ r. r.0) (c.if-not-load_top.ensures.inside, refl) c.if-not-load_top.ensures.inside.2 c.load_top.ensures.room in
    subst (λ (m : List ℕ). Done c.args.most c.args.limit c.args.instruction.now c.args.values.now c.args.memory.now c.load_top.new.values m) (sym c.load_top.ensures.same) done

pub returns-else-not-copy_top : goal.returns-else-not-copy_top
returns-else-not-copy_top c = done c.args.most c.args.limit c.args.values.now c.copy_top.new.values c.args.memory.now c.copy_top.new.memory c.requires.spare c.in-MemoryCopy.is c.if-not-copy_top.ensures.inside (taken_off _ _ 3 c.if-not-copy_top.ensures.inside.3) c.copy_top.ensures.room

pub returns-else-not-fill_top : goal.returns-else-not-fill_top
returns-else-not-fill_top c = done c.args.most c.args.limit c.args.values.now c.fill_top.new.values c.args.memory.now c.fill_top.new.memory c.requires.spare c.in-MemoryFill.is c.if-not-fill_top.ensures.inside (taken_off _ _ 3 c.if-not-fill_top.ensures.inside.2) c.fill_top.ensures.room

pub returns-else-not-store_top : goal.returns-else-not-store_top
returns-else-not-store_top c = done c.args.most c.args.limit c.args.values.now c.store_top.new.values c.args.memory.now c.store_top.new.memory c.requires.spare c.in-Store.is c.if-not-store_top.ensures.inside (taken_off _ _ 2 c.if-not-store_top.ensures.inside.1) c.store_top.ensures.room

pub returns-then-not-copy_top : goal.returns-then-not-copy_top
returns-then-not-copy_top c = trapped c.args.most traps.OutOfBoundsMemory c.args.values.now c.copy_top.new.values c.args.memory.now c.copy_top.new.memory c.requires.spare c.in-MemoryCopy.is (refl, c.if-not-copy_top.ensures.outside.0) c.if-not-copy_top.ensures.outside.2 c.if-not-copy_top.ensures.outside.1 c.copy_top.ensures.room

pub returns-then-not-fill_top : goal.returns-then-not-fill_top
returns-then-not-fill_top c = trapped c.args.most traps.OutOfBoundsMemory c.args.values.now c.fill_top.new.values c.args.memory.now c.fill_top.new.memory c.requires.spare c.in-MemoryFill.is (refl, c.if-not-fill_top.ensures.outside.0) c.if-not-fill_top.ensures.outside.2 c.if-not-fill_top.ensures.outside.1 c.fill_top.ensures.room

pub returns-then-not-store_top : goal.returns-then-not-store_top
returns-then-not-store_top c = trapped c.args.most traps.OutOfBoundsMemory c.args.values.now c.store_top.new.values c.args.memory.now c.store_top.new.memory c.requires.spare c.in-Store.is (refl, c.if-not-store_top.ensures.outside.0) c.if-not-store_top.ensures.outside.2 c.if-not-store_top.ensures.outside.1 c.store_top.ensures.room

pub returns-then-not-load_top : goal.returns-then-not-load_top
returns-then-not-load_top c = trapped c.args.most traps.OutOfBoundsMemory c.args.values.now c.load_top.new.values c.args.memory.now c.load_top.new.memory c.requires.spare c.in-Load.is (refl, c.if-not-load_top.ensures.outside.0) c.if-not-load_top.ensures.outside.1 c.load_top.ensures.same c.load_top.ensures.room

pub returns-in-Err : goal.returns-in-Err
returns-in-Err c = trapped c.args.most c.in-Err.trap c.args.values.now c.binary_top.new.values c.args.memory.now c.args.memory.now c.requires.spare c.in-Binary.is c.in-Err.ensures.traps.0 c.in-Err.ensures.traps.1 refl c.binary_top.ensures.room

pub float_top-requires : goal.float_top-requires
float_top-requires c = is_ready (reverse c.args.values.now.items) c.in-Float.is c.requires.ready

pub returns-in_default-float_top : goal.returns-in_default-float_top
returns-in_default-float_top c =
    let o = c.in-Float.operator in
    put c.args.most c.args.limit c.args.values.now c.float_top.new.values c.args.memory.now _ (length (float_takes o)) c.requires.spare c.in-Float.is c.requires.ready (some_taken o)
    (λ r. are_there (float_takes o) (reverse c.args.values.now.items) r) (c.in_default-float_top.ensures.given, refl) c.in_default-float_top.ensures.given.2.0 c.float_top.ensures.room

pub returns-in-Err-float_top : goal.returns-in-Err-float_top
returns-in-Err-float_top c = trapped c.args.most c.in-Err-float_top.trap c.args.values.now c.float_top.new.values c.args.memory.now c.args.memory.now c.requires.spare c.in-Float.is c.in-Err-float_top.ensures.traps.0 c.in-Err-float_top.ensures.traps.1 refl c.float_top.ensures.room

pub remove-requires : goal.remove-requires
remove-requires c = grind (arith, common_steps)

pub returns-in-MemoryGrow-clause-spare : goal.returns-in-MemoryGrow-clause-spare
returns-in-MemoryGrow-clause-spare c = grind (arith, common_steps)
