-- The machine's links are parts of the module's: what it leaves to the embedder is the embedder's, or a read that waits.
use Rattle.std.proofs.Common.{◌≡◌, ℕ, Bool, true, false, true≢false, List, [], ◌∷◌, Option, Some, None, refl, sym, ap, subst, ◌∙◌, if◌then◌else◌, slice_get, not, ◌+◌, ◌<◌, ◌≤◌, length, inl, inr, arith}
use Rattle.std.specs.Bool.{OnFalse, OnTrue}
use Rattle.std.proofs.Math.Nat.{eq-or-lt_of_le}
use Rattle.std.proofs.lemmas.Option.{slice_get_within}
use Rattle.wasm_syntax.specs.declared.instruction.ValueType.{ValueType}
use Rattle.wasm_syntax.specs.declared.instruction.ValueType.TheVariants.{I32, I64, F32, F64}
use Rattle.wasm_syntax.specs.declared.module.FuncType.{FuncType}
use Rattle.wasm_syntax.specs.declared.module.Import.{Import}
use Rattle.wasm_syntax.specs.declared.module.ImportKind.{ImportKind}
use Rattle.wasm_syntax.specs.declared.module.ImportKind.TheVariants as imports
use Rattle.wasm_syntax.specs.declared.module.Module.{Module}
use Rattle.wasm_store.specs.declared.call.HostCall.{HostCall}
use Rattle.wasm_store.specs.declared.call.HostCall.TheVariants as call
use Rattle.wasm_store.specs.declared.linked.Linked.{Linked}
use Rattle.wasm_store.specs.declared.linked.Linked.TheVariants.{Host, Embedder}
use Rattle.wasm_store.specs.Allocation.{may_embed, with_embedder}
use Rattle.wasm_operands.proofs.PlainSteps.Moving.{some_same}
use Rattle.wasm_places.specs.FunctionTypes.{IsImportType}
use Rattle.wasi_calls.specs.host.Links.{link}
use Rattle.plugin_session.specs.States.{links}
use Rattle.deferred_calls.specs.Machines.{AreParts, whole_link}
use Rattle.fed_session.specs.Waiting.{AreAnswered, IsUnanswered, answered_at_once, deferred_at, gives_i32, links_at_once, parts_at, reserved_at, waiting, waits_at, waits_by_import, waits_by_kind, waits_by_type}

-- the host's, or the embedder's where it may be
linked : Bool → ℕ → Option HostCall → Option Linked
linked may n None = if may then Some (Embedder n) else None
linked may n (Some c) = Some (Host c)

is_with : (o : Option HostCall) (may : Bool) (n : ℕ) → elim o [ None ↦ if may then Some (Embedder n) else None | Some c ↦ Some (Host c) ] ≡ linked may n o
unfolding linked
is_with None may n = refl
is_with (Some c) may n = refl

is_some : Option Linked → Bool
is_some None = false
is_some (Some l) = true

link_in : Linked → Option Linked → Linked
link_in l None = l
link_in l (Some k) = k

-- one that is the embedder's by both
embedders : (may may' : Bool) (n : ℕ) (l : Linked) → (may ≡ true → may' ≡ true) → (if may then Some (Embedder n) else None) ≡ Some l → (if may' then Some (Embedder n) else None) ≡ Some (whole_link None l)
unfolding is_some link_in
embedders false may' n l safe e = absurd (true≢false (sym (ap is_some e)))
embedders true may' n l safe e =
    subst (λ (z : Bool). (if z then Some (Embedder n) else None) ≡ Some (whole_link None l)) (sym (safe refl)) (subst (λ (z : Linked). Some (Embedder n) ≡ Some (whole_link None z)) (ap (link_in l) e) refl)

-- one that waits
waits_so : (may : Bool) (n : ℕ) (l : Linked) (c : HostCall) → (if may then Some (Embedder n) else None) ≡ Some l → Some (Host c) ≡ Some (whole_link (Some c) l)
unfolding is_some link_in
waits_so false n l c e = absurd (true≢false (sym (ap is_some e)))
waits_so true n l c e = subst (λ (z : Linked). Some (Host c) ≡ Some (whole_link (Some c) z)) (ap (link_in l) e) refl

hosts : (n : ℕ) (o : Option HostCall) (l : Linked) (c : HostCall) → Some (Host c) ≡ Some l → Some (Host c) ≡ Some (whole_link o l)
unfolding link_in
hosts n o l c e = subst (λ (z : Linked). Some (Host c) ≡ Some (whole_link o z)) (ap (link_in l) e) refl

-- by the host's answer
whole_linked : (waits : Bool) (o : Option HostCall) (may may' : Bool) (n : ℕ) (l : Linked) → (o ≡ None → may ≡ true → may' ≡ true) → linked may n (answered_at_once waits o) ≡ Some l → linked may' n o ≡ Some (whole_link (waiting waits o) l)
unfolding linked
whole_linked true None may may' n l safe e = embedders may may' n l (safe refl) e
whole_linked false None may may' n l safe e = embedders may may' n l (safe refl) e
whole_linked true (Some call.FdRead) may may' n l safe e = waits_so may n l call.FdRead e
whole_linked false (Some c) may may' n l safe e = hosts n None l c e
whole_linked true (Some c) may may' n l safe e = hosts n None l c e

-- the embedder's functions have the numbers of their imports
number_in : ℕ → Option Linked → ℕ
number_in n None = n
number_in n (Some (Host c)) = n
number_in n (Some (Embedder k)) = k

is_host : Option Linked → Bool
is_host (Some (Host c)) = true
is_host o = false

numbered : (may : Bool) (n number : ℕ) (o : Option HostCall) → linked may n o ≡ Some (Embedder number) → number ≡ n
unfolding linked number_in is_host
numbered true n number None e = sym (ap (number_in n) e)
numbered false n number None e = sym (ap (number_in n) e)
numbered may n number (Some c) e = absurd (true≢false (ap is_host e))

-- ---- imports

pub deferred_is : (goes_on : Bool) (m : Module) (n : ℕ) (f : FuncType) (t : IsImportType m n f) → deferred_at goes_on m n ≡ waiting (waits_at goes_on f) (link t.import.module_name t.import.name f)
deferred_is goes_on m n f t = ap (waits_by_import goes_on m) t.is_import ∙ ap (waits_by_kind goes_on m t.import) t.kind ∙ ap (waits_by_type goes_on t.import) t.type_is

-- what is answered, and not by the host, is the embedder's
embeds : (may : Bool) (n : ℕ) → ((if may then Some (Embedder n) else None) ≡ None → ⊥) → may ≡ true
embeds true n some = refl
embeds false n some = absurd (some refl)

none_linked : (may : Bool) (n : ℕ) → (if may then Some (Embedder n) else None) ≡ None → linked may n None ≡ None
unfolding linked
none_linked may n e = e

pub are_parts : (goes_on : Bool) (m : Module) → AreAnswered m → AreParts (deferred_at goes_on) m links (parts_at goes_on)
are_parts goes_on m all = record {
  whole = λ n f t l e.
      let i = t.import in
      let o = link i.module_name i.name f in
      let may = may_embed (reserved_at goes_on) i.module_name f in
      let may' = may_embed (reserved_at false) i.module_name f in
      let safe : o ≡ None → may ≡ true → may' ≡ true = λ none may_is. embeds may' n (λ is_none. all n (record { func_type = f; is_type = t; none = is_with o may' n ∙ ap (linked may' n) none ∙ none_linked may' n is_none })) in
      is_with o may' n ∙ (whole_linked (waits_at goes_on f) o may may' n l safe (sym (is_with (answered_at_once (waits_at goes_on f) o) may n) ∙ e) ∙ ap (λ (z : Option HostCall). Some (whole_link z l)) (sym (deferred_is goes_on m n f t)));
  numbered = λ n f t number e.
      let i = t.import in
      let o = answered_at_once (waits_at goes_on f) (link i.module_name i.name f) in
      let may = may_embed (reserved_at goes_on) i.module_name f in
      numbered may n number o (sym (is_with o may n) ∙ e);
}

-- where nothing goes on, they are all of them
hosts_or_embedders : (l : Linked) → l ≡ whole_link None l
hosts_or_embedders (Host c) = refl
hosts_or_embedders (Embedder k) = refl

-- or each that is left is the embedder's, or waits
pub parts_if : (goes_on : Bool) (m : Module) (all : Bool) → OnTrue all (AreAnswered m) → goes_on ≡ true → OnTrue all (AreParts (deferred_at goes_on) m links (parts_at goes_on))
parts_if goes_on m true answered on = are_parts goes_on m answered
parts_if goes_on m false answered on = tt

pub not_parts_if : (goes_on : Bool) (m : Module) (all : Bool) → OnFalse all (AreAnswered m → ⊥) → goes_on ≡ true → OnFalse all ((goes_on ≡ true) × (AreAnswered m → ⊥))
not_parts_if goes_on m true not on = tt
not_parts_if goes_on m false not on = (on, not)

-- ---- what a read gives

is_call : Option HostCall → Bool
is_call None = false
is_call (Some c) = true

none_is_none : (o : Option HostCall) → waiting false o ≡ Some call.FdRead → ⊥
unfolding is_call
none_is_none o e = true≢false (sym (ap is_call e))

by_types : (types : List ValueType) (o : Option HostCall) → waiting (gives_i32 types) o ≡ Some call.FdRead → types ≡ I32 ∷ []
by_types (I32 ∷ []) o e = refl
by_types [] o e = absurd (none_is_none o e)
by_types (I32 ∷ (t ∷ ts)) o e = absurd (none_is_none o e)
by_types (I64 ∷ ts) o e = absurd (none_is_none o e)
by_types (F32 ∷ ts) o e = absurd (none_is_none o e)
by_types (F64 ∷ ts) o e = absurd (none_is_none o e)

-- a call that waits is a read with one i32
pub waits_read : (goes_on : Bool) (f : FuncType) (o : Option HostCall) → waiting (waits_at goes_on f) o ≡ Some call.FdRead → f.results ≡ I32 ∷ []
waits_read false f o e = absurd (none_is_none o e)
waits_read true f o e = by_types f.results o e

-- where nothing goes on, nothing waits
pub none_waits : (m : Module) (n : ℕ) → deferred_at false m n ≡ None
none_waits m n = by_import (slice_get m.imports n) where
  by_type : (i : Import) (o : Option FuncType) → waits_by_type false i o ≡ None
  by_type i None = refl
  by_type i (Some f) = refl

  by_kind : (i : Import) (k : ImportKind) → waits_by_kind false m i k ≡ None
  by_kind i (imports.Function index) = by_type i (slice_get m.types index)
  by_kind i other = refl

  by_import : (o : Option Import) → waits_by_import false m o ≡ None
  by_import None = refl
  by_import (Some i) = by_kind i i.kind

-- ---- by what the code finds of an import

type_by_kind : Module → ImportKind → Option FuncType
type_by_kind m (imports.Function index) = slice_get m.types index
type_by_kind m other = None

type_by_import : Module → Option Import → Option FuncType
type_by_import m None = None
type_by_import m (Some i) = type_by_kind m i.kind

type_is : (m : Module) (n : ℕ) (f : FuncType) → IsImportType m n f → type_by_import m (slice_get m.imports n) ≡ Some f
unfolding type_by_kind type_by_import
type_is m n f t = ap (type_by_import m) t.is_import ∙ ap (type_by_kind m) t.kind ∙ t.type_is

-- an import has one type
pub function_types : (m : Module) (n : ℕ) (f g : FuncType) → IsImportType m n f → IsImportType m n g → f ≡ g
function_types m n f g t u = some_same (sym (type_is m n f t) ∙ type_is m n g u)

-- what is no function doesn't wait
pub no_type_none : (goes_on : Bool) (m : Module) (n : ℕ) → ((f : FuncType) → IsImportType m n f → ⊥) → deferred_at goes_on m n ≡ None
no_type_none goes_on m n none = by_import (slice_get m.imports n) refl where
  by_type : (i : Import) (index : ℕ) (o : Option FuncType) → slice_get m.imports n ≡ Some i → i.kind ≡ imports.Function index → slice_get m.types index ≡ o → waits_by_type goes_on i o ≡ None
  by_type i index None is kind e = refl
  by_type i index (Some f) is kind e = absurd (none f (record { import = i; is_import = is; index = index; kind = kind; type_is = e }))

  by_kind : (i : Import) (k : ImportKind) → slice_get m.imports n ≡ Some i → i.kind ≡ k → waits_by_kind goes_on m i k ≡ None
  by_kind i (imports.Function index) is kind = by_type i index (slice_get m.types index) is kind refl
  by_kind i other is kind = refl

  by_import : (o : Option Import) → slice_get m.imports n ≡ o → waits_by_import goes_on m o ≡ None
  by_import None e = refl
  by_import (Some i) e = by_kind i i.kind e refl

-- one that is a function waits as its call does
pub deferred_of : (goes_on : Bool) (m : Module) (n : ℕ) (f : FuncType) (t : IsImportType m n f) (i : Import) (waits : Bool) (o : Option HostCall) → slice_get m.imports n ≡ Some i
    → waits ≡ waits_at goes_on f → o ≡ link i.module_name i.name f → deferred_at goes_on m n ≡ waiting waits o
deferred_of goes_on m n f t i waits o is same called =
    let e : i ≡ t.import = some_same (sym is ∙ t.is_import) in
    deferred_is goes_on m n f t ∙ ap (λ (z : Import). waiting (waits_at goes_on f) (link z.module_name z.name f)) (sym e) ∙ ap (λ (z : Bool). waiting z (link i.module_name i.name f)) (sym same) ∙ ap (waiting waits) (sym called)

-- nobody's is what the host doesn't answer and may not be the embedder's
none_by : (o : Option HostCall) (may : Bool) (n : ℕ) → linked may n o ≡ None → (o ≡ None) × (may ≡ false)
unfolding linked is_some
none_by None false n e = (refl, refl)
none_by None true n e = absurd (true≢false (ap is_some e))
none_by (Some c) may n e = absurd (true≢false (ap is_some e))

-- what a valid import is, whichever way it was found
pub same_import : (m : Module) (n : ℕ) (f g : FuncType) (t : IsImportType m n f) (u : IsImportType m n g) (i : Import) → slice_get m.imports n ≡ Some i → (t.import ≡ i) × (f ≡ g)
same_import m n f g t u i is = (some_same (sym t.is_import ∙ is), function_types m n f g t u)

pub unanswered : (m : Module) (n : ℕ) (f : FuncType) (t : IsImportType m n f) (i : Import) → slice_get m.imports n ≡ Some i → link i.module_name i.name f ≡ None → may_embed (reserved_at false) i.module_name f ≡ false → IsUnanswered m n
unfolding linked
unanswered m n f t i is none never =
    let e : t.import ≡ i = some_same (sym t.is_import ∙ is) in
    record {
      func_type = f;
      is_type = t;
      none = subst (λ (z : Import). links n z.module_name z.name f ≡ None) (sym e)
          (is_with (link i.module_name i.name f) (may_embed (reserved_at false) i.module_name f) n ∙ ap (linked (may_embed (reserved_at false) i.module_name f) n) none ∙ ap (λ (b : Bool). linked b n None) never ∙ nobody n);
    } where
      nobody : (n : ℕ) → linked false n None ≡ None
      nobody n = refl

pub answered : (m : Module) (n : ℕ) (f : FuncType) (t : IsImportType m n f) (i : Import) → slice_get m.imports n ≡ Some i
    → (link i.module_name i.name f ≡ None → may_embed (reserved_at false) i.module_name f ≡ false → ⊥) → IsUnanswered m n → ⊥
answered m n f t i is never k =
    let (e, types) = same_import m n k.func_type f k.is_type t i is in
    let none : links n i.module_name i.name f ≡ None = subst (λ (z : FuncType). links n i.module_name i.name z ≡ None) types (subst (λ (z : Import). links n z.module_name z.name k.func_type ≡ None) e k.none) in
    let found = none_by (link i.module_name i.name f) (may_embed (reserved_at false) i.module_name f) n (sym (is_with (link i.module_name i.name f) (may_embed (reserved_at false) i.module_name f) n) ∙ none) in
    never found.0 found.1

-- the host's
pub is_answered : (m : Module) (n : ℕ) (f : FuncType) (t : IsImportType m n f) (i : Import) (k : HostCall) → slice_get m.imports n ≡ Some i → link i.module_name i.name f ≡ Some k → IsUnanswered m n → ⊥
unfolding is_call
is_answered m n f t i k is some = answered m n f t i is (λ none never. true≢false (ap is_call (sym some ∙ none)))

none_there : {i : Import} → Some i ≡ None → ⊥
none_there e = cc

pub no_import : (m : Module) (n : ℕ) → slice_get m.imports n ≡ None → IsUnanswered m n → ⊥
no_import m n none k = none_there (sym k.is_type.is_import ∙ none)

pub no_import_none : (goes_on : Bool) (m : Module) (n : ℕ) → slice_get m.imports n ≡ None → deferred_at goes_on m n ≡ None
no_import_none goes_on m n none = ap (waits_by_import goes_on m) none

-- by a comparison
pub unanswered_if : (m : Module) (n : ℕ) (f : FuncType) (t : IsImportType m n f) (i : Import) (b : Bool) → slice_get m.imports n ≡ Some i → link i.module_name i.name f ≡ None → b ≡ may_embed (reserved_at false) i.module_name f → OnTrue (not b) (IsUnanswered m n)
unanswered_if m n f t i true is none e = tt
unanswered_if m n f t i false is none e = unanswered m n f t i is none (sym e)

pub answered_if : (m : Module) (n : ℕ) (f : FuncType) (t : IsImportType m n f) (i : Import) (b : Bool) → slice_get m.imports n ≡ Some i → b ≡ may_embed (reserved_at false) i.module_name f → OnFalse (not b) (IsUnanswered m n → ⊥)
answered_if m n f t i false is e = tt
answered_if m n f t i true is e = answered m n f t i is (λ none never. true≢false (e ∙ never))

-- ---- all imports

-- those before this one are somebody's
pub record AnsweredBefore (m : Module) (k : ℕ) : Type 0 where
  pub each : (j : ℕ) → j < k → IsUnanswered m j → ⊥

pub answered_first : (m : Module) → AnsweredBefore m 0
answered_first m = record { each = λ j below. omega arith }

pub answered_next : (m : Module) (k : ℕ) → (IsUnanswered m k → ⊥) → AnsweredBefore m k → AnsweredBefore m (k + 1)
answered_next m k here before = record {
  each = λ j below. elim (eq-or-lt_of_le {n = j} {m = k} (omega (arith, below))) [
    | inl same ↦ λ u. here (subst (λ (z : ℕ). IsUnanswered m z) same u)
    | inr less ↦ before.each j less
  ];
}

-- past the last one
pub ended : (imports : List Import) (k n : ℕ) → n ≡ length imports → n ≤ k → length imports ≤ k
ended imports k n all past = omega (arith, all, past)

pub all_answered : (m : Module) (k : ℕ) → length m.imports ≤ k → AnsweredBefore m k → AreAnswered m
all_answered m k all before n u = before.each n (omega (arith, all, slice_get_within m.imports n u.is_type.import u.is_type.is_import)) u

-- ---- where nothing goes on, the machine's links are those of the whole

pub all_parts : (goes_on : Bool) (m : Module) → goes_on ≡ false → AreParts (deferred_at goes_on) m links (parts_at goes_on)
all_parts true m off = absurd (true≢false off)
all_parts false m off = record {
  whole = λ n f t l e. e ∙ ap Some (hosts_or_embedders l) ∙ ap (λ (z : Option HostCall). Some (whole_link z l)) (sym (none_waits m n));
  numbered = λ n f t number e.
      let i = t.import in
      let o = link i.module_name i.name f in
      let may = may_embed (reserved_at false) i.module_name f in
      numbered may n number o (sym (is_with o may n) ∙ e);
}
