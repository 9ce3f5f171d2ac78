-- A changed file's entry keeps the rules that its own sector shows.
use Rattle.std.proofs.Common.{◌≡◌, inl, inr, ℕ, ◌≤◌, ◌<◌, max, get_or, sym, ◌∙◌, ap, subst, arith, Result, Ok, Err, OnOk}
use Rattle.std.proofs.lemmas.Bool.{cases_lt, cases_eq}
use Rattle.std.proofs.lemmas.Bool.Decides.{nat_tests}
use Rattle.vol_sector.specs.Disk.{Image}
use Rattle.vol_sector.specs.declared.device.DeviceFault.{DeviceFault}
use Rattle.vol_inode.specs.declared.entry.Entry.{Entry}
use Rattle.vol_inode.specs.declared.entry.Kind.TheVariants.{Directory, File}
use Rattle.vol_inode.specs.declared.version.Version.{Version}
use Rattle.vol_inode.specs.declared.version.Version.TheVariants.{One, Two, Four}
use Rattle.vol_inode.specs.Entry.{IsEntry, HasWidths, first_block_of_pointer}
use Rattle.vol_inode.specs.Space.{size_limit, blocks_for_size}
use Rattle.vol_body.specs.Body.{data_block, indirect_block, double_indirect_block, triple_indirect_block, IsBody}
use Rattle.vol_body.proofs.Places.{part_direct}
use Rattle.vol_inode.specs.declared.version.TheConstants.{LARGEST_SIZE}

small_limit : (version : Version) → size_limit version ≤ LARGEST_SIZE
small_limit One = omega arith
small_limit Two = omega arith
small_limit Four = omega arith

first_direct : (k : ℕ) → k < 59 → first_block_of_pointer k ≡ k
first_direct k lt = grind (arith, nat_tests)

-- a pointer past the size is zero
pointer_past : (content : Image) (e : Entry) → IsBody content e → (k : ℕ) → k < 61 → blocks_for_size e.size ≤ first_block_of_pointer k → get_or e.pointers k 0 ≡ 0
pointer_past content e body k lt le = elim (cases_lt k 58) [
  | inl direct ↦ sym (part_direct content e k direct) ∙ body.past (data_block k) (omega arith) (omega (arith, first_direct k (omega arith)))
  | inr past ↦ elim (cases_eq k 58) [
    | inl is ↦ ap (λ (j : ℕ). get_or e.pointers j 0) is ∙ body.past indirect_block tt (let one : first_block_of_pointer k ≡ 58 = ap first_block_of_pointer is in omega arith)
    | inr other ↦ elim (cases_eq k 59) [
      | inl is ↦ ap (λ (j : ℕ). get_or e.pointers j 0) is ∙ body.past (double_indirect_block 0) (omega arith) (let one : first_block_of_pointer k ≡ 186 = ap first_block_of_pointer is in omega arith)
      | inr rest ↦
          let last : k ≡ 60 = omega arith in
          ap (λ (j : ℕ). get_or e.pointers j 0) last ∙ body.past triple_indirect_block tt (let one : first_block_of_pointer k ≡ 16570 = ap first_block_of_pointer last in omega arith)
    ]
  ]
]

pub not_both : (e : Entry) → e.kind ≡ File → e.kind ≡ Directory → ⊥
not_both e file directory = let same : File ≡ Directory = sym file ∙ directory in cc

pub right_file : (version : Version) (content : Image) (e changed : Entry) (size : ℕ) → IsEntry version e → (e.kind ≡ Directory → size ≡ 0) → size ≤ size_limit version
    → changed ≡ record e { size = size; pointers = changed.pointers } → HasWidths changed → IsBody content changed → IsEntry version changed
right_file version content e changed size right none small is widths body =
    let pasts : (k : ℕ) → k < 61 → blocks_for_size size ≤ first_block_of_pointer k → get_or changed.pointers k 0 ≡ 0 = λ k lt le.
    pointer_past content changed body k lt (subst (λ (x : Entry). blocks_for_size x.size ≤ first_block_of_pointer k) (sym is) le) in
    subst (IsEntry version) (sym is) (record {
      widths = record {
        parent = right.widths.parent;
        size = omega (arith, small, small_limit version);
        name = right.widths.name;
        pointers = widths.pointers;
        each = widths.each;
      };
      rules = record {
        name = record { root_kind = right.rules.name.root_kind; root_name = right.rules.name.root_name; name = right.rules.name.name };
        padded = right.rules.padded;
        size = record { directory = none; small = small };
        pointers = pasts;
      };
    })

-- facts on one success
pub one : (r : Result (Unit {0}) DeviceFault) (P Q : Type 0) → (P → Q) → OnOk r P → OnOk r Q
one (Ok x) P Q f p = f p
one (Err x) P Q f p = tt

pub both : (r : Result (Unit {0}) DeviceFault) (P Q S : Type 0) → (P → Q → S) → OnOk r P → OnOk r Q → OnOk r S
both (Ok x) P Q S f p q = f p q
both (Err x) P Q S f p q = tt

pub all_three : (r : Result (Unit {0}) DeviceFault) (P Q R S : Type 0) → (P → Q → R → S) → OnOk r P → OnOk r Q → OnOk r R → OnOk r S
all_three (Ok x) P Q R S f p q s = f p q s
all_three (Err x) P Q R S f p q s = tt

pub four : (r : Result (Unit {0}) DeviceFault) (P Q R S T : Type 0) → (P → Q → R → S → T) → OnOk r P → OnOk r Q → OnOk r R → OnOk r S → OnOk r T
four (Ok x) P Q R S T f p q s t = f p q s t
four (Err x) P Q R S T f p q s t = tt

pub max_limit : (version : Version) (size end : ℕ) → size ≤ size_limit version → end ≤ size_limit version → max size end ≤ size_limit version
max_limit version size end one other = omega arith
