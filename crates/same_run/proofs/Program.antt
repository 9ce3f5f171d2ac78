-- Runs of the program are those of its sessions.
use Rattle.std.proofs.Common.{◌≡◌, ℕ, List, [], ◌∷◌, map, Option, Some, refl, sym, ◌∙◌, ap}
use Rattle.std.proofs.lemmas.Option.{same_Some}
use Rattle.vol_sector.specs.Disk.{Disk}
use Rattle.wasm_steps.specs.Configuration.{first_configuration}
use Rattle.wasm_operands.specs.Snapshots.{StandsFor}
use Rattle.wasi_bodies.specs.declared.settings.Settings.{Settings}
use Rattle.wasi_bodies.specs.host.Worlds.{Hearing, given_of}
use Rattle.sandbox_core.specs.Devices.{Devices}
use Rattle.sandbox_args.specs.declared.request.Run.{Run}
use Rattle.sandbox_args.specs.Request.{Text}
use Rattle.sandbox_report.specs.declared.counted.Counted.{Counted}
use Rattle.sandbox_telling.specs.RunHost.{counted_devices, counting}
use Rattle.sandbox_telling.specs.Supplies.{AreSettings, names_of as named, split_at_equals, terminals_of}
use Rattle.same_run.specs.SameRun.{AreSameSupplies}
use Rattle.same_run.specs.SameProgram.{HandOutTheSame, SameProgramRun}
use Rattle.same_run.specs.SameProgramReport.{SameProgramReport}
use Rattle.same_run.proofs.Sameness.{begin_alike, same_from_one, same_report, show_alike}

heads : {X : Type 0} (x y : X) (xs ys : List X) → x ∷ xs ≡ y ∷ ys → x ≡ y
heads x y xs ys same = cc

tails : {X : Type 0} (x y : X) (xs ys : List X) → x ∷ xs ≡ y ∷ ys → xs ≡ ys
tails x y xs ys same = cc

-- each of some things, of which there is one
all_some : {X Y : Type 0} (f : X → Y) (xs ys : List X) → map (λ (x : X). Some (f x)) xs ≡ map (λ (x : X). Some (f x)) ys → map f xs ≡ map f ys
all_some f [] [] same = refl
all_some f [] (y ∷ ys) same = cc
all_some f (x ∷ xs) [] same = cc
all_some f (x ∷ xs) (y ∷ ys) same = λ k. first k ∷ all_some f xs ys rest k
  where
    first : f x ≡ f y
    first = same_Some (f x) (f y) (heads (Some (f x)) (Some (f y)) _ _ same)

    rest : map (λ x. Some (f x)) xs ≡ map (λ x. Some (f x)) ys
    rest = tails (Some (f x)) (Some (f y)) _ _ same

same_supplies : (run run' : Run) (random : Text) (settings settings' : Settings) → HandOutTheSame run run' → AreSettings run random settings → AreSettings run' random settings'
    → AreSameSupplies settings settings'
same_supplies run run' random settings settings' same has has' = record {
  given = λ k. record { args = args k; env = env k; moment = moment k };
  directories = all_some named settings.preopens.now settings'.preopens.now (has.preopens ∙ (ap (map split_at_equals) same.directories ∙ sym has'.preopens));
  random = has.random_bytes ∙ sym has'.random_bytes;
  pages = has.pages ∙ (same.pages ∙ sym has'.pages);
}
  where
    args : (given_of settings).args ≡ (given_of settings').args
    args = has.args ∙ (same.arguments ∙ sym has'.args)

    env : (given_of settings).env ≡ (given_of settings').env
    env = has.env ∙ (same.environment ∙ sym has'.env)

    moment : settings.moment ≡ settings'.moment
    moment = has.moment ∙ (same.moment ∙ sym has'.moment)

module _ {D R W1 W2 D' R' W1' W2' : Type 0} (Stands : StandsFor)
    (is_honest : D → Type 0) (disk : D → Disk) (sectors_on failures : D → ℕ) (goes_on : ℕ → D → D → Type 0)
    (remaining : R → Option (List ℕ)) (out_contents : W1 → Option (List ℕ)) (err_contents : W2 → Option (List ℕ)) (ear : Hearing R W1 W2)
    (is_honest' : D' → Type 0) (disk' : D' → Disk) (sectors_on' failures' : D' → ℕ) (goes_on' : ℕ → D' → D' → Type 0)
    (remaining' : R' → Option (List ℕ)) (out_contents' : W1' → Option (List ℕ)) (err_contents' : W2' → Option (List ℕ)) (ear' : Hearing R' W1' W2') where
  abbrev on : Devices D (Counted R) (Counted W1) (Counted W2)
  on = counted_devices is_honest disk sectors_on failures goes_on remaining out_contents err_contents ear

  abbrev on' : Devices D' (Counted R') (Counted W1') (Counted W2')
  on' = counted_devices is_honest' disk' sectors_on' failures' goes_on' remaining' out_contents' err_contents' ear'

  pub same_program_run : SameProgramRun Stands is_honest disk sectors_on failures goes_on remaining out_contents err_contents ear is_honest' disk' sectors_on' failures' goes_on' remaining' out_contents' err_contents' ear'
  same_program_run m run run' random parts parts' left left' valid same has has' tree room honest honest' ran ran' =
      let supplies : AreSameSupplies parts.settings parts'.settings = same_supplies run run' random parts.settings parts'.settings same has has' in
      let began = begin_alike on on' Stands m run.seed run'.seed (terminals_of run) (terminals_of run') (counting run parts) (counting run' parts') ran.session ran'.session
      valid supplies.pages ran.opens ran'.opens in
      let first : first_configuration ran.opens.starts.entered ran.opens.starts.store ≡ first_configuration ran'.opens.starts.entered ran'.opens.starts.store =
      λ k. first_configuration (sym began.2 k) (sym began.1 k) in
      let shown = show_alike on on' Stands m run.seed run'.seed (terminals_of run) (terminals_of run') (counting run parts) (counting run' parts') ran.session ran'.session
      (record { supplies = supplies; tree = tree; room = room }) same.seed same.terminals ran.opens ran'.opens ran.shares ran'.shares honest honest' in record {
        instance = sym began.0;
        store = sym began.1;
        entered = sym began.2;
        alike = same_from_one on on' ran.opens.starts.instance ran'.opens.starts.instance
            (first_configuration ran.opens.starts.entered ran.opens.starts.store) (first_configuration ran'.opens.starts.entered ran'.opens.starts.store) (sym began.0) first
            run.limits.fuel run'.limits.fuel ran.session.host ran.last.host ran'.session.host ran'.last.host ran.outcome ran'.outcome _ _
            (ran.shares.reads.kept.honest.0 honest) (ran'.shares.reads.kept.honest.0 honest') shown same.fuel ran.run ran'.run ran.within ran'.within;
      }

module _ {D R W1 W2 D' R' W1' W2' : Type 0}
    (is_honest : D → Type 0) (disk : D → Disk) (sectors_on failures : D → ℕ) (goes_on : ℕ → D → D → Type 0)
    (remaining : R → Option (List ℕ)) (out_contents : W1 → Option (List ℕ)) (err_contents : W2 → Option (List ℕ)) (ear : Hearing R W1 W2)
    (is_honest' : D' → Type 0) (disk' : D' → Disk) (sectors_on' failures' : D' → ℕ) (goes_on' : ℕ → D' → D' → Type 0)
    (remaining' : R' → Option (List ℕ)) (out_contents' : W1' → Option (List ℕ)) (err_contents' : W2' → Option (List ℕ)) (ear' : Hearing R' W1' W2') where
  pub same_program_report : SameProgramReport is_honest disk sectors_on failures goes_on remaining out_contents err_contents ear is_honest' disk' sectors_on' failures' goes_on' remaining' out_contents' err_contents' ear'
  same_program_report m run run' random parts parts' left left' valid same has has' tree room honest honest' ran ran' =
      same_report (counted_devices is_honest disk sectors_on failures goes_on remaining out_contents err_contents ear)
      (counted_devices is_honest' disk' sectors_on' failures' goes_on' remaining' out_contents' err_contents' ear')
      m run.seed run'.seed (terminals_of run) (terminals_of run') (counting run parts) (counting run' parts') ran.session ran'.session
      run.limits.fuel run'.limits.fuel ran.report ran'.report valid
      (record { supplies = same_supplies run run' random parts.settings parts'.settings same has has'; tree = tree; room = room })
      same.seed same.terminals same.fuel ran.opens ran'.opens ran.shares ran'.shares honest honest' ran.counted.reports ran'.counted.reports
