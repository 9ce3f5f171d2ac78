-- Two instances with the same supplies, with which the same is done.
use Rattle.std.proofs.Common.{◌≡◌, ℕ, List, Option, sym, ◌∙◌, subst, ◌++◌}
use Rattle.std.specs.Option.{option_to_list}
use Rattle.wasm_syntax.specs.declared.module.Module.{Module}
use Rattle.wasm_store.specs.Instances.{Instance}
use Rattle.wasm_store.specs.Allocation.{Allocates}
use Rattle.wasm_steps.specs.Configuration.{Configuration, first_configuration}
use Rattle.wasm_operands.specs.Snapshots.{StandsFor}
use Rattle.wasi_calls.specs.declared.host.wasi_host.HostParts.{HostParts}
use Rattle.wasi_bodies.specs.declared.streams.Terminals.{Terminals}
use Rattle.sandbox_core.specs.Devices.{Devices}
use Rattle.plugin_session.specs.States.{InstanceState, OpensBy, links, session_of}
use Rattle.plugin_session.specs.Headline.{History, acts_of}
use Rattle.same_run.proofs.Sameness.{HostBegins, hosts_alike}
use Rattle.same_instance.specs.Turns.{Action}
use Rattle.same_instance.specs.Doing.{FollowActions}
use Rattle.same_instance.specs.SameInstance.{SameInstance, ShowTheSame, TellsAll, first_of}
use Rattle.same_instance.proofs.Beginning.{allocated_once, initializer_once}
use Rattle.same_instance.proofs.Doing.{all_turned, stage_after, stage_is}
use Rattle.same_instance.proofs.Sameness.{from_one}

host_begins : {D R W1 W2 : Type 0} (Stands : StandsFor) (m : Module) (seed : Option ℕ) (terminals : Option Terminals) (parts : HostParts D R W1 W2) (s : InstanceState D R W1 W2) → OpensBy Stands seed terminals m parts s → HostBegins seed terminals parts s.host
host_begins Stands m seed terminals parts s opens = record { input = opens.input; out = opens.out; err = opens.err; settings = opens.settings; supply = opens.supply; interactive = opens.interactive }

module _ (Stands : StandsFor) {D R W1 W2 D' R' W1' W2' : Type 0} (on : Devices D R W1 W2) (on' : Devices D' R' W1' W2') where
  show_the_same : TellsAll Stands → (i i' : Instance) → i ≡ i' → (s last : InstanceState D R W1 W2) (s' last' : InstanceState D' R' W1' W2') (actions : List Action) (rs : History (InstanceState D R W1 W2)) (rs' : History (InstanceState D' R' W1' W2'))
      → s.stage ≡ s'.stage → FollowActions Stands on s actions rs last → FollowActions Stands on' s' actions rs' last'
      → (d : Configuration) → Stands last.machine i d → Stands last'.machine i' d → acts_of rs ≡ acts_of rs' → ShowTheSame last last'
  show_the_same tells i i' one s last s' last' actions rs rs' stages follow follow' d st st' told =
      let a = tells last.machine i d st in
      let b = tells last'.machine i' d st' in
      record {
        memory = sym a.memory ∙ b.memory;
        table = sym a.table ∙ b.table;
        globals = sym a.globals ∙ b.globals;
        used = sym a.used ∙ b.used;
        stage = stage_is Stands tells on actions rs s last follow ∙ ((λ k. stage_after (stages k) (told k)) ∙ sym (stage_is Stands tells on' actions rs' s' last' follow'));
      }

  pub same_instance : SameInstance Stands on on'
  same_instance tells m seed seed' terminals terminals' parts parts' s last s' last' actions rs rs' valid alike same_seed same_terminals opens opens' shares shares' honest honest' follow follow' =
      let o = opens.opens in
      let o' = opens'.opens in
      let allocates : Allocates links parts.settings.pages m o'.instance o'.store = subst (λ (n : ℕ). Allocates links n m o'.instance o'.store) (sym alike.supplies.pages) o'.allocates in
      let began = allocated_once links parts.settings.pages m o.instance o'.instance o.store o'.store o.allocates allocates in
      let initializers : o.initializer ≡ o'.initializer = initializer_once m valid o.initializer o'.initializer o.has_initializer o'.has_initializer in
      let first : first_of o ≡ first_of o' = λ k. first_configuration (option_to_list m.start ++ option_to_list (initializers k)) (began.1 k) in
      let shown = hosts_alike on on' seed seed' terminals terminals' parts parts' (session_of s) (session_of s') alike same_seed same_terminals
      (host_begins Stands m seed terminals parts s opens) (host_begins Stands m seed' terminals' parts' s' opens') shares shares' honest honest' in
      record {
        instance = began.0;
        first = first;
        turned = all_turned Stands tells on m o.instance actions rs s last (first_of o) o.stands o.module_is follow;
        turned' = all_turned Stands tells on' m o'.instance actions rs' s' last' (first_of o') o'.stands o'.module_is follow';
        alike = λ d d' turns turns' served served'. from_one on on' m valid o.instance o'.instance (first_of o) (first_of o') began.0 first s.host last.host s'.host last'.host d d' actions (acts_of rs) (acts_of rs')
            (shares.reads.kept.honest.0 honest) (shares'.reads.kept.honest.0 honest') shown turns turns' served served';
        shown = λ d st st' told. show_the_same tells o.instance o'.instance began.0 s last s' last' actions rs rs' (opens.stage ∙ sym opens'.stage) follow follow' d st st' told;
      }
