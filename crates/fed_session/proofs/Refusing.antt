-- Why an instance is refused, from why its host or its machine is.
use Rattle.std.proofs.Common.{◌≡◌, Bool, subst, true, None}
use Rattle.vol_tree.specs.Opened.{Opened}
use Rattle.wasm_syntax.specs.declared.module.Module.{Module}
use Rattle.wasm_store.specs.declared.fault.InstanceFault.{InstanceFault}
use Rattle.wasm_store.specs.declared.fault.InstanceFault.TheVariants as instance
use Rattle.wasm_store.specs.Allocating.{NotAllocated}
use Rattle.wasi_bodies.specs.declared.settings.Settings.{Settings}
use Rattle.wasi_bodies.specs.host.Settings.{settings_fit}
use Rattle.wasi_bodies.specs.host.Worlds.{HostState}
use Rattle.wasi_calls.specs.declared.host.fault.HostFault.{HostFault}
use Rattle.wasi_calls.specs.declared.host.fault.HostFault.TheVariants as host
use Rattle.wasi_calls.specs.declared.host.wasi_host.HostParts.{HostParts}
use Rattle.wasi_calls.specs.host.Making.{IsRefusedPreopen, preopens_of}
use Rattle.sandbox_core.specs.internal.Faults.{of_host, of_instance}
use Rattle.fed_input.specs.Feeding.{Fed}
use Rattle.fed_session.specs.Waiting.{parts_at}
use Rattle.fed_session.specs.Feeding.{IsOpenable, IsRefused}

module _ {D W1 W2 : Type 0} (goes_on : Bool) (honest : D → Type 0) (m : Module) (parts : HostParts D Fed W1 W2) (fits : settings_fit parts.settings ≡ true) where
  pub by_instance : (f : InstanceFault) → NotAllocated (parts_at goes_on) parts.settings.pages m f → IsRefused goes_on honest (of_instance f) m parts
  by_instance instance.Import is = (fits, (λ e. cc), is)
  by_instance instance.NoStart is = absurd is
  by_instance instance.DataOutOfBounds is = (fits, (λ e. cc), is)
  by_instance instance.ElementOutOfBounds is = (fits, (λ e. cc), is)
  by_instance instance.PageLimit is = (fits, (λ e. cc), is)
  by_instance instance.Memory is = fits

  -- the host was given the parts, and an instance can be opened
  pub by_preopen : (old new : HostState D Fed W1 W2) → old.volume ≡ parts.volume → old.settings ≡ parts.settings → IsOpenable goes_on m parts.settings.pages
      → (f : HostFault) → IsRefusedPreopen honest old new f → IsRefused goes_on honest (of_host f) m parts
  by_preopen old new same has can host.Setting is = absurd is
  by_preopen old new same has can host.Preopen is =
      let there = subst (λ (v : Opened D). honest v.device → preopens_of v.tree old.settings.preopens.now ≡ None) same is in
      (fits, can, subst (λ (s : Settings). honest parts.volume.device → preopens_of parts.volume.tree s.preopens.now ≡ None) has there)
  by_preopen old new same has can host.Device is = (fits, can)
  by_preopen old new same has can host.Memory is = absurd is
