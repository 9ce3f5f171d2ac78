-- Why a session is refused, from why its host or its machine is.
use Rattle.std.proofs.Common.{◌≡◌, ◌∙◌, ap, refl, sym, subst, true, false, None}
use Rattle.std.specs.Prelude.{Err}
use Rattle.vol_sector.specs.declared.device.Device.{Ghosts}
use Rattle.vol_tree.specs.Opened.{Opened}
use Rattle.wasm_syntax.specs.declared.module.Module.{Module}
use Rattle.wasm_store.specs.declared.fault.InstanceFault.{InstanceFault}
use Rattle.wasm_store.specs.declared.fault.InstanceFault.TheVariants as instance
use Rattle.wasm_store.specs.NotStarting.{RefusedFor}
use Rattle.wasi_calls.specs.declared.host.fault.HostFault.{HostFault}
use Rattle.wasi_calls.specs.declared.host.fault.HostFault.TheVariants as host
use Rattle.wasi_bodies.specs.declared.settings.Settings.{Settings}
use Rattle.wasi_calls.specs.declared.host.wasi_host.HostParts.{HostParts}
use Rattle.wasi_bodies.specs.host.Worlds.{HostState}
use Rattle.wasi_calls.specs.host.Making.{IsNewHost, IsRefusedPreopen, KeepsStreams, is_device, parts_of, preopens_of}
use Rattle.wasi_bodies.specs.host.Settings.{settings_fit}
use Rattle.wasi_calls.specs.host.Links.{link}
use Rattle.sandbox_core.specs.declared.fault.SessionFault.{SessionFault}
use Rattle.sandbox_core.specs.Session.{AskedOn, HandsBack, IsInstantiable, IsRefused, KeepsVolume}
use Rattle.sandbox_core.specs.internal.Faults.{of_host, of_instance}

module _ {D R W1 W2 : Type 0} (honest : D → Type 0) (m : Module) (parts : HostParts D R W1 W2) (fits : settings_fit parts.settings ≡ true) where
  pub by_instance : (f : InstanceFault) → RefusedFor link parts.settings.pages m f → IsRefused honest (of_instance f) m parts
  by_instance instance.Import is = (fits, (λ e. cc), is)
  by_instance instance.NoStart is = (fits, (λ e. cc), is)
  by_instance instance.DataOutOfBounds is = (fits, (λ e. cc), is)
  by_instance instance.ElementOutOfBounds is = (fits, (λ e. cc), is)
  by_instance instance.PageLimit is = (fits, (λ e. cc), is)
  by_instance instance.Memory is = fits

  -- the host was given the parts, and the module can be instantiated
  pub by_preopen : (old new : HostState D R W1 W2) → old.volume ≡ parts.volume → old.settings ≡ parts.settings
      → IsInstantiable m parts.settings.pages
      → (f : HostFault) → IsRefusedPreopen honest old new f → IsRefused honest (of_host f) m parts
  by_preopen old new same has can host.Setting is = absurd is
  by_preopen old new same has can host.Preopen is =
      let there = subst (λ (v : Opened D). honest v.device → preopens_of v.tree old.settings.preopens.now ≡ None) same is in
      (fits, can, subst (λ (s : Settings). honest parts.volume.device → preopens_of parts.volume.tree s.preopens.now ≡ None) has there)
  by_preopen old new same has can host.Device is = (fits, can)
  by_preopen old new same has can host.Memory is = absurd is

module _ {D R W1 W2 : Type 0} (X : Type 0) (device : Ghosts D) (m : Module) (parts : HostParts D R W1 W2) where
  keeps_volume : (old new : HostState D R W1 W2) → old.volume ≡ parts.volume → (f : HostFault)
      → AskedOn device old.volume new.volume (is_device {X = X} (Err f)) → IsRefusedPreopen device.honest old new f
      → KeepsVolume device (of_host f) parts.volume new.volume
  keeps_volume old new same host.Setting asked is = absurd is
  keeps_volume old new same host.Preopen asked is = subst (λ (v : Opened D). AskedOn device v new.volume false) same asked
  keeps_volume old new same host.Device asked is = subst (λ (v : Opened D). AskedOn device v new.volume true) same asked
  keeps_volume old new same host.Memory asked is = absurd is

  -- a host that opened no directory hands back what it was made of
  pub hands_back : (old new : HostState D R W1 W2) → IsNewHost parts old → KeepsStreams old new → (f : HostFault)
      → AskedOn device old.volume new.volume (is_device {X = X} (Err f)) → IsRefusedPreopen device.honest old new f
      → (back : HostParts D R W1 W2) → back ≡ parts_of new → (fault : SessionFault) → fault ≡ of_host f
      → HandsBack device m parts (record { valid = m; parts = back; fault = fault })
  hands_back old new made kept f asked is back is_back fault is_fault =
      subst (λ (e : SessionFault). HandsBack device m parts (record { valid = m; parts = back; fault = e })) (sym is_fault)
      (subst (λ (p : HostParts D R W1 W2). HandsBack device m parts (record { valid = m; parts = p; fault = of_host f })) (sym is_back)
      (record {
        valid = refl;
        settings = kept.settings ∙ made.settings;
        input = ap (λ i. i.reader) (kept.input ∙ made.input);
        out = ap (λ o. o.writer) (kept.out ∙ made.out);
        err = ap (λ e. e.writer) (kept.err ∙ made.err);
        volume = keeps_volume old new made.volume f asked is;
      }))
