-- Names by the numbers of their vCPUs.
use Rattle.std.proofs.Common.{◌≡◌, ℕ, ◌<◌, List, [], length, get_or, sym, ap, ◌∙◌}
use Rattle.std.proofs.lemmas.List.{get_or-map}
use Rattle.tab_core.specs.declared.vcpu.Vcpu.{Vcpu}
use Rattle.vcpu_names.specs.Names.{name_at, names_of}

-- a loop over the vCPUs reads the vCPU of a number: its name is that of the number
pub name_here : (vcpus : List Vcpu) (v : ℕ) (vcpu : Vcpu) → v < length vcpus
    → vcpu ≡ get_or vcpus v vcpu → name_at (names_of vcpus) v ≡ vcpu.name
name_here vcpus v vcpu low is = get_or-map (λ (x : Vcpu). x.name) vcpus v vcpu [] low
    ∙ ap (λ (x : Vcpu). x.name) (sym is)
