-- The edited host is determined, and has as many vCPUs as the host and the same capped ones.
use Rattle.std.proofs.Common.{◌≡◌, ◌-◌, false, List, [], ◌∷◌, ◌++◌, length, map, replicate, refl, ap, sym, ◌∙◌}
use Rattle.std.proofs.lemmas.List.{length-map}
use Rattle.tab_core.proofs.Alike.{same_host, same_vcpu}
use Rattle.tab_core.specs.Edits.{IsEdited, reservations_of}
use Rattle.tab_core.specs.Vcpus.{capped_set}
use Rattle.tab_core.specs.declared.TheConstants.{MAX_VCPUS}
use Rattle.tab_core.specs.declared.edit.Edit.{Edit}
use Rattle.tab_core.specs.declared.host.Host.{Host}
use Rattle.tab_core.specs.declared.vcpu.Vcpu.{Vcpu}

-- vCPUs are their names, flags and reservations
same_vcpus : (us ws : List Vcpu) → map (λ vcpu. vcpu.name) us ≡ map (λ vcpu. vcpu.name) ws
    → map (λ vcpu. vcpu.runnable) us ≡ map (λ vcpu. vcpu.runnable) ws
    → map (λ vcpu. vcpu.capped) us ≡ map (λ vcpu. vcpu.capped) ws
    → reservations_of us ≡ reservations_of ws → us ≡ ws
same_vcpus [] [] names runnable capped reservations = refl
same_vcpus [] (b ∷ ws) names runnable capped reservations = absurd cc
same_vcpus (a ∷ us) [] names runnable capped reservations = absurd cc
same_vcpus (a ∷ us) (b ∷ ws) names runnable capped reservations =
    let name : a.name ≡ b.name = cc in
    let runs : a.runnable ≡ b.runnable = cc in
    let caps : a.capped ≡ b.capped = cc in
    let reservation : a.reservation ≡ b.reservation = cc in
    let names' : map (λ (vcpu : Vcpu). vcpu.name) us ≡ map (λ (vcpu : Vcpu). vcpu.name) ws = cc in
    let runnable' : map (λ (vcpu : Vcpu). vcpu.runnable) us ≡ map (λ (vcpu : Vcpu). vcpu.runnable) ws = cc in
    let capped' : map (λ (vcpu : Vcpu). vcpu.capped) us ≡ map (λ (vcpu : Vcpu). vcpu.capped) ws = cc in
    let reservations' : reservations_of us ≡ reservations_of ws = cc in
    let first = same_vcpu a b name reservation runs caps in
    let rest = same_vcpus us ws names' runnable' capped' reservations' in
    cc

-- edits make one host, and a book has one meaning
pub edited_unique : (host : Host) (edits : List Edit) (a b : Host) → IsEdited host edits a
    → IsEdited host edits b → a ≡ b
edited_unique host edits a b of_a of_b =
    same_host a b (of_a.tick_ns ∙ sym of_b.tick_ns) (of_a.cores ∙ sym of_b.cores) (of_a.lag ∙ sym of_b.lag)
    (of_a.sliver ∙ sym of_b.sliver) (of_a.quantum ∙ sym of_b.quantum)
    (same_vcpus a.vcpus b.vcpus (of_a.names ∙ sym of_b.names) (of_a.runnable ∙ sym of_b.runnable)
    (of_a.capped ∙ sym of_b.capped) (of_a.reservations ∙ sym of_b.reservations))

-- the host keeps its count of vCPUs
pub same_count : (host : Host) (edits : List Edit) (new : Host) → IsEdited host edits new
    → length new.vcpus ≡ length host.vcpus
same_count host edits new of =
    sym (length-map new.vcpus (λ (vcpu : Vcpu). vcpu.name)) ∙ ap length of.names
    ∙ length-map host.vcpus (λ (vcpu : Vcpu). vcpu.name)

-- the host keeps its capped vCPUs
pub edited_capped : (host : Host) (edits : List Edit) (new : Host) → IsEdited host edits new
    → capped_set new.vcpus ≡ capped_set host.vcpus
edited_capped host edits new of =
    ap (λ flags. flags ++ replicate (MAX_VCPUS - length new.vcpus) false) of.capped
    ∙ ap (λ count. map (λ (vcpu : Vcpu). vcpu.capped) host.vcpus ++ replicate (MAX_VCPUS - count) false)
    (same_count host edits new of)
