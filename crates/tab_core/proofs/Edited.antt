-- Edits one by one, and what they leave as it was.
use Rattle.std.proofs.Common.{◌≡◌, ℕ, suc, ◌+◌, ◌<◌, List, [], ◌∷◌, ◌++◌, length, get_or, slice_get, take, map, option_map, Option, None, Some, refl, ap, sym, ◌∙◌, arith, length-set}
use Rattle.std.proofs.Math.Seq.{take-suc}
use Rattle.std.proofs.lemmas.Option.{slice_get-map}
use Rattle.tab_core.specs.Edits.{edited, edited_once}
use Rattle.tab_core.specs.Vcpus.{HaveDistinctNames}
use Rattle.tab_core.specs.declared.edit.Edit.{Edit}
use Rattle.tab_core.specs.declared.edit.Edit.TheVariants.{Set, Leave}
use Rattle.tab_core.specs.declared.reservation.Reservation.{Reservation}
use Rattle.tab_core.specs.declared.vcpu.Vcpu.{Vcpu}

-- a place of a list of names that has a name has a vCPU
named_in : (o : Option Vcpu) (name : List ℕ) → option_map (λ vcpu. vcpu.name) o ≡ Some name
    → (a : Vcpu) × (o ≡ Some a) × (a.name ≡ name)
named_in None name e = absurd (grind (arith, e))
named_in (Some a) name e = (a, refl, grind (arith, e))

-- lists of the same names have at one place vCPUs of one name
named_at : (vcpus others : List Vcpu) (k : ℕ) (a : Vcpu)
    → map (λ vcpu. vcpu.name) vcpus ≡ map (λ vcpu. vcpu.name) others
    → slice_get vcpus k ≡ Some a → (b : Vcpu) × (slice_get others k ≡ Some b) × (b.name ≡ a.name)
named_at vcpus others k a same e =
    named_in (slice_get others k) a.name (
    sym (slice_get-map (λ vcpu. vcpu.name) others k) ∙ ap (λ names. slice_get names k) (sym same)
    ∙ slice_get-map (λ vcpu. vcpu.name) vcpus k ∙ ap (option_map (λ vcpu. vcpu.name)) e
    )

-- vCPUs of the same names have distinct names where those have
pub distinct_names : (vcpus others : List Vcpu)
    → map (λ vcpu. vcpu.name) vcpus ≡ map (λ vcpu. vcpu.name) others
    → HaveDistinctNames others → HaveDistinctNames vcpus
distinct_names vcpus others same distinct = λ j k a b at_j at_k e.
    let first = named_at vcpus others j a same at_j in
    let second = named_at vcpus others k b same at_k in
    distinct j k first.0 second.0 first.1 second.1 (first.2 ∙ e ∙ sym second.2)

-- the loop over the edits makes one edit after those before it
edited-append : (rs : List (Option Reservation)) (edits : List Edit) (edit : Edit)
    → edited rs (edits ++ edit ∷ []) ≡ edited_once (edited rs edits) edit
edited-append rs [] edit = refl
edited-append rs (first ∷ edits) edit = edited-append (edited_once rs first) edits edit

-- one edit more
pub edited_next : (rs : List (Option Reservation)) (edits : List Edit) (k : ℕ) (d : Edit) → k < length edits
    → edited rs (take (k + 1) edits) ≡ edited_once (edited rs (take k edits)) (get_or edits k d)
edited_next rs edits k d lt =
    let more : k + 1 ≡ suc k = omega arith in
    ap (λ n. edited rs (take n edits)) more ∙ ap (edited rs) (take-suc edits k d lt)
    ∙ edited-append rs (take k edits) (get_or edits k d)

-- an edit keeps the count of vCPUs
pub size_kept : (rs : List (Option Reservation)) (edit : Edit) → length (edited_once rs edit) ≡ length rs
size_kept rs (Set vcpu reservation) = length-set rs vcpu (Some reservation)
size_kept rs (Leave vcpu) = length-set rs vcpu None
