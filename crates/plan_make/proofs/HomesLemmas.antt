-- Whom the homes of a host are of, while the left-over vCPUs are split.
use Rattle.std.proofs.Common.{◌≡◌, ℕ, suc, ◌<◌, ◌⊎◌, true, List, [], ◌∷◌, length, set, slice_get, Option, Some, None, refl, ap, subst, sym, ◌∙◌, inl, inr, arith, length-set}
use Rattle.std.specs.List.{Contains}
use Rattle.std.proofs.lemmas.Bool.{cases_eq, lt-ltb}
use Rattle.std.proofs.lemmas.Option.{slice_get_within}
use Rattle.tab_core.specs.declared.periodic.Periodic.{Periodic}
use Rattle.tab_core.proofs.Lists.{set_here}
use Rattle.table_form.specs.Tables.Homes.{are_housed, is_housed}
use Rattle.table_form.proofs.TaskLemmas.{are_housed_at}
use Rattle.worst_fit.specs.Placement.{IsAdmitted, IsPlaced, PlacesEach}
use Rattle.coalesce.proofs.Members.{slice_get-set_other}
use Rattle.plan_make.proofs.ListMembers.{contains_cases, contains_first, contains_later, contains_none, slice_get_from_contains}

-- where the homes are these and so many vCPUs are still left over
abbrev pub ArePlaced : List (Option Periodic) → ℕ → List (Option ℕ) → List ℕ → Type 0
ArePlaced tasks count homes left = PlacesEach tasks count (record { core_of = homes; left = left })

-- a split moves one vCPU from the left-over ones to those with a home
pub placed_next : (tasks : List (Option Periodic)) (count : ℕ) (homes : List (Option ℕ)) (vcpu : ℕ)
    (left : List ℕ)
    (core : ℕ) →
    ArePlaced tasks count homes (vcpu ∷ left) → core < count → vcpu < length homes
    → ArePlaced tasks count (set homes vcpu (Some core)) left
placed_next tasks count homes vcpu left core placed there known = record {
  as_many = length-set homes vcpu (Some core) ∙ placed.as_many;
  each = each;
  on_core = on_core;
  left_over = λ v found. placed.left_over v (contains_later vcpu left v found);
  once = λ j k v at at'. (let same = placed.once (suc j) (suc k) v at at' in omega arith);
}
  where
    each : (v : ℕ) → IsAdmitted tasks v → IsPlaced (set homes vcpu (Some core)) v ⊎ Contains left v
    each v admitted = elim (cases_eq v vcpu) [
      | inl same ↦ inl (
        core,
        ap (slice_get (set homes vcpu (Some core))) same
            ∙ set_here homes vcpu (Some core) known,
      )
      | inr ne ↦ elim (placed.each v admitted) [
        | inl old ↦ inl (old.0, slice_get-set_other homes vcpu v (Some core) ne ∙ old.1)
        | inr found ↦ elim (contains_cases vcpu left v found)
            [ inl same ↦ absurd (ne (sym same)) | inr later ↦ inr later ]
      ]
    ]

    not_again : Contains left vcpu → ⊥
    not_again found =
        (let at = slice_get_from_contains left vcpu found in
        let same = placed.once 0 (suc at.0) vcpu refl at.1 in
        absurd (omega arith))

    on_core : (v c : ℕ) → slice_get (set homes vcpu (Some core)) v ≡ Some (Some c)
        → (c < count) × IsAdmitted tasks v × (Contains left v → ⊥)
    on_core v c at = elim (cases_eq v vcpu) [
      | inl same ↦
          (let here = sym (set_here homes vcpu (Some core) known)
          ∙ ap (slice_get (set homes vcpu (Some core))) (sym same) ∙ at in
          let c_is : core ≡ c = cc in (
            subst (λ n. n < count) c_is there,
            subst (IsAdmitted tasks) (sym same)
                (placed.left_over vcpu (contains_first vcpu left)),
            λ found. not_again (subst (Contains left) same found),
          ))
      | inr ne ↦ (let old = placed.on_core v c (sym (slice_get-set_other homes vcpu v (Some core) ne) ∙ at) in
          (old.0, old.1, λ found. old.2 (contains_later vcpu left v found)))
    ]

-- the next left-over vCPU is admitted, and has no home yet
pub next_is_admitted : (tasks : List (Option Periodic)) (count : ℕ) (homes : List (Option ℕ))
    (vcpu : ℕ) (left : List ℕ)
    → ArePlaced tasks count homes (vcpu ∷ left) → IsAdmitted tasks vcpu
next_is_admitted tasks count homes vcpu left placed = placed.left_over vcpu (contains_first vcpu left)

-- it has no home yet, so it has no piece either
pub next_is_homeless : (tasks : List (Option Periodic)) (count : ℕ) (homes : List (Option ℕ))
    (vcpu : ℕ) (left : List ℕ)
    → ArePlaced tasks count homes (vcpu ∷ left) → IsPlaced homes vcpu → ⊥
next_is_homeless tasks count homes vcpu left placed home =
    (placed.on_core vcpu home.0 home.1).2 (contains_first vcpu left)

-- once nobody is left over, each task has a home and nobody else has one

-- a plan asks that each task has a home, and nobody else
pub all_housed : (tasks : List (Option Periodic)) (count : ℕ) (homes : List (Option ℕ))
    → ArePlaced tasks count homes []
    → are_housed count tasks homes ≡ true
all_housed tasks count homes placed = are_housed_at count tasks homes placed.as_many each
  where
    each : (v : ℕ) (task : Option Periodic) (home : Option ℕ) → slice_get tasks v ≡ Some task
        → slice_get homes v ≡ Some home → is_housed count task home ≡ true
    each v None None at at' = refl
    each v None (Some core) at at' =
        (let admitted = (placed.on_core v core at').1 in let e = sym at ∙ admitted.1 in absurd (cc))
    each v (Some task) None at at' = elim (placed.each v (task, at)) [
      | inl home ↦ (let e = sym at' ∙ home.1 in absurd (cc))
      | inr left ↦ absurd (contains_none v left)
    ]
    each v (Some task) (Some core) at at' = lt-ltb core count (placed.on_core v core at').0

-- its number is that of a vCPU, so its home can be written
pub next_is_known : (tasks : List (Option Periodic)) (count : ℕ) (homes : List (Option ℕ))
    (vcpu : ℕ) (left : List ℕ)
    → ArePlaced tasks count homes (vcpu ∷ left) → vcpu < length homes
next_is_known tasks count homes vcpu left placed =
    let admitted = next_is_admitted tasks count homes vcpu left placed in
    let within = slice_get_within tasks vcpu (Some admitted.0) admitted.1 in
    let size = placed.as_many in
    omega arith
