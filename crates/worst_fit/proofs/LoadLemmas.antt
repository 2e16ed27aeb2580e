-- The load of a core, as a vCPU is placed.
use Rattle.std.proofs.Common.{◌≡◌, ℕ, zero, suc, ◌+◌, ◌<◌, List, [], ◌∷◌, length, set, get_or, replicate, zip, Option, None, Some, refl, ap, arith}
use Rattle.std.specs.Prelude.{if◌then◌else◌}
use Rattle.std.proofs.lemmas.List.Sums.{sum_by-cons}
use Rattle.tab_core.specs.declared.periodic.Periodic.{Periodic}
use Rattle.worst_fit.specs.Load.{is_on, load_on, task_demand}

-- what the vCPU of this task adds to the load of a core, where it is on that one
abbrev pub share_on : ℕ → Option Periodic → Option ℕ → ℕ
share_on core task home = if is_on core home then task_demand task else 0

-- opens the load by one vCPU, for the inductions below
pub load_on-cons : (core : ℕ) (task : Option Periodic) (tasks : List (Option Periodic))
    (home : Option ℕ) (core_of : List (Option ℕ))
    → load_on core (task ∷ tasks) (home ∷ core_of)
    ≡ share_on core task home + load_on core tasks core_of
unfolding load_on
load_on-cons core task tasks home core_of =
    sum_by-cons (λ (vcpu : Option Periodic × Option ℕ). share_on core vcpu.0 vcpu.1) (task, home)
    (zip tasks core_of)

-- no vCPU, no load
pub load_on-nil : (core : ℕ) (core_of : List (Option ℕ)) → load_on core [] core_of ≡ 0
unfolding load_on
load_on-nil core core_of = refl

-- nobody is placed
pub load_on-none : (core : ℕ) (tasks : List (Option Periodic))
    → load_on core tasks (replicate (length tasks) None) ≡ 0
load_on-none core [] = load_on-nil core []
load_on-none core (task ∷ tasks) =
    let first = load_on-cons core task tasks None (replicate (length tasks) None)
    in let rest = load_on-none core tasks in omega arith

-- one more vCPU is on a core
pub load_on-set : (core home : ℕ) (tasks : List (Option Periodic)) (core_of : List (Option ℕ))
    (vcpu : ℕ) → length core_of ≡ length tasks → vcpu < length tasks
    → get_or core_of vcpu None ≡ None
    → load_on core tasks (set core_of vcpu (Some home))
    ≡ load_on core tasks core_of + share_on core (get_or tasks vcpu None) (Some home)
load_on-set core home [] core_of vcpu many lt none = absurd (omega arith)
load_on-set core home (task ∷ tasks) [] vcpu many lt none = absurd (omega arith)
load_on-set core home (task ∷ tasks) (old ∷ core_of) zero many lt none =
    let new = load_on-cons core task tasks (Some home) core_of in
    let before = load_on-cons core task tasks old core_of in
    let nothing : share_on core task old ≡ 0 = ap (share_on core task) none in
    omega arith
load_on-set core home (task ∷ tasks) (old ∷ core_of) (suc vcpu) many lt none =
    let new = load_on-cons core task tasks old (set core_of vcpu (Some home)) in
    let before = load_on-cons core task tasks old core_of in
    let rest = load_on-set core home tasks core_of vcpu (omega arith) (omega arith) none in
    omega arith
