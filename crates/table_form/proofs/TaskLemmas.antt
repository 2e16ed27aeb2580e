-- Who has a task, by number, and a home.
use Rattle.std.proofs.Common.{arith, sym, ◌∙◌, ◌≡◌, ℕ, suc, ◌<◌, ◌≤◌, List, [], ◌∷◌, length, get_or, slice_get, Option, Some, None, is_some, true, false, refl, inl, inr}
use Rattle.std.proofs.lemmas.Bool.{and_from, cases_lt, false≢true}
use Rattle.std.proofs.lemmas.Option.{slice_get-get_or, slice_get_cases, slice_get_past}
use Rattle.tab_core.specs.declared.periodic.Periodic.{Periodic}
use Rattle.tab_core.specs.declared.vcpu.Vcpu.{Vcpu}
use Rattle.table_form.specs.Tables.Homes.{are_housed, is_housed}
use Rattle.table_form.specs.Tables.Plans.{is_reserved}
use Rattle.table_form.specs.Tables.Serves.{has_task}

-- for `task_within`: beyond the tasks there is none
no_task : (tasks : List (Option Periodic)) (v : ℕ) → length tasks ≤ v → has_task tasks v ≡ false
no_task tasks v past = rw (slice_get_past tasks v past) refl

-- who has a task has a number below their count, so a name where names are as many as tasks
pub task_within : (tasks : List (Option Periodic)) (v : ℕ) → has_task tasks v ≡ true → v < length tasks
task_within tasks v h = elim (cases_lt v (length tasks)) [
  | inl low ↦ low
  | inr past ↦ absurd (false≢true (sym (no_task tasks v past) ∙ h))
]

-- reads the test of a task by the task at the place
has_task_is : (tasks : List (Option Periodic)) (v : ℕ) (task : Option Periodic)
    → slice_get tasks v ≡ Some task
    → has_task tasks v ≡ is_some task
has_task_is tasks v None at = rw at refl
has_task_is tasks v (Some task) at = rw at refl

-- a plan has a task exactly for each admitted vCPU, where each vCPU has one exactly if it has a reservation
pub tasks_admit : (vcpus : List Vcpu) (tasks : List (Option Periodic)) → length tasks ≡ length vcpus
    → ((v : ℕ) (vcpu : Vcpu) (task : Option Periodic) → slice_get vcpus v ≡ Some vcpu
    → slice_get tasks v ≡ Some task → is_some task ≡ is_some vcpu.reservation)
    → (v : ℕ) → has_task tasks v ≡ is_reserved (slice_get vcpus v)
tasks_admit vcpus tasks as_many each v = elim (slice_get_cases vcpus v).1 [
  | inl found ↦
      (let lt : v < length tasks = (let within = found.1 in omega arith) in
      let at = slice_get-get_or tasks v None lt in
      rw (found.2) (has_task_is tasks v (get_or tasks v None) at
      ∙ each v found.0 (get_or tasks v None) found.2 at))
  | inr past ↦
      rw (slice_get_past tasks v (let beyond = past.0 in omega arith), past.1) refl
]

-- the test of the homes passes where it passes at each vCPU
pub are_housed_at : (count : ℕ) (tasks : List (Option Periodic)) (homes : List (Option ℕ))
    → length homes ≡ length tasks →
    ((v : ℕ) (task : Option Periodic) (home : Option ℕ) → slice_get tasks v ≡ Some task
    → slice_get homes v ≡ Some home → is_housed count task home ≡ true) →
    are_housed count tasks homes ≡ true
are_housed_at count [] [] as_many each = refl
are_housed_at count [] (home ∷ homes) as_many each = absurd (omega arith)
are_housed_at count (task ∷ tasks) [] as_many each = absurd (omega arith)
are_housed_at count (task ∷ tasks) (home ∷ homes) as_many each =
    and_from (is_housed count task home) (are_housed count tasks homes) (each 0 task home refl refl)
    (are_housed_at count tasks homes (omega arith) (λ v t h at at'. each (suc v) t h at at'))
