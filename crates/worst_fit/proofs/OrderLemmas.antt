-- The ranks of tasks, one task after the other.
use Rattle.std.proofs.Common.{◌≡◌, ℕ, suc, ◌+◌, ◌<◌, List, [], ◌∷◌, ◌++◌, length, drop, get_or, Option, None, Some, refl, sym, ap, ◌∙◌, append_assoc, add-one, drop-cons}
use Rattle.tab_core.specs.declared.periodic.Periodic.{Periodic}
use Rattle.reservation.specs.Cost.{demand}
use Rattle.worst_fit.specs.declared.by_demand.ByDemand.{ByDemand}
use Rattle.worst_fit.specs.Order.{ranks_from}

-- the rank of a vCPU by its task
abbrev pub rank_of : ℕ → Periodic → ByDemand
rank_of number task = record { demand = demand task.cost task.period; vcpu = number }

-- opens `ranks_from` where the vCPU isn't admitted
pub ranks_from-none : (number : ℕ) (tasks : List (Option Periodic))
    → ranks_from number (None ∷ tasks) ≡ ranks_from (number + 1) tasks
unfolding ranks_from
ranks_from-none number tasks = refl

-- opens `ranks_from` where it is
pub ranks_from-some : (number : ℕ) (task : Periodic) (tasks : List (Option Periodic))
    → ranks_from number (Some task ∷ tasks) ≡ rank_of number task ∷ ranks_from (number + 1) tasks
unfolding ranks_from
ranks_from-some number task tasks = refl

-- no task, no rank
pub ranks_from-nil : (number : ℕ) → ranks_from number [] ≡ []
unfolding ranks_from
ranks_from-nil number = refl

-- the tasks from this number on are the one here and those after it
drop_here : (tasks : List (Option Periodic)) (number : ℕ) (task : Option Periodic)
    → number < length tasks → task ≡ get_or tasks number task
    → drop number tasks ≡ task ∷ drop (number + 1) tasks
drop_here tasks number task lt at = drop-cons tasks number task lt
    ∙ ap (λ t. t ∷ drop (suc number) tasks) (sym at)
    ∙ ap (λ n. task ∷ drop n tasks) (sym (add-one number))

-- the loop's step at a vCPU that isn't admitted
pub skip_none : (done next all : List ByDemand) (tasks : List (Option Periodic)) (number : ℕ)
    (found : Option Periodic) → number < length tasks
    → found ≡ get_or tasks number found → found ≡ None → next ≡ done
    → done ++ ranks_from number (drop number tasks) ≡ all
    → next ++ ranks_from (number + 1) (drop (number + 1) tasks) ≡ all
skip_none done next all tasks number found lt at none same h =
    let split = drop_here tasks number found lt at ∙ ap (λ t. t ∷ drop (number + 1) tasks) none in
    let rest : ranks_from number (drop number tasks)
    ≡ ranks_from (number + 1) (drop (number + 1) tasks) = ap (ranks_from number) split
    ∙ ranks_from-none number (drop (number + 1) tasks) in
    rw same (rw (← rest) h)

-- the loop's step at one that is
pub push_some : (done next all : List ByDemand) (tasks : List (Option Periodic)) (number takes : ℕ)
    (found : Option Periodic) (task : Periodic) → number < length tasks
    → found ≡ get_or tasks number found → found ≡ Some task → takes ≡ demand task.cost task.period
    → let rank : ByDemand = record { demand = takes; vcpu = number } in next ≡ done ++ rank ∷ []
    → done ++ ranks_from number (drop number tasks) ≡ all
    → next ++ ranks_from (number + 1) (drop (number + 1) tasks) ≡ all
push_some done next all tasks number takes found task lt at some is pushed h =
    let split = drop_here tasks number found lt at ∙ ap (λ t. t ∷ drop (number + 1) tasks) some in
    let rest : ranks_from number (drop number tasks)
    ≡ rank_of number task ∷ ranks_from (number + 1) (drop (number + 1) tasks) =
    ap (ranks_from number) split ∙ ranks_from-some number task (drop (number + 1) tasks) in
    let joined = append_assoc done (rank_of number task ∷ [])
    (ranks_from (number + 1) (drop (number + 1) tasks)) in
    rw pushed (rw is (rw joined (rw (← rest) h)))
