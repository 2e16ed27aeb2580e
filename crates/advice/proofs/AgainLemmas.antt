-- Where there is no text that tells of what a section hasn't.
use Rattle.std.proofs.Common.{arith, codes, ◌≡◌, ◌<◌, ℕ, List, length, Option, None, Some, subst, slice_get, sym, ◌∙◌}
use Rattle.std.proofs.lemmas.Option.{slice_get-get_or, slice_get_within}
use Rattle.tab_core.specs.declared.host.Host.{Host}
use Rattle.tab_core.specs.declared.periodic.Periodic.{Periodic}
use Rattle.tab_core.specs.declared.vcpu.Vcpu.{Vcpu}
use Rattle.host_doc.specs.Document.{IsHostText}
use Rattle.host_doc.proofs.OneHost.{one_host}
use Rattle.period_choice.specs.Choice.{HasPeriod}
use Rattle.period_choice.specs.Tasks.{AreTasksOf, IsFirstWithoutPeriod, IsTaskOf, LacksPeriod}
use Rattle.tab_core.specs.declared.reservation.Reservation.{Reservation}
use Rattle.toml.specs.Data.{Members}
use Rattle.advice.specs.Advice.{IsPeriodText, IsVcpuText, TellsOfBudgets, TellsOfDocument, TellsOfTasks}
use Rattle.advice.specs.KeyLines.{vcpu_line}
use Rattle.advice.specs.Inside.Again.{IsNoDocument, IsNoHost, LacksTasks}

-- a vCPU without a period has no task
no_task : (reservation : Option Reservation) (tick : ℕ) (task : Option Periodic) → LacksPeriod reservation tick
    → ¬ (IsTaskOf reservation tick task)
no_task None tick task lacks is = lacks
no_task (Some r) tick None lacks is = is
no_task (Some r) tick (Some task) lacks is = lacks (task.period, is.admissible)

-- where a vCPU has no period, the host has no tasks
pub lacks_tasks : (host : Host) (number : ℕ) → IsFirstWithoutPeriod host number → LacksTasks host
lacks_tasks host number first tasks are =
    let within : number < length host.vcpus = slice_get_within host.vcpus number first.vcpu first.at in
    let listed : number < length tasks = omega (arith, within, are.as_many) in
    no_task first.vcpu.reservation host.tick_ns _ first.lacks
    (are.each number first.vcpu _ first.at (slice_get-get_or tasks number None listed))

-- no text tells of the members of what is no document
pub no_member_is_told : (section : List ℕ) (told : Members → List ℕ) → IsNoDocument section
    → (other : List ℕ) → ¬ (TellsOfDocument section told other)
no_member_is_told section told none other tells = none tells.0 tells.1

-- no text says anything of the budgets of what is no host
pub no_host_is_told : (section : List ℕ) (Told : Host → List (Option Periodic) → List ℕ → Type 0)
    → IsNoHost section → (other : List ℕ) → ¬ (TellsOfTasks section Told other)
no_host_is_told section Told none other tells = none tells.host tells.is_host

-- no text says anything of the budgets of a host that has none
pub no_budget_is_told : (Told : Host → List (Option Periodic) → List ℕ → Type 0) (host : Host) → LacksTasks host
    → (other : List ℕ) → ¬ (TellsOfBudgets Told host other)
no_budget_is_told Told host none other tells = none tells.tasks tells.are_tasks

-- no text says anything of the budgets of a host of which a vCPU has no period
pub no_task_is_told : (section : List ℕ) (Told : Host → List (Option Periodic) → List ℕ → Type 0) (host : Host)
    → IsHostText section host → LacksTasks host → (other : List ℕ) → ¬ (TellsOfTasks section Told other)
no_task_is_told section Told host is_host none other tells =
    let same : tells.host ≡ host = one_host section tells.host host tells.is_host is_host in
    none tells.tasks (subst (λ (h : Host). AreTasksOf h tells.tasks) same tells.are_tasks)

-- no text says anything of a vCPU of what is no host
pub no_vcpu_is_told : (section : List ℕ) (number : ℕ) → IsNoHost section
    → (other : List ℕ) → ¬ (IsPeriodText section number other)
no_vcpu_is_told section number none other tells = none tells.host tells.is_host

-- no text says anything of a vCPU that the host hasn't
pub no_such_vcpu_is_told : (section : List ℕ) (number : ℕ) (host : Host) → IsHostText section host
    → slice_get host.vcpus number ≡ None → (other : List ℕ) → ¬ (IsPeriodText section number other)
no_such_vcpu_is_told section number host is_host none other tells =
    let same : tells.host ≡ host = one_host section tells.host host tells.is_host is_host in
    let at : slice_get host.vcpus number ≡ Some tells.vcpu =
    subst (λ (h : Host). slice_get h.vcpus number ≡ Some tells.vcpu) same tells.at in
    let e : ◌≡◌ {A = Option Vcpu} None (Some tells.vcpu) = sym none ∙ at in absurd cc

-- what is said of the host's vCPU of this number is said of this one
pub told_of_it : (section : List ℕ) (number : ℕ) (host : Host) (vcpu : Vcpu) → IsHostText section host
    → slice_get host.vcpus number ≡ Some vcpu → (other : List ℕ) → IsPeriodText section number other
    → IsVcpuText (vcpu_line number (codes "latency_ns") section) vcpu host.tick_ns other
told_of_it section number host vcpu is_host at other tells =
    let same : tells.host ≡ host = one_host section tells.host host tells.is_host is_host in
    let found : slice_get host.vcpus number ≡ Some tells.vcpu =
    subst (λ (h : Host). slice_get h.vcpus number ≡ Some tells.vcpu) same tells.at in
    let both : Some tells.vcpu ≡ Some vcpu = sym found ∙ at in
    let alike : tells.vcpu ≡ vcpu = cc in
    let line = vcpu_line number (codes "latency_ns") section in
    subst (λ (h : Host). IsVcpuText line vcpu h.tick_ns other) same
    (subst (λ (v : Vcpu). IsVcpuText line v tells.host.tick_ns other) alike tells.tells)

-- no text tells of a vCPU without a reservation
pub no_reservation_is_told : (line : Option (ℕ × List ℕ)) (vcpu : Vcpu) (tick : ℕ) → vcpu.reservation ≡ None
    → (other : List ℕ) → ¬ (IsVcpuText line vcpu tick other)
no_reservation_is_told line vcpu tick none other tells =
    let e : ◌≡◌ {A = Option Reservation} None (Some tells.reservation) = sym none ∙ tells.reserved in absurd cc

-- no text says anything of a period of a vCPU whose reservation has one
pub no_period_is_told : (line : Option (ℕ × List ℕ)) (vcpu : Vcpu) (tick : ℕ) (r : Reservation) → vcpu.reservation ≡ Some r
    → HasPeriod r tick → (other : List ℕ) → ¬ (IsVcpuText line vcpu tick other)
no_period_is_told line vcpu tick r reserved has other tells =
    let both : Some tells.reservation ≡ Some r = sym tells.reserved ∙ reserved in
    let same : r ≡ tells.reservation = cc in
    tells.lacks (subst (λ (at : Reservation). HasPeriod at tick) same has)
