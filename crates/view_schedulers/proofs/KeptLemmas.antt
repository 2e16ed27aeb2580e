-- What it says of a plan that it has no fault.
use Rattle.std.proofs.Common.{◌≡◌, ℕ, ◌≤◌, ◌&&◌, ◌||◌, Bool, true, false, not, if◌then◌else◌, List, length, Option, Some, None, refl, sym, arith}
use Rattle.std.specs.Prelude.{IfNone, nat_le, nat_lt, slice_get}
use Rattle.std.proofs.lemmas.Bool.{le-leb, leb-true, not-false}
use Rattle.std.proofs.lemmas.Option.{slice_get_within}
use Rattle.tab_core.specs.declared.TheConstants.{MAX_CORES}
use Rattle.tab_core.specs.declared.reservation.Reservation.{Reservation}
use Rattle.tab_core.specs.declared.vcpu.Vcpu.{Vcpu}
use Rattle.vcpu_names.specs.Names.{name_at}
use Rattle.view_doc.specs.declared.view.Stretch.{Stretch}
use Rattle.view_doc.specs.declared.view.Task.{Task}
use Rattle.view_schedulers.specs.declared.scheduler.Scheduler.{Scheduler}
use Rattle.view_schedulers.specs.declared.scheduler.Scheduler.TheVariants.{Rtds, Deadline, FullDeadline, Quota}
use Rattle.view_schedulers.specs.declared.unkept.Unkept.{Unkept}
use Rattle.view_schedulers.specs.declared.unkept.Unkept.TheVariants.{NoGuest, NoTask, OutOfRange, RoundedOut, NotKept, Overbooked}
use Rattle.view_schedulers.specs.Budgets.{bounds_wait, budget_on, has_budget, is_task, is_within, least_budget, least_period, parts_given, parts_of, period_on, unit_of}
use Rattle.view_schedulers.specs.Guests.{has_guest}
use Rattle.view_schedulers.specs.Reserved.{is_reservation_kept, reserved_of}
use Rattle.view_schedulers.specs.Supply.{IsKeptThere, IsVcpuKept}
use Rattle.view_schedulers.specs.Unkept.{core_fault, kept_fault, split_fault, task_fault, unkept_in, unkept_vcpu}
use Rattle.view_schedulers.proofs.FaultLemmas.{neither, none_has}
use Rattle.view_schedulers.proofs.RoomLemmas.{room}
use Rattle.view_schedulers.proofs.SupplyLemmas.{keeps_share, keeps_wait}

-- a test that found no fault
passed : (b : Bool) (fault : Unkept) (rest : Option Unkept) → (if b then Some fault else rest) ≡ None
    → (b ≡ false) × (rest ≡ None)
passed true fault rest h = absurd cc
passed false fault rest h = (refl, h)

held : (b : Bool) (fault : Unkept) → (if b then None else Some fault) ≡ None → b ≡ true
held true fault h = refl
held false fault h = absurd cc

both : (a b : Bool) → (a && b) ≡ true → (a ≡ true) × (b ≡ true)
both true b h = (refl, h)
both false b h = absurd cc

-- schedulers take no period and no budget of nothing
some_period : (s : Scheduler) → 1 ≤ least_period s
some_period Rtds = omega arith
some_period Deadline = omega arith
some_period FullDeadline = omega arith
some_period Quota = omega arith

some_budget : (s : Scheduler) → 1 ≤ least_budget s
some_budget Rtds = omega arith
some_budget Deadline = omega arith
some_budget FullDeadline = omega arith
some_budget Quota = omega arith

-- where waits are bounded, the second is so
bounded : (b c : Bool) → b ≡ true → (not b || c) ≡ true → c ≡ true
bounded true c h k = k
bounded false c h k = absurd cc

-- what a task without a fault has
record IsSound (s : Scheduler) (tick : ℕ) (host : List Vcpu) (name : List ℕ) (t : Task) : Type 0 where
  taken : has_budget s tick t ≡ true
  period : 1 ≤ period_on s tick t
  budget : 1 ≤ budget_on s tick t
  within : budget_on s tick t ≤ period_on s tick t
  reservation : Reservation
  reserved : reserved_of host name ≡ Some reservation
  kept : is_reservation_kept s (period_on s tick t) (budget_on s tick t) reservation ≡ true

reserved_there : (s : Scheduler) (v period budget : ℕ) (o : Option Reservation)
    → kept_fault s v period budget o ≡ None → (r : Reservation) × (o ≡ Some r) × (is_reservation_kept s period budget r ≡ true)
reserved_there s v period budget None h = absurd cc
reserved_there s v period budget (Some r) h = (r, refl, held (is_reservation_kept s period budget r) (NotKept v) h)

not_less : (a b : ℕ) → nat_lt a b ≡ false → b ≤ a
not_less a b h = grind (arith)

sound : (s : Scheduler) (tick : ℕ) (host : List Vcpu) (v : ℕ) (name : List ℕ) (t : Task)
    → task_fault s tick host v name t ≡ None → IsSound s tick host name t
sound s tick host v name t h =
    let guest = passed (not (has_guest name)) (NoGuest v) _ h in
    let task = passed (not (is_task t)) (NoTask v) _ guest.1 in
    let range = passed (not (is_within s (period_on s tick t) (budget_on s tick t))) (OutOfRange v) _ task.1 in
    let less = passed (nat_lt (period_on s tick t) (budget_on s tick t)) (RoundedOut v) _ range.1 in
    let there = reserved_there s v (period_on s tick t) (budget_on s tick t) (reserved_of host name) less.1 in
    let is : is_task t ≡ true = not-false (is_task t) task.0 in
    let in_range : is_within s (period_on s tick t) (budget_on s tick t) ≡ true = not-false _ range.0 in
    let order : budget_on s tick t ≤ period_on s tick t = not_less _ _ less.0 in
    let fits : nat_le (budget_on s tick t) (period_on s tick t) ≡ true = le-leb _ _ order in
    let first = both (nat_le (least_period s) (period_on s tick t)) _ in_range in
    let second = both _ (nat_le (least_budget s) (budget_on s tick t)) first.1 in
    let low : least_period s ≤ period_on s tick t = leb-true _ _ first.0 in
    let high : least_budget s ≤ budget_on s tick t = leb-true _ _ second.1 in
    let p = some_period s in
    let b = some_budget s in
    record {
      taken = rw (is, in_range, fits) refl;
      period = omega arith;
      budget = omega arith;
      within = order;
      reservation = there.0;
      reserved = there.1;
      kept = there.2;
    }

-- such a task's reservation is kept
kept_vcpu : (s : Scheduler) (tick : ℕ) (host : List Vcpu) (name : List ℕ) (t : Task)
    → IsSound s tick host name t → IsVcpuKept s tick host name t
kept_vcpu s tick host name t is =
    let parts = both _ _ is.kept in
    record {
      reservation = is.reservation;
      reserved = is.reserved;
      share = keeps_share (period_on s tick t) (budget_on s tick t) is.reservation (leb-true _ _ parts.0);
      wait = λ bounds. keeps_wait (unit_of s) (period_on s tick t) (budget_on s tick t) is.reservation is.budget
          is.within (leb-true _ _ (bounded (bounds_wait s) _ bounds parts.1));
    }

-- a plan without a fault is kept
pub kept_there : (s : Scheduler) (tick : ℕ) (host : List Vcpu) (names : List (List ℕ)) (tasks : List Task)
    (slots : List Stretch) → unkept_in s tick host names tasks slots ≡ None
    → IsKeptThere s tick host names tasks
kept_there s tick host names tasks slots h =
    let first = neither _ _ h in
    let second = neither (split_fault tasks slots) _ first.1 in
    let one : (v : ℕ) (t : Task) → slice_get tasks v ≡ Some t → IsSound s tick host (name_at names v) t =
    λ v t at.
    (let low = slice_get_within tasks v t at in
    let none = none_has (unkept_vcpu s tick host names tasks) (length tasks) v first.0 low in
    sound s tick host v (name_at names v) t (rw at at none)) in
    record {
      each = λ v t at. kept_vcpu s tick host (name_at names v) t (one v t at);
      room = λ core time low common.
          (let none = none_has (core_fault s tick tasks) MAX_CORES core second.1 low in
          let most = passed (nat_lt (parts_of s) (parts_given s tick core tasks)) (Overbooked core) None none in
          room s tick core time tasks (λ v t at. ((one v t at).taken, (one v t at).period))
          (not_less _ _ most.0) common);
    }

-- whatever is found, it is kept where that is nothing
pub kept_where : (s : Scheduler) (tick : ℕ) (host : List Vcpu) (names : List (List ℕ)) (tasks : List Task)
    (slots : List Stretch) (found : Option Unkept) → found ≡ unkept_in s tick host names tasks slots
    → IfNone found (IsKeptThere s tick host names tasks)
kept_where s tick host names tasks slots None h = kept_there s tick host names tasks slots (sym h)
kept_where s tick host names tasks slots (Some fault) h = tt
