-- VMs fit a host or they don't: planning depends on no name. So nobody moves whose host has room for all.
use Rattle.std.proofs.Common.{◌≡◌, ℕ, suc, zero, Bool, List, [], ◌∷◌, ◌++◌, Option, Some, append-nil, arith, length, map, refl, sym, ap, subst, ◌∙◌}
use Rattle.std.proofs.lemmas.List.{length-map}
use Rattle.std.specs.Prelude.{IfSome, slice_get}
use Rattle.tab_core.specs.declared.host.Host.{Host}
use Rattle.tab_core.specs.declared.periodic.Periodic.{Periodic}
use Rattle.tab_core.specs.declared.reservation.Reservation.{Reservation}
use Rattle.tab_core.specs.declared.vcpu.Vcpu.{Vcpu}
use Rattle.period_choice.specs.Choice.{HasPeriod}
use Rattle.period_choice.specs.Tasks.{AreTasksOf, IsTaskOf, LacksPeriod}
use Rattle.worst_fit.specs.Placement.{IsPlacement}
use Rattle.plan_make.specs.Unsplit.{StandUnsplit}
use Rattle.size_fit.specs.Fits.{AreSplit, HasNoPlan, HasNoRoom, NoPeriod, NoRoom, Split, Unplanned}
use Rattle.fleet_place.specs.Fits.{FitsHost, FitsNot, Refused, TooMany, TooMuch}
use Rattle.fleet_place.specs.Held.{Held}
use Rattle.fleet_place.specs.Stays.{IsStay}
use Rattle.fleet_place.specs.declared.group.Group.{Group}
use Rattle.fleet_place.specs.declared.policy.Policy.{Policy}
use Rattle.fleet_place.specs.declared.vm.Vm.{Vm}

abbrev pub asks : List Vcpu → List (Option Reservation)
asks vcpus = map (λ (v : Vcpu). v.reservation) vcpus

-- the vCPU at a place of other vCPUs that ask for as much
record AsksAt (vcpus : List Vcpu) (n : ℕ) (vcpu : Vcpu) : Type 0 where
  other : Vcpu
  at : slice_get vcpus n ≡ Some other
  alike : other.reservation ≡ vcpu.reservation

asks_at : (xs ys : List Vcpu) (n : ℕ) (x : Vcpu) → asks xs ≡ asks ys → slice_get xs n ≡ Some x → AsksAt ys n x
asks_at [] ys n x alike at = absurd cc
asks_at (a ∷ xs) [] n x alike at = absurd cc
asks_at (a ∷ xs) (b ∷ ys) zero x alike at =
    let is : a ≡ x = cc in
    let head : a.reservation ≡ b.reservation = cc in
    record { other = b; at = refl; alike = sym head ∙ ap (λ (v : Vcpu). v.reservation) is }
asks_at (a ∷ xs) (b ∷ ys) (suc n) x alike at =
    let tail : asks xs ≡ asks ys = cc in
    let rec = asks_at xs ys n x tail at in
    record { other = rec.other; at = rec.at; alike = rec.alike }

-- one host has the tasks of another that asks for as much
tasks_alike : (a b : Host) (tasks : List (Option Periodic)) → a.tick_ns ≡ b.tick_ns → asks a.vcpus ≡ asks b.vcpus
    → AreTasksOf a tasks → AreTasksOf b tasks
tasks_alike a b tasks tick alike are = record {
  as_many = are.as_many ∙ (sym (length-map a.vcpus (λ (v : Vcpu). v.reservation))
      ∙ (ap length alike ∙ length-map b.vcpus (λ (v : Vcpu). v.reservation)));
  each = λ number vcpu task at task_at.
      let mine = asks_at b.vcpus a.vcpus number vcpu (sym alike) at in
      subst (λ t. IsTaskOf vcpu.reservation t task) tick
      (subst (λ r. IsTaskOf r a.tick_ns task) mine.alike (are.each number mine.other task mine.at task_at));
}

-- one host is refused where another is that asks for as much
refused_too : (a b : Host) → a.tick_ns ≡ b.tick_ns → a.cores ≡ b.cores → asks a.vcpus ≡ asks b.vcpus
    → HasNoPlan a → HasNoPlan b
refused_too a b tick cores alike (NoPeriod number first) =
    let mine = asks_at a.vcpus b.vcpus number first.vcpu alike first.at in
    NoPeriod number record {
      vcpu = mine.other;
      at = mine.at;
      lacks = subst (λ t. LacksPeriod mine.other.reservation t) tick
          (subst (λ r. LacksPeriod r a.tick_ns) (sym mine.alike) first.lacks);
      lowest = λ lower other less at.
          let theirs = asks_at b.vcpus a.vcpus lower other (sym alike) at in
          subst (λ t. IfSome other.reservation (λ r. HasPeriod r t)) tick
          (subst (λ o. IfSome o (λ r. HasPeriod r a.tick_ns)) theirs.alike
          (first.lowest lower theirs.other less theirs.at));
    }
refused_too a b tick cores alike (NoRoom number rest over stuck) = NoRoom number rest over record {
  tasks = stuck.tasks;
  placed = stuck.placed;
  start = stuck.start;
  is_start = record {
    tasks_are = tasks_alike a b stuck.tasks tick alike stuck.is_start.tasks_are;
    placement = subst (λ n. IsPlacement stuck.tasks n stuck.placed) cores stuck.is_start.placement;
    stand = subst (λ n. StandUnsplit stuck.tasks stuck.placed.core_of n stuck.start) cores stuck.is_start.stand;
  };
  stuck = stuck.stuck;
}

-- a plan of one host splits the vCPUs that a plan of another splits which asks for as much
split_too : (a b : Host) (vcpus : List ℕ) → a.tick_ns ≡ b.tick_ns → a.cores ≡ b.cores → asks a.vcpus ≡ asks b.vcpus
    → AreSplit a vcpus → AreSplit b vcpus
split_too a b vcpus tick cores alike split = record {
  tasks = split.tasks;
  placed = split.placed;
  tasks_are = tasks_alike a b split.tasks tick alike split.tasks_are;
  placement = subst (λ n. IsPlacement split.tasks n split.placed) cores split.placement;
  left = split.left;
}

-- one host has no room where another has none that asks for as much
no_room_too : (no_split : Bool) (a b : Host) → a.tick_ns ≡ b.tick_ns → a.cores ≡ b.cores → asks a.vcpus ≡ asks b.vcpus
    → HasNoRoom no_split a → HasNoRoom no_split b
no_room_too no_split a b tick cores alike (Unplanned why) = Unplanned (refused_too a b tick cores alike why)
no_room_too no_split a b tick cores alike (Split vcpus whole split some) =
    Split vcpus whole (split_too a b vcpus tick cores alike split) some

-- VMs that fit a host have no reason not to
pub never_both : (policy : Policy) (cores : ℕ) (vms : List Vm) → FitsHost policy cores vms → FitsNot policy cores vms → ⊥
never_both policy cores vms fits (TooMuch much) = absurd (omega (arith, much, fits.load))
never_both policy cores vms fits (TooMany many) = absurd (omega (arith, many, fits.count))
never_both policy cores vms fits (Refused refused) =
    let is = fits.accepted.is in
    fits.accepted.planned (no_room_too policy.no_split refused.host fits.accepted.host (refused.is.tick_ns ∙ sym is.tick_ns)
    (refused.is.cores_are ∙ sym is.cores_are) (refused.is.reserved ∙ sym (ap asks is.vcpus_are)) refused.refused)

-- nobody moves whose host has room for all that were there
pub nobody_moves : (policy : Policy) (group : Group) (held : Held) (moved : List Vm) → IsStay policy group held moved
    → FitsHost policy group.cores group.vms.items → moved ≡ []
nobody_moves policy group held [] is fits = refl
nobody_moves policy group held (vm ∷ moved) is fits =
    let not : FitsNot policy held.cores (held.vms ++ vm ∷ moved) =
    is.longest (vm ∷ moved) [] (sym (append-nil (vm ∷ moved))) (omega arith) in
    let all : FitsNot policy group.cores group.vms.items =
    subst (λ n. FitsNot policy n group.vms.items) is.cores_are
    (subst (λ vms. FitsNot policy held.cores vms) (sym is.parts) not) in
    absurd (never_both policy group.cores group.vms.items fits all)
