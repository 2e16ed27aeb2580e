-- Two values of the same numbers are one, since each fact on the numbers has one proof.
use Rattle.std.proofs.Common.{◌≡◌, ℕ, ◌<◌, ◌≤◌, Bool, List, Option, ap, subst, ◌∙◌}
use Rattle.std.proofs.Props.{props}
use Rattle.std.specs.Option.{ForSome}
use Rattle.tab_core.specs.Period.{IsPeriod}
use Rattle.tab_core.specs.declared.TheConstants.{MAX_CORES, MAX_LATENCY_NS, MAX_SLIVER, MAX_TICK_NS, MAX_VCPUS, MIN_TICK_NS, ROUND, WHOLE_PPM}
use Rattle.tab_core.specs.declared.host.Host.{Host}
use Rattle.tab_core.specs.declared.periodic.Periodic.{Periodic}
use Rattle.tab_core.specs.declared.reservation.Reservation.{Reservation}
use Rattle.tab_core.specs.declared.stint.Stint.{Stint}
use Rattle.tab_core.specs.declared.vcpu.Vcpu.{Vcpu}

-- ---- budgets

-- what a budget keeps of its numbers
record BudgetFacts (cost period : ℕ) : Type 0 where
  pub costs : 1 ≤ cost
  pub within : cost ≤ period
  pub listed : IsPeriod period

-- a budget made of its numbers, so that equal numbers can be put for them
abbrev budget_with : (cost period : ℕ) → BudgetFacts cost period → Periodic
budget_with cost period f = record {
  cost = cost;
  period = period;
  costs = f.costs;
  within = f.within;
  listed = f.listed;
}

-- the facts of a budget that there is
abbrev budget_facts : (a : Periodic) → BudgetFacts a.cost a.period
budget_facts a = record { costs = a.costs; within = a.within; listed = a.listed }

-- the facts have one proof, so they cannot tell two budgets apart
one_budget_proof : (cost period : ℕ) → IsProp (BudgetFacts cost period)
one_budget_proof cost period = hlevel props

-- budgets are compared by their numbers
pub same_budget : (a b : Periodic) → a.cost ≡ b.cost → a.period ≡ b.period → a ≡ b
same_budget a b cost period =
    let At : ℕ → ℕ → Type 0 = λ c p. (f : BudgetFacts c p) → a ≡ budget_with c p f in
    let here : At a.cost a.period =
    λ f. ap (budget_with a.cost a.period) (one_budget_proof a.cost a.period (budget_facts a) f) in
    subst (At b.cost) period (subst (λ c. At c a.period) cost here) (budget_facts b)

-- ---- reservations

-- what a reservation keeps of its numbers
record ReservationFacts (share_ppm latency_ns : ℕ) : Type 0 where
  pub shares : 1 ≤ share_ppm
  pub whole : share_ppm ≤ WHOLE_PPM
  pub bounded : latency_ns ≤ MAX_LATENCY_NS

-- a reservation made of its numbers
abbrev reservation_with : (share_ppm latency_ns : ℕ) → ReservationFacts share_ppm latency_ns → Reservation
reservation_with share_ppm latency_ns f = record {
  share_ppm = share_ppm;
  latency_ns = latency_ns;
  shares = f.shares;
  whole = f.whole;
  bounded = f.bounded;
}

-- the facts of a reservation that there is
abbrev reservation_facts : (a : Reservation) → ReservationFacts a.share_ppm a.latency_ns
reservation_facts a = record { shares = a.shares; whole = a.whole; bounded = a.bounded }

-- they too have one proof
one_reservation_proof : (share_ppm latency_ns : ℕ) → IsProp (ReservationFacts share_ppm latency_ns)
one_reservation_proof share_ppm latency_ns = hlevel props

-- reservations are compared by their numbers
pub same_reservation : (a b : Reservation) → a.share_ppm ≡ b.share_ppm → a.latency_ns ≡ b.latency_ns
    → a ≡ b
same_reservation a b share latency =
    let At : ℕ → ℕ → Type 0 = λ s l. (f : ReservationFacts s l) → a ≡ reservation_with s l f in
    let here : At a.share_ppm a.latency_ns =
    λ f. ap (reservation_with a.share_ppm a.latency_ns)
    (one_reservation_proof a.share_ppm a.latency_ns (reservation_facts a) f) in
    subst (At b.share_ppm) latency (subst (λ s. At s a.latency_ns) share here) (reservation_facts b)

-- ---- vCPUs

-- a vCPU made of its parts, which keeps no fact of its own
abbrev vcpu_with : List ℕ → Option Reservation → Bool → Bool → Vcpu
vcpu_with name reservation runnable capped = record {
  name = name;
  reservation = reservation;
  runnable = runnable;
  capped = capped;
}

-- vCPUs are compared by their parts
pub same_vcpu : (a b : Vcpu) → a.name ≡ b.name → a.reservation ≡ b.reservation → a.runnable ≡ b.runnable
    → a.capped ≡ b.capped → a ≡ b
same_vcpu a b name reservation runnable capped =
    ap (λ n. vcpu_with n a.reservation a.runnable a.capped) name
    ∙ ap (λ r. vcpu_with b.name r a.runnable a.capped) reservation
    ∙ ap (λ r. vcpu_with b.name b.reservation r a.capped) runnable
    ∙ ap (vcpu_with b.name b.reservation b.runnable) capped

-- ---- hosts

-- what a host keeps of its numbers
record HostFacts (tick cores lag sliver quantum : ℕ) : Type 0 where
  pub tick_at_least : MIN_TICK_NS ≤ tick
  pub tick_at_most : tick ≤ MAX_TICK_NS
  pub some_core : 1 ≤ cores
  pub few_cores : cores ≤ MAX_CORES
  pub some_lag : 1 ≤ lag
  pub lag_in_round : lag ≤ ROUND
  pub small_sliver : sliver ≤ MAX_SLIVER
  pub some_quantum : 1 ≤ quantum
  pub quantum_in_round : quantum ≤ ROUND

-- a host made of its numbers and vCPUs
abbrev host_with : (tick cores lag sliver quantum : ℕ) (vcpus : List Vcpu)
    → HostFacts tick cores lag sliver quantum → Host
host_with tick cores lag sliver quantum vcpus f = record {
  tick_ns = tick;
  cores = cores;
  lag = lag;
  sliver = sliver;
  quantum = quantum;
  vcpus = vcpus;
  tick_at_least = f.tick_at_least;
  tick_at_most = f.tick_at_most;
  some_core = f.some_core;
  few_cores = f.few_cores;
  some_lag = f.some_lag;
  lag_in_round = f.lag_in_round;
  small_sliver = f.small_sliver;
  some_quantum = f.some_quantum;
  quantum_in_round = f.quantum_in_round;
}

-- the facts of a host that there is
abbrev host_facts : (host : Host) → HostFacts host.tick_ns host.cores host.lag host.sliver host.quantum
host_facts host = record {
  tick_at_least = host.tick_at_least;
  tick_at_most = host.tick_at_most;
  some_core = host.some_core;
  few_cores = host.few_cores;
  some_lag = host.some_lag;
  lag_in_round = host.lag_in_round;
  small_sliver = host.small_sliver;
  some_quantum = host.some_quantum;
  quantum_in_round = host.quantum_in_round;
}

-- the facts of a host have one proof
one_host_proof : (tick cores lag sliver quantum : ℕ) → IsProp (HostFacts tick cores lag sliver quantum)
one_host_proof tick cores lag sliver quantum = hlevel props

-- hosts are compared by their numbers and vCPUs
pub same_host : (a b : Host) → a.tick_ns ≡ b.tick_ns → a.cores ≡ b.cores → a.lag ≡ b.lag
    → a.sliver ≡ b.sliver → a.quantum ≡ b.quantum → a.vcpus ≡ b.vcpus → a ≡ b
same_host a b tick cores lag sliver quantum vcpus =
    let At : ℕ → ℕ → ℕ → ℕ → ℕ → List Vcpu → Type 0 =
    λ t c l s q vs. (f : HostFacts t c l s q) → a ≡ host_with t c l s q vs f in
    let here : At a.tick_ns a.cores a.lag a.sliver a.quantum a.vcpus =
    λ f. ap (host_with a.tick_ns a.cores a.lag a.sliver a.quantum a.vcpus)
    (one_host_proof a.tick_ns a.cores a.lag a.sliver a.quantum (host_facts a) f) in
    subst (At b.tick_ns b.cores b.lag b.sliver b.quantum) vcpus
    (subst (λ q. At b.tick_ns b.cores b.lag b.sliver q a.vcpus) quantum
    (subst (λ s. At b.tick_ns b.cores b.lag s a.quantum a.vcpus) sliver
    (subst (λ l. At b.tick_ns b.cores l a.sliver a.quantum a.vcpus) lag
    (subst (λ c. At b.tick_ns c a.lag a.sliver a.quantum a.vcpus) cores
    (subst (λ t. At t a.cores a.lag a.sliver a.quantum a.vcpus) tick here))))) (host_facts b)

-- an owner that there may be is small in one way, so values with one are made of their numbers
pub one_owner_proof : (owner : Option ℕ) (x y : ForSome owner (λ v. v < MAX_VCPUS)) → x ≡ y
one_owner_proof owner x y = (let one : IsProp (ForSome owner (λ v. v < MAX_VCPUS)) = hlevel props in one x y)

-- ---- stints

-- a stint made of its parts, so that equal numbers can be put for them
abbrev stint_with : ℕ → ℕ → ℕ → ℕ → (ran : Option ℕ) → ForSome ran (λ v. v < MAX_VCPUS) → Stint
stint_with from end seen used ran small =
    record { from = from; end = end; seen = seen; used = used; ran = ran; ran_small = small }

-- stints whose vCPUs are equal
stint_alike : (a b c d : ℕ) (e e' : Option ℕ) (x : ForSome e (λ v. v < MAX_VCPUS)) → e ≡ e'
    → (y : ForSome e' (λ v. v < MAX_VCPUS)) → stint_with a b c d e x ≡ stint_with a b c d e' y
stint_alike a b c d e e' x is =
    subst (λ (o : Option ℕ). (y : ForSome o (λ v. v < MAX_VCPUS)) → stint_with a b c d e x ≡ stint_with a b c d o y)
    is (λ y. ap (stint_with a b c d e) (one_owner_proof e x y))

-- stints are compared by their numbers and their vCPU
pub same_stint : (s t : Stint) → s.from ≡ t.from → s.end ≡ t.end → s.seen ≡ t.seen → s.used ≡ t.used
    → s.ran ≡ t.ran → s ≡ t
same_stint s t from end seen used ran =
    ap (λ n. stint_with n s.end s.seen s.used s.ran s.ran_small) from
    ∙ ap (λ n. stint_with t.from n s.seen s.used s.ran s.ran_small) end
    ∙ ap (λ n. stint_with t.from t.end n s.used s.ran s.ran_small) seen
    ∙ ap (λ n. stint_with t.from t.end t.seen n s.ran s.ran_small) used
    ∙ stint_alike t.from t.end t.seen t.used s.ran t.ran s.ran_small ran t.ran_small
