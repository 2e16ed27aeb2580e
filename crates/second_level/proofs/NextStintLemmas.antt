-- A core always has a next stint: somebody is picked or nobody is eligible, and each span ends. It is
-- shown here, so that no code has to search a stint in order to show it.
use Rattle.std.proofs.Common.{◌≡◌, ◌≢◌, ◌⊎◌, ℕ, zero, suc, ◌+◌, ◌-◌, ◌%◌, ◌<◌, ◌≤◌, inl, inr, Bool, true, false, List, length, Option, Some, None, refl, ap, sym, ◌∙◌, arith}
use Rattle.std.specs.Prelude.{IsTrue, slice_get}
use Rattle.std.specs.Option.{ForSome}
use Rattle.std.proofs.lemmas.Bool.{cases_lt, false_from_ne_true, true≢false}
use Rattle.std.proofs.lemmas.Option.{slice_get_within}
use Rattle.tab_core.specs.declared.TheConstants.{MAX_VCPUS, ROUND}
use Rattle.tab_core.specs.declared.stint.Stint.{Stint}
use Rattle.tab_core.specs.Least.{IsLeast}
use Rattle.tab_core.specs.VcpuSets.{has_vcpu}
use Rattle.table_form.specs.Running.Choice.{IsChoice, IsDispatch, IsEligible, IsPick, after_last, last_shared, owner_runs, runs_other, stint_end}
use Rattle.table_form.specs.Running.Courses.{CourseView, plan_after, runnable_after}
use Rattle.table_form.specs.Tables.Plans.{PlanView}
use Rattle.table_form.specs.Tables.Serves.{owner_at}
use Rattle.table_form.specs.Tables.Spans.{IsSharer}
use Rattle.table_form.specs.Tables.Spots.{IsAway, SameSpot, IsSpanEnd}
use Rattle.table_form.proofs.SpotLemmas.{owner_within, same_spot}

-- cores are compared by number
same_number : (a b : ℕ) → (a ≡ b) ⊎ (a ≢ b)
same_number a b = elim (cases_lt a b) [
  | inl lt ↦ inr (λ e. absurd (omega arith))
  | inr le ↦ elim (cases_lt b a) [ inl lt ↦ inr (λ e. absurd (omega arith)) | inr le' ↦ inl (omega arith) ]
]

-- owners are compared
same_owner : (a b : Option ℕ) → (a ≡ b) ⊎ (a ≢ b)
same_owner None None = inl refl
same_owner None (Some w) = inr (λ e. absurd cc)
same_owner (Some v) None = inr (λ e. absurd cc)
same_owner (Some v) (Some w) =
    elim (same_number v w) [ inl e ↦ inl (ap Some e) | inr ne ↦ inr (λ e. absurd (ne cc)) ]

-- membership of a set can be tested
is_true : (b : Bool) → IsTrue b ⊎ (IsTrue b → ⊥)
is_true true = inl refl
is_true false = inr (λ h. absurd cc)

-- whether a place is a vCPU's home can be tested
is_home : (o : Option (Option ℕ)) (c : ℕ) → (o ≡ Some (Some c)) ⊎ (o ≢ Some (Some c))
is_home None c = inr (λ e. absurd cc)
is_home (Some None) c = inr (λ e. absurd cc)
is_home (Some (Some d)) c =
    elim (same_number d c) [ inl e ↦ inl (ap (λ (x : ℕ). Some (Some x)) e) | inr ne ↦ inr (λ e. absurd (ne cc)) ]

-- what can be tested of each number can be searched below a number
some_below : (P : ℕ → Type 0) → ((k : ℕ) → P k ⊎ (P k → ⊥)) → (n : ℕ)
    → ((k : ℕ) × P k) ⊎ ((k : ℕ) → k < n → P k → ⊥)
some_below P test zero = inr (λ k lt p. absurd (omega arith))
some_below P test (suc n) = elim (test n) [
  | inl p ↦ inl (n, p)
  | inr isnt ↦ elim (some_below P test n) [
    | inl found ↦ inl found
    | inr none ↦ inr (λ k lt p. elim (same_number k n) [
      | inl e ↦ isnt (rw (← e) p)
      | inr ne ↦ none k (omega arith) p
    ])
  ]
]

-- the core is another, and its row has the vCPU at the place
abbrev IsElsewhere : PlanView → ℕ → ℕ → ℕ → ℕ → Type 0
IsElsewhere plan c place v d = (d ≢ c) × (owner_at plan.rows d place ≡ Some v)

-- that can be tested
is_elsewhere : (plan : PlanView) (c place v d : ℕ)
    → IsElsewhere plan c place v d ⊎ (IsElsewhere plan c place v d → ⊥)
is_elsewhere plan c place v d = elim (same_number d c) [
  | inl e ↦ inr (λ is. is.0 e)
  | inr ne ↦ elim (same_owner (owner_at plan.rows d place) (Some v)) [
    | inl stands ↦ inl (ne, stands)
    | inr isnt ↦ inr (λ is. isnt is.1)
  ]
]

-- whether a vCPU is away is found by search over the rows
is_away : (plan : PlanView) (c place v : ℕ) → IsAway plan c place v ⊎ (IsAway plan c place v → ⊥)
is_away plan c place v = elim (is_home (slice_get plan.homes v) c) [
  | inr isnt ↦ inr (λ a. isnt a.home)
  | inl home ↦ elim (some_below (IsElsewhere plan c place v) (is_elsewhere plan c place v) (length plan.rows)) [
    | inl found ↦ inl (record {
      home = home;
      other = found.0;
      elsewhere = found.1.0;
      stands = found.1.1;
    })
    | inr none ↦ inr (λ a. none a.other (owner_within plan.rows a.other place v a.stands) (a.elsewhere, a.stands))
  ]
]

-- who may share a place can be tested
is_sharer : (plan : PlanView) (c place v : ℕ) → IsSharer plan c place v ⊎ (IsSharer plan c place v → ⊥)
is_sharer plan c place v = elim (is_home (slice_get plan.homes v) c) [
  | inr isnt ↦ inr (λ s. isnt s.home)
  | inl home ↦ elim (same_owner (owner_at plan.rows c place) (Some v)) [
    | inl owns ↦ inr (λ s. s.no_owner owns)
    | inr no_owner ↦ elim (is_away plan c place v) [
      | inl a ↦ inr (λ s. s.here a.other a.elsewhere a.stands)
      | inr here ↦ elim (is_true (has_vcpu plan.capped v)) [
        | inl capped ↦ inr (λ s. true≢false (sym capped ∙ s.uncapped))
        | inr isnt ↦ inl (record {
          home = home;
          uncapped = false_from_ne_true (has_vcpu plan.capped v) isnt;
          no_owner = no_owner;
          here = λ d ne is. here (record { home = home; other = d; elsewhere = ne; stands = is });
        })
      ]
    ]
  ]
]

-- who is eligible can be tested
is_eligible : (plan : PlanView) (c place : ℕ) (runnable : List Bool) (v : ℕ)
    → IsEligible plan c place runnable v ⊎ (IsEligible plan c place runnable v → ⊥)
is_eligible plan c place runnable v = elim (cases_lt v MAX_VCPUS) [
  | inr le ↦ inr (λ e. (let n = e.number in absurd (omega arith)))
  | inl number ↦ elim (is_true (has_vcpu runnable v)) [
    | inr isnt ↦ inr (λ e. isnt e.ready)
    | inl ready ↦ elim (is_sharer plan c place v) [
      | inr isnt ↦ inr (λ e. isnt e.sharer)
      | inl sharer ↦ inl (record { number = number; ready = ready; sharer = sharer })
    ]
  ]
]

-- the least number of those from one on is found by search
least_from : (P : ℕ → Type 0) → ((k : ℕ) → P k ⊎ (P k → ⊥)) → (from n : ℕ)
    → ((v : ℕ) × IsLeast P from v) ⊎ ((w : ℕ) → P w → from ≤ w → w < from + n → ⊥)
least_from P test from zero = inr (λ w p low lt. absurd (omega arith))
least_from P test from (suc n) = elim (test from) [
  | inl p ↦ inl (from, record { holds = p; high = omega arith; first = λ w q low. low })
  | inr isnt ↦ elim (least_from P test (suc from) n) [
    | inl found ↦ inl (
      found.0,
      record {
        holds = found.1.holds;
        high = (let high = found.1.high in omega arith);
        first = λ w q low. elim (same_number from w) [
          | inl e ↦ absurd (isnt (rw e q))
          | inr ne ↦ found.1.first w q (omega arith)
        ];
      },
    )
    | inr none ↦ inr (λ w q low lt. elim (same_number from w) [
      | inl e ↦ isnt (rw e q)
      | inr ne ↦ none w q (omega arith) (omega arith)
    ])
  ]
]

-- of numbers that are small there is a pick
some_pick : (P : ℕ → Type 0) → ((k : ℕ) → P k ⊎ (P k → ⊥)) → (n : ℕ) → ((k : ℕ) → P k → k < n)
    → (last : Option ℕ) → (ran : Option ℕ) × IsPick P last ran
some_pick P test n small last = elim (least_from P test (after_last last) n) [
  | inl found ↦ (Some found.0, inl found.1)
  | inr none ↦ elim (least_from P test 0 n) [
    | inl found ↦ (
      Some found.0,
      inr ((λ w q low. none w q low (let lt = small w q in omega arith)), found.1),
    )
    | inr nobody ↦ (None, λ v q. nobody v q (omega arith) (let lt = small v q in omega arith))
  ]
]

-- whom a core runs is settled
some_choice : (plan : PlanView) (c place : ℕ) (runnable : List Bool) (last : Option ℕ)
    → (ran : Option ℕ) × IsChoice plan c place runnable last ran
some_choice plan c place runnable last = go (owner_runs (owner_at plan.rows c place) runnable) refl
  where
    go : (r : Bool) → owner_runs (owner_at plan.rows c place) runnable ≡ r
        → (ran : Option ℕ) × IsChoice plan c place runnable last ran
    go true is = (owner_at plan.rows c place, record { slot = λ runs. refl; shared = λ waits. absurd cc })
    go false is =
        let pick = some_pick (IsEligible plan c place runnable) (is_eligible plan c place runnable)
        MAX_VCPUS (λ v e. e.number) last in
        (pick.0, record { slot = λ runs. absurd cc; shared = λ waits. pick.1 })

-- whoever is chosen has a small number, where owners have
chosen_small : (plan : PlanView) (c place : ℕ) (runnable : List Bool) (last ran : Option ℕ)
    → ((v : ℕ) → owner_at plan.rows c place ≡ Some v → v < MAX_VCPUS)
    → IsChoice plan c place runnable last ran → ForSome ran (λ v. v < MAX_VCPUS)
chosen_small plan c place runnable last ran small choice =
    go (owner_runs (owner_at plan.rows c place) runnable) refl
  where
    picked : (v : ℕ) → IsPick (IsEligible plan c place runnable) last (Some v) → v < MAX_VCPUS
    picked v pick = elim pick [ inl least ↦ least.holds.number | inr round ↦ round.1.holds.number ]

    go : (r : Bool) → owner_runs (owner_at plan.rows c place) runnable ≡ r
        → ForSome ran (λ v. v < MAX_VCPUS)
    go true is = λ v at. small v (sym (choice.slot is) ∙ at)
    go false is = λ v at. picked v (rw at at choice.shared is)

-- for `is_like`: whether each vCPU that is away at the one place is so at the other
are_away : (plan : PlanView) (c x y : ℕ) → ((v : ℕ) → IsAway plan c x v → IsAway plan c y v)
    ⊎ (((v : ℕ) → IsAway plan c x v → IsAway plan c y v) → ⊥)
are_away plan c x y =
    elim (some_below (λ v. IsAway plan c x v × (IsAway plan c y v → ⊥)) test (length plan.homes)) [
      | inl found ↦ inr (λ all. found.1.1 (all found.0 found.1.0))
      | inr none ↦ inl (λ v a. elim (is_away plan c y v) [
        | inl b ↦ b
        | inr isnt ↦ absurd (none v (slice_get_within plan.homes v (Some c) a.home) (a, isnt))
      ])
    ]
  where
    test : (v : ℕ) → (IsAway plan c x v × (IsAway plan c y v → ⊥))
        ⊎ ((IsAway plan c x v × (IsAway plan c y v → ⊥)) → ⊥)
    test v = elim (is_away plan c x v) [
      | inr isnt ↦ inr (λ both. isnt both.0)
      | inl a ↦ elim (is_away plan c y v) [ inl b ↦ inr (λ both. both.1 b) | inr isnt ↦ inl (a, isnt) ]
    ]

-- whether two places are alike can be tested
is_like : (plan : PlanView) (c x y : ℕ) → SameSpot plan c x y ⊎ (SameSpot plan c x y → ⊥)
is_like plan c x y = elim (same_owner (owner_at plan.rows c x) (owner_at plan.rows c y)) [
  | inr differs ↦ inr (λ s. differs s.owner)
  | inl owner ↦ elim (are_away plan c x y) [
    | inr differs ↦ inr (λ s. differs s.away)
    | inl away ↦ elim (are_away plan c y x) [
      | inr differs ↦ inr (λ s. differs s.back)
      | inl back ↦ inl (record { owner = owner; away = away; back = back })
    ]
  ]
]

-- for `some_end`: the search goes on from a place up to which all are alike
end_from : (plan : PlanView) (c place end n : ℕ) → place < end → end + n ≡ ROUND
    → ((x : ℕ) → place ≤ x → x < end → SameSpot plan c place x) → (e : ℕ) × IsSpanEnd plan c place e
end_from plan c place end zero after sum alike =
    (end, record { after = after; within = omega arith; alike = alike; maximal = inl (omega arith) })
end_from plan c place end (suc n) after sum alike = elim (is_like plan c place end) [
  | inr differs ↦ (
    end,
    record { after = after; within = omega arith; alike = alike; maximal = inr differs },
  )
  | inl like ↦ end_from plan c place (suc end) n (omega arith) (omega arith)
      (λ x low lt. elim (same_number end x) [
        | inl e ↦ rw e at like
        | inr ne ↦ alike x low (omega arith)
      ])
]

-- each span ends
some_end : (plan : PlanView) (c place : ℕ) → place < ROUND → (e : ℕ) × IsSpanEnd plan c place e
some_end plan c place lt = end_from plan c place (suc place) (ROUND - suc place) (omega arith) (omega arith)
    (λ x low less. same_spot plan c place x
    (λ d. (let e : place ≡ x = omega arith in ap (λ (y : ℕ). owner_at plan.rows d y) e)))

-- the stint that comes next by these counts, where owners have small numbers
pub some_stint : (course : CourseView) (c : ℕ) (earlier : List Stint) (from seen used : ℕ)
    → ((v : ℕ) → owner_at (plan_after course used).rows c (from % ROUND) ≡ Some v → v < MAX_VCPUS)
    → (s : Stint) × (s.from ≡ from) × (s.seen ≡ seen) × (s.used ≡ used) × IsDispatch course c earlier s
some_stint course c earlier from seen used small =
    let plan : PlanView = plan_after course used in
    let place = from % ROUND in
    let last = last_shared course c earlier in
    let runnable = runnable_after course seen in
    let chosen = some_choice plan c place runnable last in
    let span = some_end plan c place (omega arith) in
    let stint : Stint = record {
      from = from;
      end = stint_end course from span.0 (runs_other (owner_at plan.rows c place) chosen.0);
      seen = seen;
      used = used;
      ran = chosen.0;
      ran_small = chosen_small plan c place runnable last chosen.0 small chosen.1;
    } in
    (stint, refl, refl, refl, record { choice = chosen.1; span_end = span.0; span = span.1; end = refl })
