-- The pending jobs of a core, whose keys fall, are those of the pieces that still have to get
-- ticks.
use Rattle.std.proofs.Common.{◌≡◌, ◌≢◌, ℕ, zero, suc, ◌+◌, ◌-◌, ◌*◌, ◌<◌, ◌≤◌, List, [], ◌∷◌, Some, length, get_or, replicate, set, slice_get, refl, ap, subst, sym, ◌∙◌, inl, inr, arith, length-set, get_or-set_same, get_or-set_other}
use Rattle.std.proofs.Math.Nat.{mul-le-mul_left}
use Rattle.std.proofs.lemmas.Bool.{cases_eq, cases_lt, le-ltb, lt-ltb}
use Rattle.std.proofs.lemmas.List.{get_or-replicate}
use Rattle.std.proofs.lemmas.Option.{none-some, same_Some, slice_get-get_or}
use Rattle.tab_core.specs.declared.TheConstants.{MAX_VCPUS, ROUND}
use Rattle.tab_core.specs.declared.piece.Piece.{Piece}
use Rattle.table_form.specs.Planning.Windows.{DistinctVcpus}
use Rattle.edf_table.specs.declared.pending.Pending.{Pending}
use Rattle.table_form.specs.Planning.Demand.{Fits}
use Rattle.table_form.specs.Planning.Jobs.{jobs_of}
use Rattle.edf_table.specs.Inside.Progress.{ArePending, ArePiecesKept, AreTimely, IsDueFirst, IsJobInserted, IsJobOf, IsMostUrgent, IsPieceKept, IsUnderWay, ServedBelow, SomeMissed, due_at, goal_of, job_at, urgency_key}
use Rattle.edf_table.proofs.Calm.{NoneReady}
use Rattle.edf_table.proofs.Few.{AreAmong, few_pieces, fewer_pieces}
use Rattle.edf_table.proofs.Kept.{all_kept_later, due_next, goal_next, kept_apart, kept_due, kept_missed, kept_ready, kept_served, ready_goal, some_piece}
use Rattle.edf_table.proofs.Misses.{fits_served}
use Rattle.edf_table.proofs.Steps.{counted_start, distinct_at, met_more_any}

-- what is read beyond the jobs
abbrev no_job : Pending
no_job = record { key = 0; left = 0 }

-- the key of a piece that still has to get ticks is by the end of its window
key_is : (p : Piece) (tick next : ℕ) → IsPieceKept p (tick + 1) (tick + 1) next → 0 < goal_of p next
    → urgency_key p next ≡ due_at p tick * MAX_VCPUS + p.vcpu
key_is p tick next kept some = ap (λ due. due * MAX_VCPUS + p.vcpu) (kept_due p tick next kept some)

-- a lower key is more urgent
due_by_key : (a b : Piece) (tick : ℕ) →
    due_at a tick * MAX_VCPUS + a.vcpu ≤ due_at b tick * MAX_VCPUS + b.vcpu → IsDueFirst tick a b
due_by_key a b tick le = elim (cases_lt (due_at a tick) (due_at b tick)) [
  | inl earlier ↦ inl earlier
  | inr above ↦ inr (omega (arith, b.vcpu_small), omega (arith, b.vcpu_small))
]

-- the last of the jobs has the least key
last_least : (ps : List Piece) (gs ns : List ℕ) (jobs : List Pending) (count j : ℕ)
    → ArePending ps gs ns jobs count → j < count → (job_at jobs (count - 1)).key ≤ (job_at jobs j).key
last_least ps gs ns jobs count j pending lt = elim (cases_lt j (count - 1)) [
  | inl before ↦ omega (arith, pending.falling j (count - 1) before (omega arith))
  | inr last ↦ (let same : j ≡ count - 1 = omega arith in
      subst (λ k. (job_at jobs (count - 1)).key ≤ (job_at jobs k).key) (sym same) (omega arith))
]

-- the piece of the last job is the most urgent
pub urgent_by_key : (ps : List Piece) (gs ns : List ℕ) (jobs : List Pending) (count tick event i : ℕ)
    → ArePiecesKept ps ns (length ps) (tick + 1) event → tick < event → ArePending ps gs ns jobs count
    → 0 < count → IsJobOf ps gs ns (job_at jobs (count - 1)) i → IsMostUrgent ps gs tick (length ps) i
urgent_by_key ps gs ns jobs count tick event i kept' before pending some job =
    let kept = all_kept_later ps ns (length ps) (tick + 1) (tick + 1) event (tick + 1) kept' (omega arith)
    (omega arith) in
    record {
      in_range = job.in_range;
      ready = λ d.
          sym (kept_ready (get_or ps i d) (get_or gs i 0) tick (get_or ns i 0) (kept i d job.in_range))
          ∙ lt-ltb _ _ (omega (arith, job.left_is d, job.some));
      first = λ k d k-in ready.
          (let here = key_is (get_or ps i d) tick (get_or ns i 0) (kept i d job.in_range)
          (omega (arith, job.left_is d, job.some)) in
          let short = ready_goal (get_or ps k d) (get_or gs k 0) tick (get_or ns k 0) (kept k d k-in) ready in
          let there = key_is (get_or ps k d) tick (get_or ns k 0) (kept k d k-in) (omega (arith, short)) in
          let place = pending.all k d k-in short in
          let least = last_least ps gs ns jobs count place.0 pending place.1 in
          due_by_key (get_or ps i d) (get_or ps k d) tick (omega (arith, job.key_is d, place.2)));
    }

-- without a job no piece is ready
pub none_by_key : (ps : List Piece) (gs ns : List ℕ) (jobs : List Pending) (count tick event : ℕ)
    → ArePiecesKept ps ns (length ps) (tick + 1) event → tick < event → ArePending ps gs ns jobs count
    → count ≡ 0 → NoneReady ps gs tick
none_by_key ps gs ns jobs count tick event kept' before pending none i d i-in =
    let kept = all_kept_later ps ns (length ps) (tick + 1) (tick + 1) event (tick + 1) kept' (omega arith)
    (omega arith) in
    let p = get_or ps i d in
    let next = get_or ns i 0 in
    let g = get_or gs i 0 in
    elim (cases_lt g (goal_of p next)) [
      | inl short ↦ (let place = pending.all i d i-in short in absurd (omega (arith, place.1)))
      | inr enough ↦ sym (kept_ready p g tick next (kept i d i-in)) ∙ le-ltb _ _ enough
    ]

-- before the round no job is pending
pub pending_start : (ps : List Piece) (gs ns : List ℕ) (jobs : List Pending)
    → ((i : ℕ) (d : Piece) → i < length ps → goal_of (get_or ps i d) (get_or ns i 0) ≡ 0)
    → ((i : ℕ) → i < length ps → get_or gs i 0 ≡ 0) → ArePending ps gs ns jobs 0
pending_start ps gs ns jobs goals zeros = record {
  room = omega arith;
  falling = λ j k before lt. absurd (omega arith);
  each = λ j lt. absurd (omega arith);
  all = λ i d i-in short. absurd (omega (arith, goals i d i-in));
  within = λ i d i-in. omega (arith, goals i d i-in, zeros i i-in);
}

-- two pieces have two keys
two_keys : (ps : List Piece) (ns ms : List ℕ) (i k : ℕ) (d : Piece) → DistinctVcpus ps → i < length ps
    → k < length ps → i ≢ k → urgency_key (get_or ps i d) (get_or ns i 0) ≢ urgency_key (get_or ps k d) (get_or ms k 0)
two_keys ps ns ms i k d apart i-in k-in ne e =
    distinct_at ps i k d apart i-in k-in ne
    (omega (arith, (get_or ps i d).vcpu_small, (get_or ps k d).vcpu_small))

-- jobs of two keys are of two pieces
two_pieces : (ps : List Piece) (gs ns : List ℕ) (a b : Pending) (i k : ℕ) → IsJobOf ps gs ns a i
    → IsJobOf ps gs ns b k → (d : Piece) → a.key ≢ b.key → i ≢ k
two_pieces ps gs ns a b i k at bt d ne same =
    ne (at.key_is d ∙ ap (λ m. urgency_key (get_or ps m d) (get_or ns m 0)) same ∙ sym (bt.key_is d))

-- what another piece is given leaves a job as it is
still_job : (ps : List Piece) (gs ns : List ℕ) (job : Pending) (i k g : ℕ) → IsJobOf ps gs ns job k → k ≢ i
    → IsJobOf ps (set gs i g) ns job k
still_job ps gs ns job i k g at ne = record {
  in_range = at.in_range;
  some = at.some;
  left_is = λ d. rw (get_or-set_other gs i k g 0 ne) (at.left_is d);
  key_is = at.key_is;
}

-- the last job has all its ticks
pub pending_done : (ps : List Piece) (gs ns : List ℕ) (jobs : List Pending) (count i ticks : ℕ)
    → DistinctVcpus ps → i < length gs → ArePending ps gs ns jobs count → 0 < count
    → IsJobOf ps gs ns (job_at jobs (count - 1)) i → ticks ≡ (job_at jobs (count - 1)).left
    → ArePending ps (set gs i (get_or gs i 0 + ticks)) ns jobs (count - 1)
pending_done ps gs ns jobs count i ticks apart i-in pending some job all_left = record {
  room = omega (arith, pending.room);
  falling = λ j k before lt. pending.falling j k before (omega arith);
  each = λ j lt.
      (let there = pending.each j (omega arith) in
      let lower = pending.falling j (count - 1) (omega arith) (omega arith) in (
        there.0,
        still_job ps gs ns (job_at jobs j) i there.0 (get_or gs i 0 + ticks) there.1
            (two_pieces ps gs ns (job_at jobs j) (job_at jobs (count - 1)) there.0 i there.1 job
            (some_piece ps i job.in_range) (λ e. omega arith)),
      ));
  all = all';
  within = λ k d k-in. elim (cases_eq k i) [
    | inl same ↦ subst (λ m. get_or (set gs i (get_or gs i 0 + ticks)) m 0 ≤ goal_of (get_or ps m d)
        (get_or ns m 0))
        (sym same) (rw (get_or-set_same gs i (get_or gs i 0 + ticks) 0 i-in) (omega (arith, job.left_is d)))
    | inr ne ↦ rw (get_or-set_other gs i k (get_or gs i 0 + ticks) 0 ne) (pending.within k d k-in)
  ];
}
  where
    all' : (k : ℕ) (d : Piece) → k < length ps
        → get_or (set gs i (get_or gs i 0 + ticks)) k 0 < goal_of (get_or ps k d) (get_or ns k 0)
        → (j : ℕ) × (j < count - 1) × ((job_at jobs j).key ≡ urgency_key (get_or ps k d) (get_or ns k 0))
    all' k d k-in short = elim (cases_eq k i) [
      | inl same ↦
          (let here : get_or (set gs i (get_or gs i 0 + ticks)) i 0 < goal_of (get_or ps i d)
          (get_or ns i 0) =
          subst (λ m. get_or (set gs i (get_or gs i 0 + ticks)) m 0 < goal_of (get_or ps m d) (get_or ns m 0))
          same short in
          let given = get_or-set_same gs i (get_or gs i 0 + ticks) 0 i-in in
          absurd (omega (arith, job.left_is d)))
      | inr ne ↦
          (let short' : get_or gs k 0 < goal_of (get_or ps k d) (get_or ns k 0) =
          subst (λ g. g < goal_of (get_or ps k d) (get_or ns k 0))
          (get_or-set_other gs i k (get_or gs i 0 + ticks) 0 ne) short in
          let there = pending.all k d k-in short' in
          elim (cases_lt there.0 (count - 1)) [
            | inl before ↦ (there.0, before, there.2)
            | inr last ↦
                (let at : there.0 ≡ count - 1 = omega (arith, there.1) in
                let key : (job_at jobs (count - 1)).key ≡ urgency_key (get_or ps k d) (get_or ns k 0) =
                subst (λ m. (job_at jobs m).key ≡ urgency_key (get_or ps k d) (get_or ns k 0)) at there.2 in
                absurd (two_keys ps ns ns k i d apart k-in job.in_range ne (sym key ∙ job.key_is d)))
          ])
    ]

-- the last job has some of its ticks
pub pending_run : (ps : List Piece) (gs ns : List ℕ) (jobs : List Pending) (count i ticks : ℕ)
    (less : Pending)
    → i < length gs → ArePending ps gs ns jobs count → 0 < count
    → IsJobOf ps gs ns (job_at jobs (count - 1)) i → ticks < (job_at jobs (count - 1)).left
    → less.key ≡ (job_at jobs (count - 1)).key → less.left ≡ (job_at jobs (count - 1)).left - ticks
    → ArePending ps (set gs i (get_or gs i 0 + ticks)) ns (set jobs (count - 1) less) count
pending_run ps gs ns jobs count i ticks less i-in pending some job lt key left = record {
  room = omega (arith, pending.room, length-set jobs (count - 1) less);
  falling = λ j k before k-lt. rw (key_at_place j, key_at_place k) (pending.falling j k before k-lt);
  each = each';
  all = all';
  within = λ k d k-in. elim (cases_eq k i) [
    | inl same ↦ subst (λ m. get_or (set gs i (get_or gs i 0 + ticks)) m 0 ≤ goal_of (get_or ps m d)
        (get_or ns m 0))
        (sym same) (rw (get_or-set_same gs i (get_or gs i 0 + ticks) 0 i-in) (omega (arith, job.left_is d)))
    | inr ne ↦ rw (get_or-set_other gs i k (get_or gs i 0 + ticks) 0 ne) (pending.within k d k-in)
  ];
}
  where
    here : job_at (set jobs (count - 1) less) (count - 1) ≡ less
    here = get_or-set_same jobs (count - 1) less no_job (omega (arith, pending.room))

    elsewhere : (j : ℕ) → j ≢ count - 1 → job_at (set jobs (count - 1) less) j ≡ job_at jobs j
    elsewhere j ne = get_or-set_other jobs (count - 1) j less no_job ne

    key_at_place : (j : ℕ) → (job_at (set jobs (count - 1) less) j).key ≡ (job_at jobs j).key
    key_at_place j = elim (cases_eq j (count - 1)) [
      | inl last ↦ subst (λ m. (job_at (set jobs (count - 1) less) m).key ≡ (job_at jobs m).key) (sym last)
          (ap (λ (x : Pending). x.key) here ∙ key)
      | inr ne ↦ ap (λ (x : Pending). x.key) (elsewhere j ne)
    ]

    each' : (j : ℕ) → j < count → (k : ℕ)
        × IsJobOf ps (set gs i (get_or gs i 0 + ticks)) ns (job_at (set jobs (count - 1) less) j) k
    each' j j-lt = elim (cases_eq j (count - 1)) [
      | inl last ↦ subst (λ m. (k : ℕ)
          × IsJobOf ps (set gs i (get_or gs i 0 + ticks)) ns (job_at (set jobs (count - 1) less) m) k)
          (sym last) (
            i,
            rw here (record {
              in_range = job.in_range;
              some = omega arith;
              left_is = λ d. rw (get_or-set_same gs i (get_or gs i 0 + ticks) 0 i-in)
                  (omega (arith, job.left_is d));
              key_is = λ d. key ∙ job.key_is d;
            }),
          )
      | inr ne ↦
          (let there = pending.each j j-lt in
          let lower = pending.falling j (count - 1) (omega arith) (omega arith) in (
            there.0,
            rw (elsewhere j ne) (still_job ps gs ns (job_at jobs j) i there.0 (get_or gs i 0 + ticks) there.1
                (two_pieces ps gs ns (job_at jobs j) (job_at jobs (count - 1)) there.0 i there.1 job
                (some_piece ps i job.in_range) (λ e. omega arith))),
          ))
    ]

    all' : (k : ℕ) (d : Piece) → k < length ps
        → get_or (set gs i (get_or gs i 0 + ticks)) k 0 < goal_of (get_or ps k d) (get_or ns k 0)
        → (j : ℕ) × (j < count)
        × ((job_at (set jobs (count - 1) less) j).key ≡ urgency_key (get_or ps k d) (get_or ns k 0))
    all' k d k-in short = elim (cases_eq k i) [
      | inl same ↦ (
        count - 1,
        omega arith,
        key_at_place (count - 1) ∙ job.key_is d
            ∙ ap (λ m. urgency_key (get_or ps m d) (get_or ns m 0)) (sym same),
      )
      | inr ne ↦
          (let there = pending.all k d k-in
          (subst (λ g. g < goal_of (get_or ps k d) (get_or ns k 0))
          (get_or-set_other gs i k (get_or gs i 0 + ticks) 0 ne) short) in
          (there.0, there.1, key_at_place there.0 ∙ there.2))
    ]

-- a piece whose next window begins has no job, where none is due by now
pub idle_piece : (ps : List Piece) (gs ns : List ℕ) (jobs : List Pending) (count tick i : ℕ) (d : Piece)
    → IsPieceKept (get_or ps i d) tick tick (get_or ns i 0) → get_or ns i 0 ≡ tick → i < length ps
    → ArePending ps gs ns jobs count → AreTimely jobs count (tick + 1)
    → goal_of (get_or ps i d) (get_or ns i 0) ≤ get_or gs i 0
idle_piece ps gs ns jobs count tick i d kept at i-in pending timely =
    let p = get_or ps i d in
    let next = get_or ns i 0 in
    elim (cases_lt (get_or gs i 0) (goal_of p next)) [
      | inl short ↦ elim (cases_lt 0 kept.count) [
        | inl some ↦
            (let there = pending.all i d i-in short in
            let later = timely there.0 there.1 in
            let due = kept.due_is some in
            absurd (omega (arith, there.2, p.vcpu_small, p.within, kept.next_is)))
        | inr none ↦
            (let zero : kept.count ≡ 0 = omega arith in
            let goal : kept.count * p.cost ≡ 0 * p.cost = ap (λ n. n * p.cost) zero in
            absurd (omega (arith, kept.goal_is)))
      ]
      | inr enough ↦ enough
    ]

-- the pieces of the first n jobs, the last one first
picked : (ps : List Piece) (gs ns : List ℕ) (jobs : List Pending) (count n : ℕ) → Piece
    → ArePending ps gs ns jobs count → n ≤ count → List Piece
picked ps gs ns jobs count zero d pending le = []
picked ps gs ns jobs count (suc n) d pending le =
    get_or ps (pending.each n (omega arith)).0 d ∷ picked ps gs ns jobs count n d pending (omega arith)

-- as many as there are jobs
length-picked : (ps : List Piece) (gs ns : List ℕ) (jobs : List Pending) (count n : ℕ) (d : Piece)
    (pending : ArePending ps gs ns jobs count) (le : n ≤ count)
    → length (picked ps gs ns jobs count n d pending le) ≡ n
unfolding picked
length-picked ps gs ns jobs count zero d pending le = refl
length-picked ps gs ns jobs count (suc n) d pending le =
    ap suc (length-picked ps gs ns jobs count n d pending (omega arith))

-- the job that a piece was picked for
record IsPicked (ps : List Piece) (gs ns : List ℕ) (jobs : List Pending) (count n k : ℕ)
    (d q : Piece) : Type 0 where
  job : ℕ
  place : job + suc k ≡ n
  piece : ℕ
  of : IsJobOf ps gs ns (job_at jobs job) piece
  is : get_or ps piece d ≡ q

picked_at : (ps : List Piece) (gs ns : List ℕ) (jobs : List Pending) (count n k : ℕ) (d q : Piece)
    (pending : ArePending ps gs ns jobs count) (le : n ≤ count)
    → slice_get (picked ps gs ns jobs count n d pending le) k ≡ Some q → IsPicked ps gs ns jobs count n k d q
unfolding picked
picked_at ps gs ns jobs count zero k d q pending le at = absurd (none-some q at)
picked_at ps gs ns jobs count (suc n) zero d q pending le at =
    let there = pending.each n (omega arith) in
    record { job = n; place = omega arith; piece = there.0; of = there.1; is = same_Some _ _ at }
picked_at ps gs ns jobs count (suc n) (suc k) d q pending le at =
    let there = picked_at ps gs ns jobs count n k d q pending (omega arith) at in
    record {
      job = there.job;
      place = omega (arith, there.place);
      piece = there.piece;
      of = there.of;
      is = there.is;
    }

-- two jobs are of two vCPUs
same_place : (ps : List Piece) (gs ns : List ℕ) (jobs : List Pending) (count k m : ℕ) (d p q : Piece)
    → DistinctVcpus ps → ArePending ps gs ns jobs count → IsPicked ps gs ns jobs count count k d p
    → IsPicked ps gs ns jobs count count m d q → p.vcpu ≡ q.vcpu → k ≡ m
same_place ps gs ns jobs count k m d p q apart pending a b e = elim (cases_eq a.piece b.piece) [
  | inl same ↦
      (let keys : (job_at jobs a.job).key ≡ (job_at jobs b.job).key =
      a.of.key_is d ∙ ap (λ n. urgency_key (get_or ps n d) (get_or ns n 0)) same ∙ sym (b.of.key_is d) in
      elim (cases_lt k m) [
        | inl before ↦ absurd (omega (
          arith,
          pending.falling b.job a.job (omega (arith, a.place, b.place))
              (omega (arith, a.place)),
        ))
        | inr after ↦ elim (cases_lt m k) [
          | inl behind ↦ absurd (omega (
            arith,
            pending.falling a.job b.job (omega (arith, a.place, b.place))
                (omega (arith, b.place)),
          ))
          | inr le ↦ omega arith
        ]
      ])
  | inr ne ↦ absurd (distinct_at ps a.piece b.piece d apart a.of.in_range b.of.in_range ne
      (ap (λ (x : Piece). x.vcpu) a.is ∙ e ∙ sym (ap (λ (x : Piece). x.vcpu) b.is)))
]

-- beside the jobs there is room for one of a piece that has none
pub room_for_job : (ps : List Piece) (gs ns : List ℕ) (jobs : List Pending) (count i : ℕ) (d : Piece)
    → DistinctVcpus ps → i < length ps → ArePending ps gs ns jobs count
    → goal_of (get_or ps i d) (get_or ns i 0) ≤ get_or gs i 0 → count < length ps
room_for_job ps gs ns jobs count i d apart i-in pending idle =
    let qs = picked ps gs ns jobs count count d pending (omega arith) in
    omega (
      arith,
      length-picked ps gs ns jobs count count d pending (omega arith),
      fewer_pieces (get_or ps i d ∷ qs) ps apart' among,
    )
  where
    among : AreAmong (get_or ps i d ∷ picked ps gs ns jobs count count d pending (omega arith)) ps
    among zero q at = (i, slice_get-get_or ps i d i-in ∙ at)
    among (suc k) q at =
        let there = picked_at ps gs ns jobs count count k d q pending (omega arith) at in
        (there.piece, slice_get-get_or ps there.piece d there.of.in_range ∙ ap Some there.is)

    other : (k : ℕ) (q : Piece) → IsPicked ps gs ns jobs count count k d q → (get_or ps i d).vcpu ≡ q.vcpu → ⊥
    other k q at e = elim (cases_eq at.piece i) [
      | inl same ↦
          (let of : IsJobOf ps gs ns (job_at jobs at.job) i =
          subst (IsJobOf ps gs ns (job_at jobs at.job)) same at.of in
          omega (arith, of.left_is d, of.some))
      | inr ne ↦ distinct_at ps at.piece i d apart at.of.in_range i-in ne
          (ap (λ (x : Piece). x.vcpu) at.is ∙ sym e)
    ]

    apart' : DistinctVcpus (get_or ps i d ∷ picked ps gs ns jobs count count d pending (omega arith))
    apart' zero zero a b at bt e = refl
    apart' zero (suc m) a b at bt e =
        absurd (other m b (picked_at ps gs ns jobs count count m d b pending (omega arith) bt)
        (ap (λ (x : Piece). x.vcpu) (same_Some _ _ at) ∙ e))
    apart' (suc k) zero a b at bt e =
        absurd (other k a (picked_at ps gs ns jobs count count k d a pending (omega arith) at)
        (ap (λ (x : Piece). x.vcpu) (same_Some _ _ bt) ∙ sym e))
    apart' (suc k) (suc m) a b at bt e =
        ap suc (same_place ps gs ns jobs count k m d a b apart pending
        (picked_at ps gs ns jobs count count k d a pending (omega arith) at)
        (picked_at ps gs ns jobs count count m d b pending (omega arith) bt) e)

-- beside the jobs there is room for one of a piece whose next window begins
pub room_to_begin : (ps : List Piece) (gs ns : List ℕ) (jobs : List Pending) (count tick i : ℕ) (d : Piece)
    → DistinctVcpus ps → IsPieceKept (get_or ps i d) tick tick (get_or ns i 0) → get_or ns i 0 ≡ tick
    → i < length ps
    → ArePending ps gs ns jobs count → AreTimely jobs count (tick + 1) → count < length ps
room_to_begin ps gs ns jobs count tick i d apart kept at i-in pending timely =
    room_for_job ps gs ns jobs count i d apart i-in pending
    (idle_piece ps gs ns jobs count tick i d kept at i-in pending timely)

-- no job is due before the tick that the new one isn't due before either
pub timely_added : (old new : List Pending) (count tick : ℕ) (job : Pending) → IsJobInserted old new count job
    → AreTimely old count tick → tick * MAX_VCPUS ≤ job.key → AreTimely new (count + 1) tick
timely_added old new count tick job added timely later j lt = elim (cases_lt j added.at) [
  | inl before ↦ rw (added.before j before) (timely j (omega (arith, added.within)))
  | inr from ↦ elim (cases_eq j added.at) [
    | inl same ↦ subst (λ m. tick * MAX_VCPUS ≤ (job_at new m).key) (sym same) (rw added.here later)
    | inr ne ↦
        (let back : j - 1 + 1 ≡ j = omega arith in
        subst (λ m. tick * MAX_VCPUS ≤ (job_at new m).key) back
        (rw (added.behind (j - 1) (omega arith) (omega arith)) (timely (j - 1) (omega arith))))
  ]
]

-- a job more, of a piece that had none and whose next window has begun
pub pending_added : (ps : List Piece) (gs ns ms : List ℕ) (old new : List Pending) (count i : ℕ)
    (job : Pending)
    → DistinctVcpus ps → ArePending ps gs ns old count → IsJobInserted old new count job → count < length new
    → ((d : Piece) → goal_of (get_or ps i d) (get_or ns i 0) ≤ get_or gs i 0)
    → ((k : ℕ) → k ≢ i → get_or ms k 0 ≡ get_or ns k 0) → IsJobOf ps gs ms job i
    → ArePending ps gs ms new (count + 1)
pending_added ps gs ns ms old new count i job apart pending added room idle same fresh = record {
  room = omega arith;
  falling = falling';
  each = each';
  all = all';
  within = λ k d k-in. elim (cases_eq k i) [
    | inl at ↦ subst (λ m. get_or gs m 0 ≤ goal_of (get_or ps m d) (get_or ms m 0)) (sym at)
        (omega (arith, fresh.left_is d))
    | inr ne ↦ rw (same k ne) (pending.within k d k-in)
  ];
}
  where
    d0 : Piece
    d0 = some_piece ps i fresh.in_range

    other_piece : (j : ℕ) (lt : j < count) → (pending.each j lt).0 ≢ i
    other_piece j lt e =
        let there = pending.each j lt in
        let of : IsJobOf ps gs ns (job_at old j) i = subst (IsJobOf ps gs ns (job_at old j)) e there.1 in
        omega (arith, of.left_is d0, of.some, idle d0)

    other_key : (j : ℕ) → j < count → job.key ≢ (job_at old j).key
    other_key j lt e =
        let there = pending.each j lt in
        two_keys ps ms ns i there.0 d0 apart fresh.in_range there.1.in_range (λ f. other_piece j lt (sym f))
        (sym (fresh.key_is d0) ∙ e ∙ there.1.key_is d0)

    stays : (j : ℕ) → j < count → (k : ℕ) × IsJobOf ps gs ms (job_at old j) k
    stays j lt =
        let there = pending.each j lt in (
          there.0,
          record {
            in_range = there.1.in_range;
            some = there.1.some;
            left_is = λ d. rw (same there.0 (other_piece j lt)) (there.1.left_is d);
            key_is = λ d. rw (same there.0 (other_piece j lt)) (there.1.key_is d);
          },
        )

    falls : (j k : ℕ) → j < k → k < count → (job_at old k).key < (job_at old j).key
    falls = pending.falling

    behind : (j : ℕ) → added.at < j → j < count + 1 → job_at new j ≡ job_at old (j - 1)
    behind j gt lt =
        let back : j - 1 + 1 ≡ j = omega arith in
        subst (λ m. job_at new m ≡ job_at old (j - 1)) back (added.behind (j - 1) (omega arith) (omega arith))

    above : (j : ℕ) → j < added.at → job.key < (job_at old j).key
    above j lt =
        let first = added.above (omega arith) in
        let apart' = other_key j (omega (arith, added.within)) in
        elim (cases_lt j (added.at - 1)) [
          | inl before ↦ omega (arith, falls j (added.at - 1) before (omega (arith, added.within)))
          | inr last ↦
              (let at : added.at - 1 ≡ j = omega arith in
              let le : job.key ≤ (job_at old j).key = subst (λ m. job.key ≤ (job_at old m).key) at first in
              omega arith)
        ]

    falling' : (j k : ℕ) → j < k → k < count + 1 → (job_at new k).key < (job_at new j).key
    falling' j k before lt = elim (cases_lt k added.at) [
      | inl both ↦ rw (added.before k both, added.before j (omega arith))
          (falls j k before (omega (arith, added.within)))
      | inr k-from ↦ elim (cases_eq k added.at) [
        | inl here ↦ subst (λ m. (job_at new m).key < (job_at new j).key) (sym here)
            (rw (added.here, added.before j (omega arith)) (above j (omega arith)))
        | inr k-ne ↦ rw (behind k (omega arith) lt) (elim (cases_lt j added.at) [
          | inl j-before ↦ rw (added.before j j-before) (falls j (k - 1) (omega arith) (omega arith))
          | inr j-from ↦ elim (cases_eq j added.at) [
            | inl here ↦ subst (λ m. (job_at old (k - 1)).key < (job_at new m).key) (sym here)
                (rw added.here (added.below (k - 1) (omega arith) (omega arith)))
            | inr j-ne ↦ rw (behind j (omega arith) (omega arith))
                (falls (j - 1) (k - 1) (omega arith) (omega arith))
          ]
        ])
      ]
    ]

    each' : (j : ℕ) → j < count + 1 → (k : ℕ) × IsJobOf ps gs ms (job_at new j) k
    each' j lt = elim (cases_lt j added.at) [
      | inl before ↦ rw (added.before j before) (stays j (omega (arith, added.within)))
      | inr from ↦ elim (cases_eq j added.at) [
        | inl here ↦ subst (λ m. (k : ℕ) × IsJobOf ps gs ms (job_at new m) k) (sym here)
            (rw added.here (i, fresh))
        | inr ne ↦ rw (behind j (omega arith) lt) (stays (j - 1) (omega arith))
      ]
    ]

    all' : (k : ℕ) (d : Piece) → k < length ps → get_or gs k 0 < goal_of (get_or ps k d) (get_or ms k 0)
        → (j : ℕ) × (j < count + 1) × ((job_at new j).key ≡ urgency_key (get_or ps k d) (get_or ms k 0))
    all' k d k-in short = elim (cases_eq k i) [
      | inl at ↦ (
        added.at,
        omega (arith, added.within),
        ap (λ (x : Pending). x.key) added.here ∙ fresh.key_is d
            ∙ ap (λ m. urgency_key (get_or ps m d) (get_or ms m 0)) (sym at),
      )
      | inr ne ↦
          (let there = pending.all k d k-in
          (subst (λ n. get_or gs k 0 < goal_of (get_or ps k d) n) (same k ne) short) in
          let key : (job_at old there.0).key ≡ urgency_key (get_or ps k d) (get_or ms k 0) =
          there.2 ∙ ap (urgency_key (get_or ps k d)) (sym (same k ne)) in
          elim (cases_lt there.0 added.at) [
            | inl before ↦ (
              there.0,
              omega (arith, there.1),
              ap (λ (x : Pending). x.key) (added.before there.0 before) ∙ key,
            )
            | inr from ↦ (
              there.0 + 1,
              omega (arith, there.1),
              ap (λ (x : Pending). x.key) (added.behind there.0 from there.1) ∙ key,
            )
          ])
    ]

-- the job of a window that has begun, of a piece that was given all before
pub begun_job : (ps : List Piece) (gs ns : List ℕ) (tick i after : ℕ) (job : Pending) → i < length ps
    → i < length ns → get_or ns i 0 ≡ tick
    → ((d : Piece) → IsPieceKept (get_or ps i d) tick tick (get_or ns i 0))
    → ((d : Piece) → goal_of (get_or ps i d) (get_or ns i 0) ≡ get_or gs i 0)
    → ((d : Piece) → after ≡ tick + (get_or ps i d).period)
    → ((d : Piece)
    → job.key ≡ (tick - (get_or ps i d).from + (get_or ps i d).to) * MAX_VCPUS + (get_or ps i d).vcpu)
    → ((d : Piece) → job.left ≡ (get_or ps i d).cost) → IsJobOf ps gs (set ns i after) job i
begun_job ps gs ns tick i after job i-in i-in' at kept given after_is key left = record {
  in_range = i-in;
  some = (let d = some_piece ps i i-in in omega (arith, left d, (get_or ps i d).costs));
  left_is = λ d. rw (get_or-set_same ns i after 0 i-in')
      (omega (
        arith,
        left d,
        given d,
        goal_next (get_or ps i d) (get_or ns i 0) after
            (kept_here d) (next_is d),
      ));
  key_is = λ d. rw (get_or-set_same ns i after 0 i-in')
      (key d ∙ ap (λ due. due * MAX_VCPUS + (get_or ps i d).vcpu)
      (ap (λ n. n - (get_or ps i d).from + (get_or ps i d).to) (sym at)
      ∙ sym (due_next (get_or ps i d) (get_or ns i 0) after (kept_here d) (next_is d))));
}
  where
    kept_here : (d : Piece) → IsPieceKept (get_or ps i d) (get_or ns i 0) (get_or ns i 0) (get_or ns i 0)
    kept_here d = subst (λ n. IsPieceKept (get_or ps i d) n n (get_or ns i 0)) (sym at) (kept d)

    next_is : (d : Piece) → after ≡ get_or ns i 0 + (get_or ps i d).period
    next_is d = after_is d ∙ ap (λ n. n + (get_or ps i d).period) (sym at)

-- where none of the jobs is due by now, each window that ends now has had its cost
pub timely_served : (ps : List Piece) (gs ns : List ℕ) (jobs : List Pending) (count tick : ℕ)
    → ArePiecesKept ps ns (length ps) tick tick → ArePending ps gs ns jobs count → AreTimely jobs count (tick + 1)
    → ServedBelow ps gs tick (length ps)
timely_served ps gs ns jobs count tick kept pending timely i d i-in =
    let p = get_or ps i d in
    let next = get_or ns i 0 in
    let here = kept i d i-in in
    elim (cases_lt (get_or gs i 0) (goal_of p next)) [
      | inl short ↦
          (let there = pending.all i d i-in short in
          let later = timely there.0 there.1 in
          kept_apart p (get_or gs i 0) tick next here (λ now. omega (arith, there.2, p.vcpu_small)))
      | inr enough ↦ kept_served p (get_or gs i 0) tick next here enough
    ]

-- the last job says whether each window that ends now has had its cost
pub last_timely : (ps : List Piece) (gs ns : List ℕ) (jobs : List Pending) (count tick : ℕ)
    → ArePending ps gs ns jobs count → (0 < count → tick * MAX_VCPUS ≤ (job_at jobs (count - 1)).key)
    → AreTimely jobs count tick
last_timely ps gs ns jobs count tick pending last j lt =
    omega (arith, last (omega arith), last_least ps gs ns jobs count j pending lt)

-- where the last job is due now, its window was missed
pub last_missed : (ps : List Piece) (gs ns : List ℕ) (jobs : List Pending) (count tick : ℕ)
    → ArePiecesKept ps ns (length ps) tick tick → ArePending ps gs ns jobs count → AreTimely jobs count tick
    → 0 < count → (job_at jobs (count - 1)).key < (tick + 1) * MAX_VCPUS → SomeMissed ps gs tick
last_missed ps gs ns jobs count tick kept pending timely some late =
    let there = pending.each (count - 1) (omega arith) in
    let job = there.1 in
    let from = timely (count - 1) (omega arith) in
    record {
      at = there.0;
      in_range = job.in_range;
      missed = λ d.
          (let p = get_or ps there.0 d in
          let next = get_or ns there.0 0 in
          kept_missed p (get_or gs there.0 0) tick next (kept there.0 d job.in_range)
          (omega (arith, job.key_is d, p.vcpu_small)) (omega (arith, job.left_is d, job.some)));
    }

-- where each window that ends now has had its cost, no job is due by now
pub served_timely : (ps : List Piece) (gs ns : List ℕ) (jobs : List Pending) (count tick : ℕ)
    → ArePiecesKept ps ns (length ps) tick tick → ArePending ps gs ns jobs count → AreTimely jobs count tick
    → ServedBelow ps gs tick (length ps) → AreTimely jobs count (tick + 1)
served_timely ps gs ns jobs count tick kept pending timely served =
    last_timely ps gs ns jobs count (tick + 1) pending
    (λ some. elim (cases_lt (job_at jobs (count - 1)).key ((tick + 1) * MAX_VCPUS)) [
      | inl late ↦
          (let missed = last_missed ps gs ns jobs count tick kept pending timely some late in
          let d = some_piece ps missed.at missed.in_range in
          let window = missed.missed d in
          absurd (omega (arith, served missed.at d missed.in_range window.0 window.1, window.2)))
      | inr later ↦ later
    ])

-- no window of the piece has begun before the round
goal_first : (p : Piece) (next : ℕ) → IsPieceKept p 0 0 next → goal_of p next ≡ 0
goal_first p next kept = elim (cases_lt 0 kept.count) [
  | inl some ↦
      (let more = mul-le-mul_left {m = 1} {n = kept.count} p.period (omega arith) in
      absurd (omega (arith, kept.next_is, kept.begun)))
  | inr none ↦
      (let zero : kept.count ≡ 0 = omega arith in
      let goal : kept.count * p.cost ≡ 0 * p.cost = ap (λ n. n * p.cost) zero in
      omega (arith, kept.goal_is))
]

-- the simulation begins without a job
pub under_way_start : (ps : List Piece) (ns : List ℕ) (jobs : List Pending) → DistinctVcpus ps
    → ArePiecesKept ps ns (length ps) 0 0 → IsUnderWay ps ns jobs 0 0 0 0 0
under_way_start ps ns jobs apart kept = record {
  given = replicate MAX_VCPUS 0;
  kept = kept;
  pending = pending_start ps (replicate MAX_VCPUS 0) ns jobs
      (λ i d i-in. goal_first (get_or ps i d) (get_or ns i 0) (kept i d i-in))
      (λ i i-in. get_or-replicate {A = ℕ} MAX_VCPUS i 0 0 (omega (arith, few_pieces ps apart)));
  timely = λ j lt. absurd (omega arith);
  counted = counted_start ps MAX_VCPUS (few_pieces ps apart);
  met = λ j a lt. absurd (omega arith);
}

-- the simulation that is under way keeps what else is kept of the windows
pub under_way_kept : (ps : List Piece) (ns : List ℕ) (jobs : List Pending) (count tick b c served e f : ℕ)
    → IsUnderWay ps ns jobs count tick b served e → ArePiecesKept ps ns (length ps) c f
    → IsUnderWay ps ns jobs count tick c served f
under_way_kept ps ns jobs count tick b c served e f here kept = record {
  given = here.given;
  kept = kept;
  pending = here.pending;
  timely = here.timely;
  counted = here.counted;
  met = here.met;
}

-- the simulation that is under way is so for a later bound
pub under_way_later : (ps : List Piece) (ns : List ℕ) (jobs : List Pending) (count tick b c served e f : ℕ)
    → IsUnderWay ps ns jobs count tick b served e → b ≤ c → f ≤ e
    → IsUnderWay ps ns jobs count tick c served f
under_way_later ps ns jobs count tick b c served e f here le le' =
    under_way_kept ps ns jobs count tick b c served e f here
    (all_kept_later ps ns (length ps) b c e f here.kept le le')

-- what is kept at a tick whose windows have not begun
kept_now : (ps : List Piece) (ns : List ℕ) (jobs : List Pending) (count tick event : ℕ)
    → IsUnderWay ps ns jobs count tick tick tick event → tick ≤ event → ArePiecesKept ps ns (length ps) tick tick
kept_now ps ns jobs count tick event here le =
    all_kept_later ps ns (length ps) tick tick event tick here.kept (omega arith) le

-- where no job is late, the windows that end now have had their cost too
pub served_now : (ps : List Piece) (ns : List ℕ) (jobs : List Pending) (count tick event : ℕ)
    → IsUnderWay ps ns jobs count tick tick tick event → tick ≤ event
    → (0 < count → (tick + 1) * MAX_VCPUS ≤ (job_at jobs (count - 1)).key)
    → IsUnderWay ps ns jobs count tick tick (tick + 1) event
served_now ps ns jobs count tick event here le last =
    let timely = last_timely ps here.given ns jobs count (tick + 1) here.pending last in
    record {
      given = here.given;
      kept = here.kept;
      pending = here.pending;
      timely = timely;
      counted = here.counted;
      met = met_more_any ps here.given tick here.counted here.met
          (timely_served ps here.given ns jobs count tick (kept_now ps ns jobs count tick event here le)
          here.pending timely);
    }

-- where the last job is late, its window was missed
pub missed_now : (ps : List Piece) (ns : List ℕ) (jobs : List Pending) (count tick event : ℕ)
    (here : IsUnderWay ps ns jobs count tick tick tick event) → tick ≤ event
    → (0 < count) × ((job_at jobs (count - 1)).key < (tick + 1) * MAX_VCPUS) → SomeMissed ps here.given tick
missed_now ps ns jobs count tick event here le late =
    last_missed ps here.given ns jobs count tick (kept_now ps ns jobs count tick event here le) here.pending
    here.timely late.0 late.1

-- where the pieces fit, no job is late
pub fits_now : (ps : List Piece) (ns : List ℕ) (jobs : List Pending) (count tick event : ℕ) → DistinctVcpus ps
    → IsUnderWay ps ns jobs count tick tick tick event → tick ≤ event → Fits (jobs_of ps) → tick ≤ ROUND
    → IsUnderWay ps ns jobs count tick tick (tick + 1) event
fits_now ps ns jobs count tick event apart here le fits in_round =
    let served = fits_served ps here.given tick apart here.counted fits in_round in
    record {
      given = here.given;
      kept = here.kept;
      pending = here.pending;
      timely = served_timely ps here.given ns jobs count tick (kept_now ps ns jobs count tick event here le)
          here.pending here.timely served;
      counted = here.counted;
      met = met_more_any ps here.given tick here.counted here.met served;
    }
