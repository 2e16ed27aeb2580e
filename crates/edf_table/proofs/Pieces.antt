-- The jobs of pieces: what is among them, and that they are distinct.
use Rattle.std.proofs.Common.{◌≡◌, ℕ, zero, suc, ◌+◌, ◌*◌, ◌/◌, ◌<◌, List, [], ◌∷◌, ◌++◌, length, get_or, Option, None, refl, ap, sym, ◌∙◌, inl, inr, ◌⊎◌, arith}
use Rattle.std.proofs.Math.Nat.{mul-le-mul_left}
use Rattle.std.proofs.lemmas.Bool.{cases_eq, cases_order}
use Rattle.std.proofs.lemmas.Option.{slice_get-get_or}
use Rattle.tab_core.specs.declared.TheConstants.{ROUND}
use Rattle.tab_core.specs.declared.piece.Piece.{Piece}
use Rattle.tab_core.proofs.Periods.{period_facts}
use Rattle.table_form.specs.Planning.Jobs.{Job, Subtask, job_of, subtask_of, first_jobs, jobs_of}
use Rattle.table_form.specs.Planning.EdfRow.{first_pending}
use Rattle.edf_table.specs.Inside.Progress.{Among}
use Rattle.table_form.specs.Planning.Windows.{DistinctVcpus}
use Rattle.edf_table.proofs.Counts.{Distinct}

-- a job of the first list is one of both
among_left : (xs ys : List Job) (j : Job) → Among xs j → Among (xs ++ ys) j
among_left [] ys j a = absurd a
among_left (x ∷ xs) ys j (inl e) = inl e
among_left (x ∷ xs) ys j (inr a) = inr (among_left xs ys j a)

-- a job of the second list is one of both
among_right : (xs ys : List Job) (j : Job) → Among ys j → Among (xs ++ ys) j
among_right [] ys j a = a
among_right (x ∷ xs) ys j a = inr (among_right xs ys j a)

-- a job of both lists is one of either
among_either : (xs ys : List Job) (j : Job) → Among (xs ++ ys) j → Among xs j ⊎ Among ys j
among_either [] ys j a = inr a
among_either (x ∷ xs) ys j (inl e) = inl (inl e)
among_either (x ∷ xs) ys j (inr a) = elim (among_either xs ys j a) [ inl b ↦ inl (inr b) | inr b ↦ inr b ]

-- a subtask has one window more
pub first_jobs-suc : (s : Subtask) (n : ℕ) → first_jobs s (suc n) ≡ first_jobs s n ++ job_of s n ∷ []
unfolding first_jobs
first_jobs-suc s n = refl

-- a subtask has no jobs of no windows
pub first_jobs-zero : (s : Subtask) → first_jobs s 0 ≡ []
unfolding first_jobs
first_jobs-zero s = refl

-- each window of the subtask has a job among its first ones
pub first_job_among : (s : Subtask) (n k : ℕ) → k < n → Among (first_jobs s n) (job_of s k)
first_job_among s zero k lt = absurd (omega arith)
first_job_among s (suc n) k lt = rw (first_jobs-suc s n) (elim (cases_eq k n) [
  | inl e ↦ among_right (first_jobs s n) (job_of s n ∷ []) (job_of s k) (inl (ap (job_of s) (sym e)))
  | inr ne ↦ among_left (first_jobs s n) (job_of s n ∷ []) (job_of s k) (first_job_among s n k (omega arith))
])

-- each of a subtask's first jobs has a window
pub first_job_place : (s : Subtask) (n : ℕ) (j : Job) → Among (first_jobs s n) j
    → (k : ℕ) × (k < n) × (job_of s k ≡ j)
first_job_place s zero j a = absurd (rw (first_jobs-zero s) at a)
first_job_place s (suc n) j a =
    elim (among_either (first_jobs s n) (job_of s n ∷ []) j (rw (first_jobs-suc s n) at a)) [
      | inl b ↦ (let place = first_job_place s n j b in (place.0, omega (arith, place.1), place.2))
      | inr b ↦ elim b [ inl e ↦ (n, omega arith, e) | inr none ↦ absurd none ]
    ]

-- the jobs of pieces are those of the first, then those of the others
pub jobs_of-cons : (p : Piece) (ps : List Piece)
    → jobs_of (p ∷ ps) ≡ first_jobs (subtask_of p) (ROUND / p.period) ++ jobs_of ps
unfolding jobs_of
jobs_of-cons p ps = refl

-- no pieces have no jobs
pub jobs_of-nil : jobs_of [] ≡ []
unfolding jobs_of
jobs_of-nil = refl

-- a job of a round is one of a piece's windows
pub job_place : (ps : List Piece) (d : Piece) (j : Job) → Among (jobs_of ps) j →
    (i : ℕ) × (i < length ps) × (k : ℕ) × (k < ROUND / (get_or ps i d).period)
    × (job_of (subtask_of (get_or ps i d)) k ≡ j)
job_place [] d j a = absurd (rw jobs_of-nil at a)
job_place (p ∷ ps) d j a =
    elim (among_either (first_jobs (subtask_of p) (ROUND / p.period)) (jobs_of ps) j
    (rw (jobs_of-cons p ps) at a)) [
      | inl b ↦
          (let place = first_job_place (subtask_of p) (ROUND / p.period) j b in
          (0, omega arith, place.0, place.1, place.2))
      | inr b ↦
          (let place = job_place ps d j b in
          (suc place.0, omega (arith, place.1), place.2, place.3, place.4))
    ]

-- the other way: each window of a piece is a job of the round
pub job_among : (ps : List Piece) (d : Piece) (i k : ℕ) → i < length ps → k < ROUND / (get_or ps i d).period →
    Among (jobs_of ps) (job_of (subtask_of (get_or ps i d)) k)
job_among [] d i k lt lt' = absurd (omega arith)
job_among (p ∷ ps) d zero k lt lt' =
    rw (jobs_of-cons p ps) (among_left (first_jobs (subtask_of p) (ROUND / p.period)) (jobs_of ps)
    (job_of (subtask_of p) k) (first_job_among (subtask_of p) (ROUND / p.period) k lt'))
job_among (p ∷ ps) d (suc i) k lt lt' =
    rw (jobs_of-cons p ps) (among_right (first_jobs (subtask_of p) (ROUND / p.period)) (jobs_of ps)
    (job_of (subtask_of (get_or ps i d)) k) (job_among ps d i k (omega arith) lt'))

-- two lists of distinct jobs without a job in common
distinct_append : (xs ys : List Job) → Distinct xs → Distinct ys
    → ((i j : Job) → Among xs i → Among ys j → j.vcpu ≡ i.vcpu → j.deadline ≡ i.deadline → ⊥)
    → Distinct (xs ++ ys)
distinct_append [] ys dx dy apart = dy
distinct_append (x ∷ xs) ys dx dy apart = (
  (λ k a v t. elim (among_either xs ys k a) [ inl b ↦ dx.0 k b v t | inr b ↦ apart x k (inl refl) b v t ]),
  distinct_append xs ys dx.1 dy (λ i j a b v t. apart i j (inr a) b v t),
)

-- a multiple of the period tells which
pub same_multiple : (period a b c : ℕ) → 0 < period → a * period + c ≡ b * period + c → a ≡ b
same_multiple period a b c some e = elim (cases_order a b) [
  | inl same ↦ same
  | inr apart ↦ elim apart [
    | inl below ↦
        (let more = mul-le-mul_left {m = a + 1} {n = b} period (omega arith) in absurd
        (omega arith))
    | inr above ↦
        (let more = mul-le-mul_left {m = b + 1} {n = a} period (omega arith) in absurd
        (omega arith))
  ]
]

-- the windows of a subtask end at ticks that differ
pub first_jobs_distinct : (s : Subtask) (n : ℕ) → 0 < s.period → Distinct (first_jobs s n)
first_jobs_distinct s zero some = rw (first_jobs-zero s) tt
first_jobs_distinct s (suc n) some =
    rw (first_jobs-suc s n) (distinct_append (first_jobs s n) (job_of s n ∷ [])
    (first_jobs_distinct s n some) ((λ k none v t. none), tt) (λ i j a b v t.
    (let place = first_job_place s n i a in
    elim b [
      | inl e ↦
          (let there : place.0 * s.period + s.to ≡ n * s.period + s.to =
          ap (λ (x : Job). x.deadline) place.2 ∙ sym t ∙ sym (ap (λ (x : Job). x.deadline) e) in
          let same = same_multiple s.period place.0 n s.to some there in omega (arith, place.1))
      | inr none ↦ none
    ])))

-- distinct vCPUs without the first piece
pub tail_distinct : (p : Piece) (ps : List Piece) → DistinctVcpus (p ∷ ps) → DistinctVcpus ps
tail_distinct p ps h i j a b at at' same = let e = h (suc i) (suc j) a b at at' same in omega arith

-- pieces of distinct vCPUs have distinct jobs, so a job is known by its vCPU and its deadline
pub jobs_of_distinct : (ps : List Piece) → DistinctVcpus ps → Distinct (jobs_of ps)
jobs_of_distinct [] h = rw jobs_of-nil tt
jobs_of_distinct (p ∷ ps) h =
    let facts = period_facts p.period p.listed in
    rw (jobs_of-cons p ps) (distinct_append (first_jobs (subtask_of p) (ROUND / p.period)) (jobs_of ps)
    (first_jobs_distinct (subtask_of p) (ROUND / p.period) (omega (arith, facts.at_least)))
    (jobs_of_distinct ps (tail_distinct p ps h))
    (λ i j a b v t.
    (let here = first_job_place (subtask_of p) (ROUND / p.period) i a in
    let there = job_place ps p j b in
    let same = h 0 (suc there.0) p (get_or ps there.0 p) refl (slice_get-get_or ps there.0 p there.1)
    (ap (λ (x : Job). x.vcpu) here.2 ∙ sym v ∙ sym (ap (λ (x : Job). x.vcpu) there.4)) in
    omega arith)))

-- no pieces, nobody among their jobs
pub no_jobs : (j : Job) → Among (jobs_of []) j → ⊥
no_jobs j a = rw jobs_of-nil at a

-- nobody is first among the jobs of no pieces
pub none_of_none : (cells : List (Option Job)) (tick : ℕ) → first_pending cells tick (jobs_of []) ≡ None
unfolding first_pending
none_of_none cells tick = rw jobs_of-nil refl
