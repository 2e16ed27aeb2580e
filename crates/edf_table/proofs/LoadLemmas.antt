-- Pieces of whole periods fit where they take no more than a round.
use Rattle.std.proofs.Common.{◌≡◌, ℕ, zero, suc, ◌+◌, ◌-◌, ◌*◌, ◌/◌, ◌≤◌, min, cond, leb, List, [], ◌∷◌, ◌++◌, length, get_or, take, ◌<◌, refl, ap, subst, ◌∙◌, inl, inr, arith, zero-add}
use Rattle.std.proofs.lemmas.List.Sums.{sum_by-append}
use Rattle.std.proofs.lemmas.List.{take_more}
use Rattle.std.proofs.lemmas.Bool.{cases_Bool, and_parts, leb-true}
use Rattle.std.proofs.Math.Nat.{mul-le-mul_left}
use Rattle.tab_core.specs.declared.TheConstants.{ROUND}
use Rattle.tab_core.specs.declared.piece.Piece.{Piece}
use Rattle.tab_core.proofs.Periods.{period_facts}
use Rattle.table_form.specs.Planning.Jobs.{Job, Subtask, job_of, subtask_of, first_jobs, jobs_of}
use Rattle.table_form.specs.Planning.Demand.{demand_in, is_inside, Fits}
use Rattle.edf_table.specs.Load.{AreUnsplit, IsUnsplit, load_of_pieces}
use Rattle.edf_table.proofs.Pieces.{first_jobs-suc, first_jobs-zero, jobs_of-cons, jobs_of-nil}

-- the demand of two lists of jobs is a sum
pub demand_in-append : (xs ys : List Job) (s e : ℕ)
    → demand_in (xs ++ ys) s e ≡ demand_in xs s e + demand_in ys s e
unfolding demand_in
demand_in-append xs ys s e = sum_by-append (λ j. cond (is_inside s e j) j.cost 0) xs ys

-- that of one job is its cost or nothing
pub demand_in-one : (j : Job) (s e : ℕ) → demand_in (j ∷ []) s e ≡ cond (is_inside s e j) j.cost 0
unfolding demand_in
demand_in-one j s e = zero-add (cond (is_inside s e j) j.cost 0)

-- that of none is nothing
pub demand_in-none : (s e : ℕ) → demand_in [] s e ≡ 0
unfolding demand_in
demand_in-none s e = refl

-- whole windows inside an interval leave it room in proportion
whole_room : (s : Subtask) (n start end : ℕ) → s.from ≡ 0 → s.to ≡ s.period
    → demand_in (first_jobs s n) start end * s.period ≤ s.cost * (min end (n * s.period) - start)
whole_room s zero start end from to = rw (first_jobs-zero s) (rw (demand_in-none start end) (omega arith))
whole_room s (suc n) start end from to =
    let before : demand_in (first_jobs s n) start end * s.period ≤ s.cost
    * (min end (n * s.period) - start) = whole_room s n start end from to in
    let split : demand_in (first_jobs s (suc n)) start end
    ≡ demand_in (first_jobs s n) start end
    + cond (is_inside start end (job_of s n)) s.cost 0 =
    ap (λ js. demand_in js start end) (first_jobs-suc s n)
    ∙ demand_in-append (first_jobs s n) (job_of s n ∷ []) start end
    ∙ ap (λ x. demand_in (first_jobs s n) start end + x) (demand_in-one (job_of s n) start end)
    in
    rw split (elim (cases_Bool (is_inside start end (job_of s n))) [
      | inl inside ↦
          (let both = and_parts (leb start (n * s.period + s.from)) (leb (n * s.period + s.to) end) inside in
          let low = leb-true _ _ both.0 in
          let high = leb-true _ _ both.1 in
          let here : min end (n * s.period) - start ≡ n * s.period - start = omega arith in
          let next : min end (suc n * s.period) - start ≡ (n * s.period - start) + s.period = omega arith in
          let before' : demand_in (first_jobs s n) start end * s.period ≤ s.cost
          * (n * s.period - start) =
          subst (λ x. demand_in (first_jobs s n) start end * s.period ≤ s.cost * x) here
          before in
          rw inside (rw next (omega arith)))
      | inr outside ↦
          (let grows : min end (n * s.period) - start ≤ min end (suc n * s.period) - start = omega arith in
          let more = mul-le-mul_left {m = min end (n * s.period) - start}
          {n = min end (suc n * s.period) - start} s.cost grows in
          rw outside (omega arith))
    ])

-- what one piece asks for, against its part of a round
piece_room : (p : Piece) (start end : ℕ) → IsUnsplit p → end ≤ ROUND →
    demand_in (first_jobs (subtask_of p) (ROUND / p.period)) start end * ROUND ≤ (end - start)
    * (p.cost * (ROUND / p.period))
piece_room p start end whole within =
    let facts = period_facts p.period p.listed in
    let m = ROUND / p.period in
    let demand_p = demand_in (first_jobs (subtask_of p) m) start end in
    let room : demand_p * p.period ≤ p.cost * (min end (m * p.period) - start) =
    whole_room (subtask_of p) m start end whole.begins whole.ends in
    let all : min end (m * p.period) - start ≡ end - start = omega (arith, facts.whole) in
    let room' : demand_p * p.period ≤ p.cost * (end - start) =
    subst (λ x. demand_p * p.period ≤ p.cost * x) all room in
    let scaled = mul-le-mul_left {m = demand_p * p.period} {n = p.cost * (end - start)} m room' in
    let left : m * (demand_p * p.period) ≡ demand_p * ROUND =
    regroup m demand_p p.period ∙ ap (λ x. demand_p * x) facts.whole in
    let right : m * (p.cost * (end - start)) ≡ (end - start) * (p.cost * m) = omega arith in
    subst (λ x. x ≤ (end - start) * (p.cost * m)) left
    (subst (λ x. m * (demand_p * p.period) ≤ x) right scaled)
  where
    regroup : (a b c : ℕ) → a * (b * c) ≡ b * (c * a)
    regroup a b c = omega arith

-- all pieces ask for no more than their part of the interval
all_room : (ps : List Piece) (start end : ℕ) → AreUnsplit ps → end ≤ ROUND
    → demand_in (jobs_of ps) start end * ROUND ≤ (end - start) * load_of_pieces ps
all_room [] start end whole within = rw jobs_of-nil (rw (demand_in-none start end) (omega arith))
all_room (p ∷ ps) start end whole within =
    let rest : demand_in (jobs_of ps) start end * ROUND ≤ (end - start) * load_of_pieces ps =
    all_room ps start end whole.1 within in
    let here : demand_in (first_jobs (subtask_of p) (ROUND / p.period)) start end * ROUND
    ≤ (end - start) * (p.cost * (ROUND / p.period)) = piece_room p start end whole.0 within
    in
    let split : demand_in (jobs_of (p ∷ ps)) start end
    ≡ demand_in (first_jobs (subtask_of p) (ROUND / p.period)) start end
    + demand_in (jobs_of ps) start end =
    ap (λ js. demand_in js start end) (jobs_of-cons p ps)
    ∙ demand_in-append (first_jobs (subtask_of p) (ROUND / p.period)) (jobs_of ps) start end in
    rw split (sum_bound (demand_in (first_jobs (subtask_of p) (ROUND / p.period)) start end)
    (demand_in (jobs_of ps) start end) (end - start) (p.cost * (ROUND / p.period))
    (load_of_pieces ps) here rest)
  where
    sum_bound : (a b x c d : ℕ) → a * ROUND ≤ x * c → b * ROUND ≤ x * d → (a + b) * ROUND ≤ x * (c + d)
    sum_bound a b x c d h g = omega arith

-- pieces of whole periods fit where they take no more than a round
pub unsplit_fits : (ps : List Piece) → AreUnsplit ps → load_of_pieces ps ≤ ROUND → Fits (jobs_of ps)
unsplit_fits ps whole light start end lt within =
    let room : demand_in (jobs_of ps) start end * ROUND ≤ (end - start) * load_of_pieces ps =
    all_room ps start end whole within in
    let more = mul-le-mul_left {m = load_of_pieces ps} {n = ROUND} (end - start) light in
    omega arith

-- one piece more
all_unsplit_push : (ps : List Piece) (p : Piece) → AreUnsplit ps → IsUnsplit p → AreUnsplit (ps ++ p ∷ [])
all_unsplit_push [] p all whole = (whole, tt)
all_unsplit_push (q ∷ ps) p all whole = (all.0, all_unsplit_push ps p all.1 whole)

-- the load grows by the piece's
load_push : (ps : List Piece) (p : Piece) → load_of_pieces (ps ++ p ∷ []) ≡ load_of_pieces ps + p.cost * (ROUND / p.period)
load_push [] p = omega arith
load_push (q ∷ ps) p = omega (arith, load_push ps p)

-- the loop over the pieces looks at one more
pub all_unsplit_more : (ps : List Piece) (i : ℕ) (d : Piece) → i < length ps → AreUnsplit (take i ps)
    → IsUnsplit (get_or ps i d) → AreUnsplit (take (i + 1) ps)
all_unsplit_more ps i d lt all whole =
    rw (take_more ps i d lt) (all_unsplit_push (take i ps) (get_or ps i d) all whole)

-- one more piece adds its load
pub load_more : (ps : List Piece) (i : ℕ) (d : Piece) → i < length ps
    → load_of_pieces (take (i + 1) ps) ≡ load_of_pieces (take i ps) + (get_or ps i d).cost
    * (ROUND / (get_or ps i d).period)
load_more ps i d lt = ap load_of_pieces (take_more ps i d lt) ∙ load_push (take i ps) (get_or ps i d)
