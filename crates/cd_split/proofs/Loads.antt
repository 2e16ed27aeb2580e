-- The load of a core is the demand of the whole round, so pieces that fit take no more than a round.
use Rattle.std.proofs.Common.{◌≡◌, ℕ, zero, suc, ◌+◌, ◌-◌, ◌*◌, ◌/◌, ◌<◌, ◌≤◌, lit<, cond, true, List, [], ◌∷◌, ◌++◌, length, get_or, take, ap, sym, ◌∙◌, arith}
use Rattle.std.proofs.lemmas.Bool.{le-leb}
use Rattle.std.proofs.lemmas.List.{take_more}
use Rattle.tab_core.specs.declared.TheConstants.{ROUND}
use Rattle.tab_core.specs.declared.piece.Piece.{Piece}
use Rattle.tab_core.specs.Period.{IsPeriod}
use Rattle.tab_core.proofs.Periods.{period_facts}
use Rattle.table_form.specs.Planning.Jobs.{Subtask, job_of, subtask_of, first_jobs, jobs_of, jobs_of_subtask}
use Rattle.table_form.specs.Planning.Demand.{demand_in, is_inside, Fits}
use Rattle.edf_table.specs.Load.{load_of_pieces}
use Rattle.edf_table.proofs.Pieces.{first_jobs-suc, first_jobs-zero, jobs_of-cons, jobs_of-nil}
use Rattle.edf_table.proofs.LoadLemmas.{demand_in-append, demand_in-none, demand_in-one}
use Rattle.cd_split.specs.Splitting.{FitsWith}

-- each job lies inside the round
round_demand : (s : Subtask) (n : ℕ) → s.to ≤ s.period → n * s.period ≤ ROUND
    → demand_in (first_jobs s n) 0 ROUND ≡ s.cost * n
round_demand s zero within few = rw (first_jobs-zero s) (rw (demand_in-none 0 ROUND) (omega arith))
round_demand s (suc n) within few =
    let before : demand_in (first_jobs s n) 0 ROUND ≡ s.cost * n = round_demand s n within (omega arith) in
    let inside : is_inside 0 ROUND (job_of s n) ≡ true =
    rw (le-leb 0 (n * s.period + s.from) (omega arith))
    (le-leb (n * s.period + s.to) ROUND (omega arith)) in
    let split : demand_in (first_jobs s (suc n)) 0 ROUND
    ≡ demand_in (first_jobs s n) 0 ROUND + cond (is_inside 0 ROUND (job_of s n)) s.cost 0 =
    ap (λ js. demand_in js 0 ROUND) (first_jobs-suc s n)
    ∙ demand_in-append (first_jobs s n) (job_of s n ∷ []) 0 ROUND
    ∙ ap (λ x. demand_in (first_jobs s n) 0 ROUND + x) (demand_in-one (job_of s n) 0 ROUND) in
    rw split (rw inside (omega arith))

-- a subtask's demand of the whole round
pub subtask_load : (s : Subtask) → s.to ≤ s.period → IsPeriod s.period
    → demand_in (jobs_of_subtask s) 0 ROUND ≡ s.cost * (ROUND / s.period)
subtask_load s within is =
    let facts = period_facts s.period is in
    round_demand s (ROUND / s.period) within (omega (arith, facts.whole))

-- the load of pieces is their demand of the whole round
pub load_demand : (ps : List Piece) → demand_in (jobs_of ps) 0 ROUND ≡ load_of_pieces ps
load_demand [] = rw jobs_of-nil (demand_in-none 0 ROUND)
load_demand (p ∷ ps) =
    let here : demand_in (jobs_of_subtask (subtask_of p)) 0 ROUND ≡ p.cost * (ROUND / p.period) =
    subtask_load (subtask_of p) p.within p.listed in
    let rest = load_demand ps in
    ap (λ js. demand_in js 0 ROUND) (jobs_of-cons p ps)
    ∙ demand_in-append (jobs_of_subtask (subtask_of p)) (jobs_of ps) 0 ROUND ∙ omega arith

-- the round is an interval with ticks
round_positive : 0 < ROUND
round_positive = lit< tt

-- the criterion at the whole round: a core is not loaded beyond it, so its sum never overflows
pub fits_load : (ps : List Piece) → Fits (jobs_of ps) → load_of_pieces ps ≤ ROUND
fits_load ps fits = let bound = fits 0 ROUND round_positive (omega arith) in omega (arith, load_demand ps)

-- beside these pieces a subtask fits only within the load that they leave
pub fits_with_load : (ps : List Piece) (s : Subtask) → s.to ≤ s.period → IsPeriod s.period
    → FitsWith ps s → load_of_pieces ps + s.cost * (ROUND / s.period) ≤ ROUND
fits_with_load ps s within is fits =
    let bound : demand_in (jobs_of ps ++ jobs_of_subtask s) 0 ROUND ≤ ROUND - 0 =
    fits 0 ROUND round_positive (omega arith) in
    omega (
      arith,
      demand_in-append (jobs_of ps) (jobs_of_subtask s) 0 ROUND,
      load_demand ps,
      subtask_load s within is,
    )

-- loads add up
pub load-append : (ps qs : List Piece) → load_of_pieces (ps ++ qs) ≡ load_of_pieces ps + load_of_pieces qs
load-append [] qs = omega arith
load-append (p ∷ ps) qs = omega (arith, load-append ps qs)

-- the load grows by a piece's at each step, up to that of all pieces
pub load_more : (ps : List Piece) (i : ℕ) (p : Piece) → i < length ps → p ≡ get_or ps i p
    → load_of_pieces (take (i + 1) ps) ≡ load_of_pieces (take i ps) + p.cost * (ROUND / p.period)
load_more ps i p lt is =
    ap load_of_pieces (take_more ps i p lt) ∙ load-append (take i ps) (get_or ps i p ∷ [])
    ∙ ap (λ q. load_of_pieces (take i ps) + load_of_pieces (q ∷ [])) (sym is) ∙ omega arith

-- the load of the first pieces is at most that of all, so no step overflows
pub load_take : (ps : List Piece) (i : ℕ) → load_of_pieces (take i ps) ≤ load_of_pieces ps
load_take [] zero = omega arith
load_take [] (suc i) = omega arith
load_take (p ∷ ps) zero = omega arith
load_take (p ∷ ps) (suc i) = omega (arith, load_take ps i)
