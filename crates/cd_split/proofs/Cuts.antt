-- Cuts of fewer ticks than one that overloads an interval, and of more.
use Rattle.std.proofs.Common.{◌≡◌, ℕ, zero, suc, ◌+◌, ◌-◌, ◌*◌, ◌/◌, ◌<◌, ◌≤◌, true, cond, leb, List, ap, subst, ◌∙◌, inl, inr, ◌⊎◌, arith}
use Rattle.std.proofs.lemmas.Bool.{cases_Bool, and_parts, leb-true, le-leb}
use Rattle.std.proofs.Math.Nat.{mul-le-mul_left, div-mul-le_self}
use Rattle.std.proofs.lemmas.Nat.{le-div}
use Rattle.tab_core.specs.declared.TheConstants.{ROUND}
use Rattle.tab_core.specs.Period.{IsPeriod}
use Rattle.tab_core.specs.declared.over.Over.{Over}
use Rattle.tab_core.specs.declared.piece.Piece.{Piece}
use Rattle.table_form.specs.Planning.Jobs.{Job, job_of, first_jobs, jobs_of}
use Rattle.table_form.specs.Planning.Demand.{demand_in, is_inside}
use Rattle.edf_table.specs.Beside.{FitsBeside, tight}
use Rattle.edf_table.proofs.Pieces.{first_jobs-zero}
use Rattle.edf_table.proofs.LoadLemmas.{demand_in-append, demand_in-none}
use Rattle.edf_table.proofs.Shorter.{shorter_fits, demand_split}
use Rattle.cd_split.specs.Cores.{pieces_on}
use Rattle.cd_split.specs.Splitting.{FitsWith, IsOverloadWith}

-- where a cut fits, each shorter one does
pub fits_down : (jobs : List Job) (v x f t d : ℕ) → IsPeriod t → 1 ≤ x → f + (x + d) ≤ t
    → FitsBeside jobs (tight v (x + d) f t) → FitsBeside jobs (tight v x f t)
fits_down jobs v x f t zero is some within fits =
    let same : x + 0 ≡ x = omega arith in subst (λ y. FitsBeside jobs (tight v y f t)) same fits
fits_down jobs v x f t (suc d) is some within fits =
    let one_less = shorter_fits jobs v (x + suc d) f t is (omega arith) within fits in
    let same : x + suc d - 1 ≡ x + d = omega arith in
    fits_down jobs v x f t d is some (omega arith)
    (subst (λ y. FitsBeside jobs (tight v y f t)) same one_less)

-- where a cut doesn't fit, no longer one does
pub longer_misses : (jobs : List Job) (v x more f t : ℕ) → IsPeriod t → 1 ≤ x → x ≤ more
    → f + more ≤ t → (FitsBeside jobs (tight v x f t) → ⊥) →
    FitsBeside jobs (tight v more f t) → ⊥
longer_misses jobs v x more f t is some le within miss fits =
    let same : more ≡ x + (more - x) = omega arith in
    miss (fits_down jobs v x f t (more - x) is some (omega arith)
    (subst (λ y. FitsBeside jobs (tight v y f t)) same fits))

-- of the first n windows of cuts of x and of y ticks, those inside an interval: none of x, or count
-- + 1, which are a period apart
record Inside (v x y f t from to n : ℕ) : Type 0 where
  count : ℕ
  demand : demand_in (first_jobs (tight v x f t) n) from to
      ≤ demand_in (first_jobs (tight v y f t) n) from to + (count + 1) * (x - y)
  length : count * t + from + x ≤ to
  last : count * t + from + t ≤ n * t + f

-- a shorter cut takes no more than the difference from each window
insides : (v x y f t from to n : ℕ) → y ≤ x
    → (demand_in (first_jobs (tight v x f t) n) from to ≡ 0) ⊎ Inside v x y f t from to n
insides v x y f t from to zero le = inl (rw (first_jobs-zero (tight v x f t)) (demand_in-none from to))
insides v x y f t from to (suc n) le =
    let long = demand_split (tight v x f t) n from to in
    let short = demand_split (tight v y f t) n from to in
    elim (cases_Bool (is_inside from to (job_of (tight v x f t) n))) [
      | inl in_x ↦ (let both = and_parts (leb from (n * t + f)) (leb (n * t + (f + x)) to) in_x in
          let low : from ≤ n * t + f = leb-true _ _ both.0 in
          let high : n * t + (f + x) ≤ to = leb-true _ _ both.1 in
          let in_y : is_inside from to (job_of (tight v y f t) n) ≡ true =
          rw (le-leb from (n * t + f) low) (le-leb (n * t + (f + y)) to (omega arith)) in
          let long' : demand_in (first_jobs (tight v x f t) (suc n)) from to
          ≡ demand_in (first_jobs (tight v x f t) n) from to + x = long
          ∙ ap (λ b. demand_in (first_jobs (tight v x f t) n) from to + cond b x 0) in_x in
          let short' : demand_in (first_jobs (tight v y f t) (suc n)) from to
          ≡ demand_in (first_jobs (tight v y f t) n) from to + y = short
          ∙ ap (λ b. demand_in (first_jobs (tight v y f t) n) from to + cond b y 0) in_y in
          inr (elim (insides v x y f t from to n le) [
            | inl none ↦ record { count = 0; demand = omega arith; length = omega arith; last = omega arith }
            | inr some ↦ (let demand = some.demand in
                let before = some.last in
                record {
                  count = some.count + 1;
                  demand = omega arith;
                  length = omega arith;
                  last = omega arith;
                })
          ]))
      | inr out_x ↦
          (let long' : demand_in (first_jobs (tight v x f t) (suc n)) from to
          ≡ demand_in (first_jobs (tight v x f t) n) from to = long
          ∙ ap (λ b. demand_in (first_jobs (tight v x f t) n) from to + cond b x 0) out_x ∙ omega arith in
          elim (insides v x y f t from to n le) [
            | inl none ↦ inl (long' ∙ none)
            | inr some ↦ (let demand = some.demand in
                let before = some.last in
                let length = some.length in
                inr (record {
                  count = some.count;
                  demand = omega arith;
                  length = omega arith;
                  last = omega arith;
                }))
          ])
    ]

-- a cut that is shorter by less than the interval's excess overloads it too
pub still_over : (cores : List (List Piece)) (core v cost less f t : ℕ) (over : Over) → 1 ≤ t
    → IsOverloadWith cores (tight v cost f t) core over → over.to - over.from < over.demand →
    cost - (over.demand - (over.to - over.from) - 1) / ((over.to - over.from - cost) / t + 1) ≤ less
    → less ≤ cost → FitsWith (pieces_on cores core) (tight v less f t) → ⊥
still_over cores core v cost less f t over some reported much near le fits =
    let jobs = jobs_of (pieces_on cores core) in
    let from = over.from in
    let to = over.to in
    let demand = over.demand in
    let n = ROUND / t in
    let long = demand_in (first_jobs (tight v cost f t) n) from to in
    let short = demand_in (first_jobs (tight v less f t) n) from to in
    let asked : demand ≡ demand_in jobs from to + long =
    reported.asked ∙ demand_in-append jobs (first_jobs (tight v cost f t) n) from to in
    let overloaded = reported.first.overloaded in
    let bound : demand_in jobs from to + short ≤ to - from =
    subst (λ d. d ≤ to - from) (demand_in-append jobs
    (first_jobs (tight v less f t) n) from to)
    (fits from to overloaded.some_ticks overloaded.within) in
    elim (insides v cost less f t from to n le) [
      | inl none ↦ omega arith
      | inr some' ↦ (let windows = (to - from - cost) / t + 1 in
          let excess = demand - (to - from) in
          let count = some'.count in
          let length = some'.length in
          let few : count ≤ (to - from - cost) / t = le-div count (to - from - cost) t some (omega arith) in
          let lack : cost - less ≤ (excess - 1) / windows = omega arith in
          let lack' : windows * (cost - less) ≤ windows * ((excess - 1) / windows) =
          mul-le-mul_left {m = cost - less} {n = (excess - 1) / windows} windows lack in
          let all : (excess - 1) / windows * windows ≤ excess - 1 = div-mul-le_self (excess - 1) windows in
          let more : (cost - less) * (count + 1) ≤ (cost - less) * windows =
          mul-le-mul_left {m = count + 1} {n = windows} (cost - less) (omega arith) in
          let grown = some'.demand in
          omega arith)
    ]
