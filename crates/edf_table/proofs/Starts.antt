-- The demand of an interval by the windows that begin at each of its ticks.
use Rattle.std.proofs.Common.{◌≡◌, ◌≢◌, ℕ, zero, suc, ◌+◌, ◌-◌, ◌*◌, ◌/◌, ◌%◌, ◌<◌, ◌≤◌, ◌⊎◌, cond, ◌&&◌, eqb, leb, List, [], ◌∷◌, ◌++◌, length, get_or, take, max, refl, ap, subst, sym, ◌∙◌, inl, inr, arith, append_assoc, zero-add}
use Rattle.std.proofs.lemmas.List.{get_or_default, take_more}
use Rattle.std.proofs.lemmas.List.Sums.{sum_by-append}
use Rattle.std.proofs.lemmas.Bool.{cases_eq, cases_lt, lt-leb, cases_Bool, and_parts, and_from, leb-true, le-leb, eqb-true, eq-eqb}
use Rattle.tab_core.specs.declared.TheConstants.{ROUND}
use Rattle.tab_core.specs.declared.piece.Piece.{Piece}
use Rattle.table_form.specs.Planning.Jobs.{Job, Subtask, job_of, subtask_of, first_jobs, jobs_of}
use Rattle.table_form.specs.Planning.Demand.{IsOverloaded, demand_in, is_inside}
use Rattle.edf_table.specs.Inside.Progress.{Among, NoWindowBegins, SomeBegin, demand_from}
use Rattle.edf_table.proofs.Sums.{sum_le, sum_zero}
use Rattle.edf_table.proofs.Turns.{some_period}
use Rattle.edf_table.proofs.Misses.{ends_in_round, demand_step}
use Rattle.edf_table.proofs.Windows.{whole_at}
use Rattle.edf_table.proofs.Pieces.{first_job_place, job_place, same_multiple, first_jobs-suc, jobs_of-cons, jobs_of-nil, no_jobs}

-- the demand of two lists of jobs is a sum
demand_from-append : (xs ys : List Job) (s e : ℕ)
    → demand_from (xs ++ ys) s e ≡ demand_from xs s e + demand_from ys s e
unfolding demand_from
demand_from-append xs ys s e = sum_by-append (λ j. cond (eqb j.release s && leb j.deadline e) j.cost 0) xs ys

-- that of one job is its cost or nothing
demand_from-one : (j : Job) (s e : ℕ)
    → demand_from (j ∷ []) s e ≡ cond (eqb j.release s && leb j.deadline e) j.cost 0
unfolding demand_from
demand_from-one j s e = zero-add (cond (eqb j.release s && leb j.deadline e) j.cost 0)

-- nothing, where it doesn't begin there and end in time
begins_not : (j : Job) (s e : ℕ) → (j.release ≡ s → j.deadline ≤ e → ⊥)
    → ◌≡◌ {A = ℕ} (cond (eqb j.release s && leb j.deadline e) j.cost 0) 0
begins_not j s e unfit = elim (cases_Bool (eqb j.release s && leb j.deadline e)) [
  | inl yes' ↦
      (let both = and_parts (eqb j.release s) (leb j.deadline e) yes' in absurd
      (unfit (eqb-true _ _ both.0) (leb-true _ _ both.1)))
  | inr no' ↦ rw no' refl
]

-- its cost, where it does
begins_here : (j : Job) (s e : ℕ) → j.release ≡ s → j.deadline ≤ e
    → cond (eqb j.release s && leb j.deadline e) j.cost 0 ≡ j.cost
begins_here j s e at le =
    rw (and_from (eqb j.release s) (leb j.deadline e) (eq-eqb _ _ at) (le-leb _ _ le)) refl

-- no window of the subtask begins there and ends in time
pub starts_none : (s : Subtask) (n start end : ℕ)
    → ((k : ℕ) → k < n → k * s.period + s.from ≡ start → k * s.period + s.to ≤ end → ⊥)
    → demand_from (first_jobs s n) start end ≡ 0
unfolding demand_from
starts_none s n start end unfit =
    sum_zero (λ j. cond (eqb j.release start && leb j.deadline end) j.cost 0) (first_jobs s n)
    (λ j a.
    (let place = first_job_place s n j a in
    begins_not j start end (λ at le. unfit place.0 place.1 (ap (λ (x : Job). x.release) place.2 ∙ at)
    (subst (λ (x : Job). x.deadline ≤ end) (sym place.2) le))))

-- window number k does
pub starts_one : (s : Subtask) (n start end k : ℕ) → k < n → 0 < s.period
    → k * s.period + s.from ≡ start → k * s.period + s.to ≤ end
    → demand_from (first_jobs s n) start end ≡ s.cost
starts_one s zero start end k lt some at le = absurd (omega arith)
starts_one s (suc n) start end k lt some at le =
    rw (first_jobs-suc s n) (demand_from-append (first_jobs s n) (job_of s n ∷ []) start end
    ∙ (rw (demand_from-one (job_of s n) start end) (elim (cases_eq k n) [
      | inl same ↦
          (let none = starts_none s n start end (λ m m-lt m-at m-le.
          (let e = same_multiple s.period m k s.from some (m-at ∙ sym at) in omega arith)) in
          let here = begins_here (job_of s n) start end
          (subst (λ m. m * s.period + s.from ≡ start) same at)
          (subst (λ m. m * s.period + s.to ≤ end) same le) in
          omega arith)
      | inr ne ↦ (let before = starts_one s n start end k (omega arith) some at le in
          let other = begins_not (job_of s n) start end
          (λ n-at n-le. ne (same_multiple s.period k n s.from some (at ∙ sym n-at))) in
          omega arith)
    ])))

-- the four answers of one piece
pub starts_early : (p : Piece) (start end : ℕ) → start < p.from
    → demand_from (first_jobs (subtask_of p) (ROUND / p.period)) start end ≡ 0
starts_early p start end lt = starts_none (subtask_of p) (ROUND / p.period) start end
    (λ k k-lt at le. omega arith)

-- no window begins at a tick between two begins
pub starts_between : (p : Piece) (start end : ℕ) → (start - p.from) % p.period ≢ 0
    → demand_from (first_jobs (subtask_of p) (ROUND / p.period)) start end ≡ 0
starts_between p start end ne =
    starts_none (subtask_of p) (ROUND / p.period) start end
    (λ k k-lt at le. ne (whole_at start p.from p.period k (some_period p) at))

-- the window that begins there ends too late
pub starts_late : (p : Piece) (start end : ℕ) → end < start - p.from + p.to → p.from ≤ start
    → demand_from (first_jobs (subtask_of p) (ROUND / p.period)) start end ≡ 0
starts_late p start end late le =
    starts_none (subtask_of p) (ROUND / p.period) start end (λ k k-lt at in_time. omega arith)

-- one window begins there and ends in time
pub starts_here : (p : Piece) (start end : ℕ) → end ≤ ROUND → p.from ≤ start
    → (start - p.from) % p.period ≡ 0 → start - p.from + p.to ≤ end →
    demand_from (first_jobs (subtask_of p) (ROUND / p.period)) start end ≡ p.cost
starts_here p start end within le whole in_time =
    let k = (start - p.from) / p.period in
    let some = some_period p in
    let at : k * p.period + p.from ≡ start = omega arith in
    starts_one (subtask_of p) (ROUND / p.period) start end k
    (ends_in_round p k (k * p.period + p.to) refl (omega arith)) some at (omega arith)

-- the pieces one after another
pub jobs_of-append : (ps qs : List Piece) → jobs_of (ps ++ qs) ≡ jobs_of ps ++ jobs_of qs
jobs_of-append [] qs = rw jobs_of-nil refl
jobs_of-append (p ∷ ps) qs =
    rw (jobs_of-cons p (ps ++ qs))
    (rw (jobs_of-cons p ps) (rw (jobs_of-append ps qs)
    (sym (append_assoc (first_jobs (subtask_of p) (ROUND / p.period)) (jobs_of ps)
    (jobs_of qs)))))

-- jobs and no more
append_empty : (js : List Job) → js ++ [] ≡ js
append_empty [] = refl
append_empty (j ∷ js) = ap (λ xs. j ∷ xs) (append_empty js)

-- the loop over the pieces adds one piece's at each step
pub demand_from_more : (ps : List Piece) (i : ℕ) (d : Piece) (s e : ℕ) → i < length ps →
    demand_from (jobs_of (take (i + 1) ps)) s e
    ≡ demand_from (jobs_of (take i ps)) s e
    + demand_from (first_jobs (subtask_of (get_or ps i d)) (ROUND / (get_or ps i d).period)) s e
demand_from_more ps i d s e lt =
    let p = get_or ps i d in
    rw (take_more ps i d lt) (rw (jobs_of-append (take i ps) (p ∷ []))
    (demand_from-append (jobs_of (take i ps)) (jobs_of (p ∷ [])) s e
    ∙ ap (λ js. demand_from (jobs_of (take i ps)) s e + demand_from js s e)
    (jobs_of-cons p []
    ∙ (rw jobs_of-nil (append_empty (first_jobs (subtask_of p) (ROUND / p.period)))))))

-- the sum of the demands begins with none
pub demand_from_nothing : (s e : ℕ) → demand_from (jobs_of []) s e ≡ 0
unfolding demand_from
demand_from_nothing s e = rw jobs_of-nil refl

-- no job lies inside an empty interval, since its window has ticks
empty_inside : (e : ℕ) (j : Job) → j.release < j.deadline → ◌≡◌ {A = ℕ} (cond (is_inside e e j) j.cost 0) 0
empty_inside e j lt = elim (cases_Bool (is_inside e e j)) [
  | inl yes' ↦ (let both = and_parts (leb e j.release) (leb j.deadline e) yes' in
      let low = leb-true _ _ both.0 in let high = leb-true _ _ both.1 in absurd (omega arith))
  | inr no' ↦ rw no' refl
]

-- which each window of a piece has
window_is_some : (ps : List Piece) (d : Piece) (j : Job) → Among (jobs_of ps) j → j.release < j.deadline
window_is_some ps d j a =
    let place = job_place ps d j a in
    let p = get_or ps place.0 d in
    subst (λ (x : Job). x.release < x.deadline) place.4 (omega (arith, p.begins))

-- an empty interval is asked for nothing
pub demand_empty : (ps : List Piece) (e : ℕ) → demand_in (jobs_of ps) e e ≡ 0
unfolding demand_in
demand_empty [] e = sum_zero (λ j. cond (is_inside e e j) j.cost 0) (jobs_of []) (λ j a. absurd (no_jobs j a))
demand_empty (p ∷ ps) e = sum_zero (λ j. cond (is_inside e e j) j.cost 0) (jobs_of (p ∷ ps))
    (λ j a. empty_inside e j (window_is_some (p ∷ ps) p j a))

-- where no window begins at a tick from s up to m, both have the same demand up to an end
inside_alike : (s m e : ℕ) (j : Job) → s ≤ m → (s ≤ j.release → m ≤ j.release)
    → is_inside s e j ≡ is_inside m e j
inside_alike s m e j le none = ap (λ b. b && leb j.deadline e) (elim (cases_lt j.release s) [
  | inl before ↦ lt-leb s j.release before ∙ sym (lt-leb m j.release (omega arith))
  | inr from ↦ le-leb s j.release from ∙ sym (le-leb m j.release (none from))
])

-- two intervals have the same demand, term by term over all jobs, where no window begins between
-- their begins
same_demand : (js : List Job) (s m e : ℕ) → s ≤ m
    → ((j : Job) → Among js j → s ≤ j.release → m ≤ j.release) → demand_in js s e ≡ demand_in js m e
unfolding demand_in
same_demand js s m e le none =
    let up = sum_le (λ j. cond (is_inside s e j) j.cost 0) (λ j. cond (is_inside m e j) j.cost 0) js
    (λ j a. (let same = ap (λ b. cond b j.cost 0) (inside_alike s m e j le (none j a)) in omega arith)) in
    let down = sum_le (λ j. cond (is_inside m e j) j.cost 0) (λ j. cond (is_inside s e j) j.cost 0) js
    (λ j a. (let same = ap (λ b. cond b j.cost 0) (inside_alike s m e j le (none j a)) in omega arith)) in
    omega arith

-- no job is released between
no_release : (ps : List Piece) (from tick : ℕ) → NoWindowBegins ps (length ps) from tick → (j : Job)
    → Among (jobs_of ps) j → from < j.release → tick ≤ j.release
no_release [] from tick none j a later = absurd (no_jobs j a)
no_release (p ∷ ps) from tick none j a later =
    let place = job_place (p ∷ ps) p j a in
    let P : Job → Type 0 = λ i. from < i.release → tick ≤ i.release in
    subst P place.4 (none place.0 p place.1 place.2) later

-- the search may skip the ticks between two begins
demand_between : (ps : List Piece) (from s tick e : ℕ) → NoWindowBegins ps (length ps) from tick → from < s
    → s ≤ tick → demand_in (jobs_of ps) s e ≡ demand_in (jobs_of ps) tick e
demand_between ps from s tick e none lt le =
    same_demand (jobs_of ps) s tick e le (λ j a at. no_release ps from tick none j a (omega arith))

-- one begin further back
pub demand_back : (ps : List Piece) (from tick end demand more : ℕ)
    → NoWindowBegins ps (length ps) from tick → from < tick → demand ≡ demand_in (jobs_of ps) tick end
    → more ≡ demand_from (jobs_of ps) from end →
    demand + more ≡ demand_in (jobs_of ps) from end
demand_back ps from tick end demand more none lt d m =
    let step = demand_step (jobs_of ps) from end in
    let between = demand_between ps from (from + 1) tick end none (omega arith) (omega arith) in
    omega arith

-- an interval that begins later isn't overloaded, where those from the next begin on aren't
pub fits_later : (ps : List Piece) (from tick end : ℕ) → NoWindowBegins ps (length ps) from tick
    → tick ≤ end → demand_in (jobs_of ps) tick end ≤ end - tick →
    ((s : ℕ) → tick ≤ s → IsOverloaded (jobs_of ps) s end → ⊥) → (s : ℕ) → from < s
    → IsOverloaded (jobs_of ps) s end → ⊥
fits_later ps from tick end none within small after s lt over = elim (cases_lt s tick) [
  | inl between ↦ (let same = demand_between ps from s tick end none lt (omega arith) in
      let much = over.too_much in omega arith)
  | inr later ↦ after s later over
]

-- a window of the piece at a place begins at the tick
pub some_begin : (ps : List Piece) (i : ℕ) (p q : Piece) (k tick : ℕ) → i < length ps
    → tick ≡ k * (get_or ps i p).period + (get_or ps i q).from → SomeBegin ps tick
some_begin ps i p q k tick lt is = record {
  at = i;
  in_range = lt;
  begins = λ d. (
    k,
    is ∙ (ap (λ (x : Piece). k * x.period + (get_or ps i q).from) (get_or_default ps i p d lt)
        ∙ ap (λ (x : Piece). k * (get_or ps i d).period + x.from) (get_or_default ps i q d lt)),
  );
}

-- of two ticks each of which is 0 or such a begin the later is too
pub later_begin : (ps : List Piece) (a b m : ℕ) → m ≡ max a b → (a ≡ 0) ⊎ SomeBegin ps a
    → (b ≡ 0) ⊎ SomeBegin ps b → (m ≡ 0) ⊎ SomeBegin ps m
later_begin ps a b m is one other = elim (cases_lt a b) [
  | inl lt ↦ (let later : m ≡ b = omega (arith, is, lt) in rw later other)
  | inr le ↦ (let later : m ≡ a = omega (arith, is, le) in rw later one)
]

-- no window of one more piece begins between the later of two begins and the tick
pub no_begin_next : (ps : List Piece) (i a b m tick : ℕ) (p q : Piece) → i < length ps → m ≡ max a b
    → NoWindowBegins ps i a tick
    → ((k : ℕ) → b < k * (get_or ps i p).period + (get_or ps i q).from
    → tick ≤ k * (get_or ps i p).period + (get_or ps i q).from)
    → NoWindowBegins ps (i + 1) m tick
no_begin_next ps i a b m tick p q lt is none last = λ j d low k after. elim (cases_eq j i) [
  | inr other ↦ none j d (omega (arith, low, other)) k (omega (arith, is, after))
  | inl same ↦
      let of_p : get_or ps j d ≡ get_or ps i p = ap (λ n. get_or ps n d) same ∙ get_or_default ps i d p lt in
      let of_q : get_or ps j d ≡ get_or ps i q = ap (λ n. get_or ps n d) same ∙ get_or_default ps i d q lt in
      let begin : k * (get_or ps j d).period + (get_or ps j d).from
      ≡ k * (get_or ps i p).period + (get_or ps i q).from =
      ap (λ (x : Piece). k * x.period + (get_or ps j d).from) of_p
      ∙ ap (λ (x : Piece). k * (get_or ps i p).period + x.from) of_q in
      let later : m < k * (get_or ps i p).period + (get_or ps i q).from = rw begin at after in
      rw begin (last k (omega (arith, is, later)))
]
