-- A vCPU runs at a tick in one stint at most, so the ticks at which it ran are the sum over the stints.
use Rattle.std.proofs.Common.{◌≡◌, ℕ, zero, suc, ◌+◌, ◌-◌, ◌<◌, ◌≤◌, min, max, Bool, true, false, cond, List, [], ◌∷◌, Some, refl, sym, ap, ◌∙◌, arith}
use Rattle.std.specs.Prelude.{slice_get, take, count_by, nat_le, nat_lt, ◌&&◌, ◌||◌}
use Rattle.std.specs.List.{list_any, sum_by}
use Rattle.std.proofs.lemmas.Bool.{and_parts, leb-true, ltb-true}
use Rattle.std.proofs.lemmas.Bool.Decides.{nat_tests}
use Rattle.std.proofs.lemmas.Grind.{common_steps}
use Rattle.std.proofs.lemmas.List.Folds.{Any-from_list_any}
use Rattle.std.proofs.lemmas.List.Sums.{sum_by-cons, sum_by_more, sum_by_more_le}
use Rattle.std.proofs.lemmas.Option.{get_or_from_slice_get, slice_get_read, slice_get_within}
use Rattle.tab_core.specs.Timelines.{AreContiguous}
use Rattle.tab_core.specs.declared.stint.Stint.{Stint}
use Rattle.tab_core.proofs.TimelineLemmas.{later_from}
use Rattle.table_form.proofs.OfferedLemmas.{cell_is}
use Rattle.table_form.specs.Promises.Capped.{runs_at, runs_in, ticks_run}
use Rattle.table_form.specs.Running.Courses.{CourseView, IsCourse}
use Rattle.table_form.specs.Running.Invariant.{StateInvariant}
use Rattle.table_form.specs.Running.State.{State, CoreState, IsCore}
use Rattle.table_form.specs.Tables.Serves.{is_cell_of}
use Rattle.run_promises.proofs.TogetherLemmas.{one_core}
use Rattle.burst_bound.specs.Inside.Counting.{ran_ticks_in, run_by, run_on}

-- ---- lists

-- a sum of larger terms, element by element
sum_same : {X : Type 0} (f g : X → ℕ) (xs : List X)
    → ((k : ℕ) (x : X) → slice_get xs k ≡ Some x → f x ≡ g x) → sum_by f xs ≡ sum_by g xs
sum_same f g [] same = refl
sum_same f g (x ∷ xs) same =
    omega (
      arith,
      sum_by-cons f x xs,
      sum_by-cons g x xs,
      same 0 x refl,
      sum_same f g xs (λ k y at. same (suc k) y at),
    )

-- a sum of sums
sum_both : {X : Type 0} (f g h : X → ℕ) (xs : List X) → ((x : X) → h x ≡ f x + g x)
    → sum_by h xs ≡ sum_by f xs + sum_by g xs
sum_both f g h [] both = refl
sum_both f g h (x ∷ xs) both =
    omega (arith, sum_by-cons f x xs, sum_by-cons g x xs, sum_by-cons h x xs, both x, sum_both f g h xs both)

-- a sum of nothing
sum_none : {X : Type 0} (f : X → ℕ) (xs : List X) → ((x : X) → f x ≡ 0) → sum_by f xs ≡ 0
sum_none f [] none = refl
sum_none f (x ∷ xs) none = omega (arith, sum_by-cons f x xs, none x, sum_none f xs none)

abbrev one : Bool → ℕ
one b = cond b 1 0

-- none passes where the first one does and it is the only one
none_behind : {X : Type 0} (p : X → Bool) (xs : List X)
    → ((k : ℕ) (x : X) → slice_get xs k ≡ Some x → p x ≡ true → ⊥) → count_by p xs ≡ 0
none_behind p [] none = refl
none_behind p (x ∷ xs) none =
    by_test (p x) refl (sum_by-cons (λ y. one (p y)) x xs) (none_behind p xs (λ k y at is. none (suc k) y at is))
  where
    by_test : (b : Bool) → p x ≡ b → count_by p (x ∷ xs) ≡ one (p x) + count_by p xs → count_by p xs ≡ 0
        → count_by p (x ∷ xs) ≡ 0
    by_test true is sum rest = absurd (none 0 x refl is)
    by_test false is sum rest = (let here = ap one is in omega (arith, sum, rest, here))

-- where one place at most passes a test, as many pass as some does
pub count_once : {X : Type 0} (p : X → Bool) (xs : List X)
    → ((j k : ℕ) (x y : X) → slice_get xs j ≡ Some x → slice_get xs k ≡ Some y → p x ≡ true → p y ≡ true → j ≡ k)
    → count_by p xs ≡ one (list_any p xs)
count_once p [] once = refl
count_once p (x ∷ xs) once =
    by_test (p x) refl (sum_by-cons (λ y. one (p y)) x xs)
    (count_once p xs (λ j k y z g h a b. (let e = once (suc j) (suc k) y z g h a b in omega arith)))
  where
    by_test : (b : Bool) → p x ≡ b → count_by p (x ∷ xs) ≡ one (p x) + count_by p xs
        → count_by p xs ≡ one (list_any p xs) → count_by p (x ∷ xs) ≡ one (p x || list_any p xs)
    by_test true is sum rest =
        let none = none_behind p xs (λ k y at passes.
        (let e = once 0 (suc k) x y refl at is passes in absurd (omega arith))) in
        let here = ap one is in
        let all : one (p x || list_any p xs) ≡ 1 = rw is refl in
        omega (arith, sum, none, here, all)
    by_test false is sum rest =
        let here = ap one is in
        let all : one (p x || list_any p xs) ≡ one (list_any p xs) = rw is refl in
        omega (arith, sum, rest, here, all)

-- ---- one tick

-- a stint that runs the vCPU at the tick covers it
pub runs_there : (v x : ℕ) (st : Stint) → runs_in v x st ≡ true → (st.from ≤ x) × (x < st.end) × (st.ran ≡ Some v)
runs_there v x st is =
    let begun = and_parts (nat_le st.from x) (nat_lt x st.end && is_cell_of v st.ran) is in
    let going = and_parts (nat_lt x st.end) (is_cell_of v st.ran) begun.1 in
    (leb-true st.from x begun.0, ltb-true x st.end going.0, cell_is v st.ran going.1)

-- one stint of a chain at most covers a tick
one_place : (from to : ℕ) (ss : List Stint) (x j k : ℕ) (s t : Stint) → AreContiguous from ss to
    → ((i : ℕ) (u : Stint) → slice_get ss i ≡ Some u → u.from < u.end) → slice_get ss j ≡ Some s
    → slice_get ss k ≡ Some t → s.from ≤ x → x < s.end → t.from ≤ x → x < t.end → j ≡ k
one_place from to [] x j k s t chain ticks g h a b a' b' = absurd cc
one_place from to (u ∷ us) x zero zero s t chain ticks g h a b a' b' = refl
one_place from to (u ∷ us) x zero (suc k) s t chain ticks g h a b a' b' =
    let e : u ≡ s = cc in
    let q = ap (λ (y : Stint). y.end) e in
    absurd (omega (arith, later_from u.end to us k t chain.1 (λ i v r. ticks (suc i) v r) h))
one_place from to (u ∷ us) x (suc j) zero s t chain ticks g h a b a' b' =
    let e : u ≡ t = cc in
    let q = ap (λ (y : Stint). y.end) e in
    absurd (omega (arith, later_from u.end to us j s chain.1 (λ i v r. ticks (suc i) v r) g))
one_place from to (u ∷ us) x (suc j) (suc k) s t chain ticks g h a b a' b' =
    ap suc (one_place u.end to us x j k s t chain.1 (λ i v r. ticks (suc i) v r) g h a b a' b')

-- in how many of the cores' stints the vCPU runs at the tick
abbrev pub stints_running : ℕ → ℕ → List CoreState → ℕ
stints_running v x cores = sum_by (λ (core : CoreState). count_by (runs_in v x) core.stints) cores

-- in one at most
pub runs_once : (course : CourseView) (rounds : ℕ) (s : State) (v x : ℕ) → IsCourse course
    → StateInvariant course rounds s → stints_running v x s.cores ≡ one (runs_at s v x)
runs_once course rounds s v x ok kept =
    sum_same (λ (core : CoreState). count_by (runs_in v x) core.stints)
    (λ (core : CoreState). one (list_any (runs_in v x) core.stints)) s.cores (λ c core at.
    count_once (runs_in v x) core.stints (λ j k a b g h p q.
    (let one = runs_there v x a p in
    let two = runs_there v x b q in
    let line = (kept.cores c core at).timeline in
    one_place 0 core.clock core.stints x j k a b line.contiguous (λ i u r. (line.each i u r).some_ticks) g h
    one.0 one.1 two.0 two.1)))
    ∙ count_once (λ (core : CoreState). list_any (runs_in v x) core.stints) s.cores (λ c d core other g h p q.
    (let a = some_runs core.stints p in
    let b = some_runs other.stints q in
    let one = runs_there v x a.1 a.3 in
    let two = runs_there v x b.1 b.3 in
    one_core course rounds s ok kept x v c d core other a.1 b.1 g h
    (record { place = a.0; at = a.2; begun = one.0; going = one.1 })
    (record { place = b.0; at = b.2; begun = two.0; going = two.1 }) one.2 two.2))
  where
    some_runs : (stints : List Stint) → list_any (runs_in v x) stints ≡ true
        → (k : ℕ) × (st : Stint) × (slice_get stints k ≡ Some st) × (runs_in v x st ≡ true)
    some_runs stints h =
        let found = Any-from_list_any (runs_in v x) stints h in
        (found.0, found.1, slice_get_read stints _ found.0 found.1 refl found.2 (sym found.3), found.4)

-- ---- ticks in a row

-- one tick more of one stint
run_in_more : (v from x : ℕ) (st : Stint) → from ≤ x
    → ran_ticks_in v from (x + 1) st ≡ ran_ticks_in v from x st + one (runs_in v x st)
run_in_more v from x st low = by_cell (is_cell_of v st.ran) refl where
  by_cell : (b : Bool) → is_cell_of v st.ran ≡ b
      → cond (is_cell_of v st.ran) (min st.end (x + 1) - max st.from from) 0
      ≡ cond (is_cell_of v st.ran) (min st.end x - max st.from from) 0
      + one (nat_le st.from x && (nat_lt x st.end && is_cell_of v st.ran))
  by_cell true is = rw is (covers st.from st.end)
    where
      covers : (f e : ℕ) → min e (x + 1) - max f from ≡ min e x - max f from + one (nat_le f x && (nat_lt x e && true))
      covers f e = grind (arith, nat_tests, common_steps)
  by_cell false is = rw is (no_cell (nat_le st.from x) (nat_lt x st.end))
    where
      no_cell : (a b : Bool) → 0 ≡ 0 + one (a && (b && false))
      no_cell true true = refl
      no_cell true false = refl
      no_cell false b = refl

-- none
run_in_none : (v from : ℕ) (st : Stint) → ran_ticks_in v from from st ≡ 0
run_in_none v from st = by_cell (is_cell_of v st.ran) refl where
  by_cell : (b : Bool) → is_cell_of v st.ran ≡ b → cond (is_cell_of v st.ran) (min st.end from - max st.from from) 0 ≡ 0
  by_cell true is = rw is (omega arith)
  by_cell false is = rw is refl

-- the ticks at which a vCPU ran are those that the stints of all cores give together
pub ticks_by_stints : (course : CourseView) (rounds : ℕ) (s : State) (v from n : ℕ) → IsCourse course
    → StateInvariant course rounds s → ticks_run s v from n ≡ run_on v from (from + n) s.cores
unfolding ticks_run run_on run_by
ticks_by_stints course rounds s v from zero ok kept =
    let e : from + 0 ≡ from = omega arith in
    rw e (sym (sum_none (λ (core : CoreState). sum_by (ran_ticks_in v from from) core.stints) s.cores
    (λ core. sum_none (ran_ticks_in v from from) core.stints (run_in_none v from))))
ticks_by_stints course rounds s v from (suc n) ok kept =
    let x : ℕ = from + n in
    let e : from + suc n ≡ x + 1 = omega arith in
    let more = sum_both (λ (core : CoreState). sum_by (ran_ticks_in v from x) core.stints)
    (λ (core : CoreState). count_by (runs_in v x) core.stints)
    (λ (core : CoreState). sum_by (ran_ticks_in v from (x + 1)) core.stints) s.cores
    (λ core. sum_both (ran_ticks_in v from x) (λ st. one (runs_in v x st)) (ran_ticks_in v from (x + 1)) core.stints
    (λ st. run_in_more v from x st (omega arith))) in
    let once = runs_once course rounds s v x ok kept in
    let before = ticks_by_stints course rounds s v from n ok kept in
    rw e (ap (λ (t : ℕ). t + one (runs_at s v x)) before
    ∙ ap (λ (t : ℕ). run_on v from x s.cores + t) (sym once) ∙ sym more)

-- no more than there are
pub ticks_few : (s : State) (v from n : ℕ) → ticks_run s v from n ≤ n
unfolding ticks_run
ticks_few s v from zero = omega arith
ticks_few s v from (suc n) = omega (arith, ticks_few s v from n, at_most_one (runs_at s v (from + n)))
  where
    at_most_one : (b : Bool) → one b ≤ 1
    at_most_one true = omega arith
    at_most_one false = omega arith

-- ---- core by core

-- before the first core
pub run_on_none : (v from end : ℕ) → run_on v from end [] ≡ 0
unfolding run_on
run_on_none v from end = refl

-- one core more
pub run_on_more : (s : State) (v from end c : ℕ) (core : CoreState) → IsCore s c core
    → run_on v from end (take (c + 1) s.cores) ≡ run_on v from end (take c s.cores) + run_by v from end core.stints
unfolding run_on
run_on_more s v from end c core at =
    let f : CoreState → ℕ = λ (k : CoreState). run_by v from end k.stints in
    let lt = slice_get_within s.cores c core at in
    let here = get_or_from_slice_get s.cores c core core at in
    sum_by_more f s.cores c core lt
    ∙ ap (λ (k : CoreState). run_on v from end (take c s.cores) + run_by v from end k.stints) here

-- all cores
pub run_on_all : (course : CourseView) (rounds : ℕ) (s : State) (v from end : ℕ) → IsCourse course
    → StateInvariant course rounds s → from ≤ end → run_on v from end s.cores ≡ ticks_run s v from (end - from)
run_on_all course rounds s v from end ok kept le =
    let e : from + (end - from) ≡ end = omega arith in
    sym (rw e at (ticks_by_stints course rounds s v from (end - from) ok kept))

-- those so far and one more give no more ticks than there are
pub run_on_few : (course : CourseView) (rounds : ℕ) (s : State) (v from end c : ℕ) (core : CoreState)
    → IsCourse course → StateInvariant course rounds s → from ≤ end → IsCore s c core
    → run_on v from end (take c s.cores) + run_by v from end core.stints ≤ end
unfolding run_on
run_on_few course rounds s v from end c core ok kept le at =
    let f : CoreState → ℕ = λ (k : CoreState). run_by v from end k.stints in
    let lt = slice_get_within s.cores c core at in
    let here = ap f (get_or_from_slice_get s.cores c core core at) in
    omega (
      arith,
      sum_by_more_le f s.cores c core lt,
      here,
      run_on_all course rounds s v from end ok kept le,
      ticks_few s v from (end - from),
    )
