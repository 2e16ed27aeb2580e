-- The ticks that a plan offers in a period are at least its cells, since no vCPU is in two rows at
-- one place.
use Rattle.std.proofs.Common.{◌≡◌, ℕ, zero, suc, ◌+◌, ◌-◌, ◌*◌, ◌/◌, ◌%◌, ◌≤◌, Bool, true, false, cond, List, [], ◌∷◌, take, drop, Option, Some, refl, ap, ◌∙◌, arith}
use Rattle.std.specs.Prelude.{slice_get, count_by, ◌||◌}
use Rattle.std.proofs.Math.Seq.{take-nil}
use Rattle.std.proofs.lemmas.List.Sums.{sum_by-cons}
use Rattle.tab_core.specs.declared.TheConstants.{ROUND}
use Rattle.tab_core.proofs.Lists.{get-drop}
use Rattle.tab_core.specs.Sums.{total}
use Rattle.table_form.specs.Running.Courses.{CourseView, plan_after}
use Rattle.table_form.specs.Promises.Offered.{some_row_has, is_offered, offers}
use Rattle.table_form.specs.Tables.Rows.{Row}
use Rattle.table_form.specs.Tables.Serves.{Apart, cells_within, supply, owner_at, flat, is_cell_of}
use Rattle.table_form.proofs.OfferedLemmas.{cell_is}

-- 1 where the test passes
abbrev pub one : Bool → ℕ
one b = cond b 1 0

-- the row has the vCPU at the place
abbrev pub stands : ℕ → Row → ℕ → Bool
stands v row place = is_cell_of v (flat (slice_get row place))

-- how many rows have the vCPU at the place
abbrev pub rows_with : ℕ → List Row → ℕ → ℕ
rows_with v [] place = 0
rows_with v (row ∷ rows) place = one (stands v row place) + rows_with v rows place

-- the cells of a row, one place further; for `cells_step`
count_step : (v : ℕ) (xs : Row) (n : ℕ)
    → count_by (λ cell. is_cell_of v cell) (take (suc n) xs)
    ≡ count_by (λ cell. is_cell_of v cell) (take n xs) + one (stands v xs n)
count_step v [] n = rw take-nil refl
count_step v (x ∷ xs) zero = refl
count_step v (x ∷ xs) (suc n) =
    omega (
      arith,
      sum_by-cons (λ cell. cond (is_cell_of v cell) 1 0) x (take (suc n) xs),
      sum_by-cons (λ cell. cond (is_cell_of v cell) 1 0) x (take n xs),
      count_step v xs n,
    )

-- the cells within an interval grow by the one at its end
cells_step : (v : ℕ) (row : Row) (from n : ℕ)
    → cells_within v row from (from + suc n)
    ≡ cells_within v row from (from + n) + one (stands v row (from + n))
unfolding cells_within
cells_step v row from n =
    let more : from + suc n - from ≡ suc n = omega arith in
    let less : from + n - from ≡ n = omega arith in
    rw (more, less) (count_step v (drop from row) n
    ∙ ap (λ (o : Option (Option ℕ)). count_by (λ cell. is_cell_of v cell)
    (take n (drop from row)) + one (is_cell_of v (flat o)))
    (get-drop row from n (from + n) refl))

-- an empty interval has no cells
no_cells : (v : ℕ) (row : Row) (from : ℕ) → cells_within v row from (from + 0) ≡ 0
unfolding cells_within
no_cells v row from = (let none : from + 0 - from ≡ 0 = omega arith in rw none refl)

-- the supply counts the cells of all rows, so both hold of it; for inductions over an interval
pub supply_none : (v : ℕ) (rows : List Row) (from : ℕ) → supply v rows from (from + 0) ≡ 0
unfolding supply
supply_none v [] from = refl
supply_none v (row ∷ rows) from =
    omega (
      arith,
      sum_by-cons (λ (r : Row). cells_within v r from (from + 0)) row rows,
      no_cells v row from,
      supply_none v rows from,
    )

-- the supply grows by the rows that have the vCPU at the interval's end
pub supply_step : (v : ℕ) (rows : List Row) (from n : ℕ)
    → supply v rows from (from + suc n)
    ≡ supply v rows from (from + n) + rows_with v rows (from + n)
unfolding supply
supply_step v [] from n = refl
supply_step v (row ∷ rows) from n =
    omega (
      arith,
      sum_by-cons (λ (r : Row). cells_within v r from (from + suc n)) row rows,
      sum_by-cons (λ (r : Row). cells_within v r from (from + n)) row rows,
      cells_step v row from n,
      supply_step v rows from n,
    )

-- no row counts where none has the vCPU
nowhere : (v : ℕ) (rows : List Row) (place : ℕ) → ((d : ℕ) → owner_at rows d place ≡ Some v → ⊥)
    → rows_with v rows place ≡ 0
nowhere v [] place none = refl
nowhere v (row ∷ rows) place none =
    omega (
      arith,
      not_here (stands v row place)
          (λ is. none 0 (cell_is v (flat (slice_get row place)) is)),
      nowhere v rows place (λ d h. none (suc d) h),
    )
  where
    not_here : (b : Bool) → (b ≡ true → ⊥) → one b ≡ 0
    not_here true h = absurd (h refl)
    not_here false h = refl

-- one row more; for `at_most_one`
one_more : (b rest : Bool) (n : ℕ) → n ≤ one rest → (b ≡ true → n ≡ 0) → one b + n ≤ one (b || rest)
one_more true rest n le none = (let zero_here = none refl in omega arith)
one_more false rest n le none = omega arith

-- at most one row has the vCPU at a place, and then some row has it
at_most_one : (v : ℕ) (rows : List Row) (place : ℕ) → Apart rows
    → rows_with v rows place ≤ one (some_row_has rows v place)
at_most_one v [] place apart = omega arith
at_most_one v (row ∷ rows) place apart =
    one_more (stands v row place) (some_row_has rows v place) (rows_with v rows place)
    (at_most_one v rows place (λ w p c d h g. (let e = apart w p (suc c) (suc d) h g in omega arith)))
    (λ is. nowhere v rows place
    (λ d h. (let e = apart v place 0 (suc d) (cell_is v (flat (slice_get row place)) is) h in omega arith)))

-- one row more; for `one_at_least`
one_less : (a b : Bool) (n : ℕ) → one b ≤ n → one (a || b) ≤ one a + n
one_less true b n le = omega arith
one_less false b n le = omega arith

-- where some row has the vCPU at a place, one row at least does
pub one_at_least : (v : ℕ) (rows : List Row) (place : ℕ) → one (some_row_has rows v place) ≤ rows_with v rows place
one_at_least v [] place = omega arith
one_at_least v (row ∷ rows) place =
    one_less (stands v row place) (some_row_has rows v place) (rows_with v rows place)
    (one_at_least v rows place)

-- the offered ticks are counted one by one
pub offers_total : (course : CourseView) (decided : List ℕ) (v from n : ℕ)
    → offers course decided v from n ≡ total (λ t. one (is_offered course decided v (from + t))) n
unfolding offers
offers_total course decided v from zero = refl
offers_total course decided v from (suc n) = omega (arith, offers_total course decided v from n)

-- the offers grow by the tick at the end
offers_step : (course : CourseView) (decided : List ℕ) (v from n : ℕ)
    → offers course decided v from (suc n)
    ≡ offers course decided v from n + one (is_offered course decided v (from + n))
unfolding offers
offers_step course decided v from n = refl

-- in a round that was entered the offers are at least the supply of its plan
pub offers_supply : (course : CourseView) (decided : List ℕ) (v r count start n : ℕ)
    → slice_get decided r ≡ Some count → Apart (plan_after course count).rows → start + n ≤ ROUND →
    supply v (plan_after course count).rows start (start + n) ≤ offers course decided v (r * ROUND + start) n
offers_supply course decided v r count start zero is apart within =
    omega (arith, supply_none v (plan_after course count).rows start)
offers_supply course decided v r count start (suc n) is apart within =
    let rows : List Row = (plan_after course count).rows in
    let x : ℕ = r * ROUND + start + n in
    let round : x / ROUND ≡ r = omega arith in
    let place : x % ROUND ≡ start + n = omega arith in
    let here : is_offered course decided v x ≡ some_row_has rows v (start + n) = rw (round, place, is) refl in
    omega (
      arith,
      supply_step v rows start n,
      at_most_one v rows (start + n) apart,
      offers_step course decided v (r * ROUND + start) n,
      ap one here,
      offers_supply course decided v r count start n is apart (omega arith),
    )
