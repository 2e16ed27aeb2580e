-- Wrapped rows give each task its cost in each of its periods.
use Rattle.std.proofs.Common.{◌≡◌, ℕ, zero, suc, ◌+◌, ◌-◌, ◌*◌, ◌/◌, ◌<◌, ◌≤◌, Bool, cond, List, [], ◌∷◌, Option, Some, None, length, take, drop, get_or, slice_get, ap, refl, sym, ◌∙◌, arith, zero-add}
use Rattle.std.specs.List.{sum_by, count_by}
use Rattle.std.proofs.lemmas.List.Sums.{sum_by-cons}
use Rattle.std.proofs.lemmas.List.{length-map}
use Rattle.std.proofs.lemmas.Option.{slice_get-get_or, slice_get_within, get_or_from_slice_get}
use Rattle.tab_core.specs.declared.TheConstants.{ROUND}
use Rattle.tab_core.specs.declared.periodic.Periodic.{Periodic}
use Rattle.table_form.specs.Tables.Rows.{Row}
use Rattle.table_form.specs.Tables.Serves.{Serves, ServesExactly, owner_at, cell_of, flat, cells_within, supply, is_cell_of}
use Rattle.tab_core.specs.Sums.{total}
use Rattle.flow_net.specs.Load.{Load, IsLoad, span, jobs, used}
use Rattle.flow_net.specs.Rows.{row_at, ticks_at}
use Rattle.flow_net.specs.Flows.{flow_of}
use Rattle.flow_net.specs.Allotments.{AllotmentView, IsAllotment, load_of_tasks, cost_of_task, period_of_task}
use Rattle.flow_net.proofs.Loads.{cost_at, period_at}
use Rattle.flow_net.proofs.Searched.{total-part}
use Rattle.flow_net.proofs.Spans.{window_of, over_window, marks_le}
use Rattle.tab_core.proofs.Totals.{total-none, total-ext, total-split, total-swap, total-step, total-front}
use Rattle.wrap_table.specs.Inside.Laying.{offset}
use Rattle.wrap_table.specs.Wrapping.{AreWrapped, length_at}
use Rattle.wrap_table.proofs.Positions.{laid_count}
use Rattle.wrap_table.proofs.Wraps.{the_load, ticks_is}

-- whether a cell is the vCPU's, as a number
abbrev pub one : ℕ → Option ℕ → ℕ
one v cell = cond (is_cell_of v cell) 1 0

-- the vCPU's cells of a list of cells
taken : (v n : ℕ) (row : Row)
    → count_by (λ cell. is_cell_of v cell) (take n row) ≡ total (λ j. one v (flat (slice_get row j))) n
taken v zero row = refl
taken v (suc n) [] = sym (total-none (λ j. one v (flat (slice_get {X =
    Option ℕ} [] j))) (suc n) (λ j h. refl))
taken v (suc n) (x ∷ xs) = sum_by-cons (λ cell. one v cell) x (take n xs)
    ∙ ap (λ m. one v x + m) (taken v n xs)
    ∙ sym (total-front (λ j. one v (flat (slice_get (x ∷ xs) j))) n)

-- a cell after those that are dropped
dropped : (from j : ℕ) (row : Row) → slice_get (drop from row) j ≡ slice_get row (from + j)
dropped zero j row = ap (λ n. slice_get row n) (sym (zero-add j))
dropped (suc from) j [] = refl
dropped (suc from) j (x ∷ xs) = dropped from j xs
    ∙ ap (λ n. slice_get (x ∷ xs) n) (let e : suc (from + j) ≡ suc from + j = omega arith in e)

-- the vCPU's cells of a row, place by place
within : (v : ℕ) (row : Row) (from to : ℕ)
    → cells_within v row from to ≡ total (λ j. one v (flat (slice_get row (from + j)))) (to - from)
unfolding cells_within
within v row from to = taken v (to - from) (drop from row)
    ∙ total-ext _ _ (to - from) (λ j h. ap (λ cell. one v (flat cell)) (dropped from j row))

-- a sum over rows, core by core
over_rows : (g : Row → ℕ) (rows : List Row) → sum_by g rows ≡ total (λ c. g (get_or rows c [])) (length rows)
over_rows g [] = refl
over_rows g (r ∷ rs) = sum_by-cons g r rs ∙ ap (λ n. g r + n) (over_rows g rs)
    ∙ sym (total-front (λ c. g (get_or (r ∷ rs) c [])) (length rs))

-- a sum over the ticks of neighbouring intervals
pub by_intervals : (l : Load) → IsLoad l → (h : ℕ → ℕ) (a n : ℕ) → a + n ≤ l.count
    → total (λ j. h (l.mark a + j)) (l.mark (a + n) - l.mark a)
    ≡ total (λ i. total (λ t. h (l.mark (a + i) + t)) (span l (a + i))) n
by_intervals l ok h a zero le = let e : a + 0 ≡ a = omega arith in let none : l.mark (a + 0) - l.mark a
    ≡ 0 = rw e (omega arith) in rw none refl
by_intervals l ok h a (suc n) le =
    let e : a + suc n ≡ a + n + 1 = omega arith in
    let up = marks_le l ok a (a + n) (omega arith) (omega (arith, le)) in
    let rise = ok.rise (a + n) (omega (arith, le)) in
    let size : l.mark (a + suc n) - l.mark a
    ≡ (l.mark (a + n) - l.mark a) + span l (a + n) = rw e (omega (arith, up, rise)) in
    let split = total-split (λ j. h (l.mark a + j)) (l.mark (a + n) - l.mark a) (span l (a + n)) in
    let last : total (λ t. h (l.mark a + (l.mark (a + n) - l.mark a + t))) (span l (a + n))
    ≡ total (λ t. h (l.mark (a + n) + t)) (span l (a + n))
    = total-ext _ _ (span l (a + n)) (λ t _. ap h (omega (arith, up))) in
    ap (λ m. total (λ j. h (l.mark a + j)) m) size ∙ split
    ∙ omega (arith, by_intervals l ok h a n (omega (arith, le)), last)

-- the vCPU's cells of an interval, over all cores
interval_cells : (tasks : List (Option Periodic)) (cores : ℕ) (a : AllotmentView) (rows : List Row) (v i : ℕ)
    → IsAllotment tasks cores a
    → AreWrapped a cores rows → v < length tasks → i < length a.ticks
    → total (λ c. total (λ t. one v (owner_at rows c (get_or a.marks i 0 + t))) (length_at a i)) cores
    ≡ ticks_at a.ticks i v
interval_cells tasks cores a rows v i is w h lt =
    let l = load_of_tasks tasks a.marks cores in
    let n = length-map tasks cost_of_task in
    let row = row_at a.ticks i in
    let in_row : v < length row = omega (arith, is.widths i lt, h) in
    let part : offset row (v + 1)
    ≤ offset row l.width = total-part (λ j. get_or row j 0) (v + 1) l.width (omega (arith, h, n)) in
    let all : offset row l.width
    ≡ used l (flow_of a.ticks) i =
    total-ext (λ j. get_or row j 0) (λ u. ticks_at a.ticks i u) l.width (λ u b. ticks_is a.ticks i u) in
    let fits : offset row v + get_or row v 0 ≤ cores * length_at a i
    = omega (arith, part, all, total-step (λ j. get_or row j 0) v, is.fits i lt) in
    total-ext _ _ cores (λ c b. total-ext _ _ (length_at a i)
    (λ t b'. ap (λ o. one v o) (w.cells c i t b lt b')))
    ∙ laid_count row v (length_at a i) cores in_row fits ∙ ticks_is a.ticks i v

-- each task gets exactly its cost in each of its periods
supply_is : (tasks : List (Option Periodic)) (cores : ℕ) (a : AllotmentView) (rows : List Row)
    → IsAllotment tasks cores a
    → AreWrapped a cores rows → (v : ℕ) (task : Periodic) → slice_get tasks v ≡ Some (Some task) → (k : ℕ)
    → k < ROUND / task.period → supply v rows (k * task.period) ((k + 1) * task.period) ≡ task.cost
unfolding supply
supply_is tasks cores a rows is w v task at k lt =
    let l = load_of_tasks tasks a.marks cores in
    let ok = the_load tasks cores a is in
    let n = length-map tasks cost_of_task in
    let h = slice_get_within tasks v (Some task) at in
    let is_task = get_or_from_slice_get tasks v (Some task) None at in
    let period : l.period v ≡ task.period = period_at tasks v h ∙ ap period_of_task is_task in
    let cost : l.cost v ≡ task.cost = cost_at tasks v h ∙ ap cost_of_task is_task in
    let in_width : v < l.width = omega (arith, h, n) in
    let in_jobs : k < jobs l v = rw period lt in
    let s = window_of l ok v k in_width in_jobs in
    let win = s.2 in
    let size = s.1 - s.0 in
    let e : s.0 + size ≡ s.1 = omega (arith, win.some) in
    let from : l.mark s.0 ≡ k * task.period = win.from ∙ ap (λ p. k * p) period in
    let until : l.mark s.1 ≡ (k + 1) * task.period = win.until ∙ ap (λ p. (k + 1) * p) period in
    let marks : l.mark (s.0 + size) - l.mark s.0 ≡ (k + 1) * task.period - k * task.period
    = ap (λ m. l.mark m - l.mark s.0) e ∙ ap (λ x. x - l.mark s.0) until
    ∙ ap (λ x. (k + 1) * task.period - x) from in
    let cell = λ (c p : ℕ). one v (owner_at rows c p) in
    let per_row : (c : ℕ) → c < length rows
    → cells_within v (get_or rows c []) (k * task.period) ((k + 1) * task.period)
    ≡ total (λ i. total (λ t. cell c (l.mark (s.0 + i) + t)) (span l (s.0 + i))) size
    = λ c b.
    let at_row = slice_get-get_or rows c [] b in
    within v (get_or rows c []) (k * task.period) ((k + 1) * task.period)
    ∙ total-ext _ (λ j. cell c (k * task.period + j)) ((k + 1) * task.period - k * task.period)
    (λ j _. ap (λ r. one v (cell_of r (k * task.period + j))) (sym at_row))
    ∙ ap (λ x. total (λ j. cell c (x + j)) ((k + 1) * task.period - k * task.period)) (sym from)
    ∙ ap (λ m. total (λ j. cell c (l.mark s.0 + j)) m) (sym marks)
    ∙ by_intervals l ok (cell c) s.0 size (omega (arith, e, win.in_round)) in
    let all : supply v rows (k * task.period) ((k + 1) * task.period)
    ≡ total (λ i. ticks_at a.ticks (s.0 + i) v) size
    = over_rows (λ row. cells_within v row (k * task.period) ((k + 1) * task.period)) rows
    ∙ total-ext _ _ (length rows) per_row
    ∙ total-swap (λ c i. total (λ t. cell c (l.mark (s.0 + i) + t)) (span l (s.0 + i))) size (length rows)
    ∙ ap (λ m. total (λ i. total (λ c. total (λ t. cell c (l.mark (s.0 + i) + t)) (span l (s.0
    + i))) m) size) w.count
    ∙ total-ext _ _ size (λ i b. interval_cells tasks cores a rows v (s.0
    + i) is w h (omega (arith, b, e, win.in_round, is.rows))) in
    let served = is.serves v k h in_jobs in
    let sum = over_window l ok v k s.0 s.1 win (flow_of a.ticks v) in
    omega (arith, all, served, sum, cost)

-- the rows serve
pub wrapped_serves : (tasks : List (Option Periodic)) (cores : ℕ) (a : AllotmentView) (rows : List Row)
    → IsAllotment tasks cores a
    → AreWrapped a cores rows → Serves tasks rows
wrapped_serves tasks cores a rows is w v task at k lt =
    omega (arith, supply_is tasks cores a rows is w v task at k lt)

-- capped vCPUs get exactly their cost
pub wrapped_serves_exactly : (tasks : List (Option Periodic)) (capped : List Bool) (cores : ℕ)
    (a : AllotmentView) (rows : List Row) → IsAllotment tasks cores a → AreWrapped a cores rows
    → ServesExactly tasks capped rows
wrapped_serves_exactly tasks capped cores a rows is w v task at capped_v k lt =
    supply_is tasks cores a rows is w v task at k lt
