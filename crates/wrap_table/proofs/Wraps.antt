-- Wrapped rows keep each vCPU on one core at a time, and are of admitted vCPUs alone.
use Rattle.std.proofs.Common.{◌≡◌, ℕ, ◌+◌, ◌-◌, ◌*◌, ◌<◌, ◌≤◌, ◌==◌, true, cond, List, [], Option, Some, None, length, map, get_or, slice_get, ap, refl, sym, ◌∙◌, arith, ⊎_elim}
use Rattle.std.proofs.lemmas.Bool.{cases_lt, cond-true, eq-eqb}
use Rattle.std.proofs.lemmas.List.{length-map}
use Rattle.std.proofs.lemmas.Option.{slice_get-get_or, slice_get_past}
use Rattle.tab_core.specs.declared.TheConstants.{ROUND}
use Rattle.tab_core.specs.declared.periodic.Periodic.{Periodic}
use Rattle.table_form.specs.Tables.Rows.{Row}
use Rattle.table_form.specs.Tables.Serves.{Apart, OwnersHaveTasks, has_task, owner_at, cell_of, flat}
use Rattle.table_form.proofs.SpotLemmas.{owner_within}
use Rattle.flow_net.specs.Load.{IsLoad, job}
use Rattle.flow_net.specs.Rows.{row_at, ticks_at}
use Rattle.flow_net.specs.Allotments.{AllotmentView, IsAllotment, load_of_tasks, cost_of_task, period_of_task}
use Rattle.flow_net.proofs.Loads.{load_ok, periods_of_tasks, cost_at}
use Rattle.flow_net.proofs.Spans.{holds, job_in}
use Rattle.tab_core.proofs.Totals.{total-point}
use Rattle.wrap_table.specs.Wrapping.{AreWrapped, length_at, owner_from}
use Rattle.wrap_table.proofs.Positions.{laid_apart, laid_some}

-- an allotment's tasks and marks make a load
pub the_load : (tasks : List (Option Periodic)) (cores : ℕ) (a : AllotmentView)
    → IsAllotment tasks cores a → IsLoad (load_of_tasks tasks a.marks cores)
the_load tasks cores a is = load_ok (map cost_of_task tasks) (map period_of_task tasks) a.marks cores
    (periods_of_tasks tasks) is.marks

-- two ways to read a place of a row
pub ticks_is : (rows : List (List ℕ)) (i v : ℕ) → get_or (row_at rows i) v 0 ≡ ticks_at rows i v
unfolding ticks_at
ticks_is rows i v = refl

-- beyond the round there is no owner
place_within : (a : AllotmentView) (cores : ℕ) (rows : List Row) (c place v : ℕ)
    → AreWrapped a cores rows → owner_at rows c place ≡ Some v → place < ROUND
place_within a cores rows c place v w owned =
    let in_rows = owner_within rows c place v owned in
    let at : slice_get rows c ≡ Some (get_or rows c []) = slice_get-get_or rows c [] in_rows in
    let len = w.lengths c (get_or rows c []) at in
    ⊎_elim (λ (lt : place < ROUND). lt)
    (λ (ge : ROUND ≤ place).
    let none : flat (slice_get (get_or rows c []) place)
    ≡ None = ap flat (slice_get_past (get_or rows c []) place (omega (arith, len, ge))) in
    let here : owner_at rows c place ≡ None = ap (λ r. cell_of r place) at ∙ none in
    absurd (let bad : None ≡ Some v = sym here ∙ owned in cc))
    (cases_lt place ROUND)

-- the interval of a cell, and the place in it
pub record IsCellOf (a : AllotmentView) (cores : ℕ) (rows : List Row) (c place v : ℕ) : Type 0 where
  pub interval : ℕ
  pub tick : ℕ
  pub core : c < cores
  pub in_round : interval < length a.ticks
  pub within : tick < length_at a interval
  pub place_is : get_or a.marks interval 0 + tick ≡ place

-- an owned cell lies in some interval
pub cell_in : (tasks : List (Option Periodic)) (cores : ℕ) (a : AllotmentView) (rows : List Row)
    (c place v : ℕ) → IsAllotment tasks cores a
    → AreWrapped a cores rows → owner_at rows c place ≡ Some v → IsCellOf a cores rows c place v
cell_in tasks cores a rows c place v is w owned =
    let l = load_of_tasks tasks a.marks cores in
    let ok = the_load tasks cores a is in
    let s = holds l ok place l.count (omega (arith, ok.last, place_within a cores rows c place v w owned)) in
    record {
      interval = s.0;
      tick = place - get_or a.marks s.0 0;
      core = omega (arith, owner_within rows c place v owned, w.count);
      in_round = omega (arith, s.1, is.rows);
      within = omega (arith, s.2, s.3);
      place_is = omega (arith, s.2);
    }

-- no vCPU is on two cores at one place
pub wrapped_apart : (tasks : List (Option Periodic)) (cores : ℕ) (a : AllotmentView) (rows : List Row)
    → IsAllotment tasks cores a
    → AreWrapped a cores rows → Apart rows
wrapped_apart tasks cores a rows is w v place c d at_c at_d =
    let x = cell_in tasks cores a rows c place v is w at_c in
    let i = x.interval in
    let here : owner_from 0 (row_at a.ticks i) (c * length_at a i + x.tick) ≡ Some v
    = sym (w.cells c i x.tick x.core x.in_round x.within) ∙ ap (λ n. owner_at rows c n) x.place_is ∙ at_c in
    let there : owner_from 0 (row_at a.ticks i) (d * length_at a i + x.tick) ≡ Some v
    = sym (w.cells d i x.tick (omega (arith, owner_within rows d place v at_d, w.count)) x.in_round x.within)
    ∙ ap (λ n. owner_at rows d n) x.place_is ∙ at_d in
    let some = laid_some (row_at a.ticks i) v (c * length_at a i + x.tick) here in
    laid_apart (row_at a.ticks i) v (length_at a i) c d x.tick
    (omega (
      arith,
      is.short v i (omega (arith, some.0, is.widths i x.in_round)) x.in_round,
      ticks_is a.ticks i
          v,
    )) here there

-- a cost of some ticks is that of a task
has_cost : (tasks : List (Option Periodic)) (v : ℕ) (o : Option Periodic) → slice_get tasks v ≡ Some o
    → 0 < cost_of_task o → has_task tasks v ≡ true
has_cost tasks v None at some = absurd (omega (arith, some))
has_cost tasks v (Some t) at some = rw at refl

-- an owner has a task
pub wrapped_owned : (tasks : List (Option Periodic)) (cores : ℕ) (a : AllotmentView) (rows : List Row)
    → IsAllotment tasks cores a
    → AreWrapped a cores rows → OwnersHaveTasks tasks rows
wrapped_owned tasks cores a rows is w v place c at_c =
    let l = load_of_tasks tasks a.marks cores in
    let ok = the_load tasks cores a is in
    let x = cell_in tasks cores a rows c place v is w at_c in
    let i = x.interval in
    let here : owner_from 0 (row_at a.ticks i) (c * length_at a i + x.tick) ≡ Some v
    = sym (w.cells c i x.tick x.core x.in_round x.within) ∙ ap (λ n. owner_at rows c n) x.place_is ∙ at_c in
    let some = laid_some (row_at a.ticks i) v (c * length_at a i + x.tick) here in
    let in_tasks : v < length tasks = omega (arith, some.0, is.widths i x.in_round) in
    let n = length-map tasks cost_of_task in
    let in_count : i < l.count = omega (arith, x.in_round, is.rows) in
    let k = job l v i in
    let due = is.serves v k in_tasks (job_in l ok v i (omega (arith, in_tasks, n)) in_count) in
    let one = total-point (λ j. cond (job l v j == k) (ticks_at a.ticks j v) 0) l.count i in_count in
    let own : cond (job l v i == k) (ticks_at a.ticks i v) 0
    ≡ ticks_at a.ticks i v = cond-true (job l v i == k) (ticks_at a.ticks i v) 0 (eq-eqb k k refl) in
    let cost = cost_at tasks v in_tasks in
    has_cost tasks v (get_or tasks v None) (slice_get-get_or tasks v None in_tasks)
    (omega (arith, some.1, ticks_is a.ticks i v, own, one, due, cost))
