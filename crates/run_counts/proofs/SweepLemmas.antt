-- What a stretch tells of the rows of a round that are gone over.
use Rattle.std.proofs.Common.{◌≡◌, ℕ, zero, suc, ◌+◌, ◌-◌, ◌<◌, ◌≤◌, Bool, true, false, not, List, [], ◌∷◌, length, take, is_some, Option, Some, None, refl, ap, sym, subst, ◌∙◌, arith}
use Rattle.std.specs.Prelude.{slice_get, ◌||◌, ◌&&◌}
use Rattle.std.proofs.Math.Bool.{false-or, or-false, or_assoc}
use Rattle.std.proofs.lemmas.Bool.{and_left, not_from_false, not_from_true}
use Rattle.tab_core.specs.declared.TheConstants.{ROUND}
use Rattle.tab_core.specs.declared.periodic.Periodic.{Periodic}
use Rattle.table_form.specs.Promises.Offered.{some_row_has}
use Rattle.table_form.specs.Tables.Plans.{PlanView}
use Rattle.table_form.specs.Tables.Rows.{Row}
use Rattle.table_form.specs.Tables.Serves.{OwnersHaveTasks, flat, has_task, is_cell_of, owner_at}
use Rattle.table_form.proofs.OfferedLemmas.{has_row}
use Rattle.run_counts.specs.declared.stretch.Stretch.{Stretch}
use Rattle.run_counts.specs.Inside.Sweeps.{IsToldTo, closed}
use Rattle.run_counts.specs.Inside.Tells.{IsToldRound, Tells, waits_in}
use Rattle.run_counts.specs.Stretches.{all_wait, no_ticks, offered_to}
use Rattle.run_counts.proofs.JoinLemmas.{tells_both}
use Rattle.run_counts.proofs.ReportLemmas.{and_not}
use Rattle.run_counts.proofs.StretchLemmas.{tells_moved, tells_neither, tells_offer, tells_wait}

-- one row more
pub row_step : (rows : List Row) (k v place : ℕ) → k < length rows
    → some_row_has (take (suc k) rows) v place
    ≡ (some_row_has (take k rows) v place || is_cell_of v (owner_at rows k place))
row_step [] k v place lt = absurd (omega arith)
row_step (row ∷ rows) zero v place lt =
    or-false (is_cell_of v (flat (slice_get row place)))
    ∙ sym (false-or (is_cell_of v (flat (slice_get row place))))
row_step (row ∷ rows) (suc k) v place lt =
    ap (λ (b : Bool). is_cell_of v (flat (slice_get row place)) || b) (row_step rows k v place (omega arith))
    ∙ sym (or_assoc (is_cell_of v (flat (slice_get row place))) (some_row_has (take k rows) v place)
    (is_cell_of v (owner_at rows k place)))

-- a vCPU without a task doesn't wait
and_none : (a b : Bool) → a ≡ false → (a && not b) ≡ false
and_none a b h = and_left a (not b) h

-- whether a vCPU has a task, in two words
task_is : (tasks : List (Option Periodic)) (v : ℕ) → is_some (flat (slice_get tasks v)) ≡ has_task tasks v
task_is tasks v = by_case (slice_get tasks v) refl
  where
    by_case : (o : Option (Option Periodic)) → slice_get tasks v ≡ o
        → is_some (flat (slice_get tasks v)) ≡ has_task tasks v
    by_case None is = rw is refl
    by_case (Some None) is = rw is refl
    by_case (Some (Some task)) is = rw is refl

-- whoever has a task waits where nothing is offered
and_held : (a b : Bool) → a ≡ true → (a && b) ≡ b
and_held true b h = refl
and_held false b h = absurd cc

-- nothing is counted of no ticks
pub start_told : (offered : ℕ → Bool) (place : ℕ) → ((x : ℕ) → x < place → offered x ≡ false)
    → IsToldTo offered place no_ticks
start_told offered place none = record {
  tells = tells_wait (λ x. not (offered x)) offered 0 0
      (λ t lt. absurd (omega arith)) (λ t lt. absurd (omega arith));
  before = omega arith;
  rest = λ x low lt. none x lt;
}

-- what is offered, named otherwise
pub same_told : (offered other : ℕ → Bool) (place : ℕ) (s : Stretch)
    → ((x : ℕ) → x < place → other x ≡ offered x) → IsToldTo offered place s → IsToldTo other place s
same_told offered other place s same told = record {
  tells = tells_moved (λ x. not (offered x)) offered 0 (λ x. not (other x)) other 0 s
      (λ t lt. ap not (same (0 + t) (let b = told.before in omega arith)))
      (λ t lt. same (0 + t) (let b = told.before in omega arith)) told.tells;
  before = told.before;
  rest = λ x low lt. same x lt ∙ told.rest x low lt;
}

-- what a stretch tells of ticks that are offered after its end: `other` offers those too
pub more_told : (offered other : ℕ → Bool) (begin end place : ℕ) (s : Stretch)
    → Tells (λ x. not (offered x)) offered 0 s → s.ticks ≤ begin → begin ≤ end → end ≤ place
    → ((x : ℕ) → x < s.ticks → other x ≡ offered x)
    → ((x : ℕ) → s.ticks ≤ x → x < begin → other x ≡ false)
    → ((x : ℕ) → begin ≤ x → x < end → other x ≡ true)
    → ((x : ℕ) → end ≤ x → x < place → other x ≡ false)
    → IsToldTo other place (offered_to s begin end)
more_told offered other begin end place s tells low le within same none here rest = record {
  tells = tells_offer (λ x. not (other x)) other s begin end
      (tells_moved (λ x. not (offered x)) offered 0 (λ x. not (other x)) other 0 s
      (λ t lt. ap not (same (0 + t) (omega arith))) (λ t lt. same (0 + t) (omega arith)) tells)
      low le
      (λ x after lt. (not_from_false (other x) (none x after lt), none x after lt))
      (λ x after lt. (not_from_true (other x) (here x after lt), here x after lt));
  before = omega arith;
  rest = λ x after lt. rest x (omega arith) lt;
}

module _ (plan : PlanView) (v : ℕ) (owned : OwnersHaveTasks plan.tasks plan.rows) where
  -- whether the vCPU has a task by the plan
  held : Bool
  held = is_some (flat (slice_get plan.tasks v))

  -- whom some row has, has a task
  has_its_task : (x : ℕ) → some_row_has plan.rows v x ≡ true → held ≡ true
  unfolding held
  has_its_task x h = (let row = has_row plan.rows v x h in task_is plan.tasks v ∙ owned v x row.0 row.1)

  -- the ticks up to the round's end
  told_end : (s : Stretch) → IsToldTo (some_row_has plan.rows v) ROUND s
      → IsToldRound plan v (closed (has_task plan.tasks v) s)
  unfolding held
  told_end s told = by_test (has_task plan.tasks v) refl
    where
      by_test : (b : Bool) → has_task plan.tasks v ≡ b → IsToldRound plan v (closed (has_task plan.tasks v) s)
      by_test true is = subst (IsToldRound plan v) (sym (rw is refl)) (record {
        tells = tells_both (waits_in plan v) (some_row_has plan.rows v) 0 s
            (all_wait (ROUND - s.ticks))
            (tells_moved (λ x. not (some_row_has plan.rows v x)) (some_row_has plan.rows v) 0
            (waits_in plan v) (some_row_has plan.rows v) 0 s
            (λ t lt. and_held held (not (some_row_has plan.rows v (0 + t))) (task_is plan.tasks v ∙ is))
            (λ t lt. refl) told.tells)
            (tells_wait (waits_in plan v) (some_row_has plan.rows v) (0 + s.ticks) (ROUND - s.ticks)
            (λ t lt. and_not held (some_row_has plan.rows v (0 + s.ticks + t)) (task_is plan.tasks v ∙ is)
            (told.rest (0 + s.ticks + t) (omega arith) (omega arith)))
            (λ t lt. told.rest (0 + s.ticks + t) (omega arith) (omega arith)));
        whole = (let b = told.before in omega arith);
      })
      by_test false is = subst (IsToldRound plan v) (sym (rw is refl)) (record {
        tells = tells_neither (waits_in plan v) (some_row_has plan.rows v) 0 ROUND
            (λ t lt. and_none held (some_row_has plan.rows v (0 + t)) (task_is plan.tasks v ∙ is))
            (λ t lt. not_there (0 + t) (some_row_has plan.rows v (0 + t)) refl);
        whole = refl;
      })
        where
          not_there : (x : ℕ) (b : Bool) → some_row_has plan.rows v x ≡ b → some_row_has plan.rows v x ≡ false
          not_there x true h = absurd (let g = sym (task_is plan.tasks v) ∙ has_its_task x h in cc)
          not_there x false h = h

-- a stretch that tells of all rows tells of the round, once it is closed
pub end_told : (plan : PlanView) (v : ℕ) → OwnersHaveTasks plan.tasks plan.rows → (s : Stretch)
    → IsToldTo (some_row_has plan.rows v) ROUND s → IsToldRound plan v (closed (has_task plan.tasks v) s)
end_told plan v owned s told = told_end plan v owned s told
