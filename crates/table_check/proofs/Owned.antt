-- The owners of the cells are owners of segments: what is known of these, as that each has a task, is known of them.
use Rattle.std.proofs.Common.{◌≡◌, ℕ, zero, suc, ◌-◌, ◌≤◌, true, List, [], ◌∷◌, ◌++◌, replicate, slice_get, Option, Some, None, All, refl, ap, subst, sym, ◌∙◌, inl, inr, arith}
use Rattle.std.specs.Option.{ForSome, option_map}
use Rattle.std.proofs.lemmas.Bool.{cases_lt}
use Rattle.std.proofs.lemmas.List.Elements.{All-head, All-tail}
use Rattle.std.proofs.lemmas.Option.{none-some, same_Some, slice_get-map}
use Rattle.tab_core.specs.declared.periodic.Periodic.{Periodic}
use Rattle.table_form.specs.declared.segment.Segment.{Segment}
use Rattle.table_form.specs.Tables.Rows.{Row, cells_from}
use Rattle.table_form.specs.Tables.Serves.{OwnersHaveTasks, cell_of, has_task}
use Rattle.table_form.proofs.RowLemmas.{cells-cons, cells-nil, cell_here}
use Rattle.table_form.proofs.SpotLemmas.{flat_some}
use Rattle.table_check.specs.Shapes.{AreOfTasks, AreOwnedByTasks, rows_of}

-- a cell after a run is one of the rest
get_back : (n t : ℕ) (o : Option ℕ) (cells : Row) → n ≤ t
    → slice_get (replicate n o ++ cells) t ≡ slice_get cells (t - n)
get_back zero t o cells le = ap (slice_get cells) (omega arith)
get_back (suc n) zero o cells le = absurd (omega arith)
get_back (suc n) (suc t) o cells le = get_back n t o cells (omega arith) ∙ ap (slice_get cells) (omega arith)

-- what is known of the owner of each segment is known of the owner of each cell that segments stand for
pub cell_owner : (P : ℕ → Type 0) (start x v : ℕ) (ss : List Segment)
    → ((k w : ℕ) (s : Segment) → slice_get ss k ≡ Some s → s.owner ≡ Some w → P w)
    → slice_get (cells_from start ss) x ≡ Some (Some v) → P v
cell_owner P start x v [] known at =
    absurd (none-some (Some v) (sym (ap (λ (cells : Row). slice_get cells x) (cells-nil start)) ∙ at))
cell_owner P start x v (s ∷ ss) known at =
    let cell = sym (ap (λ (cells : Row). slice_get cells x) (cells-cons start s ss)) ∙ at in
    elim (cases_lt x (s.end - start)) [
      | inl here ↦ known 0 v s refl
          (same_Some {A = Option ℕ} s.owner (Some v)
          (sym (cell_here (s.end - start) x s.owner (cells_from s.end ss) here) ∙ cell))
      | inr later ↦ cell_owner P s.end (x - (s.end - start)) v ss
          (λ k w t here is. known (suc k) w t here is)
          (sym (get_back (s.end - start) x s.owner (cells_from s.end ss) later) ∙ cell)
    ]

-- what holds of each element of a list holds of this one
all_at : {X : Type 0} (P : X → Type 0) (xs : List X) (c : ℕ) (x : X) → All P xs → slice_get xs c ≡ Some x
    → P x
all_at P [] c x all at = absurd (none-some x at)
all_at {X} P (y ∷ ys) zero x all at = subst P (same_Some {A = X} y x at) (All-head P y ys all)
all_at P (y ∷ ys) (suc c) x all at = all_at P ys c x (All-tail P y ys all) at

-- what `AreOfTasks` asks of each segment
OwnedByTask : List (Option Periodic) → Segment → Type 0
OwnedByTask tasks s = ForSome s.owner (λ v. has_task tasks v ≡ true)

-- an owner in a core's row has a task, if the core has one
row_has_tasks : (tasks : List (Option Periodic)) (place v : ℕ) (row : Option (List Segment))
    → ((ss : List Segment) → row ≡ Some ss → AreOfTasks tasks ss)
    → cell_of (option_map (cells_from 0) row) place ≡ Some v → has_task tasks v ≡ true
unfolding OwnedByTask
row_has_tasks tasks place v None owned at = absurd (none-some v at)
row_has_tasks tasks place v (Some ss) owned at = cell_owner (λ w. has_task tasks w ≡ true) 0 place v ss
    (λ k w s here is. all_at (OwnedByTask tasks) ss k s (owned ss refl) here w is)
    (flat_some (slice_get (cells_from 0 ss) place) v at)

-- the rows are of tasks, as a plan's type asks
pub owners_have_tasks : (tasks : List (Option Periodic)) (raw : List (List Segment))
    → AreOwnedByTasks tasks raw
    → OwnersHaveTasks tasks (rows_of raw)
owners_have_tasks tasks raw owned v place c at =
    row_has_tasks tasks place v (slice_get raw c) (λ ss here. all_at (AreOfTasks tasks) raw c ss owned here)
    (sym (ap (λ row. cell_of row place) (slice_get-map (cells_from 0) raw c)) ∙ at)
