-- Rows that are seen as they come: none, one more, and whether all are good.
use Rattle.std.proofs.Common.{◌≡◌, ◌↔◌, ℕ, zero, suc, ◌+◌, ◌-◌, ◌*◌, ◌<◌, ◌≤◌, ◌^◌, Bool, false, true, not, IsTrue, List, [], ◌∷◌, ◌++◌, length, length-append, replicate, take, slice_get, Option, Some, None, refl, ap, subst, sym, ◌∙◌, arith}
use Rattle.std.proofs.Math.Seq.{get_or-append_seam, take-append_seam}
use Rattle.std.proofs.lemmas.List.{map-append}
use Rattle.std.proofs.lemmas.Option.{none-some}
use Rattle.std.specs.Option.{is_some}
use Rattle.tab_core.specs.declared.TheConstants.{MAX_CORES, ROUND}
use Rattle.tab_core.specs.declared.periodic.Periodic.{Periodic}
use Rattle.tab_core.proofs.Lists.{push_new}
use Rattle.tab_core.proofs.Periods.{period_facts}
use Rattle.table_form.specs.declared.segment.Segment.{Segment}
use Rattle.table_form.specs.Tables.Rows.{Row, RisesTo, bad_place, cells_from}
use Rattle.table_form.specs.Tables.Serves.{Apart, Serves, cell_of, cells_within, owner_at}
use Rattle.table_check.specs.Faults.{AreGood}
use Rattle.table_check.specs.Seen.{HaveSeen, Seen}
use Rattle.table_check.specs.Shapes.{HaveGoodShapes, bad_in, rows_of}
use Rattle.table_check.specs.Inside.Counters.{AreAtMost, CountSupply, CountersHaveRoom, GrowBy}
use Rattle.table_check.specs.Inside.Marks.{AreMarked, KeepsMarks, MarksRow}
use Rattle.table_check.specs.Inside.Parts.{IsShortageOf}
use Rattle.table_check.specs.declared.fault.CheckFault.TheVariants.{Short}
use Rattle.table_check.specs.declared.shortage.Shortage.{Shortage}
use Rattle.table_check.proofs.Marking.{AreApartBelow, apart_rows, core_more}
use Rattle.table_check.proofs.OneFault.{no_fault}
use Rattle.table_form.proofs.SpotLemmas.{owner_within}
use Rattle.table_check.proofs.RawShapes.{good_all, good_more, length-rows_of}
use Rattle.table_check.proofs.Supplied.{supplied_all, supplied_more, supplied_none}
use Rattle.table_check.proofs.Supplying.{within-le}

-- no row is seen yet
pub none_seen : (tasks : List (Option Periodic)) (m n : ℕ)
    → HaveSeen tasks [] (record { tasks = tasks; marks = replicate m 0; counters = replicate n 0 })
none_seen tasks m n = record {
  for_tasks = refl;
  shapes = λ core. refl;
  apart = λ v x c d here there. absurd (none-some v here);
  marked = λ v x c owned. absurd (none-some v owned);
  counted = supplied_none tasks [] n;
}

-- what is before the pushed element was there before
push_before : {X : Type 0} (xs : List X) (x : X) (k : ℕ) → k < length xs
    → slice_get (xs ++ x ∷ []) k ≡ slice_get xs k
push_before [] x k lt = absurd (omega arith)
push_before (z ∷ zs) x zero lt = refl
push_before (z ∷ zs) x (suc k) lt = push_before zs x k (omega arith)

-- with segments that make a row all shapes stay good
shapes_more : (raw : List (List Segment)) (ss : List Segment) → bad_place 0 ss ≡ None
    → HaveGoodShapes raw → HaveGoodShapes (raw ++ ss ∷ [])
shapes_more raw ss good shapes =
    good_all (raw ++ ss ∷ []) (length raw + 1) (omega (arith, length-append raw (ss ∷ [])))
    (good_more (raw ++ ss ∷ []) (length raw) ss (push_new raw ss) good
    (λ lower lt. ap bad_in (push_before raw ss lower lt) ∙ shapes lower))

-- the rows of one core more
rows_push : (raw : List (List Segment)) (ss : List Segment)
    → rows_of (raw ++ ss ∷ []) ≡ rows_of raw ++ cells_from 0 ss ∷ []
rows_push raw ss = map-append (cells_from 0) raw (ss ∷ [])

-- what is seen of the rows is so of them below the core that comes
apart_below : (raw : List (List Segment)) (ss : List Segment) (marks : List ℕ) → Apart (rows_of raw)
    → AreMarked (rows_of raw) marks → AreApartBelow (rows_of (raw ++ ss ∷ [])) (length raw) marks
apart_below raw ss marks apart marked =
    let before : (v x c : ℕ) → c < length raw → owner_at (rows_of (raw ++ ss ∷ [])) c x ≡ Some v
    → owner_at (rows_of raw) c x ≡ Some v =
    λ v x c low owned.
    sym (ap (λ row. cell_of row x) (push_before (rows_of raw) (cells_from 0 ss) c
    (omega (arith, length-rows_of raw))))
    ∙ ap (λ rows. owner_at rows c x) (sym (rows_push raw ss)) ∙ owned in
    record {
      marked = λ v x c low owned. marked v x c (before v x c low owned);
      apart = λ v x c d low lower here there.
          apart v x c d (before v x c low here) (before v x d lower there);
    }

-- with a row whose ticks were marked all are apart and marked
pub marked_more : (raw : List (List Segment)) (ss : List Segment) (marks new : List ℕ)
    → RisesTo 0 ss ROUND → KeepsMarks marks new → MarksRow (cells_from 0 ss) ROUND marks new
    → Apart (rows_of raw) → AreMarked (rows_of raw) marks
    → Apart (rows_of (raw ++ ss ∷ [])) × AreMarked (rows_of (raw ++ ss ∷ [])) new
marked_more raw ss marks new rises kept row apart marked =
    let all = raw ++ ss ∷ [] in
    let size : length all ≡ length raw + 1 = length-append raw (ss ∷ []) in
    let below = core_more all (length raw) ss marks new rises (omega (arith, size))
    (sym (get_or-append_seam raw ss [] ss)) (apart_below raw ss marks apart marked) kept row in (
      apart_rows all (length raw + 1) new (omega (arith, size)) below,
      λ v x c owned. below.marked v x c
          (omega (arith, size, length-rows_of all, owner_within (rows_of all) c x v owned)) owned,
    )

-- with a row's cells added the counters have what all rows give
pub counted_more : (tasks : List (Option Periodic)) (raw : List (List Segment)) (ss : List Segment)
    (old new : List ℕ) → CountSupply tasks (rows_of raw) old
    → GrowBy tasks (λ v. cells_within v (cells_from 0 ss)) old new
    → CountSupply tasks (rows_of (raw ++ ss ∷ [])) new
counted_more tasks raw ss old new counted grown =
    let rows = rows_of raw in
    let row : Row = cells_from 0 ss in
    let size = length-append rows (row ∷ []) in
    let first : take (length rows) (rows ++ row ∷ []) ≡ rows = take-append_seam rows (row ∷ []) in
    subst (λ (all : List Row). CountSupply tasks all new) (sym (rows_push raw ss))
    (supplied_all tasks (rows ++ row ∷ []) (length rows + 1) new (omega (arith, size))
    (supplied_more tasks (rows ++ row ∷ []) (length rows) row old new (omega (arith, size))
    (sym (get_or-append_seam rows row [] row))
    (subst (λ (all : List Row). CountSupply tasks all old) (sym first) counted) grown))

-- a row more is seen
pub one_more_seen : (tasks : List (Option Periodic)) (raw : List (List Segment)) (ss : List Segment)
    (old : Seen) (marks counters : List ℕ) → bad_place 0 ss ≡ None → RisesTo 0 ss ROUND
    → KeepsMarks old.marks marks → MarksRow (cells_from 0 ss) ROUND old.marks marks
    → GrowBy old.tasks (λ v. cells_within v (cells_from 0 ss)) old.counters counters
    → HaveSeen tasks raw old
    → HaveSeen tasks (raw ++ ss ∷ []) (record { tasks = old.tasks; marks = marks; counters = counters })
one_more_seen tasks raw ss old marks counters good rises kept row grown seen =
    let both = marked_more raw ss old.marks marks rises kept row seen.apart seen.marked in
    record {
      for_tasks = seen.for_tasks;
      shapes = shapes_more raw ss good seen.shapes;
      apart = both.0;
      marked = both.1;
      counted = counted_more old.tasks raw ss old.counters counters seen.counted grown;
    }

-- fewer rows than a host has cores leave room for one more
pub room_if_few : (tasks : List (Option Periodic)) (count : ℕ) (counters : List ℕ) → count < MAX_CORES
    → CountersHaveRoom tasks count counters → AreAtMost tasks (2 ^ 32 - 1 - 2 * ROUND) counters
room_if_few tasks count counters few room v k period of =
    let most = room.most v k period of in
    omega arith

-- the counters have no more than one row more can give
pub room_more : (tasks : List (Option Periodic)) (count : ℕ) (row : Row) (old new : List ℕ)
    → length new ≡ length old → GrowBy tasks (λ v. cells_within v row) old new
    → CountersHaveRoom tasks count old → CountersHaveRoom tasks (count + 1) new
room_more tasks count row old new same grown room = record {
  few = room.few;
  size = same ∙ room.size;
  most = λ v k period of.
      let at_most : of.task.period ≤ ROUND = (period_facts of.task.period of.task.listed).at_most in
      let more = within-le v row (k * period) ((k + 1) * period) in
      let most = room.most v k period of in
      omega (arith, grown v k period of, of.period_is);
}

-- rows that were seen are good where the counters show no shortage
served_rows : (tasks : List (Option Periodic)) (raw : List (List Segment)) (seen : Seen)
    → Serves seen.tasks (rows_of raw) → HaveSeen tasks raw seen → AreGood tasks raw
served_rows tasks raw seen serves rows = record {
  shapes = rows.shapes;
  apart = rows.apart;
  serves = subst (λ (ts : List (Option Periodic)). Serves ts (rows_of raw)) rows.for_tasks serves;
}

-- rows that were seen are not good where the counters show a shortage
short_rows : (tasks : List (Option Periodic)) (raw : List (List Segment)) (seen : Seen) (short : Shortage)
    → IsShortageOf seen.tasks (rows_of raw) (Some short) → HaveSeen tasks raw seen → AreGood tasks raw → ⊥
short_rows tasks raw seen short first rows good =
    no_fault tasks raw (Short short.vcpu short.period_no short.got short.cost) good (
      good.shapes,
      good.apart,
      subst (λ (ts : List (Option Periodic)). IsShortageOf ts (rows_of raw) (Some short)) rows.for_tasks first,
    )

-- whether no shortage was found says whether the rows are good
pub good_if_none_short : (tasks : List (Option Periodic)) (raw : List (List Segment)) (seen : Seen)
    (short : Option Shortage) (none : Bool) → is_some short ≡ not none
    → IsShortageOf seen.tasks (rows_of raw) short → HaveSeen tasks raw seen
    → (IsTrue none ↔ AreGood tasks raw)
good_if_none_short tasks raw seen None true is serves rows =
    (λ _. served_rows tasks raw seen serves rows, λ good. refl)
good_if_none_short tasks raw seen None false is serves rows = absurd cc
good_if_none_short tasks raw seen (Some short) true is first rows = absurd cc
good_if_none_short tasks raw seen (Some short) false is first rows =
    (λ yes. absurd cc, λ good. absurd (short_rows tasks raw seen short first rows good))
