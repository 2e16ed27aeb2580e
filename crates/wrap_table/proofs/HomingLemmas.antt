-- The cells of vCPUs by segments, the core with most of them, and the homes.
use Rattle.std.proofs.Common.{◌≡◌, ℕ, ◌+◌, ◌-◌, ◌*◌, ◌<◌, ◌≤◌, true, cond, nat_lt, List, [], ◌∷◌, ◌++◌, Option, Some, None, length, drop, length-drop, replicate, get_or, slice_get, ap, refl, sym, subst, ◌∙◌, arith, inl, inr}
use Rattle.std.specs.List.{count_by}
use Rattle.std.specs.Option.{option_map}
use Rattle.std.proofs.lemmas.Bool.{cases_lt, cond-false, cond-true, le-ltb, lt-ltb}
use Rattle.std.proofs.lemmas.List.{nil_from_length, take_all}
use Rattle.std.proofs.lemmas.List.Folds.{sum_by-replicate}
use Rattle.std.proofs.lemmas.List.Sums.{count_by-le-length, sum_by-append}
use Rattle.std.proofs.lemmas.Option.{same_Some, slice_get-get_or, slice_get_within}
use Rattle.tab_core.specs.declared.TheConstants.{ROUND}
use Rattle.tab_core.specs.declared.periodic.Periodic.{Periodic}
use Rattle.tab_core.proofs.Lists.{drop_next, push_split}
use Rattle.table_form.specs.declared.segment.Segment.{Segment}
use Rattle.table_form.specs.Tables.Homes.{HaveHomes, IsHome, is_housed}
use Rattle.table_form.specs.Tables.Rows.{RisesTo, Row, cells_from}
use Rattle.table_form.specs.Tables.Serves.{cells_within, is_cell_of}
use Rattle.table_form.proofs.RowLemmas.{cells-cons, cells-nil, length-cells_from, rises_parts}
use Rattle.table_form.proofs.TaskLemmas.{are_housed_at}
use Rattle.wrap_table.specs.Inside.Homing.{AreHomesOf, IsMostOfFirst, cells_on, with_core}
use Rattle.wrap_table.specs.Wrapping.{IsMostOn}
use Rattle.wrap_table.specs.declared.homing.Most.{Most}

-- how many of the cells are the vCPU's
abbrev pub count_of : ℕ → Row → ℕ
count_of v row = count_by (λ cell. is_cell_of v cell) row

-- it ends later than it begins, and the others rise from its end
pub next_segment : (ss : List Segment) (from place : ℕ) (s : Segment) → RisesTo from (drop place ss) ROUND
    → place < length ss → s ≡ get_or ss place s
    → (from < s.end) × RisesTo s.end (drop (place + 1) ss) ROUND
next_segment ss from place s rises lt at =
    rises_parts from s (drop (place + 1) ss) ROUND
    (subst (λ xs. RisesTo from xs ROUND) (drop_next ss place s lt at) rises)

-- the segment ends within the round
pub segment_end : (ss : List Segment) (from place : ℕ) (s : Segment) → RisesTo from (drop place ss) ROUND
    → place < length ss → s ≡ get_or ss place s → s.end ≤ ROUND
segment_end ss from place s rises lt at =
    let rest = (next_segment ss from place s rises lt at).1 in
    omega (arith, length-cells_from s.end (drop (place + 1) ss) ROUND rest)

-- a vCPU's cells from a segment on are those of the segment and those after it
pub count_next : (ss : List Segment) (v from place : ℕ) (s : Segment) → place < length ss
    → s ≡ get_or ss place s
    → count_of v (cells_from from (drop place ss))
    ≡ (s.end - from) * cond (is_cell_of v s.owner) 1 0 + count_of v (cells_from s.end (drop (place + 1) ss))
count_next ss v from place s lt at =
    let rest = drop (place + 1) ss in
    let one : Option ℕ → ℕ = λ cell. cond (is_cell_of v cell) 1 0 in
    ap (λ xs. count_of v (cells_from from xs)) (drop_next ss place s lt at)
    ∙ ap (count_of v) (cells-cons from s rest)
    ∙ sum_by-append one (replicate (s.end - from) s.owner) (cells_from s.end rest)
    ∙ ap (λ n. n + count_of v (cells_from s.end rest)) (sum_by-replicate one (s.end - from) s.owner)

-- a vCPU has no more cells than the round has
pub count_most : (ss : List Segment) (v : ℕ) → RisesTo 0 ss ROUND → count_of v (cells_from 0 ss) ≤ ROUND
count_most ss v rises =
    omega (
      arith,
      count_by-le-length (λ cell. is_cell_of v cell) (cells_from 0 ss),
      length-cells_from 0 ss ROUND rises,
    )

-- after the last segment there is no cell
pub count_end : (ss : List Segment) (v from place : ℕ) → length ss ≤ place
    → count_of v (cells_from from (drop place ss)) ≡ 0
count_end ss v from place past =
    ap (λ xs. count_of v (cells_from from xs))
    (nil_from_length (drop place ss) (omega (arith, length-drop place ss)))
    ∙ ap (count_of v) (cells-nil from)

-- the cells of a row are those of its segments
pub count_row : (v : ℕ) (row : Row) (ss : List Segment) → cells_from 0 ss ≡ row → RisesTo 0 ss ROUND
    → count_of v (cells_from 0 ss) ≡ cells_within v row 0 ROUND
unfolding cells_within
count_row v row ss is rises =
    let size : length row
    ≤ ROUND = omega (arith, length-cells_from 0 ss ROUND rises, ap (λ r. length r) is) in
    ap (count_of v) is ∙ ap (count_of v) (sym (take_all ROUND row size))

-- before any core is counted
pub most_none : (rows : List Row) (v : ℕ) → IsMostOfFirst rows v 0 (record { core = 0; cells = 0 })
most_none rows v = record {
  none = λ _. (refl, refl);
  within = λ some. absurd (omega arith);
  is = λ some. absurd (omega arith);
  most = λ d lt. absurd (omega arith);
  lowest = λ d lt. absurd (omega arith);
}

-- one core more, where it has more cells and where it hasn't
pub most_more : (rows : List Row) (v count cells : ℕ) (best : Most) → IsMostOfFirst rows v count best
    → cells ≡ cells_on rows v count → IsMostOfFirst rows v (count + 1) (with_core best cells count)
most_more rows v count cells best old is = elim (cases_lt best.cells cells) [
  | inl more ↦ rw (cond-true {A = Most} (nat_lt best.cells cells) (record {
    core = count;
    cells =
        cells;
  }) best (lt-ltb best.cells cells more)) (record {
    none = λ e. absurd (omega arith);
    within = λ _. omega arith;
    is = λ _. is;
    most = λ d lt. (elim (cases_lt d count) [
      | inl before ↦ omega (arith, old.most d before, more)
      | inr here ↦ (let e : d ≡ count = omega arith in rw e (omega (arith, is)))
    ]);
    lowest = λ d lt. omega (arith, old.most d lt, more);
  })
  | inr less ↦ rw (cond-false {A = Most} (nat_lt best.cells cells) (record {
    core = count;
    cells =
        cells;
  }) best (le-ltb best.cells cells less)) (record {
    none = λ e. absurd (omega arith);
    within = λ _. within less;
    is = λ _. same less;
    most = λ d lt. (elim (cases_lt d count) [
      | inl before ↦ old.most d before
      | inr here ↦ (let e : d ≡ count = omega arith in rw e (omega (arith, is, less)))
    ]);
    lowest = old.lowest;
  })
]
  where
    within : cells ≤ best.cells → best.core < count + 1
    within less = elim (cases_lt 0 count) [
      | inl some ↦ omega (arith, old.within some)
      | inr none ↦ (let e : count ≡ 0 = omega arith in omega (arith, (old.none e).0))
    ]

    same : cells ≤ best.cells → best.cells ≡ cells_on rows v best.core
    same less = elim (cases_lt 0 count) [
      | inl some ↦ old.is some
      | inr none ↦
          (let e : count ≡ 0 = omega arith in
          let first = old.none e in
          let core : best.core ≡ count = omega (arith, first.0) in
          let here : cells_on rows v count ≡ cells_on rows v best.core = ap (cells_on rows v) (sym core) in
          omega (arith, first.1, less, is, here))
    ]

-- one home more
pub homes_more : (tasks : List (Option Periodic)) (rows : List Row) (homes : List (Option ℕ))
    (home : Option ℕ)
    (best : Most) (task : Option Periodic) → slice_get tasks (length homes) ≡ Some task
    → IsMostOfFirst rows (length homes) (length rows) best → home ≡ option_map (λ _. best.core) task
    → ((w : ℕ) (t : Option Periodic) (h : Option ℕ) → slice_get tasks w ≡ Some t → slice_get homes w ≡ Some h
    → (most : Most) × IsMostOfFirst rows w (length rows) most × (h ≡ option_map (λ _. most.core) t))
    → (w : ℕ) (t : Option Periodic) (h : Option ℕ) → slice_get tasks w ≡ Some t
    → slice_get (homes ++ home ∷ []) w ≡ Some h
    → (most : Most) × IsMostOfFirst rows w (length rows) most × (h ≡ option_map (λ _. most.core) t)
homes_more tasks rows homes home best task here most is old w t h at_t at_h =
    elim (push_split homes w home h at_h) [
      | inl before ↦ old w t h at_t before
      | inr new ↦
          let same : Some task ≡ Some t = sym here ∙ ap (slice_get tasks) (sym new.0) ∙ at_t in
          let task_is : task ≡ t = same_Some task t same in
          (best, rw new.0 most, sym new.1 ∙ is ∙ ap (option_map (λ _. best.core)) task_is)
    ]

-- a home is the core with most of the vCPU's cells
pub home_is_most : (tasks : List (Option Periodic)) (rows : List Row) (homes : List (Option ℕ))
    → AreHomesOf tasks rows homes
    → (v core : ℕ) → IsHome homes core v
    → ((task : Periodic) → slice_get tasks v ≡ Some (Some task) → 0 < length rows) → IsMostOn rows v core
home_is_most tasks rows homes are v core at some_rows =
    let lt : v < length tasks = omega (arith, slice_get_within homes v (Some core) at, are.as_many) in
    let at_task = slice_get-get_or tasks v None lt in
    let s = are.each v (get_or tasks v None) (Some core) at_task at in
    let best = s.0 in
    let home = core_of (get_or tasks v None) best.core core (sym s.2) in
    let is = home.2 in
    let some = some_rows home.0 (at_task ∙ ap (λ o. Some o) home.1) in
    let within = s.1.within some in
    let cells = s.1.is some in
    let here : cells_on rows v best.core ≡ cells_on rows v core = ap (cells_on rows v) is in
    record {
      within = omega (arith, within, is);
      most = λ d h. omega (arith, s.1.most d h, cells, here);
      lowest = λ d h. omega (arith, s.1.lowest d (omega (arith, h, is)), cells, here);
    }
  where
    core_of : (o : Option Periodic) (a b : ℕ) → option_map (λ _. a) o ≡ Some b
        → (t : Periodic) × (o ≡ Some t) × (a ≡ b)
    core_of None a b e = absurd cc
    core_of (Some t) a b e = (t, refl, cc)

-- each admitted vCPU has a home, and no other
pub homes_are_housed : (tasks : List (Option Periodic)) (rows : List Row) (homes : List (Option ℕ))
    → AreHomesOf tasks rows homes
    → ((v : ℕ) (task : Periodic) → slice_get tasks v ≡ Some (Some task) → 0 < length rows)
    → HaveHomes tasks homes rows
homes_are_housed tasks rows homes are some = are_housed_at (length rows) tasks homes are.as_many each
  where
    housed : (o : Option Periodic) (h : Option ℕ) (core : ℕ) → ((t : Periodic) → o ≡ Some t
        → core < length rows)
        → h ≡ option_map (λ _. core) o → is_housed (length rows) o h ≡ true
    housed None None core within is = refl
    housed None (Some c) core within is = absurd cc
    housed (Some t) None core within is = absurd cc
    housed (Some t) (Some c) core within is = (let e : c
        ≡ core = cc in lt-ltb c (length rows) (omega (arith, e, within t refl)))

    each : (v : ℕ) (task : Option Periodic) (home : Option ℕ) → slice_get tasks v ≡ Some task
        → slice_get homes v ≡ Some home → is_housed (length rows) task home ≡ true
    each v task home at at' =
        let s = are.each v task home at at' in
        housed task home s.0.core (λ t is. s.1.within (some v t (at ∙ ap (λ o. Some o) is))) s.2
