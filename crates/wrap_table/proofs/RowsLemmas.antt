-- The row of a core, interval by interval, and the rows of all cores.
use Rattle.std.proofs.Common.{◌≡◌, ℕ, zero, suc, ◌+◌, ◌-◌, ◌*◌, ◌<◌, ◌≤◌, List, [], ◌∷◌, ◌++◌, Some, length, get_or, set, slice_get, ap, sym, subst, ◌∙◌, arith, inl, inr}
use Rattle.std.proofs.lemmas.Bool.{cases_lt, cases_eq}
use Rattle.std.proofs.lemmas.List.{get_or-set_other, get_or-set_same, length-append}
use Rattle.std.proofs.lemmas.Option.{slice_get-get_or}
use Rattle.tab_core.specs.declared.TheConstants.{ROUND}
use Rattle.tab_core.proofs.Lists.{push_split, get_left, get_right}
use Rattle.table_form.specs.Tables.Rows.{Row}
use Rattle.table_form.specs.Tables.Serves.{cell_of, flat}
use Rattle.flow_net.specs.Allotments.{AllotmentView}
use Rattle.flow_net.specs.Rows.{row_at}
use Rattle.wrap_table.specs.Inside.Laying.{HasCells, HasIntervals, IsLaidTo, IsRowOfCore, laid_at, owners}
use Rattle.wrap_table.specs.Wrapping.{AreWrapped, length_at, owner_from}
use Rattle.wrap_table.specs.declared.laying.Laid.{Laid}
use Rattle.wrap_table.proofs.LayingLemmas.{get-owners, length-owners}

-- marks rise
marks_up : (a : AllotmentView) → HasIntervals a → (j n : ℕ) → j + n ≤ length a.ticks
    → get_or a.marks j 0 ≤ get_or a.marks (j + n) 0
marks_up a is j zero le = let e : j + 0 ≡ j = omega arith in rw e (omega arith)
marks_up a is j (suc n) le =
    let e : j + suc n ≡ j + n + 1 = omega arith in
    rw e (omega (arith, marks_up a is j n (omega arith), is.rise (j + n) (omega arith)))

-- an earlier mark is no later
marks_order : (a : AllotmentView) → HasIntervals a → (j i : ℕ) → j ≤ i → i ≤ length a.ticks
    → get_or a.marks j 0 ≤ get_or a.marks i 0
marks_order a is j i le within =
    let e : j + (i - j) ≡ i = omega arith in
    subst (λ m. get_or a.marks j 0 ≤ get_or a.marks m 0) e (marks_up a is j (i - j) (omega arith))

-- an interval ends where the next one begins
pub next_mark : (a : AllotmentView) → HasIntervals a → (i : ℕ) → i < length a.ticks
    → get_or a.marks i 0 + length_at a i ≡ get_or a.marks (i + 1) 0
next_mark a is i lt = omega (arith, is.rise i lt)

-- an interval ends within the round
pub end_in_round : (a : AllotmentView) → HasIntervals a → (i : ℕ) → i < length a.ticks
    → get_or a.marks i 0 + length_at a i ≤ ROUND
end_in_round a is i lt =
    omega (
      arith,
      next_mark a is i lt,
      marks_order a is (i
          + 1) (length a.ticks) (omega arith) (omega arith),
      is.last,
    )

-- it has a tick
pub some_length : (a : AllotmentView) → HasIntervals a → (i : ℕ) → i < length a.ticks → 0 < length_at a i
some_length a is i lt = omega (arith, is.rise i lt)

-- the row's cells of an interval
abbrev pub cells_at : AllotmentView → ℕ → ℕ → Row
cells_at a c i = owners (row_at a.ticks i) (c * length_at a i) (length_at a i)

-- one interval more of the row
pub cells_more : (a : AllotmentView) → HasIntervals a → (c : ℕ) (row : Row) (i : ℕ) → i < length a.ticks
    → length row ≡ get_or a.marks i 0 → HasCells a c row i → HasCells a c (row ++ cells_at a c i) (i + 1)
cells_more a is c row i lt size cells j t before within = elim (cases_lt j i) [
  | inl less ↦ get_left row (cells_at a c i) (get_or a.marks j 0 + t) _ (cells j t less within)
  | inr past ↦
      let here : j ≡ i = omega arith in
      let at : t < length_at a i = subst (λ m. t < length_at a m) here within in
      let place : get_or a.marks j 0 + t
      ≡ length row + t = omega (arith, size, ap (λ m. get_or a.marks m 0) here) in
      ap (slice_get (row ++ cells_at a c i)) place
      ∙ get_right row (cells_at a c i) t
      ∙ get-owners (row_at a.ticks i) (c * length_at a i) (length_at a i) t at
      ∙ ap (λ m. Some (owner_from 0 (row_at a.ticks m) (c * length_at a m + t))) (sym here)
]

-- which ends where the next interval begins
pub length_more : (a : AllotmentView) → HasIntervals a → (c : ℕ) (row : Row) (i : ℕ) → i < length a.ticks
    → length row ≡ get_or a.marks i 0 → length (row ++ cells_at a c i) ≡ get_or a.marks (i + 1) 0
length_more a is c row i lt size =
    omega (
      arith,
      length-append row (cells_at a c i),
      length-owners (row_at a.ticks i) (c * length_at a i) (length_at a i),
      next_mark a is i lt,
      size,
    )

-- in one interval more the ticks are laid one core further
pub laid_further : (a : AllotmentView) (c : ℕ) (at : List Laid) (x : Laid) (i : ℕ) → i < length at
    → IsLaidTo (row_at a.ticks i) ((c + 1) * length_at a i) x
    → ((j : ℕ) → j < i → IsLaidTo (row_at a.ticks j) ((c + 1) * length_at a j) (laid_at at j))
    → (j : ℕ) → j < i + 1 → IsLaidTo (row_at a.ticks j) ((c + 1) * length_at a j) (laid_at (set at i x) j)
laid_further a c at x i lt here old j before = elim (cases_eq j i) [
  | inl e ↦ rw e (rw (get_or-set_same at i x (record { vcpu = 0; ticks = 0 }) lt) here)
  | inr ne ↦ rw (get_or-set_other at i j x (record { vcpu = 0; ticks = 0 }) ne) (old j (omega arith))
]

-- in the other intervals the ticks are laid as before
pub laid_before : (a : AllotmentView) (c : ℕ) (at : List Laid) (x : Laid) (i : ℕ)
    → ((j : ℕ) → i ≤ j → j < length a.ticks → IsLaidTo (row_at a.ticks j) (c * length_at a j) (laid_at at j))
    → (j : ℕ) → i + 1 ≤ j → j < length a.ticks
    → IsLaidTo (row_at a.ticks j) (c * length_at a j) (laid_at (set at i x) j)
laid_before a c at x i old j past within =
    rw (get_or-set_other at i j x (record {
      vcpu = 0;
      ticks =
          0;
    }) (λ e. omega arith)) (old j (omega arith) within)

-- one core more
pub rows_more : (a : AllotmentView) (rows : List Row) (row : Row)
    → ((c : ℕ) (r : Row) → slice_get rows c ≡ Some r → IsRowOfCore a c r)
    → IsRowOfCore a (length rows) row
    → (c : ℕ) (r : Row) → slice_get (rows ++ row ∷ []) c ≡ Some r → IsRowOfCore a c r
rows_more a rows row old here c r at = elim (push_split rows c row r at) [
  | inl before ↦ old c r before
  | inr new ↦ rw new.0 (subst (IsRowOfCore a (length rows)) new.1 here)
]

-- the rows of all cores lay out the allotment
pub rows_are_wrapped : (a : AllotmentView) (cores : ℕ) (rows : List Row) → length rows ≡ cores
    → ((c : ℕ) (r : Row) → slice_get rows c ≡ Some r → IsRowOfCore a c r) → AreWrapped a cores rows
rows_are_wrapped a cores rows count each = record {
  count = count;
  lengths = λ c row at. (each c row at).size;
  cells = λ c i t lt in_round within.
      (let at = slice_get-get_or rows c [] (omega (arith, lt, count)) in
      ap (λ r. cell_of r (get_or a.marks i 0 + t)) at
      ∙ ap flat ((each c (get_or rows c []) at).cells i t in_round within));
}
