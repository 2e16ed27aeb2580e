-- Each tick of a plan's rows is shown as its owner's.
use Rattle.std.proofs.Common.{◌≡◌, ℕ, zero, suc, ◌+◌, ◌-◌, ◌<◌, ◌≤◌, ◌⊎◌, List, [], ◌∷◌, ◌++◌, length, map, replicate, slice_get, Option, Some, refl, sym, ap, ◌∙◌, subst, inl, inr, arith}
use Rattle.std.proofs.lemmas.Bool.{cases_lt}
use Rattle.std.proofs.lemmas.List.Elements.{All-append, All-cons, All-head, All-nil, All-tail}
use Rattle.std.proofs.lemmas.Option.{get_or_from_slice_get, slice_get_within}
use Rattle.std.specs.List.{All}
use Rattle.tab_core.specs.declared.TheConstants.{ROUND}
use Rattle.table_form.specs.Tables.Rows.{Row}
use Rattle.table_form.specs.Tables.Segments.{AreMaximal, SegmentView, segments_from}
use Rattle.table_form.specs.Tables.Serves.{cell_of, flat, owner_at}
use Rattle.table_form.proofs.SegmentLemmas.{cells_of, cells_of-cons, cells_of_segments, maximal_of_row}
use Rattle.table_form.proofs.RowLemmas.{cell_here}
use Rattle.view_doc.specs.Lines.{Told, stint}
use Rattle.view_doc.specs.Views.{holder_named, stretch_told}
use Rattle.view_doc.specs.declared.view.Stretch.{Stretch}
use Rattle.view_laws.specs.ShownPlans.{HasTick, IsInSlot, core_slots, owner_holder, slots_of}

-- ---- cells

cell_behind : (n k : ℕ) (o : Option ℕ) (rest : Row) → slice_get (replicate n o ++ rest) (n + k) ≡ slice_get
    rest k
cell_behind zero k o rest = let same : 0 + k ≡ k = omega arith in ap (slice_get rest) same
cell_behind (suc n) k o rest =
    let same : suc n + k ≡ suc (n + k) = omega arith in
    ap (slice_get (replicate (suc n) o ++ rest)) same ∙ cell_behind n k o rest

-- from a tick on the row has these cells
abbrev GoesOn : Row → ℕ → Row → Type 0
GoesOn row at cells = (k : ℕ) → slice_get row (at + k) ≡ slice_get cells k

-- ---- each slot is of its ticks' owner

abbrev IsSound : List (List ℕ) → List Row → Told → Type 0
IsSound names rows (stint c from to used seen held) = (tick : ℕ) → from ≤ tick → tick < to
    → held ≡ owner_holder names (owner_at rows c tick)
IsSound names rows _ = Unit {0}

core_sound : (names : List (List ℕ)) (rows : List Row) (c from to : ℕ) (row : Row) (ss : List SegmentView)
    → slice_get rows c ≡ Some row → AreMaximal from ss to → GoesOn row from (cells_of from ss)
    → All (IsSound names rows) (core_slots names c from ss)
core_sound names rows c from to row [] at maximal cells = All-nil (IsSound names rows)
core_sound names rows c from to row (s ∷ ss) at maximal cells =
    All-cons (IsSound names rows) (stint c from s.end 0 0 (owner_holder names s.owner))
    (core_slots names c s.end ss)
    (λ tick low less.
    let place : from + (tick - from) ≡ tick = omega arith in
    let cell : slice_get row tick ≡ Some s.owner =
    ap (slice_get row) (sym place) ∙ (cells (tick - from)
    ∙ (ap (λ (cs : Row). slice_get cs (tick - from)) (cells_of-cons from s ss)
    ∙ cell_here (s.end - from) (tick - from) s.owner (cells_of s.end ss) (omega arith))) in
    sym (ap (owner_holder names) (ap (λ r. cell_of r tick) at ∙ ap flat cell)))
    (core_sound names rows c s.end to row ss at maximal.2
    (λ k.
    let above = maximal.0 in
    let place : s.end + k ≡ from + ((s.end - from) + k) = omega arith in
    ap (slice_get row) place ∙ (cells ((s.end - from) + k)
    ∙ (ap (λ (cs : Row). slice_get cs ((s.end - from) + k)) (cells_of-cons from s ss)
    ∙ cell_behind (s.end - from) k s.owner (cells_of s.end ss)))))

-- the rows from a core on are these
abbrev AreRowsFrom : List Row → ℕ → List Row → Type 0
AreRowsFrom all c rows = (d : ℕ) → slice_get all (c + d) ≡ slice_get rows d

rows_sound : (names : List (List ℕ)) (all : List Row) (c : ℕ) (rows : List Row)
    → All (λ (row : Row). length row ≡ ROUND) rows → AreRowsFrom all c rows
    → All (IsSound names all) (slots_of names c (map (λ row. segments_from 0 row) rows))
rows_sound names all c [] rounds from = All-nil (IsSound names all)
rows_sound names all c (row ∷ rows) rounds from =
    let size : length row ≡ ROUND = All-head (λ (r : Row). length r ≡ ROUND) row rows rounds in
    let here : c + 0 ≡ c = omega arith in
    All-append (IsSound names all) (core_slots names c 0 (segments_from 0 row))
    (slots_of names (c + 1) (map (λ r. segments_from 0 r) rows))
    (core_sound names all c 0 ROUND row (segments_from 0 row) (ap (slice_get all) (sym here) ∙ from 0)
    (maximal_of_row 0 row ROUND (omega arith))
    (λ k. let place : 0 + k ≡ k = omega arith in
    ap (slice_get row) place ∙ ap (λ (cs : Row). slice_get cs k) (sym (cells_of_segments 0 row))))
    (rows_sound names all (c + 1) rows (All-tail (λ (r : Row). length r ≡ ROUND) row rows rounds)
    (λ d. let place : c + 1 + d ≡ c + suc d = omega arith in ap (slice_get all) place ∙ from (suc d)))

-- ---- each tick is shown

abbrev IsTickOf : ℕ → ℕ → Told → Type 0
IsTickOf c tick (stint d from to used seen held) = (d ≡ c) × (from ≤ tick) × (tick < to)
IsTickOf c tick _ = ⊥

-- one of the lines is of the tick
abbrev HasOneOf : ℕ → ℕ → List Told → Type 0
HasOneOf c tick [] = ⊥
HasOneOf c tick (told ∷ tolds) = IsTickOf c tick told ⊎ HasOneOf c tick tolds

in_first : (c tick : ℕ) (some more : List Told) → HasOneOf c tick some → HasOneOf c tick (some ++ more)
in_first c tick [] more is = absurd is
in_first c tick (told ∷ some) more (inl here) = inl here
in_first c tick (told ∷ some) more (inr behind) = inr (in_first c tick some more behind)

in_second : (c tick : ℕ) (some more : List Told) → HasOneOf c tick more → HasOneOf c tick (some ++ more)
in_second c tick [] more is = is
in_second c tick (told ∷ some) more is = inr (in_second c tick some more is)

in_core : (names : List (List ℕ)) (c from to tick : ℕ) (ss : List SegmentView) → AreMaximal from ss to
    → from ≤ tick → tick < to → HasOneOf c tick (core_slots names c from ss)
in_core names c from to tick [] maximal low less = absurd (omega arith)
in_core names c from to tick (s ∷ ss) maximal low less = by_end (cases_lt tick s.end)
    (λ past. in_core names c s.end to tick ss maximal.2 past less)
  where
    by_end : (tick < s.end) ⊎ (s.end ≤ tick) → (s.end ≤ tick → HasOneOf c tick (core_slots names c s.end ss))
        → HasOneOf c tick (core_slots names c from (s ∷ ss))
    by_end (inl before) rest = inl (refl, low, before)
    by_end (inr past) rest = inr (rest past)

in_rows : (names : List (List ℕ)) (c d tick : ℕ) (rows : List Row)
    → All (λ (row : Row). length row ≡ ROUND) rows → c ≤ d → d < c + length rows → tick < ROUND
    → HasOneOf d tick (slots_of names c (map (λ row. segments_from 0 row) rows))
in_rows names c d tick [] rounds low less within = absurd (omega arith)
in_rows names c d tick (row ∷ rows) rounds low less within = by_core (cases_lt c d)
    (λ above. in_rows names (c + 1) d tick rows (All-tail (λ (r : Row). length r ≡ ROUND) row rows rounds)
    (omega arith) (omega arith) within)
  where
    size : length row ≡ ROUND
    size = All-head (λ (r : Row). length r ≡ ROUND) row rows rounds

    by_core : (c < d) ⊎ (d ≤ c)
        → (c < d → HasOneOf d tick (slots_of names (c + 1) (map (λ r. segments_from 0 r) rows)))
        → HasOneOf d tick (slots_of names c (map (λ r. segments_from 0 r) (row ∷ rows)))
    by_core (inl above) rest = in_second d tick (core_slots names c 0 (segments_from 0 row)) _ (rest above)
    by_core (inr is) rest =
        let same : c ≡ d = omega arith in
        let whole = size in
        in_first d tick (core_slots names c 0 (segments_from 0 row)) _
        (subst (λ n. HasOneOf d tick (core_slots names n 0 (segments_from 0 row))) (sym same)
        (in_core names d 0 ROUND tick (segments_from 0 row) (maximal_of_row 0 row ROUND (omega arith))
        (omega arith)
        within))

-- ---- slots

-- the slots that tell these lines, place by place
slot_told : (names : List (List ℕ)) (slots : List Stretch) (place : ℕ) (slot : Stretch) (tolds : List Told)
    → map (stretch_told names) slots ≡ tolds → slice_get slots place ≡ Some slot
    → slice_get tolds place ≡ Some (stretch_told names slot)
slot_told names slots place slot tolds are at =
    ap (λ ts. slice_get ts place) (sym are) ∙ here slots place at
  where
    here : (ss : List Stretch) (k : ℕ) → slice_get ss k ≡ Some slot
        → slice_get (map (stretch_told names) ss) k ≡ Some (stretch_told names slot)
    here [] k is = absurd (cc)
    here (s ∷ ss) zero is = cc
    here (s ∷ ss) (suc k) is = here ss k is

-- one of them is of the tick
slot_found : (names : List (List ℕ)) (slots : List Stretch) (c tick : ℕ)
    → HasOneOf c tick (map (stretch_told names) slots) → IsInSlot slots c tick
slot_found names [] c tick is = absurd is
slot_found names (s ∷ slots) c tick (inl here) =
    record { place = 0; slot = s; at = refl; has = record { core = here.0; from = here.1; end = here.2 } }
slot_found names (s ∷ slots) c tick (inr behind) = more (slot_found names slots c tick behind)
  where
    more : IsInSlot slots c tick → IsInSlot (s ∷ slots) c tick
    more found = record { place = suc found.place; slot = found.slot; at = found.at; has = found.has }

-- a tick of a core of these rows, in slots that tell them
pub tick_some : (names known : List (List ℕ)) (rows : List Row) (slots : List Stretch) (c tick : ℕ)
    → All (λ (row : Row). length row ≡ ROUND) rows
    → map (stretch_told known) slots ≡ slots_of names 0 (map (λ row. segments_from 0 row) rows)
    → c < length rows → tick < ROUND → IsInSlot slots c tick
tick_some names known rows slots c tick rounds are low within =
    slot_found known slots c tick (subst (HasOneOf c tick) (sym are)
    (in_rows names 0 c tick rows rounds (omega arith) (omega arith) within))

-- each slot of a tick is its owner's
pub tick_each : (names known : List (List ℕ)) (rows : List Row) (slots : List Stretch) (c tick place : ℕ)
    (slot : Stretch) → All (λ (row : Row). length row ≡ ROUND) rows
    → map (stretch_told known) slots ≡ slots_of names 0 (map (λ row. segments_from 0 row) rows)
    → slice_get slots place ≡ Some slot → HasTick slot c tick
    → holder_named known slot.by ≡ owner_holder names (owner_at rows c tick)
tick_each names known rows slots c tick place slot rounds are at has =
    let tolds = slots_of names 0 (map (λ row. segments_from 0 row) rows) in
    let told : slice_get tolds place ≡ Some (stretch_told known slot) = slot_told known slots place slot
    tolds are at in
    let sound = rows_sound names rows 0 rows rounds
    (λ d. let same : 0 + d ≡ d = omega arith in ap (slice_get rows) same) in
    let low = slice_get_within tolds place (stretch_told known slot) told in
    let is : IsSound names rows (stretch_told known slot) =
    subst (IsSound names rows) (get_or_from_slice_get tolds place (stretch_told known slot)
    (stretch_told known slot) told)
    (sound place (stretch_told known slot) low) in
    is tick has.from has.end ∙ ap (λ d. owner_holder names (owner_at rows d tick)) has.core
