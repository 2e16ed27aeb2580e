-- A walk over the slots of one vCPU, and the stretch that it makes.
use Rattle.std.proofs.Common.{◌≡◌, ◌≢◌, ℕ, suc, ◌<◌, ◌≤◌, Bool, true, false, List, [], ◌∷◌, length, Some, inl, inr, refl, arith}
use Rattle.std.specs.Prelude.{slice_get}
use Rattle.std.proofs.lemmas.Bool.{cases_lt}
use Rattle.tab_core.specs.declared.TheConstants.{ROUND}
use Rattle.table_form.specs.Promises.Offered.{some_row_has}
use Rattle.table_form.specs.Tables.Rows.{Row}
use Rattle.table_form.specs.Tables.Serves.{Apart, flat, is_cell_of, owner_at}
use Rattle.table_form.proofs.OfferedLemmas.{cell_is, row_has}
use Rattle.run_counts.specs.declared.stretch.Stretch.{Stretch}
use Rattle.run_counts.specs.declared.walk.Slot.{Slot}
use Rattle.run_counts.specs.Inside.Sweeps.{IsToldTo}
use Rattle.run_counts.specs.Inside.Walks.{IsNext, slot_at}
use Rattle.run_counts.specs.Stretches.{offered_to}
use Rattle.run_counts.proofs.SweepLemmas.{more_told}

-- where no row's cell is the vCPU's, none has it
nobody_has : (rows : List Row) (v x : ℕ) → ((d : ℕ) → d < length rows → owner_at rows d x ≢ Some v)
    → some_row_has rows v x ≡ false
nobody_has [] v x other = refl
nobody_has (row ∷ rows) v x other =
    let head : is_cell_of v (flat (slice_get row x)) ≡ false =
    by_test (is_cell_of v (flat (slice_get row x))) (λ h. other 0 (omega arith) (cell_is v (flat (slice_get row x)) h)) in
    let tail : some_row_has rows v x ≡ false = nobody_has rows v x (λ d lt. other (suc d) (omega arith)) in
    rw (head, tail) refl
  where
    by_test : (b : Bool) → (b ≡ true → ⊥) → b ≡ false
    by_test true h = absurd (h refl)
    by_test false h = refl

module _ (rows : List Row) (v place begin : ℕ) (s : Stretch) (slots : List Slot)
    (told : IsToldTo (some_row_has rows v) place s)
    (next : (d : ℕ) → d < length rows → IsNext rows d v place (slot_at slots d))
    (least : (d : ℕ) → d < length rows → begin ≤ (slot_at slots d).begin) where
  -- no row has the vCPU up to the least begin
  none_until : (x : ℕ) → s.ticks ≤ x → x < begin → some_row_has rows v x ≡ false
  none_until x low lt = elim (cases_lt x place) [
    | inl early ↦ told.rest x low early
    | inr late ↦ nobody_has rows v x
        (λ d small. (next d small).none x late (let le = least d small in omega arith))
  ]

  -- the slot that begins there lengthens the stretch
  step_told : (core : ℕ) → core < length rows → (slot_at slots core).begin ≡ begin → begin < ROUND
      → IsToldTo (some_row_has rows v) (slot_at slots core).end
      (offered_to s begin (slot_at slots core).end)
  step_told core small is lt =
      let here = next core small in
      let low = here.low in
      let order = here.some (omega arith) in
      let before = told.before in
      more_told (some_row_has rows v) (some_row_has rows v) begin (slot_at slots core).end
      (slot_at slots core).end s told.tells (omega arith) (omega arith) (omega arith) (λ x less. refl) none_until
      (λ x after less. row_has rows v x core (here.all x (omega arith) less))
      (λ x after less. absurd (omega arith))

  -- where no row has a slot the stretch tells of the round
  last_told : ROUND ≤ begin → place ≤ ROUND → IsToldTo (some_row_has rows v) ROUND s
  last_told past within = record {
    tells = told.tells;
    before = (let before = told.before in omega arith);
    rest = λ x low lt. none_until x low (omega arith);
  }

-- a slot lengthens the stretch
pub walk_step : (rows : List Row) (v place begin core : ℕ) (s : Stretch) (slots : List Slot)
    → IsToldTo (some_row_has rows v) place s
    → ((d : ℕ) → d < length rows → IsNext rows d v place (slot_at slots d))
    → ((d : ℕ) → d < length rows → begin ≤ (slot_at slots d).begin)
    → core < length rows → (slot_at slots core).begin ≡ begin → begin < ROUND
    → IsToldTo (some_row_has rows v) (slot_at slots core).end (offered_to s begin (slot_at slots core).end)
walk_step rows v place begin core s slots told next least small is lt =
    step_told rows v place begin s slots told next least core small is lt

-- no slot is left
pub walk_last : (rows : List Row) (v place begin : ℕ) (s : Stretch) (slots : List Slot)
    → IsToldTo (some_row_has rows v) place s
    → ((d : ℕ) → d < length rows → IsNext rows d v place (slot_at slots d))
    → ((d : ℕ) → d < length rows → begin ≤ (slot_at slots d).begin)
    → ROUND ≤ begin → place ≤ ROUND → IsToldTo (some_row_has rows v) ROUND s
walk_last rows v place begin s slots told next least past within =
    last_told rows v place begin s slots told next least past within

-- a slot of another row that begins no earlier begins after it, since no vCPU is in two rows at once
pub next_stays : (rows : List Row) (core d v place : ℕ) (a b : Slot) → Apart rows → d ≢ core
    → IsNext rows core v place a → IsNext rows d v place b → a.begin < ROUND → a.begin ≤ b.begin
    → IsNext rows d v a.end b
next_stays rows core d v place a b apart other one two lt le =
    let order = one.some lt in
    let low = one.low in
    record {
      low = elim (cases_lt b.begin a.end) [
        | inr after ↦ after
        | inl inside ↦ absurd (let within = one.within in
            let some = two.some (omega arith) in
            other (apart v b.begin d core (two.all b.begin (omega arith) some) (one.all b.begin le inside)))
      ];
      some = two.some;
      within = two.within;
      none = λ x from less. two.none x (omega arith) less;
      all = two.all;
    }
