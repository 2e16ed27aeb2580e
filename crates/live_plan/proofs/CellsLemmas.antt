-- The slots of a shelf over the cells of a book.
use Rattle.std.proofs.Common.{◌≡◌, ◌⊎◌, ℕ, zero, suc, ◌+◌, ◌<◌, ◌≢◌, Bool, true, false, List, [], ◌∷◌, length, get_or, Option, None, Some, inl, inr, refl, ap, sym, subst, ◌∙◌, arith, get_or-set_other, get_or-set_same}
use Rattle.std.specs.Prelude.{slice_get, slice_index_or, slice_set}
use Rattle.std.proofs.lemmas.Bool.{cases_lt}
use Rattle.std.proofs.lemmas.List.{length-set}
use Rattle.std.proofs.lemmas.Option.{get_or_from_slice_get, slice_get-get_or, slice_get_within}
use Rattle.live_plan.specs.declared.cell_shelf.CellShelf.{CellShelf}
use Rattle.live_plan.specs.declared.cell_shelf.Slot.{Slot}
use Rattle.once_cell.specs.Once.{Agrees}
use Rattle.live_plan.specs.Books.{IsMadeFor, LiveView}
use Rattle.live_plan.specs.Finding.{is_stopped}
use Rattle.live_plan.specs.Inside.Cells.{AreNewSlots, IsCellShelfOf, IsFull, IsNewSlot, IsSlotAt, IsSlotOf, LooksIn, Puts, Reaches, known_in, matched, missed_in, seen_in}
use Rattle.live_plan.specs.Mades.{MadeView}

-- ---- new slots

-- a new slot knows nothing and missed nothing
nothing_known : (b : LiveView) (c : ℕ) (slot : Option Slot) → IsNewSlot b c slot → known_in slot ≡ None
nothing_known b c None new = refl
nothing_known b c (Some slot) new = ap (λ m. matched m slot.note.known) new.0

nothing_missed : (b : LiveView) (c : ℕ) (slot : Option Slot) → IsNewSlot b c slot → missed_in slot ≡ 0
nothing_missed b c None new = refl
nothing_missed b c (Some slot) new = new.1

-- none of some new slots knows a value
pub none_known : (b : LiveView) (from : ℕ) (slots : List (Option Slot)) → AreNewSlots b from slots
    → (k : ℕ) → known_in (slice_index_or slots k None) ≡ None
none_known b from [] new k = refl
none_known b from (slot ∷ slots) new zero = nothing_known b from slot new.0
none_known b from (slot ∷ slots) new (suc k) = none_known b (suc from) slots new.1 k

-- or have missed
pub none_missed : (b : LiveView) (from : ℕ) (slots : List (Option Slot)) → AreNewSlots b from slots
    → (k : ℕ) → missed_in (slice_index_or slots k None) ≡ 0
none_missed b from [] new k = refl
none_missed b from (slot ∷ slots) new zero = nothing_missed b from slot new.0
none_missed b from (slot ∷ slots) new (suc k) = none_missed b (suc from) slots new.1 k

-- ---- a look into one slot

-- what is at an index once one element was set
at_set : {X : Type 0} (xs : List X) (c k : ℕ) (x d : X) → c < length xs
    → ((k ≡ c) × (get_or (slice_set xs c x) k d ≡ x)) ⊎ (get_or (slice_set xs c x) k d ≡ get_or xs k d)
at_set xs c k x d lt = elim (cases_lt k c) [
  | inl less ↦ inr (let away : k ≢ c = omega arith in rw get_or-set_other refl)
  | inr least ↦ elim (cases_lt c k) [
    | inl more ↦ inr (let away : k ≢ c = omega arith in rw get_or-set_other refl)
    | inr most ↦ inl (let same : k ≡ c = omega arith in (same, ap (λ (j : ℕ). get_or (slice_set xs c x) j d) same ∙ (rw get_or-set_same refl)))
  ]
]

-- what is at the index of a slot that was set
set_there : (slots : List (Option Slot)) (c : ℕ) (x : Option Slot) → c < length slots
    → slice_index_or (slice_set slots c x) c None ≡ x
set_there slots c x lt = rw get_or-set_same refl

-- the slots are of the book's cells again
still_each : (b : LiveView) (slots : List (Option Slot)) (c : ℕ) (old new : Slot)
    → ((k : ℕ) (slot : Option Slot) → slice_get slots k ≡ Some slot → IsSlotAt b k slot)
    → slice_get slots c ≡ Some (Some old) → IsSlotOf b c new
    → (k : ℕ) (slot : Option Slot) → slice_get (slice_set slots c (Some new)) k ≡ Some slot → IsSlotAt b k slot
still_each b slots c old new each at is k slot there =
    let lt = slice_get_within slots c (Some old) at in
    let within = slice_get_within (slice_set slots c (Some new)) k slot there in
    let read = get_or_from_slice_get (slice_set slots c (Some new)) k slot None there in
    let long = length-set slots c (Some new) in
    elim (at_set slots c k (Some new) None lt) [
      | inl same ↦ (let slot_is : Some new ≡ slot = sym same.1 ∙ read in
          subst (IsSlotAt b k) slot_is (subst (λ (j : ℕ). IsSlotOf b j new) (sym same.0) is))
      | inr other ↦ each k slot (slice_get-get_or slots k None (omega (arith, within, long)) ∙ ap Some (sym other ∙ read))
    ]

-- what is at the index of a slot that is there
here : (slots : List (Option Slot)) (c k : ℕ) (old : Slot) → slice_get slots c ≡ Some (Some old) → k ≡ c
    → slice_index_or slots k None ≡ Some old
here slots c k old at same =
    ap (λ (j : ℕ). slice_index_or slots j None) same ∙ get_or_from_slice_get slots c (Some old) None at

-- a full cell is full after its slot, or another, was replaced
still_full : (slots : List (Option Slot)) (c k : ℕ) (old new : Slot) → slice_get slots c ≡ Some (Some old)
    → ((m : MadeView) → seen_in (Some old) ≡ Some m → seen_in (Some new) ≡ Some m)
    → IsFull (slice_index_or slots k None) → IsFull (slice_index_or (slice_set slots c (Some new)) k None)
still_full slots c k old new at seen full = elim (at_set slots c k (Some new) None (slice_get_within slots c (Some old) at)) [
  | inl same ↦ subst IsFull (sym same.1) (record {
    made = full.made;
    seen = seen full.made (ap seen_in (sym (here slots c k old at same.0)) ∙ full.seen);
  })
  | inr other ↦ subst IsFull (sym other) full
]

-- the shelf with this slot for change c
abbrev with_slot : CellShelf → ℕ → Slot → CellShelf
with_slot shelf c slot = record shelf { slots = slice_set shelf.slots c (Some slot) }

-- the shelf is one of the book again
pub still_of_book : (b : LiveView) (shelf : CellShelf) (c : ℕ) (old new : Slot) → IsCellShelfOf b shelf
    → slice_get shelf.slots c ≡ Some (Some old) → IsSlotOf b c new
    → ((m : MadeView) → seen_in (Some old) ≡ Some m → seen_in (Some new) ≡ Some m)
    → IsCellShelfOf b (with_slot shelf c new)
still_of_book b shelf c old new of at is seen = record {
  count = length-set shelf.slots c (Some new) ∙ of.count;
  few = of.few;
  each = still_each b shelf.slots c old new of.each at is;
  full = λ k lt. still_full shelf.slots c k old new at seen (of.full k lt);
}

-- the slot was taken out, and another put back
pub set_twice : {X : Type 0} (xs : List X) (c : ℕ) (a x : X) → slice_set (slice_set xs c a) c x ≡ slice_set xs c x
set_twice [] c a x = refl
set_twice (y ∷ xs) zero a x = refl
set_twice (y ∷ xs) (suc c) a x = ap (λ ys. y ∷ ys) (set_twice xs c a x)

-- ---- a put into one slot

-- what is known to be for a change was seen
of_matched : (matches : Bool) (seen : Option MadeView) (m : MadeView) → matched matches seen ≡ Some m → seen ≡ Some m
of_matched true seen m is = is
of_matched false seen m is = absurd cc

-- what agrees with what was seen is that
agreed : (seen : Option MadeView) (x m : MadeView) → Agrees seen x → seen ≡ Some m → Some x ≡ Some m
agreed None x m agrees is = absurd cc
agreed (Some y) x m agrees is = ap Some (sym agrees) ∙ is

-- what was known is known
still_known : (before after : Bool) (seen new : Option MadeView) (m : MadeView) → after ≡ before
    → (seen ≡ Some m → new ≡ Some m) → matched before seen ≡ Some m → matched after new ≡ Some m
still_known true after seen new m same on is = ap (λ b. matched b new) same ∙ on is
still_known false after seen new m same on is = absurd cc

-- nothing was seen in the cell
pub first_looks : (old new : Slot) → old.note.known ≡ None → new.missed ≡ old.missed → LooksIn old new
first_looks old new empty missed = record {
  known = λ m was. (let seen : old.note.known ≡ Some m = of_matched old.matches old.note.known m was in absurd cc);
  seen = λ m was. absurd cc;
  misses = omega (arith, missed);
}

-- the cell was full
pub later_looks : (old new : Slot) → ((x : MadeView) × (new.note.known ≡ Some x) × Agrees old.note.known x)
    → new.matches ≡ old.matches → new.missed ≡ old.missed → LooksIn old new
later_looks old new (x, is, agrees) same missed = record {
  known = λ m. still_known old.matches new.matches old.note.known new.note.known m same
      (λ was. is ∙ agreed old.note.known x m agrees was);
  seen = λ m was. is ∙ agreed old.note.known x m agrees was;
  misses = omega (arith, missed);
}

-- the slot is of the change's cell, and matches
pub first_slot : (b : LiveView) (c : ℕ) (old new : Slot) (made : MadeView) → IsSlotOf b c old → IsMadeFor b c made
    → new.note.cell ≡ old.note.cell → new.note.known ≡ Some made → IsSlotOf b c new
first_slot b c old new made of for_it cell is = record {
  cell = λ one at. cell ∙ of.cell one at;
  matches = λ holds. record { made = made; seen_is = is; for_it = for_it };
}

-- the slot is of the change's cell, and matches if it did
pub later_slot : (b : LiveView) (c : ℕ) (old new : Slot) → IsSlotOf b c old → new.note.cell ≡ old.note.cell
    → ((x : MadeView) × (new.note.known ≡ Some x) × Agrees old.note.known x) → new.matches ≡ old.matches → IsSlotOf b c new
later_slot b c old new of cell (x, is, agrees) same = record {
  cell = λ one at. cell ∙ of.cell one at;
  matches = λ holds. (let was = of.matches (sym same ∙ holds) in record {
    made = was.made;
    seen_is = is ∙ agreed old.note.known x was.made agrees was.seen_is;
    for_it = was.for_it;
  });
}

-- ---- a put on a shelf

-- a cell that a value reached is full
full_by : (made : MadeView) (first : Bool) (new : Slot) → Reaches (Some new) made first → IsFull (Some new)
full_by made true new is = record { made = made; seen = of_matched new.matches new.note.known made is }
full_by made false new is = is

-- the shelf with this slot for its next change, whose value was handed over
abbrev put_slot : CellShelf → Slot → Bool → CellShelf
put_slot shelf slot stopped =
    record { slots = slice_set shelf.slots shelf.puts (Some slot); puts = shelf.puts + 1; stopped = stopped }

-- it is one of the book
pub put_of_book : (b : LiveView) (shelf : CellShelf) (made : MadeView) (first stopped : Bool) (old new : Slot)
    → IsCellShelfOf b shelf → slice_get shelf.slots shelf.puts ≡ Some (Some old) → IsSlotOf b shelf.puts new
    → LooksIn old new → Reaches (Some new) made first → IsCellShelfOf b (put_slot shelf new stopped)
put_of_book b shelf made first stopped old new of at is looks reaches = record {
  count = length-set shelf.slots shelf.puts (Some new) ∙ of.count;
  few = of.few;
  each = still_each b shelf.slots shelf.puts old new of.each at is;
  full = λ k lt. elim (cases_lt k shelf.puts) [
    | inl less ↦ still_full shelf.slots shelf.puts k old new at looks.seen (of.full k less)
    | inr least ↦ (let same : k ≡ shelf.puts = omega (arith, lt, least) in
        let read : slice_index_or (slice_set shelf.slots shelf.puts (Some new)) k None ≡ Some new =
        ap (λ (j : ℕ). slice_index_or (slice_set shelf.slots shelf.puts (Some new)) j None) same
        ∙ set_there shelf.slots shelf.puts (Some new) (slice_get_within shelf.slots shelf.puts (Some old) at) in
        subst IsFull (sym read) (full_by made first new reaches))
  ];
}

-- what it was handed reached the change's cell
pub put_reaches : (shelf : CellShelf) (made : MadeView) (first stopped : Bool) (old new : Slot)
    → slice_get shelf.slots shelf.puts ≡ Some (Some old) → LooksIn old new → new.missed ≡ old.missed
    → Reaches (Some new) made first → stopped ≡ is_stopped made.found → Puts shelf made first (put_slot shelf new stopped)
put_reaches shelf made first stopped old new at looks missed reaches is =
    let c = shelf.puts in
    let lt = slice_get_within shelf.slots c (Some old) at in record {
      reaches = subst (λ slot. Reaches slot made first) (sym (set_there shelf.slots c (Some new) lt)) reaches;
      known = λ k m was. elim (at_set shelf.slots c k (Some new) None lt) [
        | inl same ↦ ap known_in same.1 ∙ looks.known m (ap known_in (sym (here shelf.slots c k old at same.0)) ∙ was)
        | inr other ↦ ap known_in other ∙ was
      ];
      others = λ k away. elim (at_set shelf.slots c k (Some new) None lt) [
        | inl same ↦ absurd (away same.0)
        | inr other ↦ ap known_in other
      ];
      misses = λ k. elim (at_set shelf.slots c k (Some new) None lt) [
        | inl same ↦ ap missed_in same.1 ∙ missed ∙ ap missed_in (sym (here shelf.slots c k old at same.0))
        | inr other ↦ ap missed_in other
      ];
      puts = refl;
      stopped = is;
    }
