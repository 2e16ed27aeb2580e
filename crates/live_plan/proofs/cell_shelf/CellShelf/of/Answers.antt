use Rattle.std.proofs.Common.{List, [], ◌∷◌, Option}
use Rattle.live_plan.specs.declared.cell_shelf.Slot.{Slot}
use Rattle.live_plan.specs.Inside.Cells.{AreNewSlots}
use Rattle.live_plan.proofs.CellsLemmas.{none_known, none_missed}
use Rattle.live_plan.proofs.cell_shelf.CellShelf.of.Goals as goal

-- the slots of a new shelf
abbrev slots : goal.After-slot_of-15 → List (Option Slot)
slots c =
    c.slot_of.result ∷ c.slot_of-2.result ∷ c.slot_of-3.result ∷ c.slot_of-4.result ∷ c.slot_of-5.result ∷ c.slot_of-6.result ∷ c.slot_of-7.result ∷ c.slot_of-8.result
    ∷ c.slot_of-9.result ∷ c.slot_of-10.result ∷ c.slot_of-11.result ∷ c.slot_of-12.result ∷ c.slot_of-13.result ∷ c.slot_of-14.result ∷ c.slot_of-15.result ∷ []

-- a pair, written so that fifteen of them take few lines
and : {A B : Type 0} → A → B → A × B
and a b = (a, b)

-- they are new
are_new : (c : goal.After-slot_of-15) → AreNewSlots c.args.book.now 0 (slots c)
are_new c =
    and c.slot_of.ensures.new (and c.slot_of-2.ensures.new (and c.slot_of-3.ensures.new (and c.slot_of-4.ensures.new (and c.slot_of-5.ensures.new (
    and c.slot_of-6.ensures.new (and c.slot_of-7.ensures.new (and c.slot_of-8.ensures.new (and c.slot_of-9.ensures.new (and c.slot_of-10.ensures.new (
    and c.slot_of-11.ensures.new (and c.slot_of-12.ensures.new (and c.slot_of-13.ensures.new (and c.slot_of-14.ensures.new (and c.slot_of-15.ensures.new tt))))))))))))))

pub returns-clause-known : goal.returns-clause-known
returns-clause-known c = none_known c.args.book.now 0 (slots c) (are_new c)

pub returns-clause-misses : goal.returns-clause-misses
returns-clause-misses c = none_missed c.args.book.now 0 (slots c) (are_new c)
