use Rattle.std.proofs.Common.{◌≡◌, ◌+◌, ◌<◌, ◌∙◌, List, Option, None, Some, length, ap, sym, subst, arith}
use Rattle.std.proofs.lemmas.Option.{slice_get-get_or}
use Rattle.std.specs.Prelude.{slice_get}
use Rattle.live_plan.specs.declared.cell_shelf.Slot.{Slot}
use Rattle.live_plan.specs.Finding.{is_stopped}
use Rattle.live_plan.specs.Inside.Cells.{IsCellShelfOf, Puts}
use Rattle.live_plan.specs.Mades.{MadeView}
use Rattle.live_plan.proofs.CellsLemmas.{put_of_book, put_reaches, set_twice}
use Rattle.live_plan.proofs.cell_shelf.CellShelf.put.Goals as goal
use Rattle.live_plan.proofs.cell_shelf.CellShelf.put.Goals.{After-put_in-first, After-take}

-- the slot of the next change is at its index
at : (c : After-take) → slice_get c.args.self.now.slots c.args.self.now.puts ≡ Some c.take.result
at c =
    let of = c.requires.book in
    let slots = c.args.self.now.slots in
    let lt : c.args.self.now.puts < length slots = omega (arith, c.requires.change, of.few, of.count) in
    slice_get-get_or slots c.args.self.now.puts c.index-self-at.result lt ∙ ap Some (sym c.take.ensures.value)

-- it is a slot
slot_at : (c : After-put_in-first) → slice_get c.args.self.now.slots c.args.self.now.puts ≡ Some (Some c.in-Some.slot)
slot_at c = at (goal.at.After-put_in-first c).After-take ∙ ap Some c.in-Some.is

-- what was asked is whether the value is out of memory
stopped : (c : After-put_in-first) → c.is_stopped-self.result ≡ is_stopped c.args.made.value.found
stopped c = c.is_stopped-self.ensures ∙ ap is_stopped c.found.ensures.found ∙ ap (λ (m : MadeView). is_stopped m.found) c.deref.ensures

pub put_in-first-requires-clause-slot : goal.put_in-first-requires-clause-slot
put_in-first-requires-clause-slot c =
    c.requires.book.each c.args.self.now.puts (Some c.in-Some.slot)
    (at (goal.at.put_in-first-requires-clause-slot c).After-take ∙ ap Some c.in-Some.is)

pub unreachable-requires : goal.unreachable-requires
unreachable-requires c =
    let none = c.requires.book.each c.args.self.now.puts None (at (goal.at.unreachable-requires c).After-take ∙ ap Some c.in-None.is) in
    omega (arith, none, c.requires.change)

pub returns-clause-book : goal.returns-clause-book
returns-clause-book c =
    let p = (goal.at.returns-clause-book c).After-put_in-first in
    let shelf = c.args.self.now in
    let new = c.put_in-first.new.slot in
    subst (λ (slots : List (Option Slot)). IsCellShelfOf c.args.book.now (record { slots = slots; puts = shelf.puts + 1; stopped = c.is_stopped-self.result }))
    (sym (set_twice shelf.slots shelf.puts _ (Some new)))
    (put_of_book c.args.book.now shelf c.args.made.value c.put_in-first.result c.is_stopped-self.result c.in-Some.slot new c.requires.book
    (slot_at p) c.put_in-first.ensures.slot c.put_in-first.ensures.looks c.put_in-first.ensures.reaches)

pub returns-clause-puts : goal.returns-clause-puts
returns-clause-puts c =
    let p = (goal.at.returns-clause-puts c).After-put_in-first in
    let shelf = c.args.self.now in
    let new = c.put_in-first.new.slot in
    subst (λ (slots : List (Option Slot)). Puts shelf c.args.made.value c.put_in-first.result (record { slots = slots; puts = shelf.puts + 1; stopped = c.is_stopped-self.result }))
    (sym (set_twice shelf.slots shelf.puts _ (Some new)))
    (put_reaches shelf c.args.made.value c.put_in-first.result c.is_stopped-self.result c.in-Some.slot new
    (slot_at p) c.put_in-first.ensures.looks c.put_in-first.ensures.missed c.put_in-first.ensures.reaches (stopped p))
