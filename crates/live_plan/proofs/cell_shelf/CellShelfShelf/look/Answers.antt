use Rattle.std.proofs.Common.{◌<◌, List, Option, None, Some, length, ap, sym, subst, ◌∙◌, arith}
use Rattle.std.proofs.lemmas.Option.{slice_get-get_or}
use Rattle.live_plan.specs.declared.cell_shelf.Slot.{Slot}
use Rattle.live_plan.specs.Inside.Cells.{IsCellShelfOf}
use Rattle.live_plan.proofs.CellsLemmas.{set_twice, still_of_book}
use Rattle.live_plan.proofs.cell_shelf.CellShelfShelf.look.Goals as goal

pub look_in-found-requires-clause-slot : goal.look_in-found-requires-clause-slot
look_in-found-requires-clause-slot c =
    let of = c.requires.book in
    let slots = c.args.self.now.slots in
    let lt : c.args.change < length slots = omega (arith, c.requires.change, of.few, of.count) in
    of.each c.args.change (Some c.in-Some.slot)
    (slice_get-get_or slots c.args.change c.index-self-at.result lt ∙ ap Some (sym c.take.ensures.value ∙ c.in-Some.is))

pub unreachable-requires : goal.unreachable-requires
unreachable-requires c =
    let of = c.requires.book in
    let slots = c.args.self.now.slots in
    let lt : c.args.change < length slots = omega (arith, c.requires.change, of.few, of.count) in
    let none = of.each c.args.change None
    (slice_get-get_or slots c.args.change c.index-self-at.result lt ∙ ap Some (sym c.take.ensures.value ∙ c.in-None.is)) in
    omega (arith, none, c.requires.change)

pub returns-clause-book : goal.returns-clause-book
returns-clause-book c =
    let b = c.args.book.now in
    let of = c.requires.book in
    let shelf = c.args.self.now in
    let new = c.look_in-found.new.slot in
    let lt : c.args.change < length shelf.slots = omega (arith, c.requires.change, of.few, of.count) in
    let at = slice_get-get_or shelf.slots c.args.change c.index-self-at.result lt
    ∙ ap Some (sym c.take.ensures.value ∙ c.in-Some.is) in
    subst (λ (slots : List (Option Slot)). IsCellShelfOf b (record shelf { slots = slots }))
    (sym (set_twice shelf.slots c.args.change _ (Some new)))
    (still_of_book b shelf c.args.change c.in-Some.slot new of at c.look_in-found.ensures.slot c.look_in-found.ensures.looks.seen)
