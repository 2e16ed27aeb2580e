-- The changes of a script, each with its tick and what became of it.
-- Source: the rules of this project.
use Rattle.std.specs.Prelude.{ℕ, List, [], ◌∷◌}
use Rattle.script_doc.specs.declared.event.Act.{Act}
use Rattle.script_doc.specs.declared.event.Act.TheVariants.{Change}
use Rattle.script_doc.specs.declared.event.Event.{Event}
use Rattle.plan_book.specs.declared.outcome.Outcome.{Outcome}

-- an event of this act is a change, to which the next outcome belongs, or none
abbrev pub with_change : ℕ → Act → List Outcome → (List Outcome → List (ℕ × Outcome)) → List (ℕ × Outcome)
with_change tick (Change edits) [] rest = rest []
with_change tick (Change edits) (outcome ∷ outcomes) rest = (tick, outcome) ∷ rest outcomes
with_change tick act outcomes rest = rest outcomes

-- the outcomes, in their order, are those of the changes among the events
abbrev pub changes_of : List Event → List Outcome → List (ℕ × Outcome)
changes_of [] outcomes = []
changes_of (event ∷ events) outcomes = with_change event.tick event.act outcomes (changes_of events)
