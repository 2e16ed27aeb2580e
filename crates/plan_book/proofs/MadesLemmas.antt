-- What was made of changes before stays right while a book takes it up.
use Rattle.std.proofs.Common.{◌≡◌, ℕ, ◌<◌, List, length, get_or, Option, Some, Result, ap, sym, ◌∙◌}
use Rattle.std.proofs.lemmas.Option.{slice_get-get_or}
use Rattle.tab_core.specs.declared.host.Host.{Host}
use Rattle.table_form.specs.declared.plan.Plan.{Plan}
use Rattle.script_doc.specs.declared.event.Event.{Event}
use Rattle.plan_book.specs.After.{IsKnownAfter}
use Rattle.plan_book.specs.Inside.Making.{AreLeft, IsNextMade, known_of}
use Rattle.plan_book.specs.Mades.{AreMadeOf}
use Rattle.plan_book.specs.declared.book_so_far.BookSoFar.{BookSoFar}
use Rattle.plan_book.specs.declared.outcome.Outcome.{Outcome}
use Rattle.plan_book.proofs.SameShape.{has_outcomes_in}

-- what is left of it is right
pub made_left : (host : Host) (events : List Event) (made left : List (Option (Result Plan Outcome)))
    → AreMadeOf host events made → AreLeft made left → AreMadeOf host events left
made_left host events made left are from k m changed at is = are k m changed (from k m at) is

-- what the next event's change stands for was made of the host that it makes
pub next_made : (host : Host) (events : List Event) (n : ℕ) (event : Event) (so_far : BookSoFar)
    (made : List (Option (Result Plan Outcome))) → IsKnownAfter host events n (known_of so_far) → n < length events
    → event ≡ get_or events n event → AreMadeOf host events made → IsNextMade (known_of so_far) event.act made
next_made host events n event so_far made known lt is are edits changed m act edited at =
    are (length so_far.outcomes.items) m changed at (record {
      n = n;
      number = sym (has_outcomes_in host events n (known_of so_far) known).outcomes;
      known = known_of so_far;
      is = known;
      event = event;
      at = slice_get-get_or events n event lt ∙ ap Some (sym is);
      edits = edits;
      act = act;
      edited = edited;
    })
