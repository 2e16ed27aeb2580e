-- What a book says that has the course of all events.
use Rattle.std.proofs.Common.{◌≡◌, ℕ, ◌≤◌, List, length, ap, subst, sym, ◌∙◌}
use Rattle.tab_core.specs.declared.TheConstants.{MAX_ROUNDS}
use Rattle.tab_core.specs.declared.host.Host.{Host}
use Rattle.table_form.specs.Running.Courses.{FitsRounds, plan_after}
use Rattle.table_form.specs.Tables.Plans.{IsPlanFor, PlanView}
use Rattle.period_choice.specs.Tasks.{AreTasksOf}
use Rattle.script_doc.specs.Script.{AreInRun, changes_in}
use Rattle.script_doc.specs.declared.event.Event.{Event}
use Rattle.plan_book.specs.After.{IsKnownAfter}
use Rattle.plan_book.specs.Books.{BookView, IsBookOf, NameVcpusBelow}
use Rattle.plan_book.specs.Inside.Making.{IsBookMade, known_of}
use Rattle.plan_book.specs.States.{BookState}
use Rattle.plan_book.proofs.CourseOfBook.{count_of_vcpus, fits_known, fits_rounds, is_book, shows_known}
use Rattle.plan_book.proofs.NamesBelow.{named_below}
use Rattle.plan_book.proofs.PlannedAfter.{known_planned}
use Rattle.plan_book.proofs.SameShape.{all_outcomes}

module _ (host : Host) (events : List Event) (book : BookView) (made : IsBookMade host events book) where
  -- it is that of the host and the script
  pub book_of : IsBookOf host events book
  book_of = subst (IsBookOf host events) (sym made.is) (is_book host events made.so_far _ _ made.invariant)

  -- something is known after each count
  pub some_known : (n : ℕ) → n ≤ length events → (known : BookState) × IsKnownAfter host events n known
  some_known n le = let kept = made.invariant.kept n le in (kept.known, kept.is)

  -- there is an outcome for each change
  pub outcomes_of : length book.outcomes ≡ changes_in events
  outcomes_of = ap (λ (b : BookView). length b.outcomes) made.is
      ∙ all_outcomes host events (known_of made.so_far) made.invariant.known

  -- which names only vCPUs of the host
  pub named_of : NameVcpusBelow (length host.vcpus) book.outcomes
  named_of = subst (λ (b : BookView). NameVcpusBelow (length host.vcpus) b.outcomes) (sym made.is)
      (named_below host events (length events) (known_of made.so_far) made.invariant.known)

  -- each known plan is one for its host
  pub fits_of : (n : ℕ) (known : BookState) → IsKnownAfter host events n known → IsPlanFor known.host known.plan
  fits_of = fits_known host events made.so_far _ _ made.invariant

  -- each known plan has the tasks that are chosen for its host
  pub chosen_of : (n : ℕ) (known : BookState) → IsKnownAfter host events n known
      → AreTasksOf known.host (plan_after book.course n).tasks
  chosen_of n known is =
      let here = shows_known host events book.course n known book_of.course is in
      subst (λ (p : PlanView). AreTasksOf known.host p.tasks) (sym here.plan)
      ((known_planned host events n known is).layout.is_start.tasks_are)

  -- of the host's vCPUs
  pub vcpus_of : (n : ℕ) → n ≤ length events → length (plan_after book.course n).tasks ≡ length host.vcpus
  vcpus_of n le = subst (λ (b : BookView). length (plan_after b.course n).tasks ≡ length host.vcpus) (sym made.is)
      (count_of_vcpus host events made.so_far _ _ made.invariant n le)

  -- a run that has the script's events has those of the course
  pub rounds_of : (rounds : ℕ) → 1 ≤ rounds → rounds ≤ MAX_ROUNDS → AreInRun rounds events
      → FitsRounds book.course rounds
  rounds_of rounds some few in_run = subst (λ (b : BookView). FitsRounds b.course rounds) (sym made.is)
      (fits_rounds host events made.so_far.plans.items _ _ rounds some few in_run)
