use Rattle.std.proofs.Common.{◌≡◌, ◌<◌, ◌≤◌, ◌++◌, ◌+◌, [], ◌∷◌, get_or, List, ℕ, length, rules, ap, subst, sym, ◌∙◌, append-nil}
use Rattle.std.specs.Prelude.{drop}
use Rattle.std.proofs.lemmas.List.{drop_all}
use Rattle.plan_book.specs.declared.outcome.Outcome.{Outcome}
use Rattle.run_course.specs.Changes.{changes_of}
use Rattle.run_course.proofs.ChangesLemmas.{no_change, with_outcome, without_outcome}
use Rattle.run_course.proofs.changes.changes_of.Goals as goal
use Rattle.run_course.proofs.changes.changes_of.Goals.{in-Change+in-Some+in_ok-push, in-Change+in_default-get, in_default}

pub loop-k-init : goal.loop-k-init
loop-k-init c = sym (ap (λ found. found ++ changes_of c.args.events.now (drop (length found) c.args.outcomes.now))
    c.in_ok-changes.ensures.items)

pub loop-k-preserved : goal.loop-k-preserved
loop-k-preserved c =
    let events = c.args.events.now in
    let outcomes = c.args.outcomes.now in
    let found = c.loop-k.changes.items in
    let k = c.loop-k.k in
    let event = c.index-events-k.result in
    elim c.match-event.branch [
      | in-Change+in-Some+in_ok-push w ↦
          let lookup = w.in-Some.ensures.lookup in
          let place : w.len.result ≡ length found = search rules in
          let inside : length found < length outcomes = subst (λ (n : ℕ). n < length outcomes) place lookup.3.0 in
          let at : w.in-Some.outcome.now ≡ get_or outcomes (length found) w.in-Some.outcome.now =
          lookup.1 ∙ ap (λ (n : ℕ). get_or outcomes n w.in-Some.outcome.now) place in
          let pushed : c.match-event.changes.items ≡ found ++ (event.tick, w.in-Some.outcome.now) ∷ [] = search rules in
          subst (λ (items : List (ℕ × Outcome)). changes_of events outcomes ≡ items ++ changes_of (drop (k + 1) events) (drop (length items) outcomes))
          (sym pushed) (with_outcome events outcomes found k event c.loop-k-test.true c.index-events-k.is
          c.loop-k.invariant w.in-Change.field-0 w.in-Some.outcome.now w.in-Change.is inside at)
      | in-Change+in_default-get w ↦
          let past : length outcomes ≤ length found = search rules in
          let same : c.match-event.changes.items ≡ found = search rules in
          subst (λ (items : List (ℕ × Outcome)). changes_of events outcomes ≡ items ++ changes_of (drop (k + 1) events) (drop (length items) outcomes))
          (sym same) (without_outcome events outcomes found k event c.loop-k-test.true c.index-events-k.is
          c.loop-k.invariant past)
      | in_default w ↦
          let same : c.match-event.changes.items ≡ found = search rules in
          subst (λ (items : List (ℕ × Outcome)). changes_of events outcomes ≡ items ++ changes_of (drop (k + 1) events) (drop (length items) outcomes))
          (sym same) (no_change events outcomes found k event c.loop-k-test.true c.index-events-k.is
          c.loop-k.invariant (search rules))
    ]

pub returns : goal.returns
returns c =
    let none = drop_all c.loop-k.k c.args.events.now c.loop-k-test.false in
    sym (c.loop-k.invariant
    ∙ (ap (λ left. c.loop-k.changes.items ++ changes_of left (drop (length c.loop-k.changes.items) c.args.outcomes.now)) none
    ∙ append-nil c.loop-k.changes.items))
