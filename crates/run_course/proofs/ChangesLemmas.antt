-- The changes among the first events.
use Rattle.std.proofs.Common.{◌≡◌, ℕ, ◌+◌, ◌<◌, ◌≤◌, List, [], ◌∷◌, ◌++◌, get_or, length, refl, sym, ap, ◌∙◌, append_assoc, arith}
use Rattle.std.proofs.lemmas.List.{drop_all, drop_more}
use Rattle.std.specs.Prelude.{drop}
use Rattle.round_words.proofs.ListLemmas.{length_push}
use Rattle.tab_core.specs.declared.edit.Edit.{Edit}
use Rattle.script_doc.specs.declared.event.Act.{Act}
use Rattle.script_doc.specs.declared.event.Act.TheVariants.{Wake, Block, Change, Burst}
use Rattle.script_doc.specs.declared.event.Event.{Event}
use Rattle.plan_book.specs.declared.outcome.Outcome.{Outcome}
use Rattle.run_course.specs.Changes.{changes_of, with_change}

-- the first event that is left
left_more : (events : List Event) (k : ℕ) (event : Event) → k < length events → event ≡ get_or events k event
    → drop k events ≡ event ∷ drop (k + 1) events
left_more events k event lt is = drop_more events k event lt ∙ ap (λ e. e ∷ drop (k + 1) events) (sym is)

module _ (events : List Event) (outcomes : List Outcome) (found : List (ℕ × Outcome)) (k : ℕ) (event : Event)
    (lt : k < length events) (is : event ≡ get_or events k event)
    (so_far : changes_of events outcomes ≡ found ++ changes_of (drop k events) (drop (length found) outcomes)) where
  -- what the event adds to those so far
  step : changes_of events outcomes
      ≡ found ++ with_change event.tick event.act (drop (length found) outcomes) (changes_of (drop (k + 1) events))
  step = so_far ∙ ap (λ left. found ++ changes_of left (drop (length found) outcomes)) (left_more events k event lt is)

  -- a change with its outcome
  pub with_outcome : (edits : List Edit) (outcome : Outcome) → event.act ≡ Change edits
      → length found < length outcomes → outcome ≡ get_or outcomes (length found) outcome
      → changes_of events outcomes ≡ (found ++ (event.tick, outcome) ∷ [])
      ++ changes_of (drop (k + 1) events) (drop (length (found ++ (event.tick, outcome) ∷ [])) outcomes)
  with_outcome edits outcome act inside at =
      let left : drop (length found) outcomes ≡ outcome ∷ drop (length found + 1) outcomes =
      drop_more outcomes (length found) outcome inside ∙ ap (λ o. o ∷ drop (length found + 1) outcomes) (sym at) in
      let long : length (found ++ (event.tick, outcome) ∷ []) ≡ length found + 1 =
      omega (arith, length_push found (event.tick, outcome)) in
      step
      ∙ ap (λ a. found ++ with_change event.tick a (drop (length found) outcomes) (changes_of (drop (k + 1) events))) act
      ∙ ap (λ os. found ++ with_change event.tick (Change edits) os (changes_of (drop (k + 1) events))) left
      ∙ sym (append_assoc found ((event.tick, outcome) ∷ []) (changes_of (drop (k + 1) events) (drop (length found + 1) outcomes)))
      ∙ ap (λ n. (found ++ (event.tick, outcome) ∷ []) ++ changes_of (drop (k + 1) events) (drop n outcomes))
      (sym long)

  -- a change without one
  pub without_outcome : length outcomes ≤ length found
      → changes_of events outcomes ≡ found ++ changes_of (drop (k + 1) events) (drop (length found) outcomes)
  without_outcome past =
      let none : drop (length found) outcomes ≡ [] = drop_all (length found) outcomes past in
      step ∙ (ap (λ os. found ++ with_change event.tick event.act os (changes_of (drop (k + 1) events))) none
      ∙ (ap (λ rest. found ++ rest) (nothing event.act)
      ∙ ap (λ os. found ++ changes_of (drop (k + 1) events) os) (sym none)))
    where
      nothing : (act : Act) → with_change event.tick act [] (changes_of (drop (k + 1) events))
          ≡ changes_of (drop (k + 1) events) []
      nothing (Wake vcpu) = refl
      nothing (Block vcpu) = refl
      nothing (Change edits) = refl
      nothing (Burst vcpu work) = refl

  -- another event
  pub no_change : ((edits : List Edit) → event.act ≡ Change edits → ⊥)
      → changes_of events outcomes ≡ found ++ changes_of (drop (k + 1) events) (drop (length found) outcomes)
  no_change other = step ∙ ap (λ rest. found ++ rest) (nothing event.act other) where
    nothing : (act : Act) → ((edits : List Edit) → act ≡ Change edits → ⊥)
        → with_change event.tick act (drop (length found) outcomes) (changes_of (drop (k + 1) events))
        ≡ changes_of (drop (k + 1) events) (drop (length found) outcomes)
    nothing (Wake vcpu) other = refl
    nothing (Block vcpu) other = refl
    nothing (Change edits) other = absurd (other edits refl)
    nothing (Burst vcpu work) other = refl
