-- A view in which all have finished, read as a state, is complete, and has one count for each round.
use Rattle.std.proofs.Common.{◌≡◌, ℕ, zero, suc, ◌<◌, ◌≤◌, length, refl, ap, sym, ◌∙◌, arith}
use Rattle.std.proofs.lemmas.List.{length-map}
use Rattle.std.proofs.lemmas.Option.{slice_get_within}
use Rattle.tab_core.specs.declared.entry.Entry.{Entry}
use Rattle.tab_core.proofs.Lists.{element_at}
use Rattle.table_form.specs.Running.Courses.{CourseView}
use Rattle.table_form.specs.Running.Complete.{IsComplete}
use Rattle.table_form.specs.Running.State.{CoreState}
use Rattle.round_words.specs.declared.view.View.{View}
use Rattle.round_words.specs.Views.{part}
use Rattle.dispatch_core.specs.Parts.{used_counts}
use Rattle.run_state.specs.Readings.{state_of}
use Rattle.run_state.specs.RunViews.{IsFinished, IsRunView}
use Rattle.run_state.proofs.Lists.{of_map, same_list}
use Rattle.run_state.proofs.RunViewLemmas.{core_is, counts_of, entry_count, of_core, some_count, winner_of}

-- every clock is at the run's end, and every event is posted
pub view_complete : (course : CourseView) (rounds : ℕ) (v : View) → IsRunView course rounds v
    → IsFinished rounds v → IsComplete course rounds (state_of course v)
view_complete course rounds v run end = record {
  clocks = λ c core at.
      let place = core_is course v c core at in
      ap (λ (x : CoreState). x.clock) place.1 ∙ end.clocks c place.0;
  posted = end.posted ∙ run.started.events_are;
}

module _ (course : CourseView) (rounds : ℕ) (v : View) (run : IsRunView course rounds v)
    (end : IsFinished rounds v) where
  -- each core has an entry for each round, and for no other
  all_entered : (c : ℕ) → c < v.cores → length (part v c).entries ≡ rounds
  all_entered c lt =
      let mine = of_core course rounds v c run lt in
      omega (arith, mine.own.timeline.reach, end.clocks c lt, mine.agrees.timely.in_rounds)

  -- no round beyond the run has a count
  none_beyond : (n : ℕ) → n ≡ length (counts_of v) → length (counts_of v) ≤ rounds
  none_beyond zero is = omega arith
  none_beyond (suc n) is =
      let d = element_at (counts_of v) n (omega (arith, is)) in
      let found = winner_of course rounds v run n d.0 d.1 in
      let w = found.1 in
      let within = slice_get_within (part v found.0).entries n w.entry w.entered.0 in
      omega (arith, all_entered found.0 w.core, is, within)

  -- each round of the run has a count
  all_counted : (c n : ℕ) → c < v.cores → n ≡ rounds → length (counts_of v) ≡ rounds
  all_counted c zero lt is = (let most = none_beyond (length (counts_of v)) refl in omega arith)
  all_counted c (suc n) lt is =
      let most = none_beyond (length (counts_of v)) refl in
      let e = element_at (part v c).entries n (omega (arith, all_entered c lt, is)) in
      let count = entry_count course rounds v run c n e.0 lt e.1 in
      let within = slice_get_within (counts_of v) n e.0.used count in
      omega (arith, most, within, is)

-- each core used the decided counts, of which there is one for each round
pub counts_used : (course : CourseView) (rounds c : ℕ) (v : View) → IsRunView course rounds v
    → IsFinished rounds v → c < v.cores
    → (used_counts (part v c).entries ≡ (state_of course v).decided)
    × (length (state_of course v).decided ≡ rounds)
counts_used course rounds c v run end lt =
    let entered = all_entered course rounds v run end c lt in
    let mapped = length-map (part v c).entries (λ (e : Entry). e.used) in
    let count = all_counted course rounds v run end c rounds lt refl in (
      same_list (used_counts (part v c).entries) (counts_of v) (omega (arith, mapped, entered, count))
          (λ k d at. (let found = of_map (λ (e : Entry). e.used) (part v c).entries k d at in
          entry_count course rounds v run c k found.0 lt found.1 ∙ some_count found.0.used d (sym found.2))),
      count,
    )
