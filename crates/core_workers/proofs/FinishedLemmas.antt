-- A crew that has finished, whose view reads as a whole run.
use Rattle.std.proofs.Common.{◌≡◌, ℕ, ◌<◌, Some, sym, ◌∙◌, subst}
use Rattle.table_form.specs.Running.Complete.{IsComplete}
use Rattle.table_form.specs.Running.Invariant.{StateInvariant}
use Rattle.table_form.specs.Promises.Run.{KeepsPromises}
use Rattle.run_promises.proofs.PromiseLemmas.{promised}
use Rattle.round_words.specs.declared.view.View.{View}
use Rattle.round_words.specs.Shown.{ViewInvariant}
use Rattle.round_words.specs.Views.{part}
use Rattle.dispatch_core.specs.Parts.{used_counts}
use Rattle.dispatch_core.specs.States.{StateView}
use Rattle.run_state.specs.Readings.{state_of}
use Rattle.run_state.specs.RunViews.{IsFinished, IsRunView}
use Rattle.run_state.proofs.FinishedLemmas.{counts_used, view_complete}
use Rattle.run_state.proofs.RunViewLemmas.{view_kept}
use Rattle.run_state.proofs.ViewLemmas.{IsAgreedBy, finished_view, run_view}
use Rattle.core_workers.specs.Views.{CrewView, actor_of}
use Rattle.core_workers.specs.Crews.{AllAgree, HeldFinished, HoldsAll, IsCrew, IsWhole}

module _ (crew : CrewView) (v : View) (is : IsCrew crew) (whole : IsWhole crew) (agree : AllAgree crew v) (all : HoldsAll crew v) (shown : ViewInvariant v) where
  abbrev agreed : (c : ℕ) → c < crew.course.cores → (s : StateView) × IsAgreedBy crew.course crew.rounds c v s
  agreed c lt = let a = whole c lt in let at = is.each c a.0 a.1 in
      (a.0, record { core_is = at.core; rounds_are = at.rounds_is; agrees = agree.cores c a.0 a.1 (all.cores c lt) })

  pub run : IsRunView crew.course crew.rounds v
  run = run_view crew.course crew.rounds v crew.control agreed (agree.control all.control) shown

  pub kept : StateInvariant crew.course crew.rounds (state_of crew.course v)
  kept = view_kept crew.course crew.rounds v run

  pub promises : KeepsPromises crew.course crew.rounds (state_of crew.course v)
  promises = promised crew.course crew.rounds (state_of crew.course v) is.course_kept kept

  module _ (done : HeldFinished crew v) where
    pub ended : IsFinished crew.rounds v
    ended = finished_view crew.course crew.rounds v crew.control
        (λ c lt. let a = whole c lt in let s = agreed c lt in (a.0, s.1, done.cores c a.0 a.1 (all.cores c lt)))
        (agree.control all.control) (done.control all.control)

    pub complete : IsComplete crew.course crew.rounds (state_of crew.course v)
    complete = view_complete crew.course crew.rounds v run ended

    pub counts : (c : ℕ) (a : StateView) → actor_of crew c ≡ Some a → a.used ≡ (state_of crew.course v).decided
    counts c a at =
        let x = is.each c a at in
        let g = agree.cores c a at (all.cores c x.within) in
        let small = subst (λ (n : ℕ). c < n) (sym (agree.control all.control).of_outline.cores_are) x.within in
        subst (λ (i : ℕ). a.used ≡ used_counts (part v i).entries) x.core g.stands.used ∙ (counts_used crew.course crew.rounds c v run ended small).0
