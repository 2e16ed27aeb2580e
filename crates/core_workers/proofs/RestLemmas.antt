-- A crew at rest, all of whose parts the view holds, has finished.
use Rattle.std.proofs.Common.{◌≡◌, ℕ, ◌*◌, ◌<◌, inl, inr, sym, ap, ◌∙◌, arith}
use Rattle.tab_core.specs.declared.TheConstants.{ROUND}
use Rattle.table_form.specs.Running.Courses.{tick_at}
use Rattle.round_words.specs.declared.view.View.{View}
use Rattle.round_words.specs.Shown.{HoldsCore}
use Rattle.round_words.specs.Views.{part}
use Rattle.run_promises.proofs.ChoiceLemmas.{stint_bounds}
use Rattle.core_workers.specs.Views.{CrewView}
use Rattle.core_workers.specs.Crews.{AllAgree, CoresFinished, HeldFinished, HoldsAll, IsAllPosted, IsCrew, IsWhole}
use Rattle.core_workers.specs.Waiting.{AwaitsEvent, AwaitsOther, IsCrewAtRest, LeastCoreWaits}

module _ (crew : CrewView) (v w : View) (is : IsCrew crew) (whole : IsWhole crew) (agree : AllAgree crew w) (all : HoldsAll crew w) (rest : IsCrewAtRest crew v w) where
  holds_core : (d : ℕ) → d < crew.course.cores → HoldsCore w d
  holds_core d lt = (omega (arith, lt, (agree.control all.control).of_outline.cores_are), all.cores d lt)

  -- no core waits for another, which would be at a lower clock
  near_all : (least : LeastCoreWaits crew.course v w) → AwaitsOther crew.course least.core v w → ⊥
  near_all least other =
      let d = other.awaits in
      let end = (stint_bounds crew.course least.core (part w least.core).stints other.stint is.course_kept other.next.follows).2 in
      omega (arith, d.low, d.exact (all.cores d.core d.within), end, other.next.begins.from, least.least d.core (holds_core d.core d.within))

  -- no core waits for an event, for which the controller would wait for a core of lower clock
  sees_all : (least : LeastCoreWaits crew.course v w) → AwaitsEvent crew.course least.core v w → ⊥
  sees_all least awaits =
      let count : awaits.count ≡ crew.control.posted = awaits.exact all.control ∙ sym (agree.control all.control).posted in
      elim (rest.control all.control) [
        | inl posted ↦ omega (arith, awaits.some, count, posted)
        | inr lead ↦ (let d = lead.awaits in
            omega (arith, awaits.due, ap (tick_at crew.course) count, d.low, d.exact (all.cores d.core d.within), least.least d.core (holds_core d.core d.within)))
      ]

  all_end : CoresFinished crew w
  all_end = elim rest.cores [
    | inl finished ↦ finished
    | inr least ↦ absurd (elim least.waits [ inl event ↦ sees_all least event | inr other ↦ near_all least other ])
  ]

  -- once the cores are at the run's end the controller doesn't wait either
  all_posted : IsAllPosted crew
  all_posted = elim (rest.control all.control) [
    | inl posted ↦ posted
    | inr lead ↦ (let d = lead.awaits in
        let has = all.cores d.core d.within in
        let a = whole d.core d.within in
        let at = is.each d.core a.0 a.1 in
        let clock : a.0.clock ≡ (part w d.core).clock = (agree.cores d.core a.0 a.1 has).stands.clock ∙ ap (λ (i : ℕ). (part w i).clock) at.core in
        absurd (omega (arith, d.low, d.exact has, clock, all_end d.core a.0 a.1 has, ap (λ (r : ℕ). r * ROUND) at.rounds_is, is.fits.in_run crew.control.posted lead.some)))
  ]

  pub rest_finished : HeldFinished crew w
  rest_finished = record { cores = all_end; control = λ _. all_posted }
