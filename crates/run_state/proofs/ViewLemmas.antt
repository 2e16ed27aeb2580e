-- How a view of a run comes about: all actors of a run agree with their parts.
use Rattle.std.proofs.Common.{◌≡◌, ℕ, ◌*◌, ◌<◌, true, length, ap, sym, subst, ◌∙◌, arith}
use Rattle.tab_core.specs.declared.TheConstants.{ROUND}
use Rattle.table_form.specs.Running.Courses.{CourseView}
use Rattle.round_words.specs.declared.view.View.{View}
use Rattle.round_words.specs.Shown.{ViewInvariant}
use Rattle.round_words.specs.Views.{holds, part}
use Rattle.dispatch_core.specs.Parts.{IsPartOf}
use Rattle.dispatch_core.specs.States.{AgreesWith, StateView}
use Rattle.dispatch_core.proofs.StateLemmas.{agreed_part}
use Rattle.plan_switch.specs.Controllers as controllers
use Rattle.plan_switch.specs.declared.state.ControlState.{ControlState}
use Rattle.run_state.specs.RunViews.{IsFinished, IsRunView}

-- the state of core c in a run agrees with the core's part
pub record IsAgreedBy (course : CourseView) (rounds c : ℕ) (v : View) (s : StateView) : Type 0 where
  pub core_is : s.core ≡ c
  pub rounds_are : s.rounds ≡ rounds
  pub agrees : AgreesWith course s v

-- the part of a core's state is one of the run
part_of : (course : CourseView) (rounds c : ℕ) (v : View) (s : StateView) → IsAgreedBy course rounds c v s
    → IsPartOf course rounds c (part v c)
part_of course rounds c v s by =
    subst (λ (k : ℕ). IsPartOf course rounds k (part v k)) by.core_is
    (subst (λ (n : ℕ). IsPartOf course n s.core (part v s.core)) by.rounds_are
    (agreed_part course s v by.agrees))

-- where each core has such a state, and the controller agrees with its part, it is a view of the run
pub run_view : (course : CourseView) (rounds : ℕ) (v : View) (k : ControlState)
    → ((c : ℕ) → c < course.cores → (s : StateView) × IsAgreedBy course rounds c v s)
    → controllers.ControlAgreesWith course k v → ViewInvariant v → IsRunView course rounds v
run_view course rounds v k states control shown =
    let cores = control.of_outline.cores_are in
    record {
      started = control.of_outline;
      all = record {
        cores = λ c lt.
            let s = states c (omega (arith, lt, cores)) in
            subst (λ (k : ℕ). holds v k ≡ true) s.1.core_is s.1.agrees.stands.core.1;
        controller = control.holds_it;
      };
      shown = shown;
      cores = λ c lt. (let s = states c (omega (arith, lt, cores)) in part_of course rounds c v s.0 s.1);
      floors = control.floors;
    }

-- a view in which all have finished is one of the finished run
pub finished_view : (course : CourseView) (rounds : ℕ) (v : View) (k : ControlState)
    → ((c : ℕ) → c < course.cores
    → (s : StateView) × IsAgreedBy course rounds c v s × (s.clock ≡ s.rounds * ROUND))
    → controllers.ControlAgreesWith course k v → k.posted ≡ length course.ticks → IsFinished rounds v
finished_view course rounds v k states control all =
    let cores = control.of_outline.cores_are in
    record {
      clocks = λ c lt.
          let s = states c (omega (arith, lt, cores)) in
          ap (λ (k : ℕ). (part v k).clock) (sym s.1.core_is)
          ∙ (sym s.1.agrees.stands.clock ∙ (s.2 ∙ ap (λ (n : ℕ). n * ROUND) s.1.rounds_are));
      posted = sym control.posted ∙ (all ∙ sym control.of_outline.events_are);
    }
