-- The players of a run, and what the crew of them shows.
use Rattle.std.proofs.Common.{◌≡◌, ◌⊎◌, ℕ, ◌*◌, ◌<◌, ◌≤◌, true, inl, inr, List, length, Option, Some, None, refl, sym, ap, ◌∙◌, subst, arith}
use Rattle.std.specs.Prelude.{map, slice_get}
use Rattle.std.proofs.lemmas.Bool.{cases_lt}
use Rattle.std.proofs.lemmas.List.{length-map}
use Rattle.std.proofs.lemmas.Option.{slice_get_past, slice_get_within}
use Rattle.tab_core.proofs.Lists.{element_at}
use Rattle.tab_core.specs.declared.TheConstants.{ROUND}
use Rattle.table_form.specs.Running.Courses.{CourseView, FitsRounds, IsCourse}
use Rattle.round_words.specs.declared.view.View.{View}
use Rattle.round_words.specs.Views.{holds, part}
use Rattle.run_state.proofs.Lists.{in_map, of_map}
use Rattle.crew_turns.specs.declared.player.Player.{Player}
use Rattle.crew_turns.specs.Troops as troops
use Rattle.crew_turns.specs.Troops.{AreAgreed, AreHeld, AreSame, AreTroop}
use Rattle.dispatch_core.specs.States.{ActorView, AgreesWith, StateView}
use Rattle.plan_switch.specs.Controllers as controllers
use Rattle.plan_switch.specs.Controllers.{ControllerView}
use Rattle.core_workers.specs.Actors.{core_kind, lead_kind}
use Rattle.core_workers.specs.Crews.{AllAgree, HasFinished, HoldsAll, IsCrew, IsSameAt, IsSameCrew, IsWhole}
use Rattle.core_workers.specs.Views.{CrewView, actor_of, crew_view, state_in}
use Rattle.core_workers.specs.Waiting.{CoreWaits, IsCrewAtRest, LeadWaits, LeastCoreWaits}
use Rattle.core_workers.specs.Inside.Players.{ArePlayers}

module _ (course : CourseView) (rounds : ℕ) (cores : List (Player ActorView)) (lead : Player ControllerView) (are : ArePlayers course rounds cores lead) where
  abbrev crew : CrewView
  crew = crew_view course rounds cores lead

  -- the player of a core, and what it shows
  at_actor : (c : ℕ) (a : StateView) → actor_of crew c ≡ Some a → (p : Player ActorView) × (slice_get cores c ≡ Some p) × (a ≡ state_in p)
  at_actor c a at = of_map state_in cores c a at

  pub at_core : (c : ℕ) → c < course.cores → (p : Player ActorView) × (slice_get cores c ≡ Some p)
  at_core c lt = element_at cores c (omega (arith, lt, are.count))

  pub shows : (c : ℕ) (p : Player ActorView) → slice_get cores c ≡ Some p → actor_of crew c ≡ Some p.actor.state
  shows c p at = in_map state_in cores c p at

  -- they are a whole crew
  pub players_crew : IsCrew crew
  players_crew = record {
    course_kept = are.course_kept;
    fits = are.fits;
    each = λ c a at. (let p = at_actor c a at in
        let is = are.each c p.0 p.1 in
        record {
          core = ap (λ (s : StateView). s.core) p.2 ∙ is.core;
          within = omega (arith, slice_get_within cores c p.0 p.1, are.count);
          rounds_is = ap (λ (s : StateView). s.rounds) p.2 ∙ is.rounds_is;
        });
  }

  pub players_whole : IsWhole crew
  players_whole c lt = let p = at_core c lt in (p.0.actor.state, shows c p.0 p.1)

  troop : AreTroop core_kind lead_kind cores lead
  troop = record {
    few = omega (arith, are.count, are.course_kept.form.outline.few_cores);
    each = λ i p at. (are.each i p at).core;
    lead_is = refl;
  }

  module _ (v : View) where
    -- what agrees with the view as a crew does so as players, and the other way round
    pub agreed : AllAgree crew v → AreAgreed core_kind lead_kind cores lead v
    agreed agree = record {
      troop = troop;
      each = λ i p at has. (let is = are.each i p at in record {
        course_kept = subst IsCourse (sym is.course_is) are.course_kept;
        fits = subst (λ (r : ℕ). FitsRounds p.actor.course r) (sym is.rounds_is) (subst (λ (k : CourseView). FitsRounds k rounds) (sym is.course_is) are.fits);
        agrees = subst (λ (k : CourseView). AgreesWith k p.actor.state v) (sym is.course_is) (agree.cores i p.actor.state (shows i p at) has);
      });
      control_agrees = λ has. subst (λ (k : CourseView). controllers.ControlAgreesWith k lead.actor.state v) (sym are.lead_is) (agree.control has);
    }

    pub agree_again : AreAgreed core_kind lead_kind cores lead v → AllAgree crew v
    agree_again with_them = record {
      cores = λ c a at has. (let p = at_actor c a at in
          subst (λ (s : StateView). AgreesWith course s v) (sym p.2)
          (subst (λ (k : CourseView). AgreesWith k p.0.actor.state v) (are.each c p.0 p.1).course_is (with_them.each c p.0 p.1 has).agrees));
      control = λ has. subst (λ (k : CourseView). controllers.ControlAgreesWith k lead.actor.state v) are.lead_is (with_them.control_agrees has);
    }

    -- where the view holds all parts all of them agree
    pub held : AllAgree crew v → HoldsAll crew v → AreHeld core_kind lead_kind cores lead v
    held agree all = let with_them = agreed agree in record {
      troop = troop;
      each = λ i p at. with_them.each i p at (all.cores i (omega (arith, slice_get_within cores i p at, are.count)));
      control_agrees = with_them.control_agrees all.control;
    }

  pub held_agreed : (v : View) → AreHeld core_kind lead_kind cores lead v → AreAgreed core_kind lead_kind cores lead v
  held_agreed v with_them = record {
    troop = with_them.troop;
    each = λ i p at has. with_them.each i p at;
    control_agrees = λ has. with_them.control_agrees;
  }

  -- they are at rest
  module _ (v w : View) (agree : AllAgree crew w) (rest : troops.AreAtRest core_kind lead_kind cores lead v w) where
    -- of a core whose part is held the actor's clock is that of the part, and within the run
    clock_of : (i : ℕ) (p : Player ActorView) → slice_get cores i ≡ Some p → holds w i ≡ true → (p.actor.state.clock ≡ (part w i).clock) × (p.actor.state.clock ≤ rounds * ROUND)
    clock_of i p at has =
        let stands = (agree.cores i p.actor.state (shows i p at) has).stands in
        let is = are.each i p at in (
          stands.clock ∙ ap (λ (c : ℕ). (part w c).clock) is.core,
          omega (arith, stands.clock, stands.timely.in_run, ap (λ (r : ℕ). r * ROUND) is.rounds_is),
        )

    waits_here : (least : troops.LeastWaits core_kind cores v w) → CoreWaits course least.number v w
    waits_here least = let is = are.each least.number least.player least.at in
        subst (λ (c : ℕ). CoreWaits course c v w) is.core
        (subst (λ (k : CourseView). CoreWaits k least.player.actor.state.core v w) is.course_is least.waits)

    least_waits : troops.LeastWaits core_kind cores v w → LeastCoreWaits course v w
    least_waits least =
        let here = clock_of least.number least.player least.at least.held in
        let many : w.cores ≡ length cores = (agree.cores least.number least.player.actor.state (shows least.number least.player least.at) least.held).stands.of_outline.cores_are ∙ sym are.count in record {
          core = least.number;
          held = (omega (arith, slice_get_within cores least.number least.player least.at, many), least.held);
          least = λ d has. (let q = element_at cores d (omega (arith, has.0, many)) in
              let there = clock_of d q.0 q.1 has.1 in
              elim (least.least d q.0 q.1 has.1) [
                | inl ended ↦ omega (arith, ended, here.0, here.1, there.0, ap (λ (r : ℕ). r * ROUND) (are.each d q.0 q.1).rounds_is)
                | inr ahead ↦ omega (arith, ahead, here.0, there.0)
              ]);
          waits = waits_here least;
        }

    pub at_rest : IsCrewAtRest crew v w
    at_rest = record {
      cores = elim rest.cores_rest [
        | inl ended ↦ inl (λ c a at has. let p = at_actor c a at in subst HasFinished (sym p.2) (ended c p.0 p.1 has))
        | inr least ↦ inr (least_waits least)
      ];
      control = λ has. elim (rest.lead_rests has) [
        | inl ended ↦ inl (ended ∙ ap (λ (k : CourseView). length k.ticks) are.lead_is)
        | inr waits ↦ inr (subst (λ (k : CourseView). LeadWaits k lead.actor.state.posted v w) are.lead_is waits)
      ];
    }

  -- some steps on
  module _ (cores' : List (Player ActorView)) (lead' : Player ControllerView) (same : AreSame core_kind lead_kind cores lead cores' lead') where
    pub players_on : ArePlayers course rounds cores' lead'
    players_on = record {
      course_kept = are.course_kept;
      fits = are.fits;
      count = same.count ∙ are.count;
      each = λ i q at. (let p = element_at cores i (omega (arith, slice_get_within cores' i q at, same.count)) in
          let is = are.each i p.0 p.1 in
          let on = same.each i p.0 q p.1 at in
          record {
            course_is = on.course ∙ is.course_is;
            core = on.core.core ∙ is.core;
            rounds_is = on.core.rounds ∙ is.rounds_is;
          });
      lead_is = same.same_lead ∙ are.lead_is;
    }

    same_here : (c : ℕ) → (c < length cores) ⊎ (length cores ≤ c) → IsSameAt (slice_get (map state_in cores) c) (slice_get (map state_in cores') c)
    same_here c (inl lt) =
        let p = element_at cores c lt in
        let q = element_at cores' c (omega (arith, lt, same.count)) in
        subst (λ (o : Option StateView). IsSameAt o (slice_get (map state_in cores') c)) (sym (in_map state_in cores c p.0 p.1))
        (subst (IsSameAt (Some p.0.actor.state)) (sym (in_map state_in cores' c q.0 q.1)) (same.each c p.0 q.0 p.1 q.1).core)
    same_here c (inr le) =
        subst (λ (o : Option StateView). IsSameAt o (slice_get (map state_in cores') c)) (sym (slice_get_past (map state_in cores) c (omega (arith, le, length-map cores state_in))))
        (subst (IsSameAt None) (sym (slice_get_past (map state_in cores') c (omega (arith, le, same.count, length-map cores' state_in)))) tt)

    pub crew_same : IsSameCrew crew (crew_view course rounds cores' lead')
    crew_same = record { course = refl; rounds = refl; each = λ c. same_here c (cases_lt c (length cores)) }
