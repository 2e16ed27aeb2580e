-- A live crew: how it is made and goes on, and what its view reads as by each course of the book.
use Rattle.std.proofs.Common.{◌≡◌, ℕ, ◌<◌, ◌≤◌, true, List, [], ◌∷◌, ◌++◌, length, Option, None, Some, inl, inr, refl, sym, ap, ◌∙◌, subst, arith}
use Rattle.std.specs.Prelude.{IfNone, slice_get}
use Rattle.std.proofs.lemmas.Option.{slice_get_within}
use Rattle.tab_core.proofs.Lists.{push_split, element_at}
use Rattle.table_form.specs.Running.Courses.{CourseView, FitsRounds, IsCourse, outline_of}
use Rattle.table_form.specs.Running.Outlines.{OutlineView}
use Rattle.table_form.specs.Running.Complete.{IsComplete}
use Rattle.table_form.specs.Running.Invariant.{StateInvariant}
use Rattle.table_form.specs.Promises.Run.{KeepsPromises}
use Rattle.run_promises.proofs.PromiseLemmas.{promised}
use Rattle.round_words.specs.declared.view.View.{View}
use Rattle.round_words.specs.Shown.{HoldsCore, ViewInvariant}
use Rattle.round_words.specs.Views.{controller, holds, part}
use Rattle.crew_turns.specs.declared.player.Player.{Player}
use Rattle.crew_turns.specs.Going.{SameActors}
use Rattle.crew_turns.specs.Troops.{AllHaveEnded, AreAgreed, AreHeld, AreSame}
use Rattle.dispatch_core.specs.Parts.{used_counts}
use Rattle.dispatch_core.specs.States.{AgreesWithoutPlan, StateView}
use Rattle.plan_switch.specs.Controllers.{HasPosted}
use Rattle.run_state.specs.Readings.{state_of}
use Rattle.run_state.specs.RunViews.{IsFinished, IsRunView}
use Rattle.run_state.proofs.FinishedLemmas.{counts_used, view_complete}
use Rattle.run_state.proofs.RunViewLemmas.{view_kept}
use Rattle.run_state.proofs.ViewLemmas.{IsAgreedBy, finished_view, run_view}
use Rattle.core_workers.specs.Crews.{HasFinished, IsNewView}
use Rattle.live_book.specs.Books.{LiveView}
use Rattle.live_book.specs.Courses.{IsLiveCourse}
use Rattle.live_plan.specs.declared.maker.Maker.{Maker}
use Rattle.live_plan.specs.Actors.{LiveActorView, LiveAgrees}
use Rattle.live_plan.specs.Crews.{HaveFinished, HoldsLiveCrew, IsCrewOf, IsMakerOf, LiveCrewAgrees, LiveCrewView, actor_in, bare, live_actor_of, live_crew_view}
use Rattle.live_plan.specs.Inside.Crewing.{AreNewMembers, IsNewMember}
use Rattle.live_plan.specs.PlayerLaws.{live_core_lawful, live_lead_lawful}
use Rattle.live_plan.specs.Players.{LeadView, MemberView, live_core_kind, live_lead_kind}

-- the player of an actor
pub member_of : (o : Option (Player MemberView)) (a : LiveActorView) → actor_in o ≡ Some a → (p : Player MemberView) × (o ≡ Some p) × (p.actor.actor ≡ a)
member_of None a h = absurd cc
member_of (Some p) a h = (p, refl, cc)

-- a crew that is made

-- one core more
pub new_more : (b : LiveView) (rounds : ℕ) (ps : List (Player MemberView)) (p : Player MemberView) → AreNewMembers b rounds ps
    → IsNewMember b rounds (length ps) p.actor → AreNewMembers b rounds (ps ++ p ∷ [])
new_more b rounds ps p are new i x at = elim (push_split ps i p x at) [
  | inl old ↦ are i x old
  | inr here ↦ subst (λ (q : Player MemberView). IsNewMember b rounds i q.actor) here.1 (subst (λ (k : ℕ). IsNewMember b rounds k p.actor) (sym here.0) new)
]

module _ (b : LiveView) (rounds : ℕ) (members : List (Player MemberView)) (lead : Player LeadView) (maker : Maker)
    (new : AreNewMembers b rounds members) (count : length members ≡ b.outline.cores) where
  pub crew_made : FitsRounds (bare b) rounds → lead.actor.book ≡ b → IsMakerOf b maker → IsCrewOf b (live_crew_view rounds members lead maker)
  crew_made fits lead_is made = record {
    fits = fits;
    cores = count;
    members = λ c p at. (new c p at).member;
    lead = lead_is;
    maker = made;
  }

  pub agree_made : (v : View) → IsNewView (bare b) v → (holds v controller ≡ true → HasPosted b.outline lead.actor.control v)
      → LiveCrewAgrees b (live_crew_view rounds members lead maker) v
  agree_made v fresh control = record {
    cores = λ c a at has. (let p = member_of (slice_get members c) a at in
        let core : HoldsCore v c = (omega (arith, slice_get_within members c p.0 p.1, count, fresh.started.cores_are), has) in
        subst (λ (x : LiveActorView). LiveAgrees b x.state v) p.2 ((new c p.0 p.1).agrees v fresh.started core (fresh.cores c core)));
    control = control;
  }

-- what follows where there is nothing
pub none_more : (o : Option ℕ) (P Q : Type 0) → (P → Q) → IfNone o P → IfNone o Q
none_more None P Q f p = f p
none_more (Some x) P Q f p = p

-- a crew starts to work
pub held_crew : (b : LiveView) (crew : LiveCrewView) (v : View) → b.outline.cores ≤ 32 → IsCrewOf b crew → LiveCrewAgrees b crew v → HoldsLiveCrew crew v
    → AreHeld live_core_kind live_lead_kind crew.members crew.lead v
held_crew b crew v few is agree all = record {
  troop = record {
    few = omega (arith, few, is.cores);
    each = λ i p at. (is.members i p at).core;
    lead_is = refl;
  };
  each = λ i p at. (let m = is.members i p at in record {
    short = omega (arith, m.rounds_is, is.fits.few_rounds);
    agrees = subst (λ (k : LiveView). LiveAgrees k p.actor.actor.state v) (sym m.book_is)
        (agree.cores i p.actor.actor (ap actor_in at) (all.cores i (slice_get_within crew.members i p at)));
  });
  control_agrees = subst (λ (k : LiveView). HasPosted k.outline crew.lead.actor.control v) (sym is.lead) (agree.control all.control);
}

-- its players go on
module _ (b : LiveView) (members members' : List (Player MemberView)) (lead lead' : Player LeadView)
    (same : AreSame live_core_kind live_lead_kind members lead members' lead') where
  pub crew_on : (rounds : ℕ) (maker maker' : Maker) → IsCrewOf b (live_crew_view rounds members lead maker) → IsMakerOf b maker'
      → IsCrewOf b (live_crew_view rounds members' lead' maker')
  crew_on rounds maker maker' is made = record {
    fits = is.fits;
    cores = same.count ∙ is.cores;
    members = λ c q at. (let p = element_at members c (omega (arith, slice_get_within members' c q at, same.count)) in
        let was = is.members c p.0 p.1 in
        let on = same.each c p.0 q p.1 at in
        record { book_is = on.book ∙ was.book_is; core = on.core.core ∙ was.core; rounds_is = on.core.rounds ∙ was.rounds_is });
    lead = same.same_lead ∙ is.lead;
    maker = made;
  }

  -- the view still holds their parts
  pub held_on : (v w : View) → AreHeld live_core_kind live_lead_kind members lead v → SameActors v w → AreAgreed live_core_kind live_lead_kind members' lead' w
      → AreHeld live_core_kind live_lead_kind members' lead' w
  held_on v w held actors agreed = record {
    troop = agreed.troop;
    each = λ i q at. (let p = element_at members i (omega (arith, slice_get_within members' i q at, same.count)) in
        agreed.each i q at (actors.actors i ∙ subst (λ (k : ℕ). holds v k ≡ true) (held.troop.each i p.0 p.1)
        (live_core_lawful.held p.0.actor v (held.each i p.0 p.1))));
    control_agrees = agreed.control_agrees (actors.actors controller ∙ live_lead_lawful.held lead.actor v held.control_agrees);
  }

pub held_agreed : (members : List (Player MemberView)) (lead : Player LeadView) (v : View) → AreHeld live_core_kind live_lead_kind members lead v
    → AreAgreed live_core_kind live_lead_kind members lead v
held_agreed members lead v held = record {
  troop = held.troop;
  each = λ i p at has. held.each i p at;
  control_agrees = λ has. held.control_agrees;
}

-- a crew that comes back: the view holds all parts, and all have ended but where memory ran out for a change
pub record ComesBack (b : LiveView) (crew : LiveCrewView) (w : View) (stopped : Option ℕ) : Type 0 where
  pub is : IsCrewOf b crew
  pub held : AreHeld live_core_kind live_lead_kind crew.members crew.lead w
  pub ended : IfNone stopped (AllHaveEnded live_core_kind live_lead_kind crew.members crew.lead w)

-- its players went on by workers, and then all together
module _ (b : LiveView) (rounds : ℕ) (first mid last : List (Player MemberView)) (lead mid_lead last_lead : Player LeadView) (maker maker' : Maker)
    (u w : View) (stopped : Option ℕ) (is : IsCrewOf b (live_crew_view rounds first lead maker)) (made : IsMakerOf b maker') where
  pub comes_back : (back : List (Player MemberView)) → back ≡ last → AreSame live_core_kind live_lead_kind first lead mid mid_lead
      → AreHeld live_core_kind live_lead_kind mid mid_lead u → AreSame live_core_kind live_lead_kind mid mid_lead last last_lead → SameActors u w
      → AreAgreed live_core_kind live_lead_kind last last_lead w → IfNone stopped (AllHaveEnded live_core_kind live_lead_kind last last_lead w)
      → ComesBack b (live_crew_view rounds back last_lead maker') w stopped
  comes_back back back_is one held two actors agreed ended = subst (λ (ps : List (Player MemberView)). ComesBack b (live_crew_view rounds ps last_lead maker') w stopped) (sym back_is) (record {
    is = crew_on b mid last mid_lead last_lead two rounds maker' maker' (crew_on b first mid lead mid_lead one rounds maker maker' is made) made;
    held = held_on b mid last mid_lead last_lead two u w held actors agreed;
    ended = ended;
  })

-- a crew ends its work
module _ (b : LiveView) (crew : LiveCrewView) (v : View) (is : IsCrewOf b crew) (held : AreHeld live_core_kind live_lead_kind crew.members crew.lead v) where
  agrees_at : (c : ℕ) (p : Player MemberView) → slice_get crew.members c ≡ Some p → LiveAgrees b p.actor.actor.state v
  agrees_at c p at = subst (λ (k : LiveView). LiveAgrees k p.actor.actor.state v) (is.members c p at).book_is (held.each c p at).agrees

  controls : HasPosted b.outline crew.lead.actor.control v
  controls = subst (λ (k : LiveView). HasPosted k.outline crew.lead.actor.control v) is.lead held.control_agrees

  pub agree_back : LiveCrewAgrees b crew v
  agree_back = record {
    cores = λ c a at has. (let p = member_of (slice_get crew.members c) a at in
        subst (λ (x : LiveActorView). LiveAgrees b x.state v) p.2 (agrees_at c p.0 p.1));
    control = λ has. controls;
  }

  held_core : (c : ℕ) (p : Player MemberView) → slice_get crew.members c ≡ Some p → holds v c ≡ true
  held_core c p at = subst (λ (k : ℕ). holds v k ≡ true) (is.members c p at).core (held.each c p at).agrees.stands.core.1

  pub holds_back : HoldsLiveCrew crew v
  holds_back = record {
    cores = λ c lt. (let p = element_at crew.members c lt in held_core c p.0 p.1);
    control = controls.holds_it;
  }

  -- each core has ended, and the controller has posted all
  module _ (ended : AllHaveEnded live_core_kind live_lead_kind crew.members crew.lead v) where
    core_over : (c : ℕ) (p : Player MemberView) → slice_get crew.members c ≡ Some p → HasFinished p.actor.actor.state
    core_over c p at = ended.cores_have c p at (held_core c p at)

    posted_all : crew.lead.actor.control.posted ≡ length b.outline.ticks
    posted_all = ended.lead_has controls.holds_it ∙ ap (λ (k : LiveView). length k.outline.ticks) is.lead

    pub finished_back : HaveFinished b crew
    finished_back = record {
      cores = λ c a at. (let p = member_of (slice_get crew.members c) a at in
          subst (λ (x : LiveActorView). HasFinished x.state) p.2 (core_over c p.0 p.1));
      control = posted_all;
    }

  -- what its view reads as by a course of the book
  module _ (course : CourseView) (live : IsLiveCourse b course) (shown : ViewInvariant v) where
    at_core : (c : ℕ) → c < course.cores → (p : Player MemberView) × (slice_get crew.members c ≡ Some p)
    at_core c lt = element_at crew.members c (omega (arith, lt, is.cores, ap (λ (o : OutlineView). o.cores) live.outline))

    abbrev agreed : (c : ℕ) → c < course.cores → (s : StateView) × IsAgreedBy course crew.rounds c v s
    agreed c lt =
        let p = at_core c lt in
        let member = is.members c p.0 p.1 in
        let agrees = agrees_at c p.0 p.1 in (
          p.0.actor.actor.state,
          record {
            core_is = member.core;
            rounds_are = member.rounds_is;
            agrees = record {
              stands = subst (λ (o : OutlineView). AgreesWithoutPlan o p.0.actor.actor.state v) (sym live.outline) agrees.stands;
              plans = agrees.plans course live;
            };
          },
        )

    control_by : HasPosted (outline_of course) crew.lead.actor.control v
    control_by = subst (λ (o : OutlineView). HasPosted o crew.lead.actor.control v) (sym live.outline) controls

    pub run : IsRunView course crew.rounds v
    run = run_view course crew.rounds v crew.lead.actor.control agreed control_by shown

    pub kept : StateInvariant course crew.rounds (state_of course v)
    kept = view_kept course crew.rounds v run

    pub promises : IsCourse course → KeepsPromises course crew.rounds (state_of course v)
    promises ok = promised course crew.rounds (state_of course v) ok kept

    module _ (ended : AllHaveEnded live_core_kind live_lead_kind crew.members crew.lead v) where
      over : IsFinished crew.rounds v
      over = finished_view course crew.rounds v crew.lead.actor.control
          (λ c lt. let s = agreed c lt in let p = at_core c lt in (s.0, s.1, core_over ended c p.0 p.1))
          control_by (posted_all ended ∙ ap (λ (o : OutlineView). length o.ticks) (sym live.outline))

      pub complete : IsComplete course crew.rounds (state_of course v)
      complete = view_complete course crew.rounds v run over

      pub counts : (c : ℕ) (a : LiveActorView) → live_actor_of crew c ≡ Some a → a.state.used ≡ (state_of course v).decided
      counts c a at =
          let p = member_of (slice_get crew.members c) a at in
          let agrees = agrees_at c p.0 p.1 in
          let small : c < v.cores = omega (arith, slice_get_within crew.members c p.0 p.1, is.cores, agrees.stands.of_outline.cores_are) in
          let used : p.0.actor.actor.state.used ≡ used_counts (part v c).entries =
          subst (λ (k : ℕ). p.0.actor.actor.state.used ≡ used_counts (part v k).entries) (is.members c p.0 p.1).core agrees.stands.used in
          subst (λ (x : LiveActorView). x.state.used ≡ (state_of course v).decided) p.2 (used ∙ (counts_used course crew.rounds c v run over small).0)
