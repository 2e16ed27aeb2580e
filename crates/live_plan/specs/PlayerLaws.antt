-- The laws of a live crew's actors: what stays of an actor's agreement with its part.
use Rattle.std.proofs.Common.{◌≡◌, ℕ, ◌*◌, ◌<◌, true, length, refl, sym, ap, ◌∙◌, subst, arith}
use Rattle.tab_core.specs.declared.TheConstants.{ROUND}
use Rattle.round_words.specs.declared.view.View.{View}
use Rattle.round_words.specs.Views.{holds, part}
use Rattle.crew_turns.specs.declared.clocks.TheConstants.{OUT}
use Rattle.crew_turns.specs.Going.{IsSameBoard}
use Rattle.crew_turns.specs.Kinds.{IsLawful}
use Rattle.dispatch_core.specs.States.{FollowsPlans, StateView}
use Rattle.core_workers.specs.ActorLaws.{lead_part, same_actor, same_more, stands_part}
use Rattle.live_book.specs.Books.{LiveView}
use Rattle.live_plan.specs.Actors.{LiveAgrees}
use Rattle.live_plan.specs.Players.{LiveCoreAgrees, MemberView, live_core_kind, live_lead_kind}

-- a core's actor agrees with each view of the board that has its part
pub live_part : (b : LiveView) (a : StateView) (v w : View) → LiveAgrees b a v → IsSameBoard v w → holds w a.core ≡ true
    → part w a.core ≡ part v a.core → LiveAgrees b a w
live_part b a v w agrees board has is = record {
  stands = stands_part b.outline a v w agrees.stands board has is;
  plans = λ course live. subst (FollowsPlans course a) (sym is) (agrees.plans course live);
}

-- the laws
pub live_core_lawful : IsLawful live_core_kind
live_core_lawful = record {
  begun = λ m v agrees. agrees.agrees.stands.of_outline.started;
  held = λ m v agrees. agrees.agrees.stands.core.1;
  parted = λ m v w agrees board has is. record {
    short = agrees.short;
    agrees = live_part m.book m.actor.state v w agrees.agrees board has is;
  };
  within = λ m v agrees. omega (arith, agrees.agrees.stands.clock, agrees.agrees.stands.timely.in_run);
  itself = λ m. record { book = refl; core = same_actor m.actor.state };
  further = λ m n o x y. record { book = y.book ∙ x.book; core = same_more m.actor.state n.actor.state o.actor.state x.core y.core };
  numbered = λ m n same. same.core.core;
  ends = λ m n same. ap (λ (r : ℕ). r * ROUND) same.core.rounds;
  since = λ m u v w on waits. tt;
  stays = λ m u v w waits quiet is. tt;
}

-- no run is as long as OUT
pub live_core_short : (m : MemberView) (v : View) → LiveCoreAgrees m v → m.actor.state.rounds * ROUND < OUT
live_core_short m v agrees = omega (arith, agrees.short)

-- the controllers of live runs are a lawful kind of actor
pub live_lead_lawful : IsLawful live_lead_kind
live_lead_lawful = record {
  begun = λ k v agrees. agrees.of_outline.started;
  held = λ k v agrees. agrees.holds_it;
  parted = λ k v w agrees board has is. lead_part k.book.outline k.control v w agrees board has is;
  within = λ k v agrees. omega (arith, agrees.posted, agrees.floors.few);
  itself = λ k. refl;
  further = λ k l m x y. y ∙ x;
  numbered = λ k l same. refl;
  ends = λ k l same. ap (λ (b : LiveView). length b.outline.ticks) same;
  since = λ k u v w on waits. tt;
  stays = λ k u v w waits quiet is. tt;
}
