use Rattle.std.proofs.Common.{rules, ◌≤◌, List, sym, ap, ◌∙◌, subst, arith}
use Rattle.std.specs.Vec.{with_items}
use Rattle.std.proofs.lemmas.List.{with_items_is}
use Rattle.table_form.specs.Running.Outlines.{OutlineView}
use Rattle.round_words.specs.declared.view.View.{View}
use Rattle.round_words.specs.Seats.{view_of}
use Rattle.crew_turns.specs.declared.player.Player.{Player}
use Rattle.crew_turns.specs.Troops.{AreAgreed, AreSame}
use Rattle.crew_turns.proofs.GoingLemmas.{actors_twice}
use Rattle.live_plan.specs.Crews.{HoldsLiveCrew, IsCrewOf, LiveCrewAgrees, LiveCrewView, live_crew_view}
use Rattle.live_plan.specs.Players.{MemberView, live_core_kind, live_lead_kind}
use Rattle.live_plan.proofs.CrewsLemmas.{ComesBack, agree_back, comes_back, complete, counts, finished_back, held_agreed, held_crew, holds_back, kept, none_more, promises}
use Rattle.live_plan.proofs.workers.run_live.Given.{Over}
use Rattle.live_plan.proofs.workers.run_live.Goals as goal

pub join-seat-requires-after_bounds : goal.join-seat-requires-after_bounds
join-seat-requires-after_bounds g c κs within =
    let b = c.args.book.now in
    let t = c.crew.inside in
    let x : LiveCrewView = live_crew_view t.rounds t.members.items t.lead t.maker in
    let v : View = view_of c.args.seat in
    let is : IsCrewOf b x = subst (IsCrewOf b) (sym c.crew.view_is) c.requires.crew in
    let few : b.outline.cores ≤ 32 = omega (arith, c.lag-lag.ensures.kept.few_cores, ap (λ (o : OutlineView). o.cores) c.outline.ensures) in
    let held = held_crew b x v few is (subst (λ (k : LiveCrewView). LiveCrewAgrees b k v) (sym c.crew.view_is) c.requires.agree)
    (subst (λ (k : LiveCrewView). HoldsLiveCrew k v) (sym c.crew.view_is) c.requires.holds) in (
      ((search rules, search rules, c.requires.board, held), (search rules, search rules)),
      ((search rules, is.maker), search rules),
    )

pub finish-requires-clause-agreed : goal.finish-requires-clause-agreed
finish-requires-clause-agreed g c κs within =
    let j = c.join-seat.result.0 in
    subst (λ (ps : List (Player MemberView)). AreAgreed live_core_kind live_lead_kind ps j.2 (view_of j.0)) (sym c.deref_mut.ensures.value)
    (held_agreed j.1.items j.2 (view_of j.0) c.join-seat.ensures.first.1)

-- the crew that comes back
abbrev crew_after : (g : Over) → goal.After-drop-planned g → LiveCrewView
crew_after g c = live_crew_view c.crew.inside.rounds (with_items c.join-seat.result.0.1 c.finish.new.members).items c.finish.new.lead c.join-seat.result.1

back : (g : Over) (c : goal.After-drop-planned g) → ComesBack c.args.book.now (crew_after g c) (view_of c.finish.new.seat) c.stopped_at-stopped.result
back g c =
    let b = c.args.book.now in
    let t = c.crew.inside in
    let j = c.join-seat.result in
    let e = c.finish.ensures in
    let two = subst (λ (ps : List (Player MemberView)). AreSame live_core_kind live_lead_kind ps j.0.2 c.finish.new.members c.finish.new.lead) c.deref_mut.ensures.value e.same in
    comes_back b t.rounds t.members.items j.0.1.items c.finish.new.members t.lead j.0.2 c.finish.new.lead t.maker j.1
    (view_of j.0.0) (view_of c.finish.new.seat) c.stopped_at-stopped.result (subst (IsCrewOf b) (sym c.crew.view_is) c.requires.crew) c.join-seat.ensures.second.0
    (with_items j.0.1 c.finish.new.members).items (with_items_is j.0.1 c.finish.new.members (two.count ∙ sym j.0.1.ok.0))
    c.join-seat.ensures.first.2 c.join-seat.ensures.first.1 two e.actors e.agreed e.ended

pub returns-clause-crew : goal.returns-clause-crew
returns-clause-crew g c = (back g c).is

pub returns-clause-agree : goal.returns-clause-agree
returns-clause-agree g c = agree_back c.args.book.now (crew_after g c) (view_of c.finish.new.seat) (back g c).is (back g c).held

pub returns-clause-holds : goal.returns-clause-holds
returns-clause-holds g c = holds_back c.args.book.now (crew_after g c) (view_of c.finish.new.seat) (back g c).is (back g c).held

pub returns-clause-actors : goal.returns-clause-actors
returns-clause-actors g c =
    actors_twice (view_of c.args.seat) (view_of c.join-seat.result.0.0) (view_of c.finish.new.seat) c.join-seat.ensures.first.3 c.finish.ensures.actors

pub returns-clause-finished : goal.returns-clause-finished
returns-clause-finished g c =
    none_more c.stopped_at-stopped.result _ _ (finished_back c.args.book.now (crew_after g c) (view_of c.finish.new.seat) (back g c).is (back g c).held) (back g c).ended

pub returns-clause-kept : goal.returns-clause-kept
returns-clause-kept g c course live =
    kept c.args.book.now (crew_after g c) (view_of c.finish.new.seat) (back g c).is (back g c).held course live c.shown.ensures

pub returns-clause-promises : goal.returns-clause-promises
returns-clause-promises g c course ok live =
    promises c.args.book.now (crew_after g c) (view_of c.finish.new.seat) (back g c).is (back g c).held course live c.shown.ensures ok

pub returns-clause-complete : goal.returns-clause-complete
returns-clause-complete g c = none_more c.stopped_at-stopped.result _ _
    (λ ended course live. complete c.args.book.now (crew_after g c) (view_of c.finish.new.seat) (back g c).is (back g c).held course live c.shown.ensures ended) (back g c).ended

pub returns-clause-counts : goal.returns-clause-counts
returns-clause-counts g c = none_more c.stopped_at-stopped.result _ _
    (λ ended course live. counts c.args.book.now (crew_after g c) (view_of c.finish.new.seat) (back g c).is (back g c).held course live c.shown.ensures ended) (back g c).ended
