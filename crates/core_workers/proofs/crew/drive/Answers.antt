use Rattle.std.proofs.Common.{◌≡◌, List, sym, ◌∙◌, subst}
use Rattle.std.specs.Vec.{with_items}
use Rattle.std.proofs.lemmas.List.{with_items_is}
use Rattle.round_words.specs.declared.view.View.{View}
use Rattle.round_words.specs.Seats.{view_of}
use Rattle.crew_turns.specs.declared.player.Player.{Player}
use Rattle.crew_turns.specs.Troops.{AreAgreed, AreSame}
use Rattle.dispatch_core.specs.States.{ActorView}
use Rattle.core_workers.specs.Actors.{core_kind, lead_kind}
use Rattle.core_workers.specs.Crews.{AllAgree, HeldFinished, HoldsAll, IsSameCrew}
use Rattle.core_workers.specs.Views.{CrewView, crew_view}
use Rattle.core_workers.specs.Waiting.{IsCrewAtRest}
use Rattle.core_workers.specs.Inside.Players.{ArePlayers}
use Rattle.core_workers.proofs.CrewLemmas.{held_on}
use Rattle.core_workers.proofs.PlayersLemmas.{agree_again, agreed, at_rest, crew_same, players_crew, players_on, players_whole}
use Rattle.core_workers.proofs.RestLemmas.{rest_finished}
use Rattle.core_workers.proofs.crew.drive.Goals as goal

pub drive_all-requires-clause-agreed : goal.drive_all-requires-clause-agreed
drive_all-requires-clause-agreed g c = λ κs within.
    let x = c.crew.inside in
    let v : View = view_of c.args.seat.now in
    subst (λ (ps : List (Player ActorView)). AreAgreed core_kind lead_kind ps x.lead v) (sym c.deref_mut.ensures.value)
    (agreed x.course.now x.rounds x.cores.items x.lead c.crew.invariant v (subst (λ (k : CrewView). AllAgree k v) (sym c.crew.view_is) c.requires.agree))

pub invariant_of-crew : goal.invariant_of-crew
invariant_of-crew g c =
    let x = c.crew.inside in
    let on : AreSame core_kind lead_kind x.cores.items x.lead c.drive_all.new.cores c.drive_all.new.lead =
    subst (λ (ps : List (Player ActorView)). AreSame core_kind lead_kind ps x.lead c.drive_all.new.cores c.drive_all.new.lead) c.deref_mut.ensures.value c.drive_all.ensures.same in
    let is : (with_items x.cores c.drive_all.new.cores).items ≡ c.drive_all.new.cores = with_items_is x.cores c.drive_all.new.cores (on.count ∙ sym x.cores.ok.0) in
    subst (λ (ps : List (Player ActorView)). ArePlayers x.course.now x.rounds ps c.drive_all.new.lead) (sym is) (players_on x.course.now x.rounds x.cores.items x.lead c.crew.invariant c.drive_all.new.cores c.drive_all.new.lead on)

pub returns : goal.returns
returns g c =
    let x = c.crew.inside in
    let cores = c.drive_all.new.cores in
    let lead = c.drive_all.new.lead in
    let on : AreSame core_kind lead_kind x.cores.items x.lead cores lead =
    subst (λ (ps : List (Player ActorView)). AreSame core_kind lead_kind ps x.lead cores lead) c.deref_mut.ensures.value c.drive_all.ensures.same in
    let is : (with_items x.cores cores).items ≡ cores = with_items_is x.cores cores (on.count ∙ sym x.cores.ok.0) in
    let are = players_on x.course.now x.rounds x.cores.items x.lead c.crew.invariant cores lead on in
    let v : View = view_of c.args.seat.now in
    let w : View = view_of c.drive_all.new.seat in
    let first : CrewView = crew_view x.course.now x.rounds x.cores.items x.lead in
    let y : CrewView = crew_view x.course.now x.rounds cores lead in
    let same : IsSameCrew first y = crew_same x.course.now x.rounds x.cores.items x.lead c.crew.invariant cores lead on in
    let agree : AllAgree y w = agree_again x.course.now x.rounds cores lead are w c.drive_all.ensures.agreed in
    let rest : IsCrewAtRest y v w = at_rest x.course.now x.rounds cores lead are v w agree c.drive_all.ensures.rests in
    record {
      board = c.drive_all.ensures.board;
      agree = subst (λ (ps : List (Player ActorView)). AllAgree (crew_view x.course.now x.rounds ps lead) w) (sym is) agree;
      same = subst (λ (ps : List (Player ActorView)). IsSameCrew c.args.crew.now (crew_view x.course.now x.rounds ps lead)) (sym is)
          (subst (λ (k : CrewView). IsSameCrew k y) c.crew.view_is same);
      actors = c.drive_all.ensures.actors;
      rests = subst (λ (ps : List (Player ActorView)). IsCrewAtRest (crew_view x.course.now x.rounds ps lead) v w) (sym is) rest;
      finished = λ all. subst (λ (ps : List (Player ActorView)). HeldFinished (crew_view x.course.now x.rounds ps lead) w) (sym is)
          (rest_finished y v w (players_crew x.course.now x.rounds cores lead are) (players_whole x.course.now x.rounds cores lead are) agree
          (held_on first y v w same c.drive_all.ensures.actors (subst (λ (k : CrewView). HoldsAll k v) (sym c.crew.view_is) all)) rest);
    }
