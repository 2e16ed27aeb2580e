use Rattle.std.proofs.Common.{◌≡◌, sym, ap, ◌∙◌, subst, rules}
use Rattle.round_words.specs.declared.view.View.{View}
use Rattle.round_words.specs.Seats.{view_of}
use Rattle.crew_turns.specs.declared.stepper.Turn.{Turn}
use Rattle.crew_turns.specs.Kinds.{Stepped}
use Rattle.dispatch_core.specs.States.{ActorView, actor_view}
use Rattle.core_workers.specs.Actors.{CoreAgrees, core_kind}
use Rattle.core_workers.proofs.ActorLemmas.{core_goes, core_told, core_turn}
use Rattle.core_workers.proofs.member.MemberStepper.step.Goals.{in-Ran, in-Behind, in-Finished}
use Rattle.core_workers.proofs.member.MemberStepper.step.Goals as goal

pub returns : goal.returns
returns c =
    let a : ActorView = actor_view c.self.inside.course.now c.self.inside.state in
    let b : ActorView = actor_view c.self.inside.course.now c.step_state.new.state in
    let v : View = view_of c.args.seat.now in
    let w : View = view_of c.step_state.new.seat in
    let agrees : CoreAgrees a v = subst (λ (x : ActorView). CoreAgrees x v) (sym c.self.view_is) c.requires.agrees in
    let e = c.step_state.ensures in
    let told : Stepped core_kind a v (core_turn c.step_state.result) b w = core_told a c.step_state.new.state v w c.step_state.result agrees e.agrees e.same e.changes e.told in
    let turn : core_turn c.step_state.result ≡ c.match-step_state.result = elim c.match-step_state.branch [
      | in-Ran z ↦ ap core_turn z.in-Ran.is ∙ sym z.result-is
      | in-Behind z ↦ ap core_turn z.in-Behind.is ∙ sym z.result-is
      | in-Finished z ↦ ap core_turn z.in-Finished.is ∙ sym z.result-is
    ] in
    record {
      board = e.board;
      agrees = search rules;
      same = search rules;
      changes = search rules;
      parts = core_goes a c.step_state.new.state v w c.step_state.result agrees e.agrees e.same e.changes e.told;
      told = subst (λ (x : ActorView). Stepped core_kind x v c.match-step_state.result b w) c.self.view_is
          (subst (λ (t : Turn). Stepped core_kind a v t b w) turn told);
    }
