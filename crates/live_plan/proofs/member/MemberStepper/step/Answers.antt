use Rattle.std.proofs.Common.{◌≡◌, sym, ap, ◌∙◌, subst, rules}
use Rattle.round_words.specs.declared.view.View.{View}
use Rattle.round_words.specs.Seats.{view_of}
use Rattle.crew_turns.specs.declared.stepper.Turn.{Turn}
use Rattle.crew_turns.specs.Kinds.{Stepped}
use Rattle.live_plan.specs.Inside.Cells.{cell_state}
use Rattle.live_plan.specs.Players.{LiveCoreAgrees, MemberView, live_core_kind, member_view}
use Rattle.live_plan.proofs.PlayersLemmas.{core_goes, core_told, core_turn}
use Rattle.live_plan.proofs.member.MemberStepper.step.Goals.{in-Ran, in-Behind, in-NotMade, in-Stopped, in-Finished}
use Rattle.live_plan.proofs.member.MemberStepper.step.Goals as goal

pub returns : goal.returns
returns c =
    let x = c.self.inside in
    let m : MemberView = member_view x.book.now x.actor in
    let n : MemberView = member_view x.book.now c.step_keeping.new.actor in
    let v : View = view_of c.args.seat.now in
    let w : View = view_of c.step_keeping.new.seat in
    let agrees : LiveCoreAgrees m v = subst (λ (k : MemberView). LiveCoreAgrees k v) (sym c.self.view_is) c.requires.agrees in
    let e = c.step_keeping.ensures in
    let told : Stepped live_core_kind m v (core_turn c.step_keeping.result) n w =
    core_told m c.step_keeping.new.actor v w (cell_state x.shelf) (cell_state c.step_keeping.new.shelf) agrees e.agrees e.same e.changes c.step_keeping.result e.told in
    let turn : core_turn c.step_keeping.result ≡ c.match-step_keeping.result = elim c.match-step_keeping.branch [
      | in-Ran z ↦ ap core_turn z.in-Ran.is ∙ sym z.result-is
      | in-Behind z ↦ ap core_turn z.in-Behind.is ∙ sym z.result-is
      | in-NotMade z ↦ ap core_turn z.in-NotMade.is ∙ sym z.result-is
      | in-Stopped z ↦ ap core_turn z.in-Stopped.is ∙ sym z.result-is
      | in-Finished z ↦ ap core_turn z.in-Finished.is ∙ sym z.result-is
    ] in
    record {
      board = e.board;
      agrees = search rules;
      same = search rules;
      changes = search rules;
      parts = core_goes m c.step_keeping.new.actor v w (cell_state x.shelf) (cell_state c.step_keeping.new.shelf) agrees e.agrees e.same e.changes
          c.step_keeping.result e.told;
      told = subst (λ (k : MemberView). Stepped live_core_kind k v c.match-step_keeping.result n w) c.self.view_is
          (subst (λ (t : Turn). Stepped live_core_kind m v t n w) turn told);
    }
