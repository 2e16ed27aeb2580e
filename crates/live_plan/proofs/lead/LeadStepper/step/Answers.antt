use Rattle.std.proofs.Common.{◌≡◌, sym, ap, ◌∙◌, subst, rules}
use Rattle.round_words.specs.declared.view.View.{View}
use Rattle.round_words.specs.Seats.{view_of}
use Rattle.crew_turns.specs.declared.stepper.Turn.{Turn}
use Rattle.crew_turns.specs.Kinds.{Stepped}
use Rattle.plan_switch.specs.Controllers.{HasPosted}
use Rattle.live_plan.specs.Inside.Cells.{cell_state}
use Rattle.live_plan.specs.Players.{LeadView, lead_view, live_lead_kind}
use Rattle.live_plan.proofs.PlayersLemmas.{lead_goes, lead_told, lead_turn}
use Rattle.live_plan.proofs.lead.LeadStepper.step.Goals.{in-Posted, in-Behind, in-NotMade, in-Stopped, in-Finished}
use Rattle.live_plan.proofs.lead.LeadStepper.step.Goals as goal

pub returns : goal.returns
returns c =
    let x = c.self.inside in
    let k : LeadView = lead_view x.book.now x.controller in
    let l : LeadView = lead_view x.book.now c.live_control_step.new.controller in
    let v : View = view_of c.args.seat.now in
    let w : View = view_of c.live_control_step.new.seat in
    let was : HasPosted k.book.outline k.control v = subst (λ (y : LeadView). HasPosted y.book.outline y.control v) (sym c.self.view_is) c.requires.agrees in
    let e = c.live_control_step.ensures in
    let told : Stepped live_lead_kind k v (lead_turn c.live_control_step.result) l w =
    lead_told k c.live_control_step.new.controller v w (cell_state x.shelf) (cell_state c.live_control_step.new.shelf) was e.agrees e.changes c.live_control_step.result e.told in
    let turn : lead_turn c.live_control_step.result ≡ c.match-live_control_step.result = elim c.match-live_control_step.branch [
      | in-Posted z ↦ ap lead_turn z.in-Posted.is ∙ sym z.result-is
      | in-Behind z ↦ ap lead_turn z.in-Behind.is ∙ sym z.result-is
      | in-NotMade z ↦ ap lead_turn z.in-NotMade.is ∙ sym z.result-is
      | in-Stopped z ↦ ap lead_turn z.in-Stopped.is ∙ sym z.result-is
      | in-Finished z ↦ ap lead_turn z.in-Finished.is ∙ sym z.result-is
    ] in
    record {
      board = e.board;
      agrees = search rules;
      same = search rules;
      changes = search rules;
      parts = lead_goes k c.live_control_step.new.controller v w (cell_state x.shelf) (cell_state c.live_control_step.new.shelf) was e.agrees e.changes
          c.live_control_step.result e.told;
      told = subst (λ (y : LeadView). Stepped live_lead_kind y v c.match-live_control_step.result l w) c.self.view_is
          (subst (λ (t : Turn). Stepped live_lead_kind k v t l w) turn told);
    }
