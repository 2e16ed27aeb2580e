use Rattle.std.proofs.Common.{◌≡◌, sym, ap, ◌∙◌, subst}
use Rattle.round_words.specs.declared.view.View.{View}
use Rattle.round_words.specs.Seats.{view_of}
use Rattle.crew_turns.specs.declared.stepper.Turn.{Turn}
use Rattle.crew_turns.specs.Kinds.{Stepped}
use Rattle.plan_switch.specs.Controllers.{ControlAgreesWith, ControllerView}
use Rattle.core_workers.specs.Actors.{lead_kind}
use Rattle.core_workers.proofs.ActorLemmas.{lead_told, lead_turn}
use Rattle.core_workers.proofs.Causes.{lead_parts}
use Rattle.core_workers.proofs.lead.LeadStepper.step.Goals.{in-Posted, in-Behind, in-Finished}
use Rattle.core_workers.proofs.lead.LeadStepper.step.Goals as goal

pub returns-clause-parts : goal.returns-clause-parts
returns-clause-parts c =
    let e = c.control_step.ensures in
    let k : ControllerView = c.self.inside.controller in
    lead_parts k.course k.state.posted (view_of c.args.seat.now) (view_of c.control_step.new.seat) c.control_step.result e.changes e.told

pub returns-clause-told : goal.returns-clause-told
returns-clause-told c =
    let k : ControllerView = c.self.inside.controller in
    let l : ControllerView = c.control_step.new.controller in
    let v : View = view_of c.args.seat.now in
    let w : View = view_of c.control_step.new.seat in
    let e = c.control_step.ensures in
    let told : Stepped lead_kind k v (lead_turn c.control_step.result) l w = lead_told k l v w c.control_step.result (subst (λ (x : ControllerView). ControlAgreesWith x.course x.state v) (sym c.self.view_is) c.requires.agrees) e.agrees e.course e.changes e.told in
    let turn : lead_turn c.control_step.result ≡ c.match-control_step.result = elim c.match-control_step.branch [
      | in-Posted z ↦ ap lead_turn z.in-Posted.is ∙ sym z.result-is
      | in-Behind z ↦ ap lead_turn z.in-Behind.is ∙ sym z.result-is
      | in-Finished z ↦ ap lead_turn z.in-Finished.is ∙ sym z.result-is
    ] in
    subst (λ (x : ControllerView). Stepped lead_kind x v c.match-control_step.result l w) c.self.view_is (subst (λ (t : Turn). Stepped lead_kind k v t l w) turn told)
