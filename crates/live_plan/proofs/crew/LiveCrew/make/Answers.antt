use Rattle.std.proofs.Common.{◌≡◌, sym, ap, ◌∙◌, subst}
use Rattle.plan_switch.specs.Controllers.{HasPosted}
use Rattle.live_plan.specs.Players.{LeadView}
use Rattle.live_plan.proofs.CrewsLemmas.{agree_made, crew_made}
use Rattle.live_plan.proofs.crew.LiveCrew.make.Goals as goal

pub returns-clause-crew : goal.returns-clause-crew
returns-clause-crew c =
    let b = c.args.book.now in
    let are = c.in_ok-members.ensures in
    let lead : c.of-lead.result.actor.book ≡ b = ap (λ (k : LeadView). k.book) c.of-lead.ensures ∙ c.make-controller.ensures.book in
    crew_made b c.args.rounds c.in_ok-members.members.items c.of-lead.result c.in_ok-maker.maker are.0 are.1 c.requires.fits lead c.in_ok-maker.ensures.maker

pub returns-clause-agree : goal.returns-clause-agree
returns-clause-agree c = λ v fresh.
    let b = c.args.book.now in
    let are = c.in_ok-members.ensures in
    agree_made b c.args.rounds c.in_ok-members.members.items c.of-lead.result c.in_ok-maker.maker are.0 are.1 v fresh
    (λ has. subst (λ (k : LeadView). HasPosted b.outline k.control v) (sym c.of-lead.ensures) (c.make-controller.ensures.agrees v fresh.started has (fresh.control has)))
