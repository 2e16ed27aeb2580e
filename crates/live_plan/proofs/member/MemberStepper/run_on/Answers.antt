use Rattle.std.proofs.Common.{◌≡◌, ℕ, sym, ap, ◌∙◌, subst, arith}
use Rattle.round_words.specs.declared.view.View.{View}
use Rattle.round_words.specs.Seats.{view_of}
use Rattle.round_words.specs.Views.{part}
use Rattle.crew_turns.specs.Going.{PartsGoOn}
use Rattle.core_workers.proofs.Causes.{steps_parts}
use Rattle.live_plan.specs.Players.{LiveCoreAgrees, MemberView, member_view}
use Rattle.live_plan.proofs.member.MemberStepper.run_on.Goals as goal

pub returns-clause-parts : goal.returns-clause-parts
returns-clause-parts g c =
    let x = c.self.inside in
    let told = c.run_further.ensures.told in
    steps_parts x.book.now.outline x.actor.state.rounds x.actor.state.core told.0 (view_of c.args.seat.now) (view_of c.run_further.new.seat) told.1

pub returns-clause-place : goal.returns-clause-place
returns-clause-place g c =
    let x = c.self.inside in
    let m : MemberView = member_view x.book.now x.actor in
    let core : ℕ = m.actor.state.core in
    let v : View = view_of c.args.seat.now in
    let w : View = view_of c.run_further.new.seat in
    let agrees : LiveCoreAgrees m v = subst (λ (k : MemberView). LiveCoreAgrees k v) (sym c.self.view_is) c.requires.agrees in
    let parts : PartsGoOn v w = returns-clause-parts g c in
    let e = c.run_further.ensures in
    let new : c.run_further.new.actor.state.clock ≡ (part w core).clock = e.agrees.stands.clock ∙ ap (λ (k : ℕ). (part w k).clock) e.same.core in
    omega (arith, ap (λ (k : MemberView). k.actor.state.clock) c.self.view_is, agrees.agrees.stands.clock, new, (parts core).clock)
