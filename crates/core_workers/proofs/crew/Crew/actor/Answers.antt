use Rattle.std.proofs.Common.{◌≡◌, ◌<◌, ℕ, Some, get_or, sym, ap, ◌∙◌, subst, arith}
use Rattle.std.proofs.lemmas.Option.{get_or_from_slice_get}
use Rattle.crew_turns.specs.declared.player.Player.{Player}
use Rattle.dispatch_core.specs.States.{ActorView}
use Rattle.core_workers.specs.Views.{CrewView, actor_of}
use Rattle.core_workers.proofs.PlayersLemmas.{at_core, shows}
use Rattle.core_workers.proofs.crew.Crew.actor.Goals as goal

pub index-requires : goal.index-requires
index-requires c =
    let x = c.self.inside in
    let within : c.args.core < x.course.now.cores = subst (λ (k : CrewView). c.args.core < k.course.cores) (sym c.self.view_is) c.requires in
    omega (arith, within, c.self.invariant.count, c.index-number.ensures.value)

pub returns : goal.returns
returns c =
    let x = c.self.inside in
    let within : c.args.core < x.course.now.cores = subst (λ (k : CrewView). c.args.core < k.course.cores) (sym c.self.view_is) c.requires in
    let p = at_core x.course.now x.rounds x.cores.items x.lead c.self.invariant c.args.core within in
    let is : c.index.result.now ≡ p.0 = c.index.ensures
    ∙ (ap (λ (n : ℕ). get_or x.cores.items n c.index.result.now) c.index-number.ensures.value ∙ get_or_from_slice_get x.cores.items c.args.core p.0 c.index.result.now p.1) in
    subst (λ (k : CrewView). actor_of k c.args.core ≡ Some c.state.result.now) c.self.view_is
    (shows x.course.now x.rounds x.cores.items x.lead c.self.invariant c.args.core p.0 p.1 ∙ ap Some (ap (λ (q : Player ActorView). q.actor.state) (sym is) ∙ sym c.state.ensures))
