use Rattle.std.proofs.Common.{subst}
use Rattle.core_workers.specs.Crews.{IsCrew, IsWhole}
use Rattle.core_workers.specs.Views.{CrewView}
use Rattle.core_workers.proofs.PlayersLemmas.{players_crew, players_whole}
use Rattle.core_workers.proofs.crew.Crew.shown.Goals as goal

pub returns : goal.returns
returns c =
    let x = c.self.inside in
    subst (λ (k : CrewView). IsCrew k × IsWhole k) c.self.view_is (
      players_crew x.course.now x.rounds x.cores.items x.lead c.self.invariant,
      players_whole x.course.now x.rounds x.cores.items x.lead c.self.invariant,
    )
