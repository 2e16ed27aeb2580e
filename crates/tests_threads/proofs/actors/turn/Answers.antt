use Rattle.std.proofs.lemmas.List.Elements.{All-set}
use Rattle.tests_threads.specs.declared.actors.Worker.{Worker}
use Rattle.tests_threads.specs.Workers.{IsWorkerReady}
use Rattle.tests_threads.proofs.actors.turn.Goals as goal

pub loop-at-preserved : goal.loop-at-preserved
loop-at-preserved c = record {
  ready = All-set (λ (w : Worker). IsWorkerReady c.args.board.now w.seat w.actor) c.loop-at.workers.items c.loop-at.at c.step.new.worker c.step.ensures
      c.loop-at.invariant.ready;
}
