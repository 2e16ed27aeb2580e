use Rattle.std.proofs.Common.{All}
use Rattle.tests_threads.specs.declared.actors.Worker.{Worker}
use Rattle.tests_threads.specs.Workers.{IsWorkerReady}
use Rattle.tests_threads.proofs.actors.turn.Given as goal

abbrev pub invariant-loop-at : goal.invariant-loop-at
invariant-loop-at l = record { ready : All (λ (w : Worker). IsWorkerReady l.board w.seat w.actor) l.workers.items }
