use Rattle.std.proofs.Common.{All}
use Rattle.tests_threads.specs.declared.actors.Worker.{Worker}
use Rattle.tests_threads.specs.Workers.{IsWorkerReady}
use Rattle.tests_threads.proofs.actors.finish.Given as goal

abbrev pub invariant-loop-turn : goal.invariant-loop-turn
invariant-loop-turn l = record { ready : All (λ (w : Worker). IsWorkerReady l.board w.seat w.actor) l.workers.items }
