use Rattle.std.proofs.Common.{◌≡◌, ◌<◌, ◌≤◌, ℕ, All, true}
use Rattle.round_words.specs.Seats.{IsSeatOf, view_of}
use Rattle.round_words.specs.Views.{controller, holds}
use Rattle.core_workers.specs.Crews.{IsNewView}
use Rattle.tests_threads.specs.declared.actors.Worker.{Worker}
use Rattle.tests_threads.specs.Workers.{IsWorkerReady}
use Rattle.tests_threads.proofs.actors.workers_of.Given as goal

abbrev pub invariant-loop-core : goal.invariant-loop-core
invariant-loop-core l = record {
  board : IsSeatOf l.board l.seat;
  fresh : IsNewView l.course (view_of l.seat);
  cores : (c : ℕ) → l.core ≤ c → c < l.course.cores → holds (view_of l.seat) c ≡ true;
  controller : holds (view_of l.seat) controller ≡ true;
  ready : All (λ (w : Worker). IsWorkerReady l.board w.seat w.actor) l.workers.items;
}
