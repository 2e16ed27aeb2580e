use Rattle.std.proofs.Common.{◌≢◌, zero, suc, All, [], ◌∷◌, subst, sym, ◌∙◌, arith}
use Rattle.std.proofs.lemmas.List.Elements.{All-append}
use Rattle.round_words.specs.declared.board.RoundBoard.{RoundBoard}
use Rattle.round_words.specs.Views.{controller}
use Rattle.tests_threads.specs.declared.actors.Worker.{Worker}
use Rattle.tests_threads.specs.Workers.{IsWorkerReady}
use Rattle.tests_threads.proofs.actors.workers_of.Goals as goal

-- a list of one that is ready
one_ready : (board : RoundBoard) (worker : Worker) → IsWorkerReady board worker.seat worker.actor → All (λ (w : Worker). IsWorkerReady board w.seat w.actor) (worker ∷ [])
one_ready board worker is zero d lt = is
one_ready board worker is (suc k) d lt = absurd (omega (arith, lt))

pub loop-core-preserved : goal.loop-core-preserved
loop-core-preserved c =
    let board = c.args.board.now in
    let core = c.loop-core.core in
    let worker = c.in_ok-worker_of.field-0 in
    let was = c.loop-core.invariant in
    let away : controller ≢ core = λ is. absurd (omega (
      arith,
      is,
      c.loop-core-test.true,
      c.cores-core-end.ensures.cores,
      c.cores-core-end.ensures.kept.form.outline.few_cores,
    )) in
    record {
      board = c.worker_of.ensures.board;
      fresh = c.worker_of.ensures.fresh;
      cores = λ d from lt. c.worker_of.ensures.others d (λ is. absurd (omega (arith, is, from)))
          ∙ was.cores d (omega (arith, from)) lt;
      controller = c.worker_of.ensures.others controller away ∙ was.controller;
      ready = subst (All (λ (w : Worker). IsWorkerReady board w.seat w.actor)) (sym c.in_ok-push.ensures.items)
          (All-append (λ (w : Worker). IsWorkerReady board w.seat w.actor) c.loop-core.workers.items (worker ∷ []) was.ready
          (one_ready board worker c.in_ok-worker_of.ensures.ready));
    }
