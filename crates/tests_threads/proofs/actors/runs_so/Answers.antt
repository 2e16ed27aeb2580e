use Rattle.round_words.specs.Seats.{view_of}
use Rattle.core_workers.proofs.StartLemmas.{fresh_as}
use Rattle.tests_threads.proofs.actors.runs_so.Goals as goal

pub workers_of-requires-clause-fresh : goal.workers_of-requires-clause-fresh
workers_of-requires-clause-fresh c =
    fresh_as c.args.course.now (view_of c.start.new.seat) c.lag.result c.cores.result c.count.result c.lag.ensures.lag
    c.cores.ensures.cores c.count.ensures.count c.start.ensures.view
