use Rattle.std.proofs.Common.{length, ap, ◌∙◌}
use Rattle.table_form.specs.Running.Outlines.{OutlineView}
use Rattle.round_words.specs.Seats.{view_of}
use Rattle.run_live.proofs.LiveRunsLemmas.{fresh_live}
use Rattle.run_live.proofs.ran.run_ready.Goals as goal

pub run_live-requires-clause-agree : goal.run_live-requires-clause-agree
run_live-requires-clause-agree g c κs within =
    let b = c.args.live.now in
    c.requires.agree (view_of c.start.new.seat) (fresh_live b (view_of c.start.new.seat) c.lag.result c.cores.result c.count.result
    (c.lag.ensures.lag ∙ ap (λ (o : OutlineView). o.lag) c.outline-outline.ensures)
    (c.cores.ensures.cores ∙ ap (λ (o : OutlineView). o.cores) c.outline-outline.ensures)
    (c.count.ensures.count ∙ ap (λ (o : OutlineView). length o.ticks) c.outline-outline.ensures) c.start.ensures.view)

pub returns-clause-ran : goal.returns-clause-ran
returns-clause-ran g c =
    let r = c.run_live.ensures in
    record {
      crew_of = r.crew;
      rounds_are = r.rounds;
      agree = r.agree;
      holds = r.holds;
      kept = r.kept;
      promises = r.promises;
      complete = r.complete;
      counts = r.counts;
    }
