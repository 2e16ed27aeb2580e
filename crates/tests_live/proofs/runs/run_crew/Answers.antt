use Rattle.std.proofs.Common.{◌≡◌, ◌≤◌, length, ap, ◌∙◌, arith}
use Rattle.table_form.specs.Running.Outlines.{OutlineView}
use Rattle.round_words.specs.Seats.{view_of}
use Rattle.run_live.proofs.LiveRunsLemmas.{fresh_live, holds_live}
use Rattle.tests_live.proofs.runs.run_crew.Goals as goal

pub run_live-crew-requires-clause-agree : goal.run_live-crew-requires-clause-agree
run_live-crew-requires-clause-agree g c κs within =
    let b = c.args.scene.now.live in
    let v = view_of c.start.new.seat in
    let lag : c.lag.result ≡ b.outline.lag = c.lag.ensures.lag ∙ ap (λ (o : OutlineView). o.lag) c.outline-outline.ensures in
    let cores : c.cores.result ≡ b.outline.cores = c.cores.ensures.cores ∙ ap (λ (o : OutlineView). o.cores) c.outline-outline.ensures in
    let events : c.count.result ≡ length b.outline.ticks =
    c.count.ensures.count ∙ ap (λ (o : OutlineView). length o.ticks) c.outline-outline.ensures in
    c.in_ok-crew.ensures.agree v (fresh_live b v c.lag.result c.cores.result c.count.result lag cores events c.start.ensures.view)

pub run_live-crew-requires-clause-holds : goal.run_live-crew-requires-clause-holds
run_live-crew-requires-clause-holds g c κs within =
    let b = c.args.scene.now.live in
    let v = view_of c.start.new.seat in
    let lag : c.lag.result ≡ b.outline.lag = c.lag.ensures.lag ∙ ap (λ (o : OutlineView). o.lag) c.outline-outline.ensures in
    let cores : c.cores.result ≡ b.outline.cores = c.cores.ensures.cores ∙ ap (λ (o : OutlineView). o.cores) c.outline-outline.ensures in
    let events : c.count.result ≡ length b.outline.ticks =
    c.count.ensures.count ∙ ap (λ (o : OutlineView). length o.ticks) c.outline-outline.ensures in
    let few : b.outline.cores ≤ 32 = omega (arith, c.cores.ensures.kept.few_cores, c.cores.ensures.cores, cores) in
    holds_live b v c.lag.result c.cores.result c.count.result lag cores events c.start.ensures.view c.in_ok-crew.crew c.in_ok-crew.ensures.crew few

pub returns-in-None : goal.returns-in-None
returns-in-None g c = c.run_live-crew.ensures.crew.cores
