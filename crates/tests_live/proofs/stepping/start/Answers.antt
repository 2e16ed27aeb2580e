use Rattle.std.proofs.Common.{◌≡◌, ◌≤◌, ◌<◌, ℕ, length, ap, ◌∙◌, arith}
use Rattle.table_form.specs.Running.Outlines.{OutlineView}
use Rattle.round_words.specs.declared.view.View.{View}
use Rattle.round_words.specs.Seats.{view_of}
use Rattle.round_words.specs.Shown.{HoldsCore}
use Rattle.round_words.specs.Views.{just_started}
use Rattle.core_workers.proofs.StartLemmas.{holds_started, nobody}
use Rattle.core_workers.specs.Crews.{HoldsAll}
use Rattle.live_book.specs.Books.{LiveView}
use Rattle.live_plan.specs.Crews.{bare}
use Rattle.run_live.proofs.LiveRunsLemmas.{fresh_live}
use Rattle.tests_live.proofs.stepping.start.Goals as goal

-- a board that was just started for the book holds all parts
holds_all : (b : LiveView) (v : View) (lag cores events : ℕ) → lag ≡ b.outline.lag → cores ≡ b.outline.cores
    → events ≡ length b.outline.ticks → v ≡ just_started lag cores events → b.outline.cores ≤ 32 → HoldsAll (nobody (bare b)) v
holds_all b v lag cores events lag_is cores_are events_are is few = holds_started (nobody (bare b)) v
    (is ∙ (ap (λ (l : ℕ). just_started l cores events) lag_is
    ∙ (ap (λ (n : ℕ). just_started b.outline.lag n events) cores_are
    ∙ ap (just_started b.outline.lag b.outline.cores) events_are))) few

pub returns-clause-agrees : goal.returns-clause-agrees
returns-clause-agrees c =
    let b = c.args.book.now in
    let v = view_of c.start.new.seat in
    let lag : c.lag.result ≡ b.outline.lag = c.lag.ensures.lag ∙ ap (λ (o : OutlineView). o.lag) c.outline-outline.ensures in
    let cores : c.cores.result ≡ b.outline.cores = c.cores.ensures.cores ∙ ap (λ (o : OutlineView). o.cores) c.outline-outline.ensures in
    let events : c.count.result ≡ length b.outline.ticks =
    c.count.ensures.count ∙ ap (λ (o : OutlineView). length o.ticks) c.outline-outline.ensures in
    let few : b.outline.cores ≤ 32 = omega (arith, c.cores.ensures.kept.few_cores, c.cores.ensures.cores, cores) in
    let some : 0 < b.outline.cores = omega (arith, c.cores.ensures.kept.some_core, c.cores.ensures.cores, cores) in
    let fresh = fresh_live b v c.lag.result c.cores.result c.count.result lag cores events c.start.ensures.view in
    let all = holds_all b v c.lag.result c.cores.result c.count.result lag cores events c.start.ensures.view few in
    let held : HoldsCore v 0 = (omega (arith, some, fresh.started.cores_are), all.cores 0 some) in
    c.in_ok-actor.ensures.agrees v fresh.started held (fresh.cores 0 held)

pub returns-clause-posted : goal.returns-clause-posted
returns-clause-posted c =
    let b = c.args.book.now in
    let v = view_of c.start.new.seat in
    let lag : c.lag.result ≡ b.outline.lag = c.lag.ensures.lag ∙ ap (λ (o : OutlineView). o.lag) c.outline-outline.ensures in
    let cores : c.cores.result ≡ b.outline.cores = c.cores.ensures.cores ∙ ap (λ (o : OutlineView). o.cores) c.outline-outline.ensures in
    let events : c.count.result ≡ length b.outline.ticks =
    c.count.ensures.count ∙ ap (λ (o : OutlineView). length o.ticks) c.outline-outline.ensures in
    let few : b.outline.cores ≤ 32 = omega (arith, c.cores.ensures.kept.few_cores, c.cores.ensures.cores, cores) in
    let fresh = fresh_live b v c.lag.result c.cores.result c.count.result lag cores events c.start.ensures.view in
    let all = holds_all b v c.lag.result c.cores.result c.count.result lag cores events c.start.ensures.view few in
    c.make-controller.ensures.agrees v fresh.started all.control (fresh.control all.control)
