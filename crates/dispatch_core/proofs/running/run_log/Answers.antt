use Rattle.std.proofs.Common.{◌≡◌, ◌+◌, ◌-◌, ◌*◌, ◌%◌, ◌≤◌, ◌<◌, ℕ, inl, inr, length, ap, sym, ◌∙◌, subst, arith}
use mathlib.Core.Logic.{dite}
use native.Mathlib.Decide.{ℕ_discrete}
use Rattle.std.proofs.lemmas.Option.{slice_get_within}
use Rattle.tab_core.specs.declared.TheConstants.{ROUND}
use Rattle.tab_core.specs.declared.stint.Stint.{Stint}
use Rattle.table_form.specs.Running.Courses.{with_plans}
use Rattle.table_form.specs.Running.Outlines.{OutlineView}
use Rattle.table_form.specs.Tables.Spans.{IsSpan}
use Rattle.slice_table.specs.Slices.{HoldsTick, IsTableOf, ends_of}
use Rattle.round_words.specs.declared.view.View.{View}
use Rattle.round_words.specs.Seats.{view_of}
use Rattle.round_words.specs.Views.{part}
use Rattle.dispatch_core.specs.declared.answer.CoreAnswer.{CoreAnswer}
use Rattle.dispatch_core.specs.declared.log.CoreLog.{CoreLog}
use Rattle.dispatch_core.specs.Inside.Logs.{log_view}
use Rattle.dispatch_core.specs.States.{StateView}
use Rattle.dispatch_core.specs.Told.{CoreGoes, IsWait}
use Rattle.dispatch_core.proofs.EntryLemmas.{count_used}
use Rattle.dispatch_core.proofs.RunningLemmas.{changes_on, plans_on, same_on, steps_on}
use Rattle.dispatch_core.proofs.running.run_log.Goals as goal

pub running-preserved : goal.running-preserved
running-preserved g c =
    let o : OutlineView = c.args.way.now.outline.now in
    let ends = ends_of c.args.way.now.table.now in
    let kept : CoreLog = c.running.log in
    let s : StateView = log_view c.args.log.now in
    let t : StateView = log_view kept in
    let n : StateView = log_view c.go_on.new.log in
    let u : View = view_of c.args.seat.now in
    let v : View = view_of c.running.seat in
    let w : View = view_of c.go_on.new.seat in
    let i = c.running.invariant in
    let e = c.in-Ran.ensures in
    let start : ℕ = (c.len.result - 1) * 102600 in
    let span = c.numbered-span.result in
    let shows = c.numbered-span.ensures in
    let stint : Stint = c.in-Ran.stint in
    let next = c.number_behind-number.ensures in
    let number : ℕ = c.number_behind-number.result in
    let on : kept.clock ≤ c.min-last.result = c.running-test.true in
    let place : kept.clock - start ≡ kept.clock % ROUND = omega (arith, i.begin, i.last, i.from, on) in
    let began : (part v s.core).clock ≤ c.args.limit = omega (
      arith,
      on,
      i.bound,
      i.stands.clock,
      ap (λ (core : ℕ). (part v core).clock) i.same.core,
    ) in
    let end : stint.end ≤ start + span.end = omega (arith, e.ends.0, place, i.from) in
    record {
      board = e.board;
      log = e.log;
      stands = e.stands;
      same = same_on o s t u v w i.same e.changes n e.same;
      changes = changes_on o s t u v w i.same e.changes i.changes;
      told = (let made = steps_on o s t u v w i.same e.changes c.go_on.result c.go_on.ensures.goes (i.told.0, i.told.1) in
          (made.0, made.1, began));
      used = e.used ∙ i.used;
      begin = i.begin;
      last = i.last;
      bound = i.bound;
      from = omega (arith, i.from, e.later);
      small = dite (ℕ_discrete stint.end (start + span.end))
          (λ at. (let is = next.ended at in omega (arith, is, shows.small)))
          (λ before. (let is = next.inside before in omega (arith, is, shows.small)));
      holds = λ less. dite (ℕ_discrete stint.end (start + span.end))
          (λ at. (let here : span.end ≡ c.go_on.new.log.clock - start = omega (arith, e.ends.1, at) in
          subst (HoldsTick ends number) here (subst (λ (k : ℕ). HoldsTick ends k span.end) (sym (next.ended at))
          (shows.next (omega (arith, e.ends.1, at, less, i.last))))))
          (λ before. subst (λ (k : ℕ). HoldsTick ends k (c.go_on.new.log.clock - start)) (sym (next.inside before))
          (shows.later (c.go_on.new.log.clock - start) (omega (arith, e.later, i.from)) (omega (arith, e.ends.1, end, before, e.later, i.from))));
      plans = λ plan of plans numbers is follows.
          let is_table : IsTableOf plan kept.core c.args.way.now.table.now = subst (λ (k : ℕ). IsTableOf plan k c.args.way.now.table.now) (sym i.same.core) of in
          let shown = subst (λ (x : ℕ). IsSpan plan kept.core x span.owner span.sharers.now span.end) place (shows.span plan kept.core is_table) in
          plans_on o s t u v w i.same e.changes n (with_plans o plans numbers) (e.plans plan shown plans numbers is) (i.plans plan of plans numbers is follows);
    }

pub returns-in-Behind : goal.returns-in-Behind
returns-in-Behind g c =
    let o : OutlineView = c.args.way.now.outline.now in
    let kept : CoreLog = c.running.log in
    let s : StateView = log_view c.args.log.now in
    let t : StateView = log_view kept in
    let n : StateView = log_view c.go_on.new.log in
    let u : View = view_of c.args.seat.now in
    let v : View = view_of c.running.seat in
    let w : View = view_of c.go_on.new.seat in
    let i = c.running.invariant in
    let e = c.go_on.ensures in
    let start : ℕ = (c.len.result - 1) * 102600 in
    let span = c.numbered-span.result in
    let on : kept.clock ≤ c.min-last.result = c.running-test.true in
    let place : kept.clock - start ≡ kept.clock % ROUND = omega (arith, i.begin, i.last, i.from, on) in
    let began : (part v s.core).clock ≤ c.args.limit = omega (
      arith,
      on,
      i.bound,
      i.stands.clock,
      ap (λ (core : ℕ). (part v core).clock) i.same.core,
    ) in
    let long : length kept.used.items ≡ length (part v kept.core).entries = ap length i.stands.used ∙ count_used (part v kept.core).entries in
    let there = slice_get_within c.args.log.now.used.items (length c.args.log.now.used.items - 1) c.args.way.now.used c.requires.used in
    let unfinished : kept.clock < kept.rounds * ROUND = omega (arith, i.begin, i.last, on, there, ap length i.used, long, i.stands.timely.in_rounds) in
    let waits : IsWait c.go_on.result = elim c.in-Behind.is [
      | inl behind ↦ subst IsWait (sym behind.2) (tt {0})
      | inr over ↦ absurd (let ended = subst (λ (answer : CoreAnswer). CoreGoes o kept.rounds kept.core v answer w) over e.goes in
          omega (arith, ended.0, i.stands.clock, unfinished))
    ] in
    record {
      board = e.board;
      log = e.log;
      stands = e.stands;
      same = same_on o s t u v w i.same e.changes n e.same;
      changes = changes_on o s t u v w i.same e.changes i.changes;
      told = (let made = steps_on o s t u v w i.same e.changes c.go_on.result e.goes (i.told.0, i.told.1) in
          record { count = made.0; steps = made.1; began = began; stops = inr (inr waits) });
      plans = λ plan of plans numbers is follows.
          let is_table : IsTableOf plan kept.core c.args.way.now.table.now = subst (λ (k : ℕ). IsTableOf plan k c.args.way.now.table.now) (sym i.same.core) of in
          let shown = subst (λ (x : ℕ). IsSpan plan kept.core x span.owner span.sharers.now span.end) place (c.numbered-span.ensures.span plan kept.core is_table) in
          plans_on o s t u v w i.same e.changes n (with_plans o plans numbers) (e.plans plan shown plans numbers is) (i.plans plan of plans numbers is follows);
    }
