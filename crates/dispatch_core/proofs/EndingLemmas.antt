-- The end of a step, by the table of its round's plan.
use Rattle.std.proofs.Common.{◌≡◌, ◌-◌, ◌*◌, ◌/◌, ◌%◌, ℕ, Some, length, ap, ◌∙◌, subst, arith}
use Rattle.std.specs.Prelude.{slice_get}
use Rattle.std.proofs.lemmas.Option.{slice_get_within}
use Rattle.tab_core.specs.declared.TheConstants.{ROUND}
use Rattle.table_form.specs.declared.span.Span.{Span}
use Rattle.table_form.specs.Running.Outlines.{OutlineView}
use Rattle.table_form.specs.Tables.Plans.{PlanView}
use Rattle.table_form.specs.Tables.Spans.{IsSpan}
use Rattle.round_words.specs.declared.board.RoundBoard.{RoundBoard}
use Rattle.round_words.specs.declared.view.View.{View}
use Rattle.round_words.specs.SeatViews.{SeatView}
use Rattle.round_words.specs.Shown.{ViewInvariant}
use Rattle.round_words.specs.Views.{part}
use Rattle.dispatch_core.specs.declared.answer.Ended.{Ended}
use Rattle.dispatch_core.specs.declared.log.CoreLog.{CoreLog}
use Rattle.dispatch_core.specs.declared.way.Way.{Way}
use Rattle.dispatch_core.specs.Inside.Ending.{BySpan, ByTable, EndsStep}
use Rattle.dispatch_core.specs.States.{AgreesWithoutPlan, StateView}
use Rattle.dispatch_core.proofs.EntryLemmas.{count_used}

-- the place in its round of a core that has entered it, by how many rounds it has entered
pub clock_in_round : (o : OutlineView) (s : StateView) (v : View) (used rounds : ℕ) → AgreesWithoutPlan o s v → ViewInvariant v
    → slice_get s.used (s.clock / ROUND) ≡ Some used → rounds ≡ length s.used → s.clock - (rounds - 1) * ROUND ≡ s.clock % ROUND
clock_in_round o s v used rounds stands shown entered count =
    let few = slice_get_within s.used (s.clock / ROUND) used entered in
    let long : length s.used ≡ length (part v s.core).entries = ap length stands.used ∙ count_used (part v s.core).entries in
    let ahead = (shown.cores s.core stands.core).timeline.ahead in
    omega (arith, few, long, ahead, stands.clock, count)

-- what is said by each plan that shows a span holds by the plan of a table that has it there
pub ends_by_table : (of : RoundBoard) (way : Way) (span : Span) (old : SeatView) (kept : CoreLog) (answer : Ended) (new : SeatView) (left : CoreLog)
    (place : ℕ) → place ≡ kept.clock % ROUND
    → ((plan : PlanView) → ByTable way kept plan → IsSpan plan kept.core place span.owner span.sharers.now span.end)
    → EndsStep of way (BySpan span kept) old kept answer new left → EndsStep of way (ByTable way kept) old kept answer new left
ends_by_table of way span old kept answer new left place is shows ends =
    let shown : (plan : PlanView) → ByTable way kept plan → BySpan span kept plan = λ plan by.
    subst (λ (x : ℕ). IsSpan plan kept.core x span.owner span.sharers.now span.end) is (shows plan by) in record {
      board = ends.board;
      log = ends.log;
      stands = ends.stands;
      same = ends.same;
      changes = ends.changes;
      told = λ plan by. ends.told plan (shown plan by);
      waits = ends.waits;
      goes = ends.goes;
      plans = λ plan by. ends.plans plan (shown plan by);
    }
