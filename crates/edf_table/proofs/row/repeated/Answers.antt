use Rattle.std.proofs.Common.{◌≡◌, ◌+◌, ◌*◌, ◌/◌, ◌≤◌, ◌++◌, List, length, map, ap, subst, sym, ◌∙◌, arith}
use Rattle.std.proofs.Math.Nat.{mul-le-mul_left, mul_comm}
use Rattle.tab_core.specs.declared.TheConstants.{ROUND}
use Rattle.table_form.specs.declared.segment.Segment.{Segment}
use Rattle.table_form.specs.Tables.Rows.{RisesTo, cells_from}
use Rattle.table_form.specs.Tables.Segments.{AreMaximal, segment_view}
use Rattle.table_form.proofs.RowLemmas.{cells-nil, length-cells_from}
use Rattle.table_form.proofs.SegmentLemmas.{segments_rise}
use Rattle.edf_table.specs.Inside.Repetition.{so_often}
use Rattle.edf_table.proofs.RepetitionLemmas.{segments_few, so_often-suc, so_often-zero}
use Rattle.edf_table.proofs.row.repeated.Goals as goal

pub returns-then-ticks-eq-ROUND : goal.returns-then-ticks-eq-ROUND
returns-then-ticks-eq-ROUND c =
    let cells = cells_from 0 c.args.segments.items in
    let one : ROUND / c.args.ticks ≡ 0 + 1 = ap (λ n. ROUND / n) c.if-ticks-eq-ROUND.true in
    c.of_maximal.ensures ∙ ap (λ ys. ys ++ cells) (sym (so_often-zero cells))
    ∙ sym (so_often-suc 0 cells) ∙ ap (λ n. so_often n cells) (sym one)

pub overflow_mul-len : goal.overflow_mul-len
overflow_mul-len c =
    let ss = c.args.segments.items in
    let times = ROUND / c.args.ticks in
    let few = segments_few 0 ss c.args.ticks (segments_rise 0 ss c.args.ticks c.requires.maximal) in
    let size : c.len.result ≡ length ss = omega (arith, c.len.ensures, c.args.segments.ok.0) in
    let more = mul-le-mul_left {m = c.len.result} {n = c.args.ticks} times (omega (arith, few, size)) in
    let whole = mul_comm c.args.ticks times ∙ c.requires.whole in
    omega (arith, more, whole)

pub overflow_mul-time : goal.overflow_mul-time
overflow_mul-time c =
    let more = mul-le-mul_left {m = c.loop-time.time} {n = ROUND / c.args.ticks} c.args.ticks
    (omega (arith, c.loop-time-test.true)) in
    omega (arith, more, c.requires.whole)

pub loop-time-init : goal.loop-time-init
loop-time-init c = record {
  maximal = rw c.in_ok-row.ensures.items (omega arith);
  cells = ap (cells_from 0) c.in_ok-row.ensures.items ∙ cells-nil 0
      ∙ sym (so_often-zero (cells_from 0 c.args.segments.items));
}

pub push_all-requires-clause-rises : goal.push_all-requires-clause-rises
push_all-requires-clause-rises c =
    let ss = c.args.segments.items in
    let rises = segments_rise 0 ss c.args.ticks c.requires.maximal in
    let size : c.args.ticks ≡ length (cells_from 0 ss) =
    omega (arith, length-cells_from 0 ss c.args.ticks rises) in
    subst (λ (ts : List Segment). RisesTo 0 ts (length (cells_from 0 ts))) (sym c.deref.ensures.value)
    (subst (RisesTo 0 ss) size rises)

pub push_all-requires-clause-before : goal.push_all-requires-clause-before
push_all-requires-clause-before c = c.loop-time.invariant.maximal

pub push_all-requires-clause-room : goal.push_all-requires-clause-room
push_all-requires-clause-room c =
    let ss = c.args.segments.items in
    let n = c.loop-time.time in
    let rises = segments_rise 0 ss c.args.ticks c.requires.maximal in
    let size = length-cells_from 0 ss c.args.ticks rises in
    let more = mul-le-mul_left {m = n + 1} {n = ROUND / c.args.ticks} c.args.ticks
    (omega (arith, c.loop-time-test.true)) in
    let next : (n + 1) * c.args.ticks ≡ n * c.args.ticks + c.args.ticks = omega arith in
    subst (λ (ts : List Segment). n * c.args.ticks + length (cells_from 0 ts) ≤ ROUND)
    (sym c.deref.ensures.value) (omega (arith, size, more, next, c.requires.whole))

pub loop-time-preserved : goal.loop-time-preserved
loop-time-preserved c =
    let ss = c.args.segments.items in
    let n = c.loop-time.time in
    let new = c.push_all.new.row.items in
    let cells = cells_from 0 ss in
    let size = length-cells_from 0 ss c.args.ticks (segments_rise 0 ss c.args.ticks c.requires.maximal) in
    let end : n * c.args.ticks + length cells ≡ (n + 1) * c.args.ticks = omega (arith, size) in
    record {
      maximal = subst (AreMaximal 0 (map segment_view new)) end
          (subst (λ (ts : List Segment). AreMaximal 0 (map segment_view new)
          (n * c.args.ticks + length (cells_from 0 ts))) c.deref.ensures.value c.in_ok-push_all.ensures.maximal);
      cells = c.in_ok-push_all.ensures.cells
          ∙ ap (λ (ts : List Segment). cells_from 0 c.loop-time.row.items ++ cells_from 0 ts) c.deref.ensures.value
          ∙ ap (λ ys. ys ++ cells) c.loop-time.invariant.cells ∙ sym (so_often-suc n cells);
    }

pub of_maximal-requires-2 : goal.of_maximal-requires-2
of_maximal-requires-2 c =
    let all : c.loop-time.time ≡ ROUND / c.args.ticks =
    omega (arith, c.loop-time-test.false, c.loop-time.auto.time-end) in
    subst (AreMaximal 0 (map segment_view c.loop-time.row.items))
    (ap (λ k. k * c.args.ticks) all ∙ c.requires.whole) c.loop-time.invariant.maximal

pub returns : goal.returns
returns c =
    let all : c.loop-time.time ≡ ROUND / c.args.ticks =
    omega (arith, c.loop-time-test.false, c.loop-time.auto.time-end) in
    c.of_maximal-2.ensures ∙ c.loop-time.invariant.cells
    ∙ ap (λ n. so_often n (cells_from 0 c.args.segments.items)) all
