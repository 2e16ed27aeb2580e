-- The segment that holds a tick, where two neighbours show it.
use Rattle.std.proofs.Common.{ℕ, ◌-◌, ◌<◌, ◌≤◌, List, get_or, arith}
use Rattle.tab_core.specs.declared.TheConstants.{ROUND}
use Rattle.table_form.specs.declared.segment.Segment.{Segment}
use Rattle.table_form.specs.Tables.Rows.{RisesTo}
use Rattle.table_form.proofs.Search.{Parts, ends_rise, some_segment}
use Rattle.stint_text.specs.Inside.Near.{CoversTick}

-- as ends rise, all segments before it end at or before the tick, and all others after it
pub parts_here : (ss : List Segment) (tick i : ℕ) → RisesTo 0 ss ROUND → CoversTick ss i tick → Parts ss tick i
parts_here ss tick i rises here = record {
  at_most = (let lt = here.inside in omega arith);
  passed = λ j d lt.
      let le : (get_or ss j d).end ≤ (get_or ss (i - 1) d).end =
      ends_rise 0 ss ROUND rises j (i - 1) d (omega arith) (omega (arith, here.inside)) in
      let before : (get_or ss (i - 1) d).end ≤ tick = here.begun (i - 1) d (omega arith) in
      omega arith;
  ahead = λ j d low lt.
      let le : (get_or ss i d).end ≤ (get_or ss j d).end = ends_rise 0 ss ROUND rises i j d low lt in
      let after : tick < (get_or ss i d).end = here.ends d in
      omega arith;
}

-- where bisection stops is such a place
pub holds_parted : (ss : List Segment) (tick i : ℕ) → RisesTo 0 ss ROUND → tick < ROUND → Parts ss tick i
    → CoversTick ss i tick
holds_parted ss tick i rises lt parts = record {
  inside = some_segment ss tick i rises lt parts;
  begun = λ j d is. parts.passed j d (omega arith);
  ends = λ d. parts.ahead i d (omega arith) (some_segment ss tick i rises lt parts);
}
