use Rattle.std.proofs.Common.{ℕ, length}
use Rattle.plan_text.specs.FirstBad.{IsFirstBadFor}
use Rattle.plan_text.specs.OldText.{AreOldRows}
use Rattle.plan_text.proofs.read_old.skip_rows.Given as goal

abbrev pub invariant-loop : goal.invariant-loop
invariant-loop l = record {
  text : AreOldRows l.left.lines → AreOldRows l.fn.left.lines;
  behind : (bad : ℕ) → IsFirstBadFor AreOldRows l.left.number l.left.lines bad
      → IsFirstBadFor AreOldRows l.fn.left.number l.fn.left.lines bad;
}

abbrev pub decreases-loop : goal.decreases-loop
decreases-loop l = length l.left.lines
