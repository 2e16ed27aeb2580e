use Rattle.std.proofs.Common.{◌≡◌, ℕ, ◌-◌, ◌++◌, length}
use Rattle.plan_text.specs.FirstBad.{IsFirstBadFor}
use Rattle.plan_text.specs.Meaning.{AreFineRows, segment_words}
use Rattle.plan_text.specs.PlanLines.{core_lines}
use Rattle.plan_text.specs.Inside.Reading.{AreFromCore}
use Rattle.plan_text.proofs.read_cores.read_cores.Given as goal

abbrev pub invariant-loop-core : goal.invariant-loop-core
invariant-loop-core l = record {
  many : length l.rows.items ≡ l.core;
  lines : l.fn.left.lines ≡ core_lines (segment_words l.names) 0 l.rows.items ++ l.left.lines;
  fine : AreFineRows l.tasks l.rows.items;
  behind : (bad : ℕ) → IsFirstBadFor (AreFromCore l.names l.tasks l.core (l.cores - l.core)) l.left.number
      l.left.lines bad
      → IsFirstBadFor (AreFromCore l.names l.tasks 0 l.cores) l.fn.left.number l.fn.left.lines bad;
}
