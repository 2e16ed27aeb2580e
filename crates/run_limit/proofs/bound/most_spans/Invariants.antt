use Rattle.std.proofs.Common.{ℕ, ◌<◌}
use Rattle.std.specs.Prelude.{slice_index}
use Rattle.run_limit.proofs.LargestLemmas.{IsLargestOf}
use Rattle.run_limit.proofs.bound.most_spans.Given as goal

-- the largest numbers in the plans so far
abbrev pub invariant-loop-number : goal.invariant-loop-number
invariant-loop-number l = (c : ℕ) → c < l.course.cores → IsLargestOf l.course c l.number (slice_index l.most c)
