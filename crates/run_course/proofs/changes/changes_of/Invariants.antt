use Rattle.std.proofs.Common.{◌≡◌, ◌++◌, length}
use Rattle.std.specs.Prelude.{drop}
use Rattle.run_course.specs.Changes.{changes_of}
use Rattle.run_course.proofs.changes.changes_of.Given as goal

-- those so far, and those among the events that are left
abbrev pub invariant-loop-k : goal.invariant-loop-k
invariant-loop-k l = changes_of l.events l.outcomes
    ≡ l.changes.items ++ changes_of (drop l.k l.events) (drop (length l.changes.items) l.outcomes)
