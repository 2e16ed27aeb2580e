use Rattle.std.proofs.Common.{◌≡◌, ◌*◌, length, replicate, rules}
use Rattle.table_check.specs.declared.counters.TheConstants.{MAX_PERIODS}
use Rattle.table_check.specs.declared.marks.TheConstants.{WORDS}
use Rattle.table_check.proofs.SeenRows.{none_seen}
use Rattle.table_check.proofs.row_checks.RowChecks.of.Goals as goal

pub returns : goal.returns
returns c =
    let tasks = c.args.tasks.now in
    let marks : c.in_ok-vec.field-0.items ≡ replicate (length tasks * WORDS) 0 = search rules in
    let counters : c.in_ok-vec-2.field-0.items ≡ replicate (length tasks * MAX_PERIODS) 0 = search rules in
    rw (marks, counters) (none_seen tasks (length tasks * WORDS) (length tasks * MAX_PERIODS))
