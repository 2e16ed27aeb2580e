-- The counts of the rounds: a core has entered only rounds that have one, and a complete run has one
-- for each round.
use Rattle.std.proofs.Common.{◌≡◌, ℕ, ◌<◌, ◌≤◌, inl, inr, List, Some, length, arith}
use Rattle.std.specs.Prelude.{slice_get}
use Rattle.std.proofs.lemmas.Bool.{cases_lt}
use Rattle.std.proofs.lemmas.Option.{slice_get_within}
use Rattle.tab_core.proofs.Lists.{element_at}
use Rattle.table_form.specs.Running.Courses.{CourseView, IsCourse}
use Rattle.table_form.specs.Running.Invariant.{StateInvariant}
use Rattle.table_form.specs.Running.Complete.{IsComplete}
use Rattle.table_form.specs.Promises.OneTable.{UsesCounts}
use Rattle.table_form.specs.Running.State.{State, CoreState}

-- a core that uses the rounds' counts has entered only rounds that have one
pub entered_counted : (decided : List ℕ) (core : CoreState) → UsesCounts decided core
    → length core.entries ≤ length decided
entered_counted decided core uses = elim (cases_lt (length decided) (length core.entries)) [
  | inl more ↦
      let found = element_at core.entries (length decided) more in
      let lt = slice_get_within decided (length decided) found.0.used (uses.entries (length decided) found.0 found.1) in
      absurd (omega arith)
  | inr le ↦ le
]

-- no round beyond the run's has a count, since the core that won it would have an entry too many
few_counts : (course : CourseView) (rounds : ℕ) (s : State) → StateInvariant course rounds s
    → length s.decided ≤ rounds
few_counts course rounds s kept = elim (cases_lt rounds (length s.decided)) [
  | inl more ↦
      let found = element_at s.decided rounds more in
      let won = (kept.table.one_winner rounds found.0 found.1).won_by in
      let lt = slice_get_within won.core.entries rounds won.entry won.entered in
      let few = (kept.cores _ won.core won.at).entries.few in
      absurd (omega arith)
  | inr le ↦ le
]

-- a complete run has as many counts as rounds, since its first core has entered each
pub complete_counts : (course : CourseView) (rounds : ℕ) (s : State) → IsCourse course
    → StateInvariant course rounds s → IsComplete course rounds s → length s.decided ≡ rounds
complete_counts course rounds s ok kept whole =
    let some = ok.form.outline.some_core in
    let size = kept.size in
    let core = element_at s.cores 0 (omega arith) in
    let clock = whole.clocks 0 core.0 core.1 in
    let reach = (kept.cores 0 core.0 core.1).timeline.reach in
    let counted = entered_counted s.decided core.0 (kept.table.cores 0 core.0 core.1) in
    let few = few_counts course rounds s kept in
    omega arith

-- each round of a complete run has a count
pub each_round : (course : CourseView) (rounds : ℕ) (s : State) → IsCourse course → StateInvariant course rounds s
    → IsComplete course rounds s → (r : ℕ) → r < rounds → (d : ℕ) × (slice_get s.decided r ≡ Some d)
each_round course rounds s ok kept whole r lt =
    let count = complete_counts course rounds s ok kept whole in
    element_at s.decided r (omega arith)
