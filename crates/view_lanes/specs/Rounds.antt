-- The rounds of a run that are shown, and the counts of events that their plans include: the glossary's used counts,
-- one for all cores in a round.
use Rattle.std.specs.Prelude.{◌≡◌, ℕ, ◌+◌, ◌-◌, ◌/◌, ◌==◌, ◌<◌, List, [], ◌∷◌, if◌then◌else◌, slice_index_or, Option, Some, None}
use Rattle.tab_core.specs.declared.TheConstants.{ROUND}
use Rattle.view_doc.specs.declared.view.Stretch.{Stretch}
use Rattle.view_lanes.specs.declared.frame.Frame.{Frame}

-- the number of the first round that is shown
abbrev pub first_round : Frame → ℕ
first_round f = f.from / ROUND

-- how many rounds are shown, also in part
abbrev pub rounds_shown : Frame → ℕ
rounds_shown f = (f.to - 1) / ROUND + 1 - f.from / ROUND

-- how many events the plan of a round includes: so many as the first stint says that begins in it
abbrev pub used_count_in : List Stretch → ℕ → Option ℕ
used_count_in [] r = None
used_count_in (s ∷ ss) r = if s.from / ROUND == r then Some s.used else used_count_in ss r

-- the counts of 24 rounds from one on
abbrev pub AreUsed : List Stretch → ℕ → List (Option ℕ) → Type 0
AreUsed stretches first counts = (k : ℕ) → k < 24 → slice_index_or counts k None ≡ used_count_in stretches (first + k)
