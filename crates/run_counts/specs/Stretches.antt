-- What is counted of a stretch of ticks: how many wait in a row at its begin, at its end, and at
-- most. Two stretches that follow one another make one, in a few additions.
-- Source: the standard fold for a longest run; this project's own.
use Rattle.std.specs.Prelude.{ℕ, ◌+◌, ◌-◌, ◌≤◌, ◌==◌, List, if◌then◌else◌, max, slice_index_or}
use Rattle.run_counts.specs.declared.stretch.Stretch.{Stretch}

-- no part is longer than the stretch
pub record IsSmall (s : Stretch) : Type 0 where
  pub offered : s.offered ≤ s.ticks
  pub lead : s.lead ≤ s.ticks
  pub tail : s.tail ≤ s.ticks

-- n ticks that all wait
abbrev pub all_wait : ℕ → Stretch
all_wait n = record { ticks = n; offered = 0; lead = n; tail = n; most = n }

-- n ticks that are all offered
abbrev pub all_offered : ℕ → Stretch
all_offered n = record { ticks = n; offered = n; lead = 0; tail = 0; most = 0 }

-- n ticks that neither wait nor are offered
abbrev pub neither : ℕ → Stretch
neither n = record { ticks = n; offered = 0; lead = 0; tail = 0; most = 0 }

-- a stretch of no ticks
abbrev pub no_ticks : Stretch
no_ticks = all_wait 0

-- the stretch of a vCPU, in a list by vCPU number
abbrev pub stretch_at : List Stretch → ℕ → Stretch
stretch_at stretches v = slice_index_or stretches v no_ticks

-- a stretch and then the next
abbrev pub joined : Stretch → Stretch → Stretch
joined a b = record {
  ticks = a.ticks + b.ticks;
  offered = a.offered + b.offered;
  lead = if a.lead == a.ticks then a.ticks + b.lead else a.lead;
  tail = if b.tail == b.ticks then a.tail + b.ticks else b.tail;
  most = max (max a.most b.most) (a.tail + b.lead);
}

-- the stretch up to `end`, where the ticks up to `place` wait and those from there on are offered
abbrev pub offered_to : Stretch → ℕ → ℕ → Stretch
offered_to s place end = joined (joined s (all_wait (place - s.ticks))) (all_offered (end - place))
