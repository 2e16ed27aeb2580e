-- Which lines may follow which: the grammar of a plan text, of the text of a replay, of a trace with or
-- without its report, and of a plan and a run that a line `%%` parts.
use Rattle.std.specs.Prelude.{◌≡◌, ℕ, ◌+◌, ◌-◌, ◌==◌, ◌&&◌, Bool, true, false, nat_lt, nat_le, if◌then◌else◌, List, [], ◌∷◌, ◌++◌, length, replicate, slice_index, slice_set, Option, Some, None}
use Rattle.std.specs.List.{list_any}
use Rattle.std.specs.Str.{bytes_eq}
use Rattle.tab_core.specs.declared.TheConstants.{MAX_CORES, MAX_VCPUS, ROUND}
use Rattle.view_doc.specs.Lines.{in_slot, in_unused, Told, head, task, core, segment, end, cut, entry, stint, posted, report, item, done}
use Rattle.view_doc.specs.declared.place.Place.{Place}
use Rattle.view_doc.specs.declared.place.Place.TheVariants.{Start, Tasks, Row, Planned, Running, Reporting, Closed}

-- what the lines so far leave to those after them: the place in the text, the names of the vCPUs in the
-- order in which they came first, and for each core where its last stint ended
pub record Front : Type 0 where
  pub place : Place
  pub names : List (List ℕ)
  pub ends : List ℕ

-- nothing was said yet
abbrev pub start : Front
start = record { place = Start; names = []; ends = replicate MAX_CORES 0 }

-- ---- places

-- where the test holds, the text goes on at this place
abbrev pub goes_on : Bool → Place → Option Place
goes_on test place = if test then Some place else None

-- the place after what is said at a place, if it may be said there: a plan has a head, so many vCPUs
-- whose homes are below its count of cores, and for each core by number segments whose ends rise to the
-- round's; a run has entries and stints; a report is last
abbrev pub place_after_line : Place → Told → Option Place
place_after_line Start (head cores vcpus) = Some (Tasks cores vcpus)
place_after_line Start (entry c round count) = Some Running
place_after_line Start (stint c from to used seen holder) = goes_on (nat_lt from to) Running
place_after_line Start (posted count) = Some Closed
place_after_line (Tasks cores left) (task name period cost home) =
    goes_on (nat_lt 0 left && nat_lt home cores) (Tasks cores (left - 1))
place_after_line (Tasks cores left) (core c) = goes_on ((left == 0) && (c == 0)) (Row cores 0 0)
place_after_line (Row cores c from) (segment to holder) =
    goes_on (nat_lt from to && nat_le to ROUND) (Row cores c to)
place_after_line (Row cores c from) (core next) =
    goes_on ((from == ROUND) && ((next == c + 1) && nat_lt next cores)) (Row cores next 0)
place_after_line (Row cores c from) end = goes_on ((from == ROUND) && (c + 1 == cores)) Planned
place_after_line Planned cut = Some Running
place_after_line Running (entry c round count) = Some Running
place_after_line Running (stint c from to used seen holder) = goes_on (nat_lt from to) Running
place_after_line Running (posted count) = Some Closed
place_after_line Running (report words) = Some Reporting
place_after_line Reporting (item words) = Some Reporting
place_after_line Reporting done = Some Closed
place_after_line _ _ = None

-- a text may end here
abbrev pub may_end : Place → Bool
may_end Planned = true
may_end Running = true
may_end Closed = true
may_end _ = false

-- ---- names

-- a vCPU of this name was named before
abbrev pub is_known : List (List ℕ) → List ℕ → Bool
is_known names name = list_any (λ known. bytes_eq known name) names

-- the names with this one, where there is room for it
abbrev pub with_name : List (List ℕ) → List ℕ → Option (List (List ℕ))
with_name names name =
    if is_known names name then Some names
    else if nat_lt (length names) MAX_VCPUS then Some (names ++ name ∷ []) else None

-- the names after what is said: a vCPU's line names a new one, a segment's owner is known, and a stint
-- may name a new one
abbrev pub names_behind : List (List ℕ) → Told → Option (List (List ℕ))
names_behind names (task name period cost home) =
    if is_known names name then None else with_name names name
names_behind names (segment to (in_slot name)) = if is_known names name then Some names else None
names_behind names (stint c from to used seen (in_slot name)) = with_name names name
names_behind names (stint c from to used seen (in_unused name)) = with_name names name
names_behind names _ = Some names

-- ---- ends

-- where stints end: one begins where that core's last ended, or later
abbrev pub ends_behind : List ℕ → Told → Option (List ℕ)
ends_behind ends (stint c from to used seen holder) =
    if nat_le (slice_index ends c) from then Some (slice_set ends c to) else None
ends_behind ends _ = Some ends

-- ---- texts

-- all three, where each is some
abbrev pub front_of : Option Place → Option (List (List ℕ)) → Option (List ℕ) → Option Front
front_of (Some place) (Some names) (Some ends) =
    Some (record { place = place; names = names; ends = ends })
front_of _ _ _ = None

-- what is left to the lines after this one, if it may be here
abbrev pub front_behind : Front → Told → Option Front
front_behind front told =
    front_of (place_after_line front.place told) (names_behind front.names told) (ends_behind front.ends told)

-- each of the lines may be where it is, and the last leaves this
abbrev pub IsLed : Front → List Told → Front → Type 0
IsLed front [] last = front ≡ last
IsLed front (told ∷ tolds) last = (next : Front) × (front_behind front told ≡ Some next) × IsLed next tolds last
