-- What the code keeps of each core, and the state that it stands for.
use Rattle.std.specs.Prelude.{◌≡◌, ℕ, ◌+◌, ◌^◌, ◌<◌, ◌≤◌, min, List, Option, Some, None, map, length, slice_get, slice_set, vec_capacity}
use Rattle.table_form.specs.Running.Choice.{last_shared}
use Rattle.table_form.specs.Running.Courses.{CourseView}
use Rattle.table_form.specs.Running.State.{CoreState, opening_core}
use Rattle.step_machine.specs.declared.core_log.CoreLog.{CoreLog}

abbrev pub core_of_log : CoreLog → CoreState
core_of_log log = record {
  clock = log.clock;
  seen = log.seen;
  entries = log.entries.items;
  stints = log.stints.items;
}

abbrev pub cores_of_logs : List CoreLog → List CoreState
cores_of_logs logs = map core_of_log logs

-- there is room for so many stints more, and for as many entries or one for each round; with so many
-- more, the entries and stints are fewer than 2^32
pub record LogHasRoom (rounds n : ℕ) (log : CoreLog) : Type 0 where
  pub entries : min (length log.entries.items + n) rounds ≤ vec_capacity log.entries
  pub stints : length log.stints.items + n ≤ vec_capacity log.stints
  pub few : length log.entries.items + length log.stints.items + n < 2 ^ 32

abbrev pub LogsHaveRoom : ℕ → ℕ → List CoreLog → Type 0
LogsHaveRoom rounds n logs = (k : ℕ) (log : CoreLog) → slice_get logs k ≡ Some log → LogHasRoom rounds n log

-- each log has fewer than 2^32 entries and stints
abbrev pub AreFew : List CoreLog → Type 0
AreFew logs = (k : ℕ) (log : CoreLog) → slice_get logs k ≡ Some log
    → length log.entries.items + length log.stints.items < 2 ^ 32

-- each log knows its core's last shared pick
abbrev pub KnowLast : CourseView → List CoreLog → Type 0
KnowLast course logs = (k : ℕ) (log : CoreLog) → slice_get logs k ≡ Some log
    → log.last ≡ last_shared course k log.stints.items

-- the log of core c stands for another state of that core, and has room for at most one less
pub record ChangesLog (old new : List CoreLog) (c : ℕ) (before : CoreLog) (changed : CoreState)
    (last : Option ℕ) : Type 0 where
  pub log : CoreLog
  pub becomes : new ≡ slice_set old c log
  pub core : core_of_log log ≡ changed
  pub last_is : log.last ≡ last
  pub room : (rounds n : ℕ) → LogHasRoom rounds (n + 1) before → LogHasRoom rounds n log

-- nothing has happened, and there is room for so many steps
pub record IsNew (rounds turns : ℕ) (log : CoreLog) : Type 0 where
  pub core : core_of_log log ≡ opening_core
  pub last : log.last ≡ None
  pub room : LogHasRoom rounds turns log

pub record AreLogsNew (count rounds turns : ℕ) (logs : List CoreLog) : Type 0 where
  pub count_is : length logs ≡ count
  pub new : (k : ℕ) (log : CoreLog) → slice_get logs k ≡ Some log → IsNew rounds turns log

-- of the first n logs none has a lower clock than the best, and none before it as low a one
pub record IsLowestOf (logs : List CoreLog) (n best : ℕ) : Type 0 where
  pub least : (k : ℕ) (x y : CoreLog) → k < n → slice_get logs k ≡ Some x
      → slice_get logs best ≡ Some y → y.clock ≤ x.clock
  pub first : (k : ℕ) (x y : CoreLog) → k < best → slice_get logs k ≡ Some x
      → slice_get logs best ≡ Some y → y.clock < x.clock
