-- What a core has to do next.
-- Source: the rules of this project.
use Rattle.std.specs.Prelude.{ℕ, ◌*◌, ◌/◌, ◌==◌, Bool, Option, Some, None, if◌then◌else◌}
use Rattle.std.specs.List.{list_any}
use Rattle.tab_core.specs.declared.TheConstants.{ROUND}
use Rattle.tab_core.specs.declared.entry.Entry.{Entry}
use Rattle.table_form.specs.Running.State.{CoreState}

-- see the posted count, enter its clock's round, run a stint, or nothing more
pub data CorePhase : Type 0 where
  to_see : CorePhase
  to_decide : CorePhase
  to_run : CorePhase
  at_end : CorePhase

-- the round of the core's clock
abbrev pub round_of : CoreState → ℕ
round_of core = core.clock / ROUND

-- the core has entered its clock's round
abbrev pub has_entered : CoreState → Bool
has_entered core = list_any (λ (e : Entry). e.round == core.clock / ROUND) core.entries

-- the phase of a core that has seen, by whether it has entered its clock's round
abbrev pub phase_once_seen : Bool → CorePhase
phase_once_seen entered = if entered then to_run else to_decide

-- the phase of a core that isn't at the end, by what it has seen and whether it has entered its
-- clock's round
abbrev pub phase_unfinished : Option ℕ → Bool → CorePhase
phase_unfinished None entered = to_see
phase_unfinished (Some n) entered = phase_once_seen entered

-- a core has finished where its clock is at the run's end; before each stint it must see, and in
-- each round enter it first
abbrev pub phase_of : ℕ → CoreState → CorePhase
phase_of rounds core = if core.clock == rounds * ROUND then at_end
    else phase_unfinished core.seen (has_entered core)
