-- At how many ticks a vCPU ran, by the stints.
use Rattle.std.specs.Prelude.{ℕ, ◌-◌, min, max, List, if◌then◌else◌}
use Rattle.std.specs.List.{sum_by}
use Rattle.tab_core.specs.declared.stint.Stint.{Stint}
use Rattle.table_form.specs.Running.State.{CoreState}
use Rattle.table_form.specs.Tables.Serves.{is_cell_of}

-- at how many of the ticks from one up to another the stint ran the vCPU
abbrev pub ran_ticks_in : ℕ → ℕ → ℕ → Stint → ℕ
ran_ticks_in v from end st = if is_cell_of v st.ran then min st.end end - max st.from from else 0

-- at how many of the ticks from one up to another the stints ran the vCPU
unfoldable pub run_by : ℕ → ℕ → ℕ → List Stint → ℕ
run_by v from end stints = sum_by (ran_ticks_in v from end) stints

-- at how many of the ticks from one up to another the stints of cores ran the vCPU
unfoldable pub run_on : ℕ → ℕ → ℕ → List CoreState → ℕ
run_on v from end cores = sum_by (λ (core : CoreState). run_by v from end core.stints) cores
