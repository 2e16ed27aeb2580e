-- `selftest`, which reads nothing: a whole run of 8 cores with 64 vCPUs that the seed makes, for 4 rounds
-- without an event.
use Rattle.std.specs.Prelude.{ℕ, List, [], ◌++◌, codes, decimal}
use Rattle.tab_core.specs.declared.host.Host.{Host}
use Rattle.tab_words.specs.declared.command.RunMode.TheVariants.{Report}
use Rattle.host_gen.specs.Generated.{IsGenerated}
use Rattle.round_words.specs.declared.view.View.{View}
use Rattle.tableau_sim.specs.Outcomes.{CallOutcome}
use Rattle.tableau_sim.specs.Outcomes.CallOutcome.{Writes}
use Rattle.tableau_sim.specs.Run.{Runs}

-- the first line: the seed
unfoldable pub selftest_line : ℕ → List ℕ
selftest_line seed = codes "selftest " ++ (decimal seed ++ codes "\n")

-- what `selftest` makes of a seed, for a run of this view: its line, and what `run` writes of the seed's host without
-- an event, where there are no sections either
pub data Selftests (seed : ℕ) (view : View) : CallOutcome → Type 0 where
  Tested : (host : Host) (text : List ℕ) → IsGenerated seed 8 64 host
      → Runs 4 Report view host [] [] (Writes text) → Selftests seed view (Writes (selftest_line seed ++ text))
