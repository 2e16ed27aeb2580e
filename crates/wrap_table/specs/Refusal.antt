-- The line of the refusal of a host whose demands are beyond its cores.
use Rattle.std.specs.Prelude.{ℕ, List, ◌++◌, codes, decimal}

-- the vCPUs are due so many ticks of a round together, and all cores have so many, which are fewer
unfoldable pub no_fit_line : ℕ → ℕ → List ℕ
no_fit_line demand room = codes "refused: demand "
    ++ (decimal demand ++ (codes " exceeds room " ++ (decimal room ++ codes "\n")))
