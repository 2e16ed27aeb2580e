-- The lines of the refusals of a host that has no plan.
use Rattle.std.specs.Prelude.{ℕ, List, ◌++◌, codes, decimal, flat_map}
use Rattle.tab_core.specs.declared.over.Over.{Over}

-- because a period is missing for the vCPU of this name
unfoldable pub no_period_line : List ℕ → List ℕ
no_period_line name = codes "refused: no period for " ++ (name ++ codes "\n")

-- the overloaded interval of a core
unfoldable pub over_text : Over → List ℕ
over_text over =
    codes "; core "
    ++ (decimal over.core
    ++ (codes " has " ++ (decimal over.demand
    ++ (codes " in " ++ (decimal over.from ++ (codes ".." ++ decimal over.to))))))

-- the beginning of the refusal's line: the vCPU of this name has no room, and so many of its ticks are left
unfoldable pub no_room_text : List ℕ → ℕ → List ℕ
no_room_text name rest = codes "refused: no room for "
    ++ (name ++ (codes ", " ++ (decimal rest ++ codes " ticks left")))

-- because room is missing for the vCPU of this name, of which so many ticks are left, with an
-- interval for each unused core
abbrev pub no_room_line : List ℕ → ℕ → List Over → List ℕ
no_room_line name rest over = no_room_text name rest ++ (flat_map over_text over ++ codes "\n")
