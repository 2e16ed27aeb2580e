-- The advice on a vCPU whose latency no period meets.
use Rattle.std.specs.Prelude.{ℕ, List, ◌++◌, codes, decimal, Option}
use Rattle.tab_core.specs.declared.reservation.Reservation.{Reservation}
use Rattle.advice.specs.KeyLines.{line_part}

-- the advice on a vCPU without a period: its line, what it asks, the least latency in nanoseconds for its share,
-- and the least share in parts per million for its latency
abbrev pub period_text : Option (ℕ × List ℕ) → List ℕ → Reservation → ℕ → ℕ → List ℕ
period_text line name reservation latency share = codes "tableau: host"
    ++ (line_part line ++ (codes ": " ++ (name ++ (codes " asks share_ppm " ++ (decimal reservation.share_ppm
    ++ (codes " within latency_ns " ++ (decimal reservation.latency_ns
    ++ (codes ";\ntableau: the least latency for that share is " ++ (decimal latency
    ++ (codes ", the least share for that latency " ++ (decimal share ++ codes "\n")))))))))))
