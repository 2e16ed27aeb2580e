-- What a vCPU's jobs still need, as far as the intervals were gone through.
use Rattle.std.specs.Prelude.{◌≡◌, ℕ, ◌+◌, ◌*◌, ◌<◌, ◌≤◌, ◌==◌, cond, List, length, slice_index}
use Rattle.tab_core.specs.Sums.{total}
use Rattle.flow_net.specs.Load.{Load, job}

-- what a job is given in the first intervals
abbrev pub given_before : Load → (ℕ → ℕ → ℕ) → ℕ → ℕ → ℕ → ℕ
given_before l f v k i = total (λ j. cond (job l v j == k) (f v j) 0) i

-- before interval `i`: the jobs that have ended have what they still need listed, the next one ends
-- at a tick and still needs `left`, and those after it have nothing
pub record AreLacksTo (l : Load) (f : ℕ → ℕ → ℕ) (v : ℕ) (lacks : List ℕ) (end left i : ℕ) : Type 0 where
  pub end_is : end ≡ (length lacks + 1) * l.period v
  pub from : length lacks * l.period v ≤ l.mark i
  pub until : l.mark i < end
  pub here : left + given_before l f v (length lacks) i ≡ l.cost v
  pub done : (k : ℕ) → k < length lacks → slice_index lacks k + given_before l f v k i ≡ l.cost v
  pub later : (k : ℕ) → length lacks < k → given_before l f v k i ≡ 0
