use Rattle.std.proofs.Common.{◌≡◌, ℕ, ◌<◌, length, get_or}
use Rattle.std.specs.List.{All}
use Rattle.cd_split.specs.Inside.Order.{IsCoreLoad}
use Rattle.cd_split.specs.declared.order.CoreLoad.{CoreLoad}
use Rattle.cd_split.proofs.order.order_of.Given as goal

-- the ranks of the cores so far, by number
abbrev pub invariant-loop-number : goal.invariant-loop-number
invariant-loop-number l = record {
  as_many : length l.order.items ≡ l.number;
  ranks : All (IsCoreLoad l.cores) l.order.items;
  numbers : (k : ℕ) (d : CoreLoad) → k < l.number → (get_or l.order.items k d).core ≡ k;
}
