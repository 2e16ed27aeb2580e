-- What flows and what is still needed are all demands together.
use Rattle.std.proofs.Common.{◌≡◌, ℕ, ◌+◌, List, sym, ◌∙◌, arith}
use Rattle.std.proofs.Math.Nat.{mul_comm}
use Rattle.tab_core.specs.Sums.{total}
use Rattle.flow_net.specs.Load.{Load, IsLoad, jobs, round_demand, given}
use Rattle.flow_net.specs.Flows.{IsNet, all_lacks, lack_of, flow_of, flow_sum}
use Rattle.tab_core.proofs.Totals.{total-ext, total-add, total-const}
use Rattle.flow_net.proofs.Beyond.{given_used}

-- what flows and what is still needed are the demands together
pub flow_and_lacks : (l : Load) → IsLoad l → (rows lacks : List (List ℕ)) (room : List ℕ) (hole : ℕ)
    → IsNet l rows lacks room hole
    → all_lacks l lacks + flow_sum l rows ≡ total (round_demand l) l.width
flow_and_lacks l ok rows lacks room hole net =
    let f = flow_of rows in
    let parts = total-add (λ v. total (lack_of lacks v) (jobs l v)) (λ v. total (given l f v) (jobs l v))
    l.width in
    let each : total (λ v. total (lack_of lacks v) (jobs l v) + total (given l f v) (jobs l v)) l.width
    ≡ total (round_demand l) l.width
    = total-ext _ (round_demand l) l.width (λ v h. sym (total-add (lack_of lacks v) (given l f v) (jobs l v))
    ∙ total-ext _ (λ k. l.cost v) (jobs l v) (λ k lt. net.flow.due v k h lt)
    ∙ total-const (l.cost v) (jobs l v) ∙ mul_comm (jobs l v) (l.cost v)) in
    omega (arith, parts, each, given_used l ok f)
