-- Beyond the cores' room there is no allotment.
use Rattle.std.proofs.Common.{◌≡◌, ℕ, ◌+◌, ◌*◌, ◌<◌, ◌≤◌, ap, sym, ◌∙◌, arith, zero-add}
use Rattle.std.proofs.Math.Nat.{mul_comm}
use Rattle.tab_core.specs.Sums.{total}
use Rattle.flow_net.specs.Load.{Load, IsLoad, span, jobs, round_demand, given, used}
use Rattle.tab_core.proofs.Totals.{total-ext, total-le, total-swap, total-const, total-scale}
use Rattle.flow_net.proofs.Spans.{by_jobs, spans_sum}

-- the intervals fill the round
pub all_spans : (l : Load) → IsLoad l → total (span l) l.count ≡ l.round
all_spans l ok =
    let sum = spans_sum l ok 0 l.count (omega arith) in
    let last' : l.mark (0 + l.count) ≡ l.round = ap l.mark (zero-add l.count) ∙ ok.last in
    let same : total (λ j. span l (0 + j)) l.count ≡ total (span l) l.count
    = total-ext (λ j. span l (0 + j)) (span l) l.count (λ j h. ap (span l) (zero-add j)) in
    omega (arith, sum, last', same, ok.first)

-- all that is given is all that is used
pub given_used : (l : Load) → IsLoad l → (f : ℕ → ℕ → ℕ)
    → total (λ v. total (given l f v) (jobs l v)) l.width ≡ total (used l f) l.count
given_used l ok f =
    total-ext _ (λ v. total (f v) l.count) l.width (λ v h. by_jobs l ok v h (f v))
    ∙ total-swap f l.count l.width

-- what all jobs get is used in the intervals, which offer no more than the cores have
pub no_allotment_beyond : (l : Load) → IsLoad l → (f : ℕ → ℕ → ℕ)
    → ((v k : ℕ) → v < l.width → k < jobs l v → given l f v k ≡ l.cost v)
    → ((i : ℕ) → i < l.count → used l f i ≤ l.cores * span l i)
    → total (round_demand l) l.width ≤ l.cores * l.round
no_allotment_beyond l ok f serves fits =
    let due : total (round_demand l) l.width ≡ total (λ v. total (given l f v) (jobs l v)) l.width
    = total-ext (round_demand l) _ l.width (λ v h. mul_comm (l.cost v) (jobs l v)
    ∙ sym (total-const (l.cost v) (jobs l v))
    ∙ sym (total-ext (given l f v) (λ k. l.cost v) (jobs l v) (λ k lt. serves v k h lt))) in
    let most = total-le (used l f) (λ i. l.cores * span l i) l.count fits in
    let room = total-scale l.cores (span l) l.count ∙ ap (λ n. l.cores * n) (all_spans l ok) in
    omega (arith, due, given_used l ok f, most, room)
