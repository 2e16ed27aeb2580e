-- A search begins.
use Rattle.std.proofs.Common.{◌≡◌, ℕ, ◌<◌, false, cond, ap, refl, sym, ◌∙◌, arith}
use Rattle.std.proofs.lemmas.Bool.{false≢true}
use Rattle.flow_net.specs.Load.{Load}
use Rattle.flow_net.specs.Counts.{is_due}
use Rattle.flow_net.specs.Inside.Reach.{Reached, IsSearch, CanReach, IsJobwise}
use Rattle.tab_core.proofs.Totals.{total-none}

-- a search that has reached nothing
pub search_begins : (l : Load) (f : ℕ → ℕ → ℕ) (rv rk : ℕ) (q : Reached) → q.tail ≡ 0 → ((i : ℕ)
    → q.near i ≡ false)
    → ((v i : ℕ) → q.scan v i ≡ 0) → IsSearch l f rv rk q
search_begins l f rv rk q empty far none = record {
  interval = λ x h. absurd (omega (arith, h, empty));
  vcpu = λ x h. absurd (omega (arith, h, empty));
  marked = λ x h. absurd (omega (arith, h, empty));
  queued = λ i h n. absurd (false≢true (sym (far i) ∙ n));
  back_le = λ x h. absurd (omega (arith, h, empty));
  short = λ x h. absurd (omega (arith, h, empty));
  from_job = λ x h b. absurd (omega (arith, h, empty));
  from_some = λ x h b. absurd (omega (arith, h, empty));
  root_vcpu = λ x h b. absurd (omega (arith, h, empty));
  root_job = λ x h b. absurd (omega (arith, h, empty));
  one_back = λ x y h h' e e'. absurd (omega (arith, h, empty));
  read = λ x h. absurd (omega (arith, h, empty));
  forth = λ v i a b n e. absurd (omega (arith, n, none v i));
  once = λ v i a b. omega (arith, none v i);
  size = total-none (λ i. cond (q.near i) 1 0) l.count (λ i h. ap (λ b. cond b 1 0) (far i)) ∙ sym empty;
}

-- no edge is read, so none of a job alone
pub jobwise_begins : (l : Load) (q : Reached) → ((v i : ℕ) → q.scan v i ≡ 0) → IsJobwise l q
jobwise_begins l q none v i j a b c e = none v i ∙ sym (none v j)

-- the job that still needs ticks may be read first
pub can_begin : (l : Load) (f : ℕ → ℕ → ℕ) (u k : ℕ) (q : Reached) → q.tail ≡ 0 → u < l.width
    → is_due l u ≡ 1 → CanReach l f u k q u k 0
can_begin l f u k q empty h due = record {
  vcpu = h;
  due = due;
  back_le = omega arith;
  from_job = λ b. absurd (omega (arith, b));
  from_some = λ b. absurd (omega (arith, b));
  root_vcpu = λ e. refl;
  root_job = λ e. refl;
  same = λ x a e e'. absurd (omega (arith, a, empty));
}
