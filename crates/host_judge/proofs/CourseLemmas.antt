-- Times in a state, where the state stays the same.
use Rattle.std.proofs.Common.{arith, ◌≡◌, ℕ, zero, suc, ◌+◌, ◌-◌, ◌<◌, ◌≤◌, Bool, true, false, if◌then◌else◌, Option, add-zero, add-suc, ap, refl, sym, ◌∙◌}
use Rattle.tab_core.specs.Sums.{total}
use Rattle.host_trace.specs.declared.mark.State.{State}
use Rattle.host_trace.specs.declared.mark.State.TheVariants.{Run, Wait, Block}
use Rattle.host_judge.specs.Courses.{IsSteady, StateCourse, is_in, time_before}
use Rattle.host_judge.specs.Inside.Settled.{HasTimes}
use Rattle.host_judge.specs.declared.times.Times.{Times}

-- a sum goes on by ones
pub total_ones : (f : ℕ → ℕ) (from ns : ℕ) → ((t : ℕ) → from ≤ t → t < from + ns → f t ≡ 1)
    → total f (from + ns) ≡ total f from + ns
total_ones f from zero all = rw add-zero (omega arith)
total_ones f from (suc ns) all =
    let rest = total_ones f from ns (λ t low high. all t low (omega arith)) in
    let last = all (from + ns) (omega arith) (omega arith) in
    rw add-suc (omega (arith, rest, last))

-- a sum goes on by zeros
pub total_zeros : (f : ℕ → ℕ) (from ns : ℕ) → ((t : ℕ) → from ≤ t → t < from + ns → f t ≡ 0)
    → total f (from + ns) ≡ total f from
total_zeros f from zero all = rw add-zero (omega arith)
total_zeros f from (suc ns) all =
    let rest = total_zeros f from ns (λ t low high. all t low (omega arith)) in
    let last = all (from + ns) (omega arith) (omega arith) in
    rw add-suc (omega (arith, rest, last))

-- the step by whether it is the state
time_by : (course : StateCourse) (state : State) (held : Option State) (from to : ℕ) (same : Bool) → from ≤ to
    → IsSteady course held from to → is_in state held ≡ same
    → time_before course state to ≡ time_before course state from + (if same then to - from else 0)
time_by course state held from to true order is same =
    let f : ℕ → ℕ = λ t. if is_in state (course t) then 1 else 0 in
    let whole : from + (to - from) ≡ to = omega arith in
    let ones : (t : ℕ) → from ≤ t → t < from + (to - from) → f t ≡ 1 = λ t low high.
    ap (λ s. if is_in state s then 1 else 0) (is.held t low (omega arith)) ∙ ap (λ b. if b then 1 else 0) same in
    sym (ap (total f) whole) ∙ total_ones f from (to - from) ones
time_by course state held from to false order is same =
    let f : ℕ → ℕ = λ t. if is_in state (course t) then 1 else 0 in
    let whole : from + (to - from) ≡ to = omega arith in
    let zeros : (t : ℕ) → from ≤ t → t < from + (to - from) → f t ≡ 0 = λ t low high.
    ap (λ s. if is_in state s then 1 else 0) (is.held t low (omega arith)) ∙ ap (λ b. if b then 1 else 0) same in
    let all = sym (ap (total f) whole) ∙ total_zeros f from (to - from) zeros in
    omega (arith, all)

-- the time in a state, where the state stays the same
pub time_behind : (course : StateCourse) (state : State) (held : Option State) (from to : ℕ) → from ≤ to
    → IsSteady course held from to
    → time_before course state to ≡ time_before course state from + (if is_in state held then to - from else 0)
time_behind course state held from to order is = time_by course state held from to (is_in state held) order is refl

-- the times in all states
pub times_more : (course : StateCourse) (held : Option State) (from to : ℕ) (old new : Times) → from ≤ to
    → HasTimes course from old → IsSteady course held from to
    → new.run_ns ≡ old.run_ns + (if is_in Run held then to - from else 0)
    → new.wait_ns ≡ old.wait_ns + (if is_in Wait held then to - from else 0)
    → new.block_ns ≡ old.block_ns + (if is_in Block held then to - from else 0) → HasTimes course to new
times_more course held from to old new order has is run wait block = record {
  run = run ∙ ap (λ n. n + (if is_in Run held then to - from else 0)) has.run
      ∙ sym (time_behind course Run held from to order is);
  wait = wait ∙ ap (λ n. n + (if is_in Wait held then to - from else 0)) has.wait
      ∙ sym (time_behind course Wait held from to order is);
  block = block ∙ ap (λ n. n + (if is_in Block held then to - from else 0)) has.block
      ∙ sym (time_behind course Block held from to order is);
}
