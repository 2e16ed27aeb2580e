-- Waits, where a vCPU goes on waiting, and where it doesn't.
use Rattle.std.proofs.Common.{arith, ◌≡◌, ℕ, zero, suc, ◌+◌, ◌-◌, ◌<◌, ◌≤◌, Bool, true, false, if◌then◌else◌, Option, Some, add-zero, add-suc, ap, sym, ◌∙◌}
use Rattle.std.specs.Bool.{◌==◌}
use Rattle.std.proofs.lemmas.Bool.{ne_eqb, eq-eqb}
use Rattle.host_trace.specs.declared.mark.State.{State}
use Rattle.host_trace.specs.declared.mark.State.TheVariants.{Wait}
use Rattle.host_judge.specs.Courses.{IsSteady, StateCourse, is_in}
use Rattle.host_judge.specs.Waits.{late_before, waited_until}
use Rattle.host_judge.proofs.CourseLemmas.{total_zeros}

-- it has been waiting at most since the first ns
pub waited_within : (course : StateCourse) (t : ℕ) → waited_until course t ≤ t
waited_within course zero = omega arith
waited_within course (suc t) =
    let rest = waited_within course t in
    let next = λ (b : Bool). if b then waited_until course t + 1 else 0 in
    elim (is_in Wait (course t)) as (λ b. next b ≤ suc t) [
      | true ↦ omega (arith, rest)
      | false ↦ omega arith
    ]

-- the next ns of a wait
waited_next : (course : StateCourse) (t : ℕ) → course t ≡ Some Wait → waited_until course (suc t) ≡ waited_until course t + 1
waited_next course t is = ap (λ s. if is_in Wait s then waited_until course t + 1 else 0) is

-- a wait that goes on
pub waited_on : (course : StateCourse) (from ns : ℕ) → IsSteady course (Some Wait) from (from + ns)
    → waited_until course (from + ns) ≡ waited_until course from + ns
waited_on course from zero held = rw add-zero (omega arith)
waited_on course from (suc ns) held =
    let rest = waited_on course from ns (record { held = λ t low high. held.held t low (omega arith) }) in
    let last = waited_next course (from + ns) (held.held (from + ns) (omega arith) (omega arith)) in
    rw add-suc (omega (arith, rest, last))

-- a wait that goes on, at each time within it
pub waited_in : (course : StateCourse) (from to t : ℕ) → IsSteady course (Some Wait) from to → from ≤ t → t ≤ to
    → waited_until course t ≡ waited_until course from + (t - from)
waited_in course from to t held low high =
    let whole : from + (t - from) ≡ t = omega arith in
    sym (ap (waited_until course) whole)
    ∙ waited_on course from (t - from) (record { held = λ k least most. held.held k least (omega arith) })

-- no wait goes on after a ns in which it doesn't wait
pub waited_stopped : (course : StateCourse) (state : Option State) (from to t : ℕ) → is_in Wait state ≡ false
    → IsSteady course state from to → from < t → t ≤ to → waited_until course t ≡ 0
waited_stopped course state from to zero isnt held low high = absurd (omega arith)
waited_stopped course state from to (suc t) isnt held low high =
    ap (λ s. if is_in Wait s then waited_until course t + 1 else 0) (held.held t (omega arith) (omega arith))
    ∙ ap (λ b. if b then waited_until course t + 1 else 0) isnt

-- ---- waits that grow too long

abbrev too_long : StateCourse → ℕ → ℕ → ℕ
too_long course latency t = if waited_until course (suc t) == latency + 1 then 1 else 0

-- a ns that doesn't make a wait too long
not_now : (course : StateCourse) (latency t : ℕ) → (waited_until course (suc t) ≡ latency + 1 → ⊥)
    → too_long course latency t ≡ 0
not_now course latency t isnt = ap (λ b. if b then 1 else 0) (ne_eqb (waited_until course (suc t)) (latency + 1) isnt)

-- where it doesn't wait
pub late_stopped : (course : StateCourse) (latency : ℕ) (state : Option State) (from to : ℕ) → from ≤ to
    → is_in Wait state ≡ false → IsSteady course state from to
    → late_before course latency to ≡ late_before course latency from
late_stopped course latency state from to order isnt held =
    let whole : from + (to - from) ≡ to = omega arith in
    let zeros : (t : ℕ) → from ≤ t → t < from + (to - from) → too_long course latency t ≡ 0 = λ t low high.
    not_now course latency t (λ is.
    let none = waited_stopped course state from to (suc t) isnt held (omega arith) (omega arith) in omega arith) in
    sym (ap (late_before course latency) whole) ∙ total_zeros (too_long course latency) from (to - from) zeros

-- where no wait has become too long yet
pub late_few : (course : StateCourse) (latency from to : ℕ) → from ≤ to → IsSteady course (Some Wait) from to
    → waited_until course to ≤ latency → late_before course latency to ≡ late_before course latency from
late_few course latency from to order held few =
    let whole : from + (to - from) ≡ to = omega arith in
    let all = waited_in course from to to held order (omega arith) in
    let zeros : (t : ℕ) → from ≤ t → t < from + (to - from) → too_long course latency t ≡ 0 = λ t low high.
    not_now course latency t (λ is.
    let here = waited_in course from to (suc t) held (omega arith) (omega arith) in omega arith) in
    sym (ap (late_before course latency) whole) ∙ total_zeros (too_long course latency) from (to - from) zeros

-- where it has long been too long
pub late_past : (course : StateCourse) (latency from to : ℕ) → from ≤ to → IsSteady course (Some Wait) from to
    → latency < waited_until course from → late_before course latency to ≡ late_before course latency from
late_past course latency from to order held past =
    let whole : from + (to - from) ≡ to = omega arith in
    let zeros : (t : ℕ) → from ≤ t → t < from + (to - from) → too_long course latency t ≡ 0 = λ t low high.
    not_now course latency t (λ is.
    let here = waited_in course from to (suc t) held (omega arith) (omega arith) in omega arith) in
    sym (ap (late_before course latency) whole) ∙ total_zeros (too_long course latency) from (to - from) zeros

-- where it becomes too long
pub late_once : (course : StateCourse) (latency from to : ℕ) → from ≤ to → IsSteady course (Some Wait) from to
    → waited_until course from ≤ latency → latency < waited_until course to
    → late_before course latency to ≡ late_before course latency from + 1
late_once course latency from to order held few many =
    let all = waited_in course from to to held order (omega arith) in
    let at : ℕ = from + (latency - waited_until course from) in
    let before : IsSteady course (Some Wait) from at = record { held = λ t low high. held.held t low (omega arith) } in
    let behind : IsSteady course (Some Wait) (suc at) to =
    record { held = λ t low high. held.held t (omega arith) high } in
    let reached = waited_in course from to at held (omega arith) (omega arith) in
    let next = waited_in course from to (suc at) held (omega arith) (omega arith) in
    let one : too_long course latency at ≡ 1 =
    ap (λ b. if b then 1 else 0) (eq-eqb (waited_until course (suc at)) (latency + 1) (omega arith)) in
    let first = late_few course latency from at (omega arith) before (omega arith) in
    let rest = late_past course latency (suc at) to (omega arith) behind (omega arith) in
    omega (arith, rest, first, one)
