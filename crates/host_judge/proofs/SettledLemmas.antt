-- What is kept of a vCPU, where its state stays the same.
use Rattle.std.proofs.Common.{arith, ◌≡◌, ℕ, ◌+◌, ◌-◌, ◌<◌, ◌≤◌, Bool, true, false, if◌then◌else◌, Option, Some, None, ap, refl, sym, ◌∙◌, ⊎_elim, nat_le}
use Rattle.std.proofs.lemmas.Bool.{cases_lt, leb-true, leb-false}
use Rattle.host_trace.specs.declared.mark.State.{State}
use Rattle.host_trace.specs.declared.mark.State.TheVariants.{Wait}
use Rattle.host_judge.specs.Courses.{IsSteady, StateCourse, is_in}
use Rattle.host_judge.specs.Inside.Settled.{BeginsOrGoesOn, HasWaits, IsCurrent, IsOngoingWait, longer_of}
use Rattle.host_judge.specs.Waits.{IsLongest, IsLongestWaitBefore, late_before, waited_until}
use Rattle.host_judge.specs.declared.report.LongestWait.{LongestWait}
use Rattle.host_judge.specs.declared.waits.Begun.{Begun}
use Rattle.host_judge.specs.declared.waits.Waits.{Waits}
use Rattle.host_judge.proofs.WaitLemmas.{late_few, late_once, late_past, late_stopped, waited_in, waited_stopped}

-- ---- where it doesn't wait

-- a longest wait stays the longest
stays_longest : (course : StateCourse) (told : ℕ → Option ℕ) (state : Option State) (from to : ℕ) (wait : LongestWait)
    → from < to → is_in Wait state ≡ false → IsSteady course state from to → IsLongestWaitBefore course told from wait
    → IsLongestWaitBefore course told to wait
stays_longest course told state from to wait order isnt held is = record {
  some = is.some;
  within = omega (arith, is.within);
  lasts = is.lasts;
  longest = λ t high. ⊎_elim
      (λ later. (let none = waited_stopped course state from to t isnt held later high in omega arith))
      (λ within. is.longest t within)
      (cases_lt from t);
  first = is.first;
  cpu = is.cpu;
}

longest_stopped : (course : StateCourse) (told : ℕ → Option ℕ) (state : Option State) (from to : ℕ)
    (wait : Option LongestWait) → from < to → is_in Wait state ≡ false → IsSteady course state from to
    → IsLongest course told from wait → IsLongest course told to wait
longest_stopped course told state from to None order isnt held is = λ t high. ⊎_elim
    (λ later. waited_stopped course state from to t isnt held later high)
    (λ within. is t within)
    (cases_lt from t)
longest_stopped course told state from to (Some wait) order isnt held is =
    stays_longest course told state from to wait order isnt held is

-- the waits
pub waits_stopped : (course : StateCourse) (told : ℕ → Option ℕ) (state : Option State) (from to : ℕ) (old new : Waits)
    → from < to → is_in Wait state ≡ false → HasWaits course told from old → IsSteady course state from to
    → new.latency_ns ≡ old.latency_ns → new.current ≡ None → new.longest ≡ old.longest → new.late ≡ old.late
    → HasWaits course told to new
waits_stopped course told state from to old new order isnt has held latency current longest late = record {
  current = rw current (waited_stopped course state from to to isnt held order (omega arith));
  longest = rw longest (longest_stopped course told state from to old.longest order isnt held has.longest);
  late = rw (latency, late) (has.late ∙ sym (late_stopped course old.latency_ns state from to (omega arith) isnt held));
}

-- ---- where it waits

-- the wait that goes on at the later time
pub goes_on : (course : StateCourse) (told : ℕ → Option ℕ) (from to : ℕ) (current : Option Begun) (cpu : Option ℕ)
    (begun : Begun) → from < to → IsCurrent course told from current → IsSteady course (Some Wait) from to
    → told from ≡ cpu → BeginsOrGoesOn current from cpu begun
    → IsOngoingWait course told to begun × (begun.at_ns + waited_until course from ≡ from)
goes_on course told from to None cpu begun order none held at is =
    let all = waited_in course from to to held (omega arith) (omega arith) in (
      record {
        some = omega (arith, is.0);
        lasts = omega (arith, is.0);
        cpu = is.1 ∙ sym at ∙ sym (ap told is.0);
      },
      omega (arith, is.0),
    )
goes_on course told from to (Some started) cpu begun order on held at is =
    let all = waited_in course from to to held (omega arith) (omega arith) in
    rw is (
      record {
        some = omega (arith, on.some);
        lasts = omega (arith, on.lasts);
        cpu = on.cpu;
      },
      on.lasts,
    )

-- where it is longer than all before, it is the longest
new_longest : (course : StateCourse) (told : ℕ → Option ℕ) (from to : ℕ) (begun : Begun)
    → IsOngoingWait course told to begun → IsSteady course (Some Wait) from to
    → ((t : ℕ) → t ≤ from → waited_until course t < to - begun.at_ns)
    → IsLongestWaitBefore course told to (record { ns = to - begun.at_ns; at_ns = begun.at_ns; cpu = begun.cpu })
new_longest course told from to begun on held before =
    let whole : begun.at_ns + (to - begun.at_ns) ≡ to = omega (arith, on.some) in
    let here : waited_until course to ≡ to - begun.at_ns = omega (arith, on.lasts) in
    let below : (t : ℕ) → t < to → waited_until course t < to - begun.at_ns = λ t high. ⊎_elim
    (λ later. (let one = waited_in course from to t held (omega arith) (omega arith) in
    let all = waited_in course from to to held (omega arith) (omega arith) in omega arith))
    (λ within. before t within)
    (cases_lt from t) in
    record {
      some = omega (arith, on.some);
      within = omega arith;
      lasts = ap (waited_until course) whole ∙ here;
      longest = λ t high. ⊎_elim
          (λ less. (let low = below t less in omega arith))
          (λ equal. (let same : t ≡ to = omega arith in rw same (omega arith)))
          (cases_lt t to);
      first = λ t high. below t (omega arith);
      cpu = on.cpu;
    }

-- where it isn't, the longest stays the longest
old_longest : (course : StateCourse) (told : ℕ → Option ℕ) (from to : ℕ) (begun : Begun) (wait : LongestWait)
    → from < to → IsOngoingWait course told to begun → IsSteady course (Some Wait) from to → to - begun.at_ns ≤ wait.ns
    → IsLongestWaitBefore course told from wait → IsLongestWaitBefore course told to wait
old_longest course told from to begun wait order on held shorter is =
    let here : waited_until course to ≡ to - begun.at_ns = omega (arith, on.lasts, on.some) in
    record {
      some = is.some;
      within = omega (arith, is.within);
      lasts = is.lasts;
      longest = λ t high. ⊎_elim
          (λ later. (let one = waited_in course from to t held (omega arith) high in
          let all = waited_in course from to to held (omega arith) (omega arith) in omega arith))
          (λ within. is.longest t within)
          (cases_lt from t);
      first = is.first;
      cpu = is.cpu;
    }

longer : (course : StateCourse) (told : ℕ → Option ℕ) (from to : ℕ) (begun : Begun) (wait : LongestWait) (short : Bool)
    → from < to → IsOngoingWait course told to begun → IsSteady course (Some Wait) from to → IsLongestWaitBefore course told from wait
    → nat_le (to - begun.at_ns) wait.ns ≡ short
    → IsLongest course told to (if short then Some wait
    else Some (record { ns = to - begun.at_ns; at_ns = begun.at_ns; cpu = begun.cpu }))
longer course told from to begun wait true order on held is shorter =
    old_longest course told from to begun wait order on held (leb-true (to - begun.at_ns) wait.ns shorter) is
longer course told from to begun wait false order on held is longest =
    let more = leb-false (to - begun.at_ns) wait.ns longest in
    new_longest course told from to begun on held (λ t within. (let low = is.longest t within in omega arith))

longest_on : (course : StateCourse) (told : ℕ → Option ℕ) (from to : ℕ) (begun : Begun) (wait : Option LongestWait)
    → from < to → IsOngoingWait course told to begun → IsSteady course (Some Wait) from to → IsLongest course told from wait
    → IsLongest course told to (longer_of wait begun (to - begun.at_ns))
longest_on course told from to begun None order on held is =
    new_longest course told from to begun on held
    (λ t within. (let none = is t within in omega (arith, on.some)))
longest_on course told from to begun (Some wait) order on held is =
    longer course told from to begun wait (nat_le (to - begun.at_ns) wait.ns) order on held is refl

-- how many are too long
late_on : (course : StateCourse) (latency from to before ns count : ℕ) → from < to → IsSteady course (Some Wait) from to
    → waited_until course from ≡ before → waited_until course to ≡ ns
    → (before ≤ latency → latency < ns → count ≡ 1) → (ns ≤ latency → count ≡ 0) → (latency < before → count ≡ 0)
    → late_before course latency to ≡ late_before course latency from + count
late_on course latency from to before ns count order held at all once few past = ⊎_elim
    (λ long. ⊎_elim
    (λ early. (let e = late_past course latency from to (omega arith) held (omega arith) in
    let none = past early in omega arith))
    (λ now. (let e = late_once course latency from to (omega arith) held (omega arith) (omega arith) in
    let one = once now long in omega arith))
    (cases_lt latency before))
    (λ short. (let e = late_few course latency from to (omega arith) held (omega arith) in
    let none = few short in omega arith))
    (cases_lt latency ns)

-- the waits
pub waits_on : (course : StateCourse) (told : ℕ → Option ℕ) (from to : ℕ) (cpu : Option ℕ) (old new : Waits)
    (begun : Begun) (count : ℕ) → from < to → HasWaits course told from old → IsSteady course (Some Wait) from to
    → told from ≡ cpu → BeginsOrGoesOn old.current from cpu begun
    → (from - begun.at_ns ≤ old.latency_ns → old.latency_ns < to - begun.at_ns → count ≡ 1)
    → (to - begun.at_ns ≤ old.latency_ns → count ≡ 0) → (old.latency_ns < from - begun.at_ns → count ≡ 0)
    → new.latency_ns ≡ old.latency_ns → new.current ≡ Some begun
    → new.longest ≡ longer_of old.longest begun (to - begun.at_ns) → new.late ≡ old.late + count
    → HasWaits course told to new
waits_on course told from to cpu old new begun count order has held at is once few past latency current longest late =
    let on = goes_on course told from to old.current cpu begun order has.current held at is in
    let here : waited_until course from ≡ from - begun.at_ns = omega (arith, on.1) in
    let there : waited_until course to ≡ to - begun.at_ns = omega (arith, on.0.lasts) in
    let more = late_on course old.latency_ns from to (from - begun.at_ns) (to - begun.at_ns) count order held here there
    once few past in
    record {
      current = rw current on.0;
      longest = rw longest (longest_on course told from to begun old.longest order on.0 held has.longest);
      late = rw latency (omega (arith, late, has.late, more));
    }
