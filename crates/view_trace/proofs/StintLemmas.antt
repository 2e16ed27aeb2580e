-- Stints, from the last mark back, and one after the other.
use Rattle.std.proofs.Common.{◌≡◌, ℕ, ◌+◌, ◌-◌, ◌*◌, ◌/◌, ◌<◌, ◌≤◌, ◌==◌, ◌^◌, All, drop, map, replicate, set, suc, take, Bool, true, false, if◌then◌else◌, List, [], ◌∷◌, ◌++◌, length, max, nat_lt, refl, sym, subst, ap, ◌∙◌, inl, inr, append_assoc, eq-eqb, Option, Some, None, get_or, arith}
use Rattle.std.proofs.Math.Nat.{div-mul-le_self}
use Rattle.std.proofs.Math.Seq.{drop-cons}
use Rattle.std.proofs.lemmas.Nat.{le-div}
use Rattle.std.proofs.lemmas.Bool.{cases_eq, ne_eqb}
use Rattle.std.proofs.lemmas.Bool.Decides.{nat_tests}
use Rattle.std.proofs.lemmas.Grind.{common_steps}
use Rattle.std.proofs.lemmas.List.{append-nil, drop_all, get_or-replicate, get_or-set_other, get_or-set_same, length-replicate, length-set, take-append-drop, take_more}
use Rattle.std.proofs.lemmas.List.Elements.{All-append}
use Rattle.std.proofs.lemmas.List.Sums.{fold_push}
use Rattle.std.specs.Prelude.{slice_index}
use Rattle.tab_core.specs.declared.TheConstants.{MAX_CORES, MAX_VCPUS}
use Rattle.host_trace.specs.declared.mark.Mark.{Mark}
use Rattle.host_trace.specs.declared.mark.State.{State}
use Rattle.host_trace.specs.declared.mark.State.TheVariants.{Run, Wait, Block}
use Rattle.view_trace.specs.Drawable.{AreRising, last_time}
use Rattle.view_trace.specs.Inside.Readings.{AreReadMarks}
use Rattle.view_trace.specs.Inside.Walks.{HasWalked, IsStintCountable}
use Rattle.view_doc.specs.declared.view.Stretch.{Stretch}
use Rattle.view_trace.specs.Traces.{AreLasting, IsFirstShortStint, IsShortStint, stretch_of}
use Rattle.view_trace.specs.Stints.{AreClear, IsStintClash, end_on, next_of, next_time, stint_at, stint_in, stints_up_to}
use Rattle.view_trace.specs.declared.stints.TraceStint.{TraceStint}

-- ---- back by one mark

-- before the walk
pub none_walked : (end : ℕ) (marks : List Mark) (stints : List TraceStint) → stints ≡ []
    → HasWalked end (drop (length marks) marks) (replicate MAX_VCPUS end) stints
none_walked end marks stints is =
    let none : drop (length marks) marks ≡ [] = drop_all (length marks) marks (omega arith) in
    rw none
    (record {
      size = length-replicate MAX_VCPUS end;
      times = λ v low. get_or-replicate {A = ℕ} MAX_VCPUS v end 0 low;
      walked = is;
    })

-- ---- one after the other

-- the last on a CPU, with one more stint
pub end_more : (cpu : ℕ) (stints : List TraceStint) (stint : TraceStint)
    → end_on cpu (stints ++ stint ∷ [])
    ≡ (if stint.cpu == cpu then max (end_on cpu stints) stint.end_ns else end_on cpu stints)
end_more cpu stints stint =
    fold_push (λ end s. if s.cpu == cpu then max end s.end_ns else end) 0 stints stint

clear_from : (before stints : List TraceStint) (stint : TraceStint) → AreClear before stints
    → end_on stint.cpu (before ++ stints) ≤ stint.from_ns → AreClear before (stints ++ stint ∷ [])
clear_from before [] stint clear free =
    (rw (ap (end_on stint.cpu) (sym (append-nil before))) free, tt)
clear_from before (first ∷ stints) stint clear free = (
  clear.0,
  clear_from (before ++ first ∷ []) stints stint clear.1
      (rw (ap (end_on stint.cpu) (append_assoc before (first ∷ []) stints)) free),
)

-- stints that don't clash, and one more
pub clear_more : (stints : List TraceStint) (stint : TraceStint) → AreClear [] stints
    → end_on stint.cpu stints ≤ stint.from_ns → AreClear [] (stints ++ stint ∷ [])
clear_more stints stint clear free = clear_from [] stints stint clear free

-- ---- within the time of the trace

last_later : (time : ℕ) (marks : List Mark) → AreRising time marks → time ≤ last_time time marks
last_later time [] rising = omega arith
last_later time (mark ∷ marks) rising =
    let later = last_later mark.time_ns marks rising.1 in omega (arith, later, rising.0)

next_within : (end time : ℕ) (marks : List Mark) (vcpu : ℕ) → AreRising time marks → last_time time marks ≤ end
    → next_time end marks vcpu ≤ end
next_within end time [] vcpu rising within = omega arith
next_within end time (mark ∷ marks) vcpu rising within =
    let later = last_later mark.time_ns marks rising.1 in
    let rest = next_within end mark.time_ns marks vcpu rising.1 within in
    grind (arith, common_steps, later, rest, within)

-- each stint ends by the end, and begins before it
abbrev pub EndsBy : ℕ → TraceStint → Type 0
EndsBy end stint = (stint.from_ns ≤ stint.end_ns) × (stint.end_ns ≤ end)

within_if : (line from v c end last : ℕ) (some : Bool) → nat_lt from end ≡ some → end ≤ last
    → All (EndsBy last)
    (if some then (record { line = line; vcpu = v; cpu = c; from_ns = from; end_ns = end }) ∷ [] else [])
within_if line from v c end last true is low = λ k d small.
    let first : k ≡ 0 = omega arith in
    let before : from ≤ end = grind (arith, nat_tests, is) in
    rw first (before, low)
within_if line from v c end last false is low = λ k d none. absurd (omega arith)

one_within : (line from : ℕ) (state : State) (vcpu cpu : Option ℕ) (end last : ℕ) → end ≤ last
    → All (EndsBy last) (stint_in line from state vcpu cpu end)
one_within line from Run (Some v) (Some c) end last low = within_if line from v c end last (nat_lt from end) refl low
one_within line from Run (Some v) None end last low = λ k d none. absurd (omega arith)
one_within line from Run None cpu end last low = λ k d none. absurd (omega arith)
one_within line from Wait vcpu cpu end last low = λ k d none. absurd (omega arith)
one_within line from Block vcpu cpu end last low = λ k d none. absurd (omega arith)

next_of_within : (end time : ℕ) (marks : List Mark) (vcpu : Option ℕ) → AreRising time marks
    → last_time time marks ≤ end → next_of end marks vcpu ≤ end
next_of_within end time marks None rising within = omega arith
next_of_within end time marks (Some v) rising within = next_within end time marks v rising within

pub all_within : (end time : ℕ) (marks : List Mark) → AreRising time marks → last_time time marks ≤ end
    → All (EndsBy end) (stints_up_to end marks)
all_within end time [] rising within = λ k d none. absurd (omega arith)
all_within end time (mark ∷ marks) rising within =
    let first = one_within mark.line mark.time_ns mark.state mark.vcpu mark.cpu (next_of end marks mark.vcpu) end
    (next_of_within end mark.time_ns marks mark.vcpu rising.1 within) in
    All-append (EndsBy end) (stint_at mark (next_of end marks mark.vcpu)) (stints_up_to end marks) first
    (all_within end mark.time_ns marks rising.1 within)

-- a part of less isn't more
div_low : (a b k : ℕ) → 0 < k → a ≤ b → a / k ≤ b / k
div_low a b k some low =
    let whole : a / k * k ≤ a = div-mul-le_self a k in
    le-div (a / k) b k some (omega (arith, whole, low))

one_counted : (begin end tick : ℕ) (stint : TraceStint) → 0 < tick → (end - begin) / tick < 2 ^ 32 → EndsBy end stint
    → IsStintCountable begin tick stint
one_counted begin end tick stint some fits ends =
    let last : (stint.end_ns - begin) / tick ≤ (end - begin) / tick =
    div_low (stint.end_ns - begin) (end - begin) tick some (omega (arith, ends.1)) in
    let first : (stint.from_ns - begin) / tick ≤ (end - begin) / tick =
    div_low (stint.from_ns - begin) (end - begin) tick some (omega (arith, ends.0, ends.1)) in
    (omega (arith, first, fits), omega (arith, last, fits))

-- the ticks of stints that end by the end can be counted
pub all_counted : (begin end tick : ℕ) (stints : List TraceStint) → 0 < tick → (end - begin) / tick < 2 ^ 32
    → All (EndsBy end) stints → All (IsStintCountable begin tick) stints
all_counted begin end tick stints some fits all k d low =
    one_counted begin end tick (get_or stints k d) some fits (all k d low)

-- the ticks of the stints of marks can be
pub marks_counted : (marks : List Mark) (time begin tick : ℕ) → AreReadMarks marks time → 0 < tick
    → (time - begin) / tick < 2 ^ 32 → All (IsStintCountable begin tick) (stints_up_to time marks)
marks_counted marks time begin tick are some fits =
    all_counted begin time tick (stints_up_to time marks) some fits
    (all_within time 0 marks are.rising (omega (arith, are.ends)))

-- ---- a stint of a list

-- the stints up to one of them, it, and those after it
pub parts_at : (stints : List TraceStint) (i : ℕ) (d : TraceStint) → i < length stints
    → stints ≡ take i stints ++ get_or stints i d ∷ drop (suc i) stints
parts_at stints i d low =
    sym (take-append-drop i stints) ∙ ap (λ (back : List TraceStint). take i stints ++ back) (drop-cons stints i d low)

-- the stints up to one of them, and it
pub next_taken : (stints : List TraceStint) (i : ℕ) (stint : TraceStint) → i < length stints
    → stint ≡ get_or stints i stint → take (i + 1) stints ≡ take i stints ++ stint ∷ []
next_taken stints i stint low is =
    take_more stints i stint low ∙ ap (λ (s : TraceStint). take i stints ++ s ∷ []) (sym is)

pub parts_with : (stints : List TraceStint) (i : ℕ) (stint : TraceStint) → i < length stints
    → stint ≡ get_or stints i stint → stints ≡ take i stints ++ stint ∷ drop (suc i) stints
parts_with stints i stint low is =
    parts_at stints i stint low ∙ ap (λ (s : TraceStint). take i stints ++ s ∷ drop (suc i) stints) (sym is)

-- a stint that has no tick, after others that have
pub first_short : (begin tick : ℕ) (stints : List TraceStint) (i : ℕ) (stint : TraceStint) (stretches : List Stretch)
    → i < length stints → stint ≡ get_or stints i stint → stretches ≡ map (stretch_of begin tick) (take i stints)
    → AreLasting stretches → IsShortStint begin tick stint → IsFirstShortStint begin tick stints stint.line
first_short begin tick stints i stint stretches low is are lasting short = record {
  front = take i stints;
  stint = stint;
  back = drop (suc i) stints;
  whole = parts_with stints i stint low is;
  lasting = subst AreLasting are lasting;
  short = short;
  at = refl;
}

-- ---- when the last ends on each CPU

pub record AreEnds (ends : List ℕ) (stints : List TraceStint) : Type 0 where
  pub size : length ends ≡ MAX_CORES
  pub each : (cpu : ℕ) → cpu < MAX_CORES → slice_index ends cpu ≡ end_on cpu stints

-- before the first
pub none_ended : AreEnds (replicate MAX_CORES 0) []
none_ended = record {
  size = length-replicate {A = ℕ} MAX_CORES 0;
  each = λ cpu low. get_or-replicate {A = ℕ} MAX_CORES cpu 0 0 low;
}

-- with one more stint, on its CPU
ends_here : (ends : List ℕ) (stints : List TraceStint) (stint : TraceStint) (place now cpu : ℕ)
    → AreEnds ends stints → place ≡ stint.cpu → place < MAX_CORES
    → now ≡ max (slice_index ends place) stint.end_ns → cpu ≡ place
    → slice_index (set ends place now) cpu ≡ end_on cpu (stints ++ stint ∷ [])
ends_here ends stints stint place now cpu are is low value same =
    let held : slice_index (set ends place now) place ≡ now =
    get_or-set_same ends place now 0 (omega (arith, are.size, low)) in
    let was : slice_index ends place ≡ end_on place stints = are.each place low in
    let more = end_more place stints stint in
    let own : (stint.cpu == place) ≡ true = eq-eqb stint.cpu place (sym is) in
    rw same (held ∙ value ∙ ap (λ n. max n stint.end_ns) was ∙ sym (rw own at more))

-- on another
ends_there : (ends : List ℕ) (stints : List TraceStint) (stint : TraceStint) (place now cpu : ℕ)
    → AreEnds ends stints → place ≡ stint.cpu → cpu < MAX_CORES → (cpu ≡ place → ⊥)
    → slice_index (set ends place now) cpu ≡ end_on cpu (stints ++ stint ∷ [])
ends_there ends stints stint place now cpu are is low other =
    let kept : slice_index (set ends place now) cpu ≡ slice_index ends cpu =
    get_or-set_other ends place cpu now 0 other in
    let more = end_more cpu stints stint in
    let foreign : (stint.cpu == cpu) ≡ false = ne_eqb stint.cpu cpu (λ e. other (sym e ∙ sym is)) in
    kept ∙ are.each cpu low ∙ sym (rw foreign at more)

pub ends_more : (ends : List ℕ) (stints : List TraceStint) (stint : TraceStint) (place now : ℕ) → AreEnds ends stints
    → place ≡ stint.cpu → place < MAX_CORES → now ≡ max (slice_index ends place) stint.end_ns
    → AreEnds (set ends place now) (stints ++ stint ∷ [])
ends_more ends stints stint place now are is low value = record {
  size = length-set ends place now ∙ are.size;
  each = λ cpu small. elim (cases_eq cpu place) [
    | inl same ↦ ends_here ends stints stint place now cpu are is low value same
    | inr other ↦ ends_there ends stints stint place now cpu are is small other
  ];
}

-- when the last ends on the CPU of one more
end_there : (ends : List ℕ) (stints : List TraceStint) (stint : TraceStint) (place : ℕ) → AreEnds ends stints
    → place ≡ stint.cpu → place < MAX_CORES → end_on stint.cpu stints ≡ slice_index ends place
end_there ends stints stint place are is low = ap (λ n. end_on n stints) (sym is) ∙ sym (are.each place low)

-- one more that begins after them
pub clear_on : (ends : List ℕ) (stints : List TraceStint) (stint : TraceStint) (place : ℕ) → AreEnds ends stints
    → place ≡ stint.cpu → place < MAX_CORES → slice_index ends place ≤ stint.from_ns → AreClear [] stints
    → AreClear [] (stints ++ stint ∷ [])
clear_on ends stints stint place are is low free clear =
    let last : end_on stint.cpu stints ≡ slice_index ends place = end_there ends stints stint place are is low in
    clear_more stints stint clear (omega (arith, last, free))

-- one that begins before
pub clash_on : (ends : List ℕ) (stints : List TraceStint) (i : ℕ) (stint : TraceStint) (place : ℕ) → i < length stints
    → stint ≡ get_or stints i stint → AreEnds ends (take i stints) → place ≡ stint.cpu → place < MAX_CORES
    → stint.from_ns < slice_index ends place → AreClear [] (take i stints) → IsStintClash stints stint.line
clash_on ends stints i stint place low is are own small taken clear =
    let last : end_on stint.cpu (take i stints) ≡ slice_index ends place =
    end_there ends (take i stints) stint place are own small in
    record {
      front = take i stints;
      stint = stint;
      back = drop (suc i) stints;
      whole = parts_with stints i stint low is;
      clear = clear;
      taken = omega (arith, last, taken);
      at = refl;
    }
