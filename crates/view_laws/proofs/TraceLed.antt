-- The stints of a whole run lead on, core by core.
use Rattle.std.proofs.Common.{◌≡◌, ◌≢◌, ℕ, zero, suc, ◌<◌, ◌≤◌, ◌⊎◌, List, [], ◌∷◌, ◌++◌, length, map, replicate, slice_index, slice_set, refl, ◌∙◌, inl, inr, arith}
use Rattle.std.proofs.lemmas.List.{get_or-set_other, get_or-set_same, length-set}
use Rattle.std.proofs.lemmas.List.Elements.{All-append, All-cons, All-head, All-nil, All-tail}
use Rattle.std.specs.List.{All}
use Rattle.tab_core.proofs.Lists.{get_or-replicate_same}
use Rattle.tab_core.specs.Timelines.{AreContiguous}
use Rattle.tab_core.specs.declared.TheConstants.{MAX_CORES, MAX_VCPUS}
use Rattle.tab_core.specs.declared.stint.Stint.{Stint}
use Rattle.table_form.specs.Running.Courses.{CourseView}
use Rattle.vcpu_names.specs.Names.{AreNames}
use Rattle.view_doc.specs.Grammar.{Front, start}
use Rattle.view_doc.specs.Lines.{IsGood, IsPlain, Told}
use Rattle.view_doc.specs.declared.place.Place.{Place}
use Rattle.view_doc.specs.declared.place.Place.TheVariants.{Running, Start}
use Rattle.view_laws.specs.ShownRuns.{stint_told}
use Rattle.view_laws.specs.ShownTraces.{stints_below}
use Rattle.view_laws.proofs.Known.{HasRoomFor, room_at_first}
use Rattle.view_laws.proofs.Leading.{front_at, goes_on_by}
use Rattle.view_laws.proofs.RunLed.{IsFitStint, IsOpen, Reaches, stays_there, stint_goes, stint_good}

-- lines that lead on from where others lead
reach_on : (names : List (List ℕ)) (front : Front) (some more : List Told)
    (Holds Then : Place → List ℕ → Type 0)
    → (first : Reaches names front some Holds)
    → Reaches names (front_at first.place first.known first.ends) more Then
    → Reaches names front (some ++ more) Then
reach_on names front some more Holds Then first second = record {
  place = second.place;
  known = second.known;
  ends = second.ends;
  leads = goes_on_by front some more (front_at first.place first.known first.ends)
      (front_at second.place second.known second.ends) [] [] first.leads second.leads;
  at = second.at;
  room = second.room;
  holds = second.holds;
}

-- what holds where lines lead
reach_as : (names : List (List ℕ)) (front : Front) (tolds : List Told) (Holds Then : Place → List ℕ → Type 0)
    → ((place : Place) (ends : List ℕ) → Holds place ends → Then place ends) → Reaches names front tolds Holds
    → Reaches names front tolds Then
reach_as names front tolds Holds Then follows reached = record {
  place = reached.place;
  known = reached.known;
  ends = reached.ends;
  leads = reached.leads;
  at = reached.at;
  room = reached.room;
  holds = follows reached.place reached.ends reached.holds;
}

-- ---- one core

-- after some stints of a core the other cores' ends are as before, and the run goes on, if there are some
record IsBehind (c : ℕ) (ends : List ℕ) (place : Place) (ss : List Stint) (last : Place) (after : List ℕ)
    : Type 0 where
  size : length after ≡ length ends
  other : (d : ℕ) → d ≢ c → slice_index after d ≡ slice_index ends d
  moved : (last ≡ Running) ⊎ ((ss ≡ []) × (last ≡ place))

-- the stints of a core lead on
core_reaches : (names : List (List ℕ)) (course : CourseView) (c from to : ℕ) (ss : List Stint) (place : Place)
    (known : List (List ℕ)) (ends : List ℕ) → IsOpen place → HasRoomFor names known → c < length ends
    → slice_index ends c ≡ from → AreContiguous from ss to → All (IsFitStint (length names) c) ss
    → Reaches names (front_at place known ends) (map (stint_told names course c) ss) (IsBehind c ends place ss)
core_reaches names course c from to [] place known ends at room low is line fit =
    stays_there names (IsBehind c ends place []) place known ends at room
    (record { size = refl; other = λ d ne. refl; moved = inr (refl, refl) })
core_reaches names course c from to (s ∷ ss) place known ends at room low is line fit =
    let first = All-head (IsFitStint (length names) c) s ss fit in
    let begins = line.0 in
    let size = length-set ends c s.end in
    stint_goes names course (IsBehind c ends place (s ∷ ss)) place known ends c s
    (map (stint_told names course c) ss)
    at room first (omega arith)
    (λ next more. reach_as names (front_at Running next (slice_set ends c s.end))
    (map (stint_told names course c) ss)
    (IsBehind c (slice_set ends c s.end) Running ss) (IsBehind c ends place (s ∷ ss))
    (λ last after behind. one_more last after behind)
    (core_reaches names course c s.end to ss Running next (slice_set ends c s.end) tt more (omega arith)
    (get_or-set_same ends c s.end 0 low) line.1 (All-tail (IsFitStint (length names) c) s ss fit)))
  where
    goes_on : (last : Place) → (last ≡ Running) ⊎ ((ss ≡ []) × (last ≡ Running))
        → (last ≡ Running) ⊎ ((s ∷ ss ≡ []) × (last ≡ place))
    goes_on last (inl running) = inl running
    goes_on last (inr none) = inl none.1

    one_more : (last : Place) (after : List ℕ) → IsBehind c (slice_set ends c s.end) Running ss last after
        → IsBehind c ends place (s ∷ ss) last after
    one_more last after behind = record {
      size = behind.size ∙ length-set ends c s.end;
      other = λ d ne. behind.other d ne ∙ get_or-set_other ends c d s.end 0 ne;
      moved = goes_on last behind.moved;
    }

-- ---- all cores

-- each core below a number has stints that fill the time up to the run's end
pub record AreWhole (names : List (List ℕ)) (end : ℕ) (stints : ℕ → List Stint) (cores : ℕ) : Type 0 where
  pub few : cores ≤ MAX_CORES
  pub some : 0 < end
  pub lines : (c : ℕ) → c < cores → AreContiguous 0 (stints c) end
  pub fit : (c : ℕ) → c < cores → All (IsFitStint (length names) c) (stints c)

-- after the cores below a number those from it on have no stint yet, and the run goes on, if there are some
pub record IsPast (n : ℕ) (place : Place) (ends : List ℕ) : Type 0 where
  pub size : length ends ≡ MAX_CORES
  pub rest : (d : ℕ) → n ≤ d → slice_index ends d ≡ 0
  pub going : 0 < n → place ≡ Running

-- one core more
past_core : (n : ℕ) (ss : List Stint) (place last : Place) (ends after : List ℕ) (end : ℕ) → 0 < end
    → AreContiguous 0 ss end → IsPast n place ends → IsBehind n ends place ss last after
    → IsPast (suc n) last after
past_core n ss place last ends after end some line before behind = record {
  size = behind.size ∙ before.size;
  rest = λ d le. behind.other d (λ same. absurd (omega arith)) ∙ before.rest d (omega arith);
  going = λ many. by_stints ss line behind.moved;
}
  where
    by_stints : (ts : List Stint) → AreContiguous 0 ts end → (last ≡ Running) ⊎ ((ts ≡ []) × (last ≡ place))
        → last ≡ Running
    by_stints ts line (inl running) = running
    by_stints [] line (inr none) = absurd (omega arith)
    by_stints (t ∷ ts) line (inr none) = absurd (let no = none.0 in cc)

-- the stints of the cores below a number lead on
pub cores_reach : (names : List (List ℕ)) (course : CourseView) (end : ℕ) (stints : ℕ → List Stint)
    (cores n : ℕ)
    → length names ≤ MAX_VCPUS → AreWhole names end stints cores → n ≤ cores
    → Reaches names start (stints_below names course stints n) (IsPast n)
cores_reach names course end stints cores zero few whole low =
    stays_there names (IsPast 0) Start [] (replicate MAX_CORES 0) tt (room_at_first names (omega arith))
    (record {
      size = refl;
      rest = λ d le. get_or-replicate_same MAX_CORES d 0;
      going = λ none. absurd (omega arith);
    })
cores_reach names course end stints cores (suc n) few whole low =
    let before = cores_reach names course end stints cores n few whole (omega arith) in
    let least = whole.few in
    let size = before.holds.size in
    let line = whole.lines n (omega arith) in
    let ss = stints n in
    reach_on names start (stints_below names course stints n) (map (stint_told names course n) ss) (IsPast n)
    (IsPast (suc n)) before
    (reach_as names (front_at before.place before.known before.ends) (map (stint_told names course n) ss)
    (IsBehind n before.ends before.place ss) (IsPast (suc n))
    (λ last after behind. past_core n ss before.place last before.ends after end whole.some line
    before.holds behind)
    (core_reaches names course n 0 end ss before.place before.known before.ends before.at before.room
    (omega arith)
    (before.holds.rest n (omega arith)) line (whole.fit n (omega arith))))

-- ---- the lines themselves

-- they are good, and lines of a run
pub stints_fine : (names : List (List ℕ)) (course : CourseView) (end : ℕ) (stints : ℕ → List Stint)
    (cores n : ℕ)
    → AreNames names → AreWhole names end stints cores → n ≤ cores
    → All IsGood (stints_below names course stints n)
stints_fine names course end stints cores zero good whole low = All-nil IsGood
stints_fine names course end stints cores (suc n) good whole low =
    All-append IsGood (stints_below names course stints n) (map (stint_told names course n) (stints n))
    (stints_fine names course end stints cores n good whole (omega arith))
    (of_core (stints n) (whole.fit n (omega arith)))
  where
    of_core : (ss : List Stint) → All (IsFitStint (length names) n) ss
        → All IsGood (map (stint_told names course n) ss)
    of_core [] fit = All-nil IsGood
    of_core (s ∷ ss) fit = All-cons IsGood (stint_told names course n s) (map (stint_told names course n) ss)
        (stint_good names course n s good (All-head (IsFitStint (length names) n) s ss fit))
        (of_core ss (All-tail (IsFitStint (length names) n) s ss fit))

pub stints_kinds : (names : List (List ℕ)) (course : CourseView) (stints : ℕ → List Stint) (n : ℕ)
    → All IsPlain (stints_below names course stints n)
stints_kinds names course stints zero = All-nil IsPlain
stints_kinds names course stints (suc n) =
    All-append IsPlain (stints_below names course stints n) (map (stint_told names course n) (stints n))
    (stints_kinds names course stints n) (of_core (stints n))
  where
    of_core : (ss : List Stint) → All IsPlain (map (stint_told names course n) ss)
    of_core [] = All-nil IsPlain
    of_core (s ∷ ss) =
        All-cons IsPlain (stint_told names course n s) (map (stint_told names course n) ss) tt (of_core ss)
