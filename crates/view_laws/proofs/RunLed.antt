-- The lines of entries and stints lead on in a run.
use Rattle.std.proofs.Common.{◌≡◌, ℕ, ◌<◌, ◌≤◌, ◌^◌, Bool, true, false, List, [], ◌∷◌, ◌++◌, slice_index, slice_set, length, Option, Some, None, refl, subst, arith}
use Rattle.std.proofs.lemmas.Bool.{le-leb, lt-ltb}
use Rattle.std.specs.Option.{ForSome}
use Rattle.tab_core.specs.declared.TheConstants.{MAX_CORES}
use Rattle.tab_core.specs.declared.stint.Stint.{Stint}
use Rattle.table_form.specs.Running.Choice.{is_shared}
use Rattle.table_form.specs.Running.Courses.{CourseView}
use Rattle.vcpu_names.specs.Names.{AreNames}
use Rattle.view_doc.specs.Grammar.{Front, ends_behind, place_after_line}
use Rattle.view_doc.specs.Lines.{IsGood, IsGoodHolder, Told, entry}
use Rattle.view_doc.specs.Views.{slots_in}
use Rattle.view_doc.specs.declared.place.Place.{Place}
use Rattle.view_doc.specs.declared.place.Place.TheVariants.{Closed, Planned, Reporting, Row, Running, Start, Tasks}
use Rattle.view_laws.specs.ShownRuns.{ran_holder, stint_told}
use Rattle.view_laws.proofs.Known.{HasRoomFor, stint_met}
use Rattle.view_laws.proofs.Leading.{Leads, front_at, goes, stays}

-- ---- places

-- a run begins or goes on here
abbrev pub IsOpen : Place → Type 0
IsOpen Start = Unit {0}
IsOpen Running = Unit {0}
IsOpen _ = ⊥

-- an entry leads on
entry_place : (place : Place) (c r n : ℕ) → IsOpen place → place_after_line place (entry c r n) ≡ Some Running
entry_place Start c r n at = refl
entry_place Running c r n at = refl
entry_place (Tasks m k) c r n at = absurd at
entry_place (Row m d f) c r n at = absurd at
entry_place Planned c r n at = absurd at
entry_place Reporting c r n at = absurd at
entry_place Closed c r n at = absurd at

-- a stint of some ticks leads on
stint_place : (place : Place) (names : List (List ℕ)) (course : CourseView) (c : ℕ) (s : Stint) → IsOpen place
    → s.from < s.end → place_after_line place (stint_told names course c s) ≡ Some Running
stint_place Start names course c s at some = rw (lt-ltb s.from s.end some) refl
stint_place Running names course c s at some = rw (lt-ltb s.from s.end some) refl
stint_place (Tasks m k) names course c s at some = absurd at
stint_place (Row m d f) names course c s at some = absurd at
stint_place Planned names course c s at some = absurd at
stint_place Reporting names course c s at some = absurd at
stint_place Closed names course c s at some = absurd at

-- there no line is a plan's segment
pub no_slot : (place : Place) (told : Told) → IsOpen place → slots_in place told ≡ []
no_slot Start told at = refl
no_slot Running told at = refl
no_slot (Tasks m k) told at = absurd at
no_slot (Row m d f) told at = absurd at
no_slot Planned told at = absurd at
no_slot Reporting told at = absurd at
no_slot Closed told at = absurd at

-- ---- where lines lead

-- the lines lead to a place of a run, of which this holds besides
pub record Reaches (names : List (List ℕ)) (front : Front) (tolds : List Told)
    (Holds : Place → List ℕ → Type 0)
    : Type 0 where
  pub place : Place
  pub known : List (List ℕ)
  pub ends : List ℕ
  pub leads : Leads front tolds (front_at place known ends) []
  pub at : IsOpen place
  pub room : HasRoomFor names known
  pub holds : Holds place ends

-- no line stays there
pub stays_there : (names : List (List ℕ)) (Holds : Place → List ℕ → Type 0) (place : Place)
    (known : List (List ℕ)) (ends : List ℕ) → IsOpen place → HasRoomFor names known → Holds place ends
    → Reaches names (front_at place known ends) [] Holds
stays_there names Holds place known ends at room holds = record {
  place = place;
  known = known;
  ends = ends;
  leads = stays (front_at place known ends);
  at = at;
  room = room;
  holds = holds;
}

-- an entry before lines that lead somewhere
pub entry_goes : (names : List (List ℕ)) (Holds : Place → List ℕ → Type 0) (place : Place)
    (known : List (List ℕ)) (ends : List ℕ) (c r n : ℕ) (tolds : List Told) → IsOpen place
    → Reaches names (front_at Running known ends) tolds Holds
    → Reaches names (front_at place known ends) (entry c r n ∷ tolds) Holds
entry_goes names Holds place known ends c r n tolds at more = record {
  place = more.place;
  known = more.known;
  ends = more.ends;
  leads = subst (λ ss. Leads (front_at place known ends) (entry c r n ∷ tolds)
      (front_at more.place more.known more.ends) (ss ++ [])) (no_slot place (entry c r n) at)
      (goes (front_at place known ends) (entry c r n) tolds Running known ends
      (front_at more.place more.known more.ends) [] (entry_place place c r n at) refl refl more.leads);
  at = more.at;
  room = more.room;
  holds = more.holds;
}

-- a stint of core c whose numbers are in their ranges, of some ticks, that ran one of so many vCPUs
pub record IsFitStint (count c : ℕ) (s : Stint) : Type 0 where
  pub core : c < MAX_CORES
  pub some : s.from < s.end
  pub end : s.end < 2 ^ 32
  pub used : s.used < 2 ^ 32
  pub seen : s.seen < 2 ^ 32
  pub ran : ForSome s.ran (λ v. v < count)

-- its line is good
pub stint_good : (names : List (List ℕ)) (course : CourseView) (c : ℕ) (s : Stint) → AreNames names
    → IsFitStint (length names) c s → IsGood (stint_told names course c s)
stint_good names course c s good fit =
    let some = fit.some in
    let end = fit.end in
    (fit.core, omega arith, fit.end, fit.used, fit.seen, by_ran (is_shared course c s) s.ran fit.ran)
  where
    by_ran : (shared : Bool) (ran : Option ℕ) → ForSome ran (λ v. v < length names)
        → IsGoodHolder (ran_holder names shared ran)
    by_ran shared None low = tt
    by_ran true (Some v) low = good v (low v refl)
    by_ran false (Some v) low = good v (low v refl)

-- a stint before lines that lead somewhere, whatever names are known then
pub stint_goes : (names : List (List ℕ)) (course : CourseView) (Holds : Place → List ℕ → Type 0)
    (place : Place) (known : List (List ℕ)) (ends : List ℕ) (c : ℕ) (s : Stint) (tolds : List Told)
    → IsOpen place → HasRoomFor names known → IsFitStint (length names) c s → slice_index ends c ≤ s.from
    → ((next : List (List ℕ)) → HasRoomFor names next
    → Reaches names (front_at Running next (slice_set ends c s.end)) tolds Holds)
    → Reaches names (front_at place known ends) (stint_told names course c s ∷ tolds) Holds
stint_goes names course Holds place known ends c s tolds at room fit low rest =
    let met = stint_met names known c s.from s.end s.used s.seen (is_shared course c s) s.ran fit.ran room in
    let more = rest met.next met.room in
    let after : ends_behind ends (stint_told names course c s) ≡ Some (slice_set ends c s.end) =
    rw (le-leb (slice_index ends c) s.from low) refl in
    record {
      place = more.place;
      known = more.known;
      ends = more.ends;
      leads = subst (λ ss. Leads (front_at place known ends) (stint_told names course c s ∷ tolds)
          (front_at more.place more.known more.ends) (ss ++ []))
          (no_slot place (stint_told names course c s) at)
          (goes (front_at place known ends) (stint_told names course c s) tolds Running met.next
          (slice_set ends c s.end) (front_at more.place more.known more.ends) []
          (stint_place place names course c s at fit.some) met.is after more.leads);
      at = more.at;
      room = more.room;
      holds = more.holds;
    }
