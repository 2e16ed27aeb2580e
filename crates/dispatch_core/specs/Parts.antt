-- What a core's steps keep of its part, beside what the board keeps of each part.
-- Source: the rules of this project.
use Rattle.std.specs.Prelude.{◌≡◌, ℕ, ◌*◌, ◌<◌, ◌≤◌, List, [], Some, All, length, map, slice_get, take}
use Rattle.tab_core.specs.declared.TheConstants.{ROUND}
use Rattle.tab_core.specs.declared.entry.Entry.{Entry}
use Rattle.tab_core.specs.declared.stint.Stint.{Stint}
use Rattle.table_form.specs.Running.Choice.{IsDispatch}
use Rattle.table_form.specs.Running.Courses.{CourseView, outline_of, with_plans}
use Rattle.table_form.specs.Running.Outlines.{OutlineView}
use Rattle.table_form.specs.Promises.Fresh.{HasUpTo}
use Rattle.round_words.specs.declared.view.Part.{Part}
use Rattle.round_words.specs.declared.view.View.{View}
use Rattle.round_words.specs.Views.{IsStarted}
use Rattle.round_words.specs.Views.{heard_of, last_of}

-- the view was started with the lag, cores and events of the outline
abbrev pub IsOfOutline : OutlineView → View → Type 0
IsOfOutline o v = IsStarted o.lag o.cores (length o.ticks) v

-- the count has each event of the outline of tick at most x less the lag; the plans don't matter to that
abbrev pub HasEvents : OutlineView → ℕ → ℕ → Type 0
HasEvents o count x = HasUpTo (with_plans o [] []) count x

-- the parts are one, but for what they heard
pub record SameButHeard (p q : Part) : Type 0 where
  pub clock : q.clock ≡ p.clock
  pub sights : q.sights ≡ p.sights
  pub entries : q.entries ≡ p.entries
  pub stints : q.stints ≡ p.stints
  pub floors : q.floors ≡ p.floors

-- nothing has happened to the core's part
pub record IsNewPart (p : Part) : Type 0 where
  pub clock : p.clock ≡ 0
  pub heard : (d : ℕ) → heard_of p d ≡ []
  pub entries : p.entries ≡ []
  pub stints : p.stints ≡ []

-- the used counts of a core's entries, by round
abbrev pub used_counts : List Entry → List ℕ
used_counts entries = map (λ (e : Entry). e.used) entries

-- The part is one of a run of so many rounds, by all that needs no plan. That it has stints from 0 to
-- its clock, an entry for each round in which one begins and each stint its round's used count, the
-- board shows of each part (`IsCorePart` of round_words).
pub record IsTimely (o : OutlineView) (rounds : ℕ) (p : Part) : Type 0 where
  pub in_run : p.clock ≤ rounds * ROUND
  -- it enters no round beyond the run
  pub in_rounds : length p.entries ≤ rounds
  -- what was seen at an entry is at least what was used before
  pub rising : (j k : ℕ) (e f : Entry) → j < k → slice_get p.entries j ≡ Some e
      → slice_get p.entries k ≡ Some f → e.used ≤ f.seen
  -- what was seen at an entry and at a stint has each event that is due
  pub entered : (k : ℕ) (e : Entry) → slice_get p.entries k ≡ Some e → HasEvents o e.seen (e.round * ROUND)
  pub began : (k : ℕ) (s : Stint) → slice_get p.stints k ≡ Some s → HasEvents o s.seen s.from
  pub risen : (j k : ℕ) (s t : Stint) → j ≤ k → slice_get p.stints j ≡ Some s
      → slice_get p.stints k ≡ Some t → s.seen ≤ t.seen

-- each stint is the one that the rules choose after those before it
abbrev pub AreDispatched : CourseView → ℕ → List Stint → Type 0
AreDispatched course c stints = (k : ℕ) (s : Stint) → slice_get stints k ≡ Some s
    → IsDispatch course c (take k stints) s

-- the part is core c's of a run of so many rounds of the course
pub record IsPartOf (course : CourseView) (rounds c : ℕ) (p : Part) : Type 0 where
  pub timely : IsTimely (outline_of course) rounds p
  pub dispatched : AreDispatched course c p.stints

-- the core has just seen the count, which has each event that is due and is at least what its stints saw
pub record HasSeen (o : OutlineView) (count : ℕ) (p : Part) : Type 0 where
  pub some : 0 < length p.sights
  pub last : last_of p.sights ≡ count
  pub has : HasEvents o count p.clock
  pub within : count ≤ length o.ticks
  pub stints : All (λ (s : Stint). s.seen ≤ count) p.stints
