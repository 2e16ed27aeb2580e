-- What a core's step does to the view, for each of its answers.
-- Source: the rules of this project.
use Rattle.std.specs.Prelude.{◌≡◌, ◌≢◌, ◌⊎◌, ℕ, zero, suc, ◌+◌, ◌*◌, ◌/◌, ◌<◌, ◌≤◌, true, length, Some, slice_get, slice_index}
use Rattle.tab_core.specs.declared.TheConstants.{ROUND}
use Rattle.tab_core.specs.declared.entry.Entry.{Entry}
use Rattle.tab_core.specs.declared.stint.Stint.{Stint}
use Rattle.tab_core.specs.declared.actor.Actor.TheVariants.{Core, Controller}
use Rattle.table_form.specs.Running.Choice.{IsDispatch}
use Rattle.table_form.specs.Running.Courses.{CourseView, outline_of}
use Rattle.table_form.specs.Running.Outlines.{OutlineView}
use Rattle.round_words.specs.declared.view.Part.{Part}
use Rattle.round_words.specs.declared.view.View.{View}
use Rattle.round_words.specs.Views.{holds, part, sees, hears, with_entry, with_stint, last_of}
use Rattle.round_words.specs.Changes.{ChangesOnly}
use Rattle.round_words.specs.Hearing.{HearsCores}
use Rattle.round_words.specs.Shown.{IsSight}
use Rattle.dispatch_core.specs.declared.answer.Begun.{Begun}
use Rattle.dispatch_core.specs.declared.answer.Begun.TheVariants.{At, Behind as Unseen, Finished as Over}
use Rattle.dispatch_core.specs.declared.answer.CoreAnswer.{CoreAnswer}
use Rattle.dispatch_core.specs.declared.answer.CoreAnswer.TheVariants.{Ran, Behind, Finished}
use Rattle.dispatch_core.specs.declared.answer.Ended.{Ended}
use Rattle.dispatch_core.specs.declared.answer.Ended.TheVariants.{Ran as RanOn, Behind as TooEarly}
use Rattle.dispatch_core.specs.Parts.{HasEvents, SameButHeard}
use Rattle.dispatch_core.specs.States.{HasBegun, StateView}

-- the round of the part's clock
abbrev pub round_at : Part → ℕ
round_at p = p.clock / ROUND

-- the entry that a core makes of its clock's round
pub record IsEntry (p : Part) (e : Entry) : Type 0 where
  pub round : e.round ≡ round_at p
  pub seen : e.seen ≡ last_of p.sights
  pub won : e.won ≡ true → e.used ≡ e.seen

-- Decide, on a core's part: at its clock's round's start it makes the round's entry
pub record MakesEntry (p q : Part) : Type 0 where
  pub due : length p.entries ≡ round_at p
  pub start : p.clock ≡ round_at p * ROUND
  pub entry : Entry
  pub is_entry : IsEntry p entry
  pub becomes : q ≡ with_entry p entry

-- the core's part has the entry of its clock's round, or gets it now
abbrev pub ComesToEnter : Part → Part → Type 0
ComesToEnter p q = ((round_at p < length p.entries) × (q ≡ p)) ⊎ MakesEntry p q

-- the stint begins at the part's clock, with the count of the clock's round and what was seen last
pub record BeginsNext (p : Part) (s : Stint) : Type 0 where
  pub entry : Entry
  pub entered : slice_get p.entries (round_at p) ≡ Some entry
  pub used : s.used ≡ entry.used
  pub seen : s.seen ≡ last_of p.sights
  pub from : s.from ≡ p.clock

-- the stint comes next in the part of core c
pub record ComesNext (course : CourseView) (c : ℕ) (p : Part) (s : Stint) : Type 0 where
  pub begins : BeginsNext p s
  pub follows : IsDispatch course c p.stints s

-- See, with a count that has every event of tick at most the clock less the lag
pub record SeesAll (o : OutlineView) (c : ℕ) (v : View) (count : ℕ) : Type 0 where
  pub sighted : IsSight v c count
  pub has : HasEvents o count (part v c).clock

-- See, with a count that leaves out such an event. The tick is that of the first one
pub record LacksEvent (o : OutlineView) (c : ℕ) (v w : View) (tick : ℕ) : Type 0 where
  pub count : ℕ
  pub sighted : IsSight v c count
  pub some : count < length o.ticks
  pub tick_is : tick ≡ slice_index o.ticks count
  pub due : tick + o.lag ≤ (part v c).clock
  pub becomes : part w c ≡ sees (part v c) count

-- core c, which isn't at the run's end, sees the count, which has all that is due, and enters its round where that is due
pub record BeginsStep (o : OutlineView) (rounds c : ℕ) (v : View) (count : ℕ) (entered : Part) : Type 0 where
  pub unfinished : (part v c).clock < rounds * ROUND
  pub sees_all : SeesAll o c v count
  pub enters : ComesToEnter (sees (part v c) count) entered

-- the core hears the others up to core d: its clock, which is the tick, is below the end of the core's
-- next stint less the lag, and d is the first such core
pub record FindsLow (course : CourseView) (c : ℕ) (p q : Part) (d tick : ℕ) : Type 0 where
  pub stint : Stint
  pub next : ComesNext course c p stint
  pub core : d < course.cores
  pub other : d ≢ c
  pub heard : Part
  pub near : HearsCores c course.lag stint.end d p heard
  pub low : tick + course.lag < stint.end
  pub becomes : q ≡ hears heard d tick

-- the core hears all others, of which none has a clock below the end of its next stint less the lag, and runs that stint
pub record RunsStint (course : CourseView) (c : ℕ) (p q : Part) (s : Stint) : Type 0 where
  pub next : ComesNext course c p s
  pub heard : Part
  pub near : HearsCores c course.lag s.end course.cores p heard
  pub becomes : q ≡ with_stint heard s

-- what a core's step did to the view v, of which w came
abbrev pub CoreTold : CourseView → ℕ → ℕ → View → CoreAnswer → View → Type 0
CoreTold course rounds c v (Ran s) w = (count : ℕ) × (entered : Part)
    × BeginsStep (outline_of course) rounds c v count entered × RunsStint course c entered (part w c) s
CoreTold course rounds c v (Behind Controller tick) w = ((part v c).clock < rounds * ROUND)
    × LacksEvent (outline_of course) c v w tick
CoreTold course rounds c v (Behind (Core d) tick) w = (count : ℕ) × (entered : Part)
    × BeginsStep (outline_of course) rounds c v count entered × FindsLow course c entered (part w c) d tick
    × (holds v d ≡ true → tick ≡ (part v d).clock)
CoreTold course rounds c v Finished w = ((part v c).clock ≡ rounds * ROUND) × (w ≡ v)

-- what the beginning of a core's step did; t is what the core's actor keeps afterwards
abbrev pub BegunTold : OutlineView → ℕ → ℕ → View → Begun → StateView → View → Type 0
BegunTold o rounds c v (At seen used) t w = BeginsStep o rounds c v seen (part w c) × HasBegun o t w seen used
BegunTold o rounds c v (Unseen seen tick) t w = ((part v c).clock < rounds * ROUND)
    × (lacks : LacksEvent o c v w tick) × (lacks.count ≡ seen)
BegunTold o rounds c v Over t w = ((part v c).clock ≡ rounds * ROUND) × (w ≡ v)

-- what the end of a core's step did
abbrev pub EndTold : CourseView → ℕ → View → Ended → View → Type 0
EndTold course c v (RanOn s) w = RunsStint course c (part v c) (part w c) s
EndTold course c v (TooEarly d tick) w = FindsLow course c (part v c) (part w c) d tick
    × (holds v d ≡ true → tick ≡ (part v d).clock)

-- whatever the plan: a core that waits for another has run nothing since its step's begin, and saw nothing more
abbrev pub StaysWhereBehind : ℕ → View → Ended → View → Type 0
StaysWhereBehind c v (RanOn s) w = Unit {0}
StaysWhereBehind c v (TooEarly d tick) w = SameButHeard (part v c) (part w c)

-- whatever the plan: the core hears all others, of which none has a clock below a stint's end less the lag, and runs that
-- stint, which takes a tick at least and begins at the core's clock
pub record RunsSome (o : OutlineView) (c : ℕ) (p q : Part) (s : Stint) : Type 0 where
  pub begins : BeginsNext p s
  pub some : s.from < s.end
  pub heard : Part
  pub near : HearsCores c o.lag s.end o.cores p heard
  pub becomes : q ≡ with_stint heard s

-- whatever the plan: the core hears the others up to core d, whose clock is the tick, which is too low for some end
pub record HearsLow (o : OutlineView) (c : ℕ) (p q : Part) (d tick : ℕ) : Type 0 where
  pub end : ℕ
  pub core : d < o.cores
  pub other : d ≢ c
  pub heard : Part
  pub near : HearsCores c o.lag end d p heard
  pub low : tick + o.lag < end
  pub becomes : q ≡ hears heard d tick

-- what the end of a step did, in all that needs no plan
abbrev pub EndGoes : OutlineView → ℕ → View → Ended → View → Type 0
EndGoes o c v (RanOn s) w = RunsSome o c (part v c) (part w c) s
EndGoes o c v (TooEarly d tick) w = HearsLow o c (part v c) (part w c) d tick
    × (holds v d ≡ true → tick ≡ (part v d).clock)

-- what a core's step did to the view v, of which w came, in all that needs no plan
abbrev pub CoreGoes : OutlineView → ℕ → ℕ → View → CoreAnswer → View → Type 0
CoreGoes o rounds c v (Ran s) w = (count : ℕ) × (entered : Part) × BeginsStep o rounds c v count entered
    × RunsSome o c entered (part w c) s
CoreGoes o rounds c v (Behind Controller tick) w = ((part v c).clock < rounds * ROUND) × LacksEvent o c v w tick
CoreGoes o rounds c v (Behind (Core d) tick) w = (count : ℕ) × (entered : Part) × BeginsStep o rounds c v count entered
    × HearsLow o c entered (part w c) d tick × (holds v d ≡ true → tick ≡ (part v d).clock)
CoreGoes o rounds c v Finished w = ((part v c).clock ≡ rounds * ROUND) × (w ≡ v)

-- so many steps of core c, one after another, in all that needs no plan
abbrev pub MakesSteps : OutlineView → ℕ → ℕ → ℕ → View → View → Type 0
MakesSteps o rounds c zero v w = w ≡ v
MakesSteps o rounds c (suc n) v w = (u : View) × (answer : CoreAnswer) × MakesSteps o rounds c n v u × ChangesOnly u w c
    × CoreGoes o rounds c u answer w

-- the step is one in which the core waits
abbrev pub IsWait : CoreAnswer → Type 0
IsWait (Ran s) = ⊥
IsWait (Behind who tick) = Unit {0}
IsWait Finished = ⊥

-- the last of so many steps is one in which the core waits
abbrev pub WaitsAtLast : (o : OutlineView) (rounds c count : ℕ) (v w : View) → MakesSteps o rounds c count v w → Type 0
WaitsAtLast o rounds c zero v w made = ⊥
WaitsAtLast o rounds c (suc n) v w made = IsWait made.1

-- the last of so many steps began where the core's clock was at the limit at most
abbrev pub BeganBy : (limit : ℕ) (o : OutlineView) (rounds c count : ℕ) (v w : View) → MakesSteps o rounds c count v w → Type 0
BeganBy limit o rounds c zero v w made = Unit {0}
BeganBy limit o rounds c (suc n) v w made = (part made.0 c).clock ≤ limit

-- Core c made some steps, in all that needs no plan, by which its clock came to this tick. The last one began at the limit at
-- most, and so each one, since a clock never falls. It went on until it waited, or the tick was above the limit, or at the end
pub record RunsTo (o : OutlineView) (rounds c limit end : ℕ) (v w : View) (clock : ℕ) : Type 0 where
  pub count : ℕ
  pub steps : MakesSteps o rounds c count v w
  pub began : BeganBy limit o rounds c count v w steps
  pub stops : (limit < clock) ⊎ (end ≤ clock) ⊎ WaitsAtLast o rounds c count v w steps
