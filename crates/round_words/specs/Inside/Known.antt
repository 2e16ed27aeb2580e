-- An actor that hears cores whose clocks its seat knows, and how far it has seen to the cores.
-- Source: the rules of this project.
use Rattle.std.specs.Prelude.{◌≡◌, ◌⊎◌, ℕ, zero, suc, ◌-◌, ◌<◌, ◌≤◌, ◌==◌, ◌&&◌, not, cond, true, false, nat_lt, List, length, slice_index, slice_set}
use Rattle.round_words.specs.declared.view.Part.{Part}
use Rattle.round_words.specs.declared.view.View.{View}
use Rattle.round_words.specs.Changes.{ChangesOnly}
use Rattle.round_words.specs.Hearing.{HasHeardTo, HearsCores, KnowsClocks}
use Rattle.round_words.specs.Views.{holds, part, hears, last_heard}

-- an actor whose part the view holds has heard this clock of core d, or a later one; or the number is 0
abbrev pub WasHeard : View → ℕ → ℕ → Type 0
WasHeard v d clock = (clock ≡ 0) ⊎ ((a : ℕ) × (holds v a ≡ true) × (clock ≤ last_heard (part v a) d))

-- the numbers of the first n cores, all of which are at the tick or later: the clock of a core that the view
-- holds, and one that was heard of another
abbrev pub AreKnown : List ℕ → View → ℕ → ℕ → Type 0
AreKnown clocks v n tick = (d : ℕ) → d < n → (tick ≤ slice_index clocks d)
    × (holds v d ≡ true → slice_index clocks d ≡ (part v d).clock)
    × (holds v d ≡ false → WasHeard v d (slice_index clocks d))

-- the part of actor c once it heard of core d that it is at the tick `least`, where it knew it below that
abbrev pub hears_known : ℕ → ℕ → ℕ → Part → Part
hears_known c least d p = cond (nat_lt (last_heard p d) least && not (d == c)) (hears p d least) p

-- once it did so with each of the first n cores
abbrev pub hears_all_known : ℕ → ℕ → ℕ → Part → Part
hears_all_known c least zero p = p
hears_all_known c least (suc d) p = hears_known c least d (hears_all_known c least d p)

-- the numbers, of which those of the first n cores but c that were below `least` are `least`
abbrev pub raised : ℕ → ℕ → ℕ → List ℕ → List ℕ
raised c least zero known = known
raised c least (suc d) known =
    let before = raised c least d known in
    slice_set before d (cond (nat_lt (slice_index before d) least && not (d == c)) least (slice_index before d))

-- what holds as the actor has seen to the first n cores, and was v before
pub record HasSeenTo (v u : View) (c lag tick n : ℕ) (known : List ℕ) : Type 0 where
  pub changes : ChangesOnly v u c
  pub knows : KnowsClocks known (part u c)
  pub heard : HearsCores c lag tick n (part v c) (part u c)
  pub near : HasHeardTo u c n tick

-- the actor, which was v before, has seen to the first n cores, by hearing that they are at the tick less the lag
abbrev pub HearsFloor : View → View → ℕ → ℕ → ℕ → ℕ → Type 0
HearsFloor v u c lag tick n = (known : List ℕ) → length known ≡ 32 → KnowsClocks known (part v c)
    → HasSeenTo v u c lag tick n (raised c (tick - lag) n known)
