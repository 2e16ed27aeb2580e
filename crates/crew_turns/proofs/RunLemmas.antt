-- A core, found by its number, that ran on.
use Rattle.std.proofs.Common.{◌≡◌, ◌≢◌, ℕ, ◌+◌, ◌-◌, ◌<◌, ◌≤◌, true, inl, inr, List, length, Some, sym, ap, ◌∙◌, subst, arith, get_or}
use Rattle.std.specs.Prelude.{slice_get, slice_index, slice_set}
use Rattle.std.proofs.lemmas.List.{get_or-set_same, get_or-set_other, length-set, set-get_or}
use Rattle.std.proofs.lemmas.List.Sums.{sum_by-set}
use Rattle.std.proofs.lemmas.Option.{slice_get-get_or}
use mathlib.Core.Logic.{dite}
use native.Mathlib.Decide.{ℕ_discrete}
use Rattle.tab_core.proofs.Lists.{same, set_here, set_other}
use Rattle.round_words.specs.declared.view.View.{View}
use Rattle.round_words.specs.Changes.{ChangesOnly}
use Rattle.round_words.specs.Views.{controller, holds}
use Rattle.crew_turns.specs.declared.clocks.TheConstants.{OUT}
use Rattle.crew_turns.specs.declared.player.Player.{Player}
use Rattle.crew_turns.specs.Going.{PartsGoOn}
use Rattle.crew_turns.specs.Kinds.{IsLawful, Kind}
use Rattle.crew_turns.specs.Inside.Clocks.{AreTicks, IsClockOf, ticks_left}
use Rattle.crew_turns.specs.Inside.Turns.{AreCores, CoresAgree, CoresGoOn, RunsOn}
use Rattle.crew_turns.proofs.GoingLemmas.{actors_step, board_step}

-- what holds after core c ran on as far as this clock
pub record RanOn {C : Type 0} (core : Kind C) (cores : List (Player C)) (c : ℕ) (ticks : List ℕ) (v : View) (cores' : List (Player C)) (answer : ℕ) (w : View) : Type 0 where
  pub are : AreCores core cores'
  pub goes : CoresGoOn core cores v cores' w
  pub ticks_then : AreTicks core cores' w (slice_set ticks c answer)
  pub further : answer ≢ slice_index ticks c → ticks_left (slice_set ticks c answer) < ticks_left ticks
  -- where it didn't move
  pub stays : answer ≡ slice_index ticks c → AreTicks core cores' w ticks
  pub waits : answer ≡ slice_index ticks c → (p : Player C) → slice_get cores' c ≡ Some p → core.waits p.actor v w

module _ {C : Type 0} (core : Kind C) (laws : IsLawful core) (short : (a : C) (v : View) → core.agrees a v → core.end a < OUT)
    (cores : List (Player C)) (c : ℕ) (now default : Player C) (v : View) (ticks : List ℕ) (are : AreCores core cores) (agree : CoresAgree core cores v)
    (right : AreTicks core cores v ticks) (lt : c < length cores) (on : slice_index ticks c ≢ OUT) (read : now ≡ get_or cores c default) where
  at : slice_get cores c ≡ Some now
  at = slice_get-get_or cores c default lt ∙ ap Some (sym read)

  abbrev there : (slice_index ticks c < OUT) × (p : Player C) × (slice_get cores c ≡ Some p) × (holds v c ≡ true) × (slice_index ticks c ≡ core.place p.actor)
  there = elim (right.each c lt) [
    | inl out ↦ absurd (on out.0)
    | inr x ↦ x
  ]

  there_is : there.1 ≡ now
  there_is = same (slice_get cores c) there.1 now there.2 at

  -- what it is before
  held_now : holds v c ≡ true
  held_now = there.3

  pub clock_now : slice_index ticks c ≡ core.place now.actor
  clock_now = there.4 ∙ ap (λ (p : Player C). core.place p.actor) there_is

  number_now : core.number now.actor ≡ c
  number_now = are.each c now at

  -- what holds after the player ran on
  module _ (n : Player C) (answer : ℕ) (w : View) (is_same : core.same now.actor n.actor) (changes : ChangesOnly v w (core.number now.actor))
      (agrees : core.agrees n.actor w) (parts : PartsGoOn v w) (runs : RunsOn core now.actor v answer n.actor w) where
    abbrev cores' : List (Player C)
    cores' = slice_set cores c n

    changes_core : ChangesOnly v w c
    changes_core = subst (ChangesOnly v w) number_now changes

    here : slice_get cores' c ≡ Some n
    here = set_here cores c n lt

    other : (i : ℕ) → i ≢ c → slice_get cores' i ≡ slice_get cores i
    other i ne = set_other cores c i n ne

    number_then : core.number n.actor ≡ c
    number_then = laws.numbered now.actor n.actor is_same ∙ number_now

    cores_then : AreCores core cores'
    cores_then = record {
      few = subst (λ (k : ℕ). k ≤ 32) (sym (length-set cores c n)) are.few;
      each = λ i p x. dite (ℕ_discrete i c)
          (λ e. subst (λ (q : Player C). core.number q.actor ≡ i) (same (slice_get cores' c) n p here (subst (λ (k : ℕ). slice_get cores' k ≡ Some p) e x)) (number_then ∙ sym e))
          (λ ne. are.each i p (sym (other i ne) ∙ x));
    }

    goes : CoresGoOn core cores v cores' w
    goes = record {
      count = length-set cores c n;
      same = λ i p q x y. dite (ℕ_discrete i c)
          (λ e. subst (λ (z : Player C). core.same p.actor z.actor) (same (slice_get cores' c) n q here (subst (λ (k : ℕ). slice_get cores' k ≡ Some q) e y))
          (subst (λ (z : Player C). core.same z.actor n.actor) (same (slice_get cores c) now p at (subst (λ (k : ℕ). slice_get cores k ≡ Some p) e x)) is_same))
          (λ ne. subst (λ (z : Player C). core.same p.actor z.actor) (same (slice_get cores i) p q x (sym (other i ne) ∙ y)) (laws.itself p.actor));
      actors = actors_step v w c changes_core;
      parts = parts;
      control = changes_core.parts controller (λ e. omega (arith, e, lt, are.few));
      agree = λ i p x has. dite (ℕ_discrete i c)
          (λ e. subst (λ (q : Player C). core.agrees q.actor w) (same (slice_get cores' c) n p here (subst (λ (k : ℕ). slice_get cores' k ≡ Some p) e x)) agrees)
          (λ ne. (let was : slice_get cores i ≡ Some p = sym (other i ne) ∙ x in
          let number = are.each i p was in
          laws.parted p.actor v w (agree i p was (sym (changes_core.actors i) ∙ has)) (board_step v w c changes_core)
          (subst (λ (k : ℕ). holds w k ≡ true) (sym number) has)
          (changes_core.parts (core.number p.actor) (λ e. ne (sym number ∙ e)))));
    }

    inside : c < length ticks
    inside = omega (arith, lt, are.few, right.size)

    put : slice_index (slice_set ticks c answer) c ≡ answer
    put = get_or-set_same ticks c answer _ inside

    now_then : IsClockOf core cores' w c answer
    now_then = elim runs [
      | inl out ↦ inl (out.0, λ p x has. subst (λ (q : Player C). core.has_ended q.actor) (same (slice_get cores' c) n p here x) out.1)
      | inr ran ↦ inr (omega (arith, ran.0, laws.within n.actor w agrees, short n.actor w agrees), n, here, changes_core.actors c ∙ held_now, ran.0)
    ]

    other_then : (i : ℕ) → i ≢ c → IsClockOf core cores v i (slice_index ticks i) → IsClockOf core cores' w i (slice_index ticks i)
    other_then i ne is = elim is [
      | inl out ↦ inl (out.0, λ p x has. out.1 p (sym (other i ne) ∙ x) (sym (changes_core.actors i) ∙ has))
      | inr x ↦ inr (x.0, x.1, other i ne ∙ x.2, changes_core.actors i ∙ x.3, x.4)
    ]

    right_then : AreTicks core cores' w (slice_set ticks c answer)
    right_then = record {
      size = length-set ticks c answer ∙ right.size;
      each = λ i inner. dite (ℕ_discrete i c)
          (λ e. subst (λ (k : ℕ). IsClockOf core cores' w k (slice_index (slice_set ticks c answer) k)) (sym e) (subst (IsClockOf core cores' w c) (sym put) now_then))
          (λ ne. subst (IsClockOf core cores' w i) (sym (get_or-set_other ticks c i answer _ ne))
          (other_then i ne (right.each i (subst (λ (k : ℕ). i < k) (length-set cores c n) inner))));
    }

    further : answer ≢ slice_index ticks c → ticks_left (slice_set ticks c answer) < ticks_left ticks
    further moved = by_less (elim runs [
      | inl out ↦ omega (arith, out.0, there.0)
      | inr ran ↦ elim ran.1 [ inl more ↦ omega (arith, more, clock_now) | inr stays ↦ absurd (moved (stays.0 ∙ sym clock_now)) ]
    ])
      where
        by_less : slice_index ticks c < answer → ticks_left (slice_set ticks c answer) < ticks_left ticks
        by_less more = let s = sum_by-set (λ (k : ℕ). OUT - k) ticks c answer 0 inside in omega (arith, s, more, there.0)

    -- where it didn't move
    right_stays : answer ≡ slice_index ticks c → AreTicks core cores' w ticks
    right_stays e = subst (AreTicks core cores' w) (ap (slice_set ticks c) e ∙ set-get_or ticks c _) right_then

    waits : answer ≡ slice_index ticks c → (p : Player C) → slice_get cores' c ≡ Some p → core.waits p.actor v w
    waits e p x = subst (λ (q : Player C). core.waits q.actor v w) (same (slice_get cores' c) n p here x) (elim runs [
      | inl out ↦ absurd (omega (arith, out.0, e, there.0))
      | inr ran ↦ elim ran.1 [
        | inl more ↦ absurd (omega (arith, more, e, clock_now))
        | inr stays ↦ stays.1
      ]
    ])

    pub ran_on : RanOn core cores c ticks v cores' answer w
    ran_on = record { are = cores_then; goes = goes; ticks_then = right_then; further = further; stays = right_stays; waits = waits }

-- the clocks of one core more
pub read_more : {C : Type 0} (core : Kind C) (cores : List (Player C)) (v : View) (ticks : List ℕ) (c clock : ℕ) → c < length ticks
    → ((d : ℕ) → d < c → IsClockOf core cores v d (slice_index ticks d)) → IsClockOf core cores v c clock
    → (d : ℕ) → d < c + 1 → IsClockOf core cores v d (slice_index (slice_set ticks c clock) d)
read_more core cores v ticks c clock inside read is d lt = dite (ℕ_discrete d c)
    (λ e. subst (λ (i : ℕ). IsClockOf core cores v i (slice_index (slice_set ticks c clock) i)) (sym e) (subst (IsClockOf core cores v c) (sym (get_or-set_same ticks c clock _ inside)) is))
    (λ ne. subst (IsClockOf core cores v d) (sym (get_or-set_other ticks c d clock _ ne)) (read d (omega (arith, lt, ne))))
