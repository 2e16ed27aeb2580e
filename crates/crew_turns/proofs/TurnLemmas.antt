-- A turn: a core runs on, then the controller makes a step.
use Rattle.std.proofs.Common.{◌≡◌, ◌≢◌, ◌⊎◌, ℕ, ◌<◌, ◌≤◌, Bool, true, false, inl, inr, List, length, Some, refl, sym, ◌∙◌, subst, arith}
use Rattle.std.specs.Prelude.{slice_get, slice_index}
use Rattle.std.proofs.lemmas.Option.{slice_get_within}
use Rattle.tab_core.proofs.Lists.{element_at, same}
use Rattle.round_words.specs.declared.view.View.{View}
use Rattle.round_words.specs.Changes.{ChangesOnly}
use Rattle.round_words.specs.Views.{controller, holds, part}
use Rattle.crew_turns.specs.declared.clocks.TheConstants.{OUT}
use Rattle.crew_turns.specs.declared.player.Player.{Player}
use Rattle.crew_turns.specs.declared.turning.Progress.{Progress}
use Rattle.crew_turns.specs.declared.turning.Progress.TheVariants.{Moved, Waits, Stopped, Done}
use Rattle.crew_turns.specs.Going.{IsQuiet, PartsGoOn, SameActors}
use Rattle.crew_turns.specs.Kinds.{IsLawful, Kind}
use Rattle.crew_turns.specs.Troops.{AreAgreed, AreAtRest, AreSame, HaveEnded, LeastWaits}
use Rattle.crew_turns.specs.Inside.Clocks.{AreTicks, IsClockOf, IsPosting, lead_left}
use Rattle.crew_turns.specs.Inside.Turns.{AreCores, CoresGoOn, CoresTold, LeastStuck, TurnTold, left_to_do, or_stops, or_waits}
use Rattle.crew_turns.proofs.GoingLemmas.{actors_twice, board_of, board_step, parts_more}

-- steps of cores, one after another
pub cores_twice : {C : Type 0} (core : Kind C) → IsLawful core → (x y z : List (Player C)) (u v w : View) → CoresGoOn core x u y v → CoresGoOn core y v z w → CoresGoOn core x u z w
cores_twice core laws x y z u v w s t = record {
  count = t.count ∙ s.count;
  same = λ i p q at at'. (let m = element_at y i (omega (arith, slice_get_within x i p at, s.count)) in
      laws.further p.actor m.0.actor q.actor (s.same i p m.0 at m.1) (t.same i m.0 q m.1 at'));
  actors = actors_twice u v w s.actors t.actors;
  parts = parts_more u v w s.parts t.parts;
  control = t.control ∙ s.control;
  agree = t.agree;
}

pub same_twice : {C L : Type 0} (core : Kind C) (control : Kind L) → IsLawful core → IsLawful control → (x y z : List (Player C)) (k l m : Player L)
    → AreSame core control x k y l → AreSame core control y l z m → AreSame core control x k z m
same_twice core control core_laws control_laws x y z k l m s t = record {
  count = t.count ∙ s.count;
  each = λ i p q at at'. (let e = element_at y i (omega (arith, slice_get_within x i p at, s.count)) in
      core_laws.further p.actor e.0.actor q.actor (s.each i p e.0 at e.1) (t.each i e.0 q e.1 at'));
  same_lead = control_laws.further k.actor l.actor m.actor s.same_lead t.same_lead;
}

-- what a core waits for by what it did since v, it waits for by what it did since u
stuck_since : {C : Type 0} (core : Kind C) → IsLawful core → (cores : List (Player C)) (ticks : List ℕ) (u v w : View) → PartsGoOn u v
    → LeastStuck core cores ticks v w → LeastStuck core cores ticks u w
stuck_since core laws cores ticks u v w on stuck = record {
  number = stuck.number;
  within = stuck.within;
  on = stuck.on;
  least = stuck.least;
  waits = λ p at. laws.since p.actor u v w on (stuck.waits p at);
}

pub told_more : {C : Type 0} (core : Kind C) → IsLawful core → (ticks : List ℕ) (u v : View) (p : Progress) (cores : List (Player C)) (ticks' : List ℕ) (w : View) → PartsGoOn u v
    → CoresTold core ticks v p cores ticks' w → CoresTold core ticks u p cores ticks' w
told_more core laws ticks u v Moved cores ticks' w on told = told
told_more core laws ticks u v Waits cores ticks' w on told = (told.0, stuck_since core laws cores ticks' u v w on told.1)
told_more core laws ticks u v Stopped cores ticks' w on told = (told.0, stuck_since core laws cores ticks' u v w on told.1)
told_more core laws ticks u v Done cores ticks' w on told = told

pub rest_since : {C L : Type 0} (core : Kind C) (control : Kind L) → IsLawful core → IsLawful control → (cores : List (Player C)) (lead : Player L) (u v w : View) → PartsGoOn u v
    → AreAtRest core control cores lead v w → AreAtRest core control cores lead u w
rest_since core control core_laws control_laws cores lead u v w on rest = record {
  cores_rest = elim rest.cores_rest [
    | inl ended ↦ inl ended
    | inr least ↦ inr (record {
      number = least.number;
      player = least.player;
      at = least.at;
      held = least.held;
      least = least.least;
      waits = core_laws.since least.player.actor u v w on least.waits;
    })
  ];
  lead_rests = λ has. elim (rest.lead_rests has) [ inl ended ↦ inl ended | inr waits ↦ inr (control_laws.since lead.actor u v w on waits) ];
}

-- the troop agrees after the controller's step
pub record LedOn {C L : Type 0} (core : Kind C) (control : Kind L) (cores : List (Player C)) (lead : Player L) (ticks : List ℕ) (v w : View) : Type 0 where
  pub agreed : AreAgreed core control cores lead w
  pub clocks : AreTicks core cores w ticks
  pub parts : PartsGoOn v w

-- the cores' part of a turn led from v to u
module _ {C L : Type 0} (core : Kind C) (control : Kind L) (core_laws : IsLawful core) (control_laws : IsLawful control)
    (cores cores' : List (Player C)) (lead : Player L) (ticks ticks' : List ℕ) (posting : Bool) (v u : View)
    (agreed : AreAgreed core control cores lead v) (is_posting : IsPosting control lead v posting)
    (are' : AreCores core cores') (right' : AreTicks core cores' u ticks') (on : CoresGoOn core cores v cores' u) where
  pub mid_agreed : AreAgreed core control cores' lead u
  mid_agreed = record {
    troop = record { few = are'.few; each = are'.each; lead_is = agreed.troop.lead_is };
    each = on.agree;
    control_agrees = λ has. control_laws.parted lead.actor v u (agreed.control_agrees (sym (on.actors.actors controller) ∙ has)) (board_of v u on.actors)
        (subst (λ (k : ℕ). holds u k ≡ true) (sym agreed.troop.lead_is) has) (subst (λ (k : ℕ). part u k ≡ part v k) (sym agreed.troop.lead_is) on.control);
  }

  held_mid : posting ≡ true → holds u controller ≡ true
  held_mid e = on.actors.actors controller ∙ is_posting.some e

  pub lead_agrees : posting ≡ true → control.agrees lead.actor u
  lead_agrees e = mid_agreed.control_agrees (held_mid e)

  -- those who wait and those who have ended
  least_waits : (w : View) → SameActors u w → (LeastStuck core cores' ticks' v u) → ((p : Player C) → core.waits p.actor v u → slice_get cores' (core.number p.actor) ≡ Some p → core.waits p.actor v w) → LeastWaits core cores' v w
  least_waits w same_actors stuck stays = by (right'.each stuck.number stuck.within)
    where
      by : IsClockOf core cores' u stuck.number (slice_index ticks' stuck.number) → LeastWaits core cores' v w
      by (inl out) = absurd (stuck.on out.0)
      by (inr x) = record {
        number = stuck.number;
        player = x.1;
        at = x.2;
        held = same_actors.actors stuck.number ∙ x.3;
        least = λ i p at has. elim (right'.each i (slice_get_within cores' i p at)) [
          | inl out ↦ inl (out.1 p at (sym (same_actors.actors i) ∙ has))
          | inr y ↦ inr (let e = same (slice_get cores' i) y.1 p y.2 at in
              subst (λ (q : Player C). core.place x.1.actor ≤ core.place q.actor) e
              (omega (arith, stuck.least i (slice_get_within cores' i p at), x.4, y.4)))
        ];
        waits = stays x.1 (stuck.waits x.1 x.2) (subst (λ (k : ℕ). slice_get cores' k ≡ Some x.1) (sym (are'.each stuck.number x.1 x.2)) x.2);
      }

  ended_then : (w : View) → SameActors u w → ((i : ℕ) → i < length cores' → slice_index ticks' i ≡ OUT) → HaveEnded core cores' w
  ended_then w same_actors out i p at has = elim (right'.each i (slice_get_within cores' i p at)) [
    | inl x ↦ x.1 p at (sym (same_actors.actors i) ∙ has)
    | inr y ↦ absurd (omega (arith, y.0, out i (slice_get_within cores' i p at)))
  ]

  actors_here : SameActors u u
  actors_here = record { started = refl; lag = refl; cores = refl; events = refl; actors = λ a. refl }

  off_rest : posting ≡ false → LeastStuck core cores' ticks' v u → AreAtRest core control cores' lead v u
  off_rest off stuck = record {
    cores_rest = inr (least_waits u actors_here stuck (λ p waits at. waits));
    lead_rests = λ has. inl (is_posting.done off (sym (on.actors.actors controller) ∙ has));
  }

  -- what holds after a turn, by another name of its answer and of whether the controller is to go on
  as_told : (last : Player L) (w : View) (p q : Progress) (still : Bool) → p ≡ q → still ≡ posting
      → TurnTold core control (left_to_do control ticks lead posting) v q cores' last (left_to_do control ticks' last posting) w
      → TurnTold core control (left_to_do control ticks lead posting) v p cores' last (left_to_do control ticks' last still) w
  as_told last w p q still is same told =
      subst (λ (b : Bool). TurnTold core control (left_to_do control ticks lead posting) v p cores' last (left_to_do control ticks' last b) w) (sym same)
      (subst (λ (r : Progress). TurnTold core control (left_to_do control ticks lead posting) v r cores' last (left_to_do control ticks' last posting) w) (sym is) told)

  -- a turn in which the controller had nothing to do
  pub told_over : posting ≡ false → (still : Bool) → still ≡ posting → (p : Progress) → CoresTold core ticks v p cores' ticks' u
      → TurnTold core control (left_to_do control ticks lead posting) v p cores' lead (left_to_do control ticks' lead still) u
  told_over off still same p told = as_told lead u p p still refl same (over p told)
    where
      over : (p : Progress) → CoresTold core ticks v p cores' ticks' u
          → TurnTold core control (left_to_do control ticks lead posting) v p cores' lead (left_to_do control ticks' lead posting) u
      over Moved told = omega (arith, told)
      over Waits told = (omega (arith, told.0), off_rest off told.1)
      over Stopped told = (omega (arith, told.0), off_rest off told.1)
      over Done told = record {
        cores_have = ended_then u actors_here told.1;
        lead_has = λ has. is_posting.done off (sym (on.actors.actors controller) ∙ has);
      }

  -- the controller's step led on from u to w
  module _ (lead' : Player L) (w : View) (changes : ChangesOnly u w (control.number lead.actor)) (parts : PartsGoOn u w)
      (is_same : control.same lead.actor lead'.actor) (agrees : control.agrees lead'.actor w) where
    changes_lead : ChangesOnly u w controller
    changes_lead = subst (ChangesOnly u w) agreed.troop.lead_is changes

    away : (i : ℕ) (p : Player C) → slice_get cores' i ≡ Some p → core.number p.actor ≢ controller
    away i p at e = omega (arith, e, are'.each i p at, slice_get_within cores' i p at, are'.few)

    pub led_on : LedOn core control cores' lead' ticks' v w
    led_on = record {
      agreed = record {
        troop = record { few = are'.few; each = are'.each; lead_is = control_laws.numbered lead.actor lead'.actor is_same ∙ agreed.troop.lead_is };
        each = λ i p at has. core_laws.parted p.actor u w (on.agree i p at (sym (changes_lead.actors i) ∙ has)) (board_step u w controller changes_lead)
            (subst (λ (k : ℕ). holds w k ≡ true) (sym (are'.each i p at)) has) (changes_lead.parts (core.number p.actor) (away i p at));
        control_agrees = λ _. agrees;
      };
      clocks = record {
        size = right'.size;
        each = λ i lt. elim (right'.each i lt) [
          | inl out ↦ inl (out.0, λ p at has. out.1 p at (sym (changes_lead.actors i) ∙ has))
          | inr x ↦ inr (x.0, x.1, x.2, changes_lead.actors i ∙ x.3, x.4)
        ];
      };
      parts = parts_more v u w on.parts parts;
    }

    -- where it doesn't get on
    module _ (stays : control.place lead'.actor ≡ control.place lead.actor) (quiet : IsQuiet u w) (waits : control.waits lead'.actor u w) where
      same_left : lead_left control lead' posting ≡ lead_left control lead posting
      same_left = omega (arith, stays, control_laws.ends lead.actor lead'.actor is_same)

      core_stays : (p : Player C) → core.waits p.actor v u → slice_get cores' (core.number p.actor) ≡ Some p → core.waits p.actor v w
      core_stays p was at = core_laws.stays p.actor v u w was quiet (changes_lead.parts (core.number p.actor) (away (core.number p.actor) p at))

      lead_rests' : holds w controller ≡ true → control.has_ended lead'.actor ⊎ control.waits lead'.actor v w
      lead_rests' has = inr (control_laws.since lead'.actor v u w on.parts waits)

      stuck_rest : LeastStuck core cores' ticks' v u → AreAtRest core control cores' lead' v w
      stuck_rest stuck = record { cores_rest = inr (least_waits w quiet.actors stuck core_stays); lead_rests = lead_rests' }

      ended_rest : ((i : ℕ) → i < length cores' → slice_index ticks' i ≡ OUT) → AreAtRest core control cores' lead' v w
      ended_rest out = record { cores_rest = inl (ended_then w quiet.actors out); lead_rests = lead_rests' }

      pub told_waits : (still : Bool) → still ≡ posting → (p answer : Progress) → answer ≡ or_waits p → CoresTold core ticks v p cores' ticks' u
          → TurnTold core control (left_to_do control ticks lead posting) v answer cores' lead' (left_to_do control ticks' lead' still) w
      told_waits still same p answer is told = as_told lead' w answer (or_waits p) still is same (by p told)
        where
          by : (p : Progress) → CoresTold core ticks v p cores' ticks' u
              → TurnTold core control (left_to_do control ticks lead posting) v (or_waits p) cores' lead' (left_to_do control ticks' lead' posting) w
          by Moved told = omega (arith, told, same_left)
          by Waits told = (omega (arith, told.0, same_left), stuck_rest told.1)
          by Stopped told = (omega (arith, told.0, same_left), stuck_rest told.1)
          by Done told = (omega (arith, told.0, same_left), ended_rest told.1)

      pub told_stops : (still : Bool) → still ≡ posting → (p answer : Progress) → answer ≡ or_stops p → CoresTold core ticks v p cores' ticks' u
          → TurnTold core control (left_to_do control ticks lead posting) v answer cores' lead' (left_to_do control ticks' lead' still) w
      told_stops still same p answer is told = as_told lead' w answer (or_stops p) still is same (by p told)
        where
          by : (p : Progress) → CoresTold core ticks v p cores' ticks' u
              → TurnTold core control (left_to_do control ticks lead posting) v (or_stops p) cores' lead' (left_to_do control ticks' lead' posting) w
          by Moved told = omega (arith, told, same_left)
          by Waits told = (omega (arith, told.0, same_left), stuck_rest told.1)
          by Stopped told = (omega (arith, told.0, same_left), stuck_rest told.1)
          by Done told = (omega (arith, told.0, same_left), ended_rest told.1)
