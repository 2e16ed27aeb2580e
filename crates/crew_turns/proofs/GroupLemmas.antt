-- The actors of one thread, after some of them stepped.
use Rattle.std.proofs.Common.{◌≡◌, ◌≢◌, ℕ, ◌<◌, List, length, Some, refl, sym, ◌∙◌, subst, arith, get_or}
use Rattle.std.specs.Prelude.{slice_get, slice_set}
use Rattle.std.proofs.lemmas.List.{length-set}
use Rattle.std.proofs.lemmas.Option.{slice_get-get_or, slice_get_within}
use mathlib.Core.Logic.{dite}
use native.Mathlib.Decide.{ℕ_discrete}
use Rattle.tab_core.proofs.Lists.{element_at, same, set_here, set_other}
use Rattle.round_words.specs.declared.view.View.{View}
use Rattle.round_words.specs.Changes.{ChangesOnly}
use Rattle.round_words.specs.Views.{controller, part}
use Rattle.crew_turns.specs.declared.player.Player.{Player}
use Rattle.crew_turns.specs.Going.{SameActors}
use Rattle.crew_turns.specs.Groups.{AgreeApart, AreFurther, ChangesAmong}
use Rattle.crew_turns.specs.Kinds.{IsLawful, Kind}
use Rattle.crew_turns.specs.Troops.{AreHeld, AreSame}
use Rattle.crew_turns.proofs.GoingLemmas.{actors_step, board_of, board_step}

module _ {A : Type 0} (kind : Kind A) (laws : IsLawful kind) where
  -- no steps, and steps one after another
  pub further_none : (ps : List (Player A)) → AreFurther kind ps ps
  further_none ps = record {
    count = refl;
    each = λ i p q at at'. subst (λ (r : Player A). kind.same p.actor r.actor) (same (slice_get ps i) p q at at') (laws.itself p.actor);
  }

  pub further_twice : (ps qs rs : List (Player A)) → AreFurther kind ps qs → AreFurther kind qs rs → AreFurther kind ps rs
  further_twice ps qs rs one two = record {
    count = two.count ∙ one.count;
    each = λ i p r at at'. (let q = element_at qs i (omega (arith, slice_get_within ps i p at, one.count)) in
        laws.further p.actor q.0.actor r.actor (one.each i p q.0 at q.1) (two.each i q.0 r q.1 at'));
  }

  -- whom a player is further than
  pub number_back : (ps qs : List (Player A)) → AreFurther kind ps qs → (i : ℕ) (q : Player A) → slice_get qs i ≡ Some q
      → (p : Player A) × (slice_get ps i ≡ Some p) × (kind.number q.actor ≡ kind.number p.actor)
  number_back ps qs on i q at =
      let p = element_at ps i (omega (arith, slice_get_within qs i q at, on.count)) in
      (p.0, p.1, laws.numbered p.0.actor q.actor (on.each i p.0 q p.1 at))

  -- what holds after the player at a place stepped
  pub record OneOn (ps : List (Player A)) (v : View) (qs : List (Player A)) (w : View) : Type 0 where
    pub agree : AgreeApart kind qs w
    pub further : AreFurther kind ps qs
    pub changes : ChangesAmong kind ps v w

  module _ (ps : List (Player A)) (c : ℕ) (default n : Player A) (v w : View) (agree : AgreeApart kind ps v) (lt : c < length ps)
      (is_same : kind.same (get_or ps c default).actor n.actor) (changes : ChangesOnly v w (kind.number (get_or ps c default).actor)) (agrees : kind.agrees n.actor w) where
    abbrev now : Player A
    now = get_or ps c default

    at : slice_get ps c ≡ Some now
    at = slice_get-get_or ps c default lt

    abbrev qs : List (Player A)
    qs = slice_set ps c n

    here : slice_get qs c ≡ Some n
    here = set_here ps c n lt

    further_one : AreFurther kind ps qs
    further_one = record {
      count = length-set ps c n;
      each = λ i p q x y. dite (ℕ_discrete i c)
          (λ e. subst (λ (r : Player A). kind.same r.actor q.actor) (same (slice_get ps c) now p at (subst (λ (k : ℕ). slice_get ps k ≡ Some p) e x))
          (subst (λ (r : Player A). kind.same now.actor r.actor) (same (slice_get qs c) n q here (subst (λ (k : ℕ). slice_get qs k ≡ Some q) e y)) is_same))
          (λ ne. subst (λ (r : Player A). kind.same p.actor r.actor) (same (slice_get ps i) p q x (sym (set_other ps c i n ne) ∙ y)) (laws.itself p.actor));
    }

    agree_one : AgreeApart kind qs w
    agree_one = record {
      each = λ i p x. dite (ℕ_discrete i c)
          (λ e. subst (λ (r : Player A). kind.agrees r.actor w) (same (slice_get qs c) n p here (subst (λ (k : ℕ). slice_get qs k ≡ Some p) e x)) agrees)
          (λ ne. let old = sym (set_other ps c i n ne) ∙ x in
          let was = agree.each i p old in
          laws.parted p.actor v w was (board_step v w (kind.number now.actor) changes) (changes.actors (kind.number p.actor) ∙ laws.held p.actor v was)
          (changes.parts (kind.number p.actor) (agree.apart i c p now old at ne)));
      apart = λ i j p q x y ne e. (let p' = number_back ps qs further_one i p x in
          let q' = number_back ps qs further_one j q y in
          agree.apart i j p'.0 q'.0 p'.1 q'.1 ne (sym p'.2 ∙ (e ∙ q'.2)));
    }

    pub one_on : OneOn ps v qs w
    one_on = record {
      agree = agree_one;
      further = further_one;
      changes = record {
        actors = actors_step v w (kind.number now.actor) changes;
        parts = λ a away. changes.parts a (λ e. away c now at (sym e));
      };
    }

  -- others stepped
  pub agree_still : (ps : List (Player A)) (v w : View) → AgreeApart kind ps v → SameActors v w
      → ((i : ℕ) (p : Player A) → slice_get ps i ≡ Some p → part w (kind.number p.actor) ≡ part v (kind.number p.actor)) → AgreeApart kind ps w
  agree_still ps v w agree actors stays = record {
    each = λ i p at. (let was = agree.each i p at in
        laws.parted p.actor v w was (board_of v w actors) (actors.actors (kind.number p.actor) ∙ laws.held p.actor v was) (stays i p at));
    apart = agree.apart;
  }

module _ {C L : Type 0} (core : Kind C) (control : Kind L) (core_laws : IsLawful core) (control_laws : IsLawful control)
    (cores : List (Player C)) (lead : Player L) (v w : View) (held : AreHeld core control cores lead v) where
  -- cores that are held by their numbers agree, each with a number of its own
  pub held_apart : AgreeApart core cores v
  held_apart = record {
    each = held.each;
    apart = λ i j p q at at' ne e. ne (sym (held.troop.each i p at) ∙ (e ∙ held.troop.each j q at'));
  }

  away : (i : ℕ) (p : Player C) → slice_get cores i ≡ Some p → core.number p.actor ≢ controller
  away i p at e = omega (arith, e, held.troop.each i p at, slice_get_within cores i p at, held.troop.few)

  -- cores stepped
  pub cores_on : (cores' : List (Player C)) → AgreeApart core cores' w → AreFurther core cores cores' → ChangesAmong core cores v w → AreHeld core control cores' lead w
  cores_on cores' agree further changes = record {
    troop = record {
      few = omega (arith, held.troop.few, further.count);
      each = λ i q at. (let p = number_back core core_laws cores cores' further i q at in p.2 ∙ held.troop.each i p.0 p.1);
      lead_is = held.troop.lead_is;
    };
    each = agree.each;
    control_agrees = control_laws.parted lead.actor v w held.control_agrees (board_of v w changes.actors)
        (changes.actors.actors (control.number lead.actor) ∙ control_laws.held lead.actor v held.control_agrees)
        (changes.parts (control.number lead.actor) (λ i p at e. away i p at (e ∙ held.troop.lead_is)));
  }

  -- the controller stepped
  pub lead_on : (lead' : Player L) → control.same lead.actor lead'.actor → ChangesOnly v w (control.number lead.actor) → control.agrees lead'.actor w → AreHeld core control cores lead' w
  lead_on lead' is_same changes agrees = record {
    troop = record { few = held.troop.few; each = held.troop.each; lead_is = control_laws.numbered lead.actor lead'.actor is_same ∙ held.troop.lead_is };
    each = (agree_still core core_laws cores v w held_apart (actors_step v w (control.number lead.actor) changes)
        (λ i p at. changes.parts (core.number p.actor) (λ e. away i p at (e ∙ held.troop.lead_is)))).each;
    control_agrees = agrees;
  }

-- cores and the controller, some steps on
pub same_of : {C L : Type 0} (core : Kind C) (control : Kind L) (cores cores' : List (Player C)) (lead lead' : Player L) → AreFurther core cores cores' → control.same lead.actor lead'.actor
    → AreSame core control cores lead cores' lead'
same_of core control cores cores' lead lead' further is_same = record { count = further.count; each = further.each; same_lead = is_same }
