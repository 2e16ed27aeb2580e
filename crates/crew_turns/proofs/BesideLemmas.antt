-- A seat that is parted for a group of cores, and what comes of it when the seats meet again.
use Rattle.std.proofs.Common.{◌≡◌, ◌⊎◌, ℕ, zero, suc, ◌+◌, ◌<◌, ◌≤◌, Bool, true, false, ◌||◌, inl, inr, List, [], ◌∷◌, ◌++◌, length, Some, refl, sym, ap, ap₂, ◌∙◌, subst, arith}
use Rattle.std.specs.Prelude.{slice_get}
use Rattle.std.proofs.lemmas.List.{length-append}
use Rattle.std.proofs.lemmas.Option.{slice_get_within}
use Rattle.tab_core.proofs.Lists.{element_at, get_left, get_right}
use Rattle.round_words.specs.declared.view.View.{View}
use Rattle.round_words.specs.Views.{both, controller, holds, names, only, part, without}
use Rattle.round_words.proofs.MaskLemmas.{holds_both}
use Rattle.round_words.proofs.ViewsLemmas.{both_mine, both_theirs, only_named, only_others, without_named, without_others}
use Rattle.crew_turns.specs.declared.player.Player.{Player}
use Rattle.crew_turns.specs.Going.{IsSameBoard, SameActors}
use Rattle.crew_turns.specs.Groups.{AgreeApart, AreFurther}
use Rattle.crew_turns.specs.Kinds.{IsLawful, Kind}
use Rattle.crew_turns.specs.Numbers.{NamesFrom}
use Rattle.crew_turns.specs.Troops.{AreHeld, AreSame}
use Rattle.crew_turns.proofs.GoingLemmas.{board_of}
use Rattle.crew_turns.proofs.GroupLemmas.{number_back}

-- views of one board
board_without : (m : ℕ) (v : View) → IsSameBoard v (without m v)
board_without m v = record { started = refl; lag = refl; cores = refl; events = refl }

board_only : (m : ℕ) (v : View) → IsSameBoard v (only m v)
board_only m v = record { started = refl; lag = refl; cores = refl; events = refl }

board_both : (v w : View) → IsSameBoard v (both v w)
board_both v w = record { started = refl; lag = refl; cores = refl; events = refl }

board_back : (v w : View) → IsSameBoard v w → IsSameBoard w v
board_back v w b = record { started = sym b.started; lag = sym b.lag; cores = sym b.cores; events = sym b.events }

board_twice : (u v w : View) → IsSameBoard u v → IsSameBoard v w → IsSameBoard u w
board_twice u v w x y = record { started = y.started ∙ x.started; lag = y.lag ∙ x.lag; cores = y.cores ∙ x.cores; events = y.events ∙ x.events }

-- a seat is parted, and what comes of its two parts meets again: the parts are those of the same actors
pub actors_met : (mask : ℕ) (v left own x y w : View) → left ≡ without mask v → own ≡ only mask v → SameActors left x → SameActors own y → w ≡ both x y → SameActors v w
actors_met mask v left own x y w is is' one two joined = subst (SameActors v) (sym joined) (record {
  started = one.started ∙ ap (λ (z : View). z.started) is;
  lag = one.lag ∙ ap (λ (z : View). z.lag) is;
  cores = one.cores ∙ ap (λ (z : View). z.cores) is;
  events = one.events ∙ ap (λ (z : View). z.events) is;
  actors = λ a. holds_both x y a ∙ (ap₂ (λ (b c : Bool). b || c) (one.actors a ∙ ap (λ (z : View). holds z a) is) (two.actors a ∙ ap (λ (z : View). holds z a) is') ∙ by (names mask a) mask v a refl);
})
  where
    or_none : (b : Bool) → (b || false) ≡ b
    or_none true = refl
    or_none false = refl

    by : (b : Bool) (m : ℕ) (v : View) (a : ℕ) → names m a ≡ b → (holds (without m v) a || holds (only m v) a) ≡ holds v a
    by true m v a e = ap₂ (λ (b c : Bool). b || c) (without_named m v a e) (only_named m v a e).0
    by false m v a e = ap₂ (λ (b c : Bool). b || c) (without_others m v a e).0 (only_others m v a e) ∙ or_none (holds v a)

-- what is in two lists is in one of them
get_either : {X : Type 0} (xs ys : List X) (i : ℕ) (x : X) → slice_get (xs ++ ys) i ≡ Some x
    → (slice_get xs i ≡ Some x) ⊎ ((j : ℕ) × (slice_get ys j ≡ Some x) × (i ≡ length xs + j))
get_either [] ys i x at = inr (i, at, omega arith)
get_either (z ∷ zs) ys zero x at = inl at
get_either (z ∷ zs) ys (suc i) x at = elim (get_either zs ys i x at) [ inl old ↦ inl old | inr new ↦ inr (new.0, new.1, omega (arith, new.2)) ]

-- the players whose seats have met again are those whose seat was parted
pub record HaveMet {C L : Type 0} (core : Kind C) (control : Kind L) (cores : List (Player C)) (lead : Player L) (v : View) (cores' : List (Player C)) (lead' : Player L) (w : View) : Type 0 where
  pub held : AreHeld core control cores' lead' w
  pub same : AreSame core control cores lead cores' lead'
  pub actors : SameActors v w

-- a core that agrees is held, at its number
held_at : {C : Type 0} (core : Kind C) → IsLawful core → (p : Player C) (v : View) (i : ℕ) → core.number p.actor ≡ i → core.agrees p.actor v → holds v i ≡ true
held_at core laws p v i number agrees = subst (λ (k : ℕ). holds v k ≡ true) number (laws.held p.actor v agrees)

-- a core that agrees with a view agrees with another of the board that has its part
moved : {C : Type 0} (core : Kind C) → IsLawful core → (p : Player C) (v w : View) (i : ℕ) → core.number p.actor ≡ i → core.agrees p.actor v → IsSameBoard v w
    → holds w i ≡ true → part w i ≡ part v i → core.agrees p.actor w
moved core laws p v w i number agrees board has is = laws.parted p.actor v w agrees board (subst (λ (k : ℕ). holds w k ≡ true) (sym number) has)
    (subst (λ (k : ℕ). part w k ≡ part v k) (sym number) is)

module _ {C L : Type 0} (core : Kind C) (control : Kind L) (core_laws : IsLawful core) (control_laws : IsLawful control)
    (rest group : List (Player C)) (lead : Player L) (v : View) (held : AreHeld core control (rest ++ group) lead v)
    (mask : ℕ) (named : NamesFrom (length rest) (length group) mask) where
  many : length rest + length group ≤ controller
  many = omega (arith, held.troop.few, length-append rest group)

  -- a core of the group, and its number
  at_group : (j : ℕ) (p : Player C) → slice_get group j ≡ Some p → slice_get (rest ++ group) (length rest + j) ≡ Some p
  at_group j p at = get_right rest group j ∙ at

  group_number : (j : ℕ) (p : Player C) → slice_get group j ≡ Some p → core.number p.actor ≡ length rest + j
  group_number j p at = held.troop.each (length rest + j) p (at_group j p at)

  group_agrees : (j : ℕ) (p : Player C) → slice_get group j ≡ Some p → core.agrees p.actor v
  group_agrees j p at = held.each (length rest + j) p (at_group j p at)

  named_group : (j : ℕ) (p : Player C) → slice_get group j ≡ Some p → names mask (length rest + j) ≡ true
  named_group j p at = named.all j (slice_get_within group j p at)

  -- a number that isn't one of the group's
  unnamed : (a : ℕ) → (a < length rest) ⊎ (length rest + length group ≤ a) → names mask a ≡ false
  unnamed a away = by (names mask a) refl
    where
      by : (b : Bool) → names mask a ≡ b → names mask a ≡ false
      by false e = e
      by true e = (let i = named.there a e in absurd (elim away [ inl lt ↦ omega (arith, lt, i.2) | inr le ↦ omega (arith, le, i.1, i.2) ]))

  unnamed_rest : (i : ℕ) (p : Player C) → slice_get rest i ≡ Some p → names mask i ≡ false
  unnamed_rest i p at = unnamed i (inl (slice_get_within rest i p at))

  unnamed_lead : names mask controller ≡ false
  unnamed_lead = unnamed controller (inr many)

  -- all of the group's actors are held
  pub mask_held : (a : ℕ) → names mask a ≡ true → holds v a ≡ true
  mask_held a on = (let i = named.there a on in
      let p = element_at group i.0 i.1 in
      held_at core core_laws p.0 v a (group_number i.0 p.0 p.1 ∙ sym i.2) (group_agrees i.0 p.0 p.1))

  -- the group, whose parts were given
  pub group_given : (w : View) → w ≡ only mask v → AgreeApart core group w
  group_given w is = subst (AgreeApart core group) (sym is) (record {
    each = λ j p at. (let o = only_named mask v (length rest + j) (named_group j p at) in
        let was = group_agrees j p at in
        let number = group_number j p at in
        moved core core_laws p v (only mask v) (length rest + j) number was (board_only mask v) (o.0 ∙ held_at core core_laws p v (length rest + j) number was) o.1);
    apart = λ i j p q at at' ne e. ne (omega (arith, group_number i p at, group_number j q at', e));
  })

  pub group_few : length group ≤ 32
  group_few = omega (arith, many)

  -- what is left
  pub rest_kept : (w : View) → w ≡ without mask v → AreHeld core control rest lead w
  rest_kept w is = subst (AreHeld core control rest lead) (sym is) (record {
    troop = record {
      few = omega (arith, many);
      each = λ i p at. held.troop.each i p (get_left rest group i p at);
      lead_is = held.troop.lead_is;
    };
    each = λ i p at. (let at' = get_left rest group i p at in
        let o = without_others mask v i (unnamed_rest i p at) in
        let number = held.troop.each i p at' in
        moved core core_laws p v (without mask v) i number (held.each i p at') (board_without mask v) (o.0 ∙ held_at core core_laws p v i number (held.each i p at')) o.1);
    control_agrees = (let o = without_others mask v controller unnamed_lead in
        let number = held.troop.lead_is in
        moved control control_laws lead v (without mask v) controller number held.control_agrees (board_without mask v)
        (o.0 ∙ held_at control control_laws lead v controller number held.control_agrees) o.1);
  })

  -- the seats meet again
  module _ (rest' group' : List (Player C)) (lead' : Player L) (left own x y w : View)
      (left_is : left ≡ without mask v) (own_is : own ≡ only mask v) (kept : AreHeld core control rest' lead' x)
      (same : AreSame core control rest lead rest' lead') (given : AgreeApart core group' y) (further : AreFurther core group group')
      (actors : SameActors left x) (own_actors : SameActors own y) (joined : w ≡ both x y) where
    -- a core of the group is one that was parted, some steps on
    group_back : (j : ℕ) (q : Player C) → slice_get group' j ≡ Some q → (core.number q.actor ≡ length rest + j) × (names mask (length rest + j) ≡ true)
    group_back j q at = (let p = number_back core core_laws group group' further j q at in (p.2 ∙ group_number j p.0 p.1, named_group j p.0 p.1))

    off : (a : ℕ) → names mask a ≡ true → holds x a ≡ false
    off a on = actors.actors a ∙ (ap (λ (z : View). holds z a) left_is ∙ without_named mask v a on)

    own_board : IsSameBoard y (both x y)
    own_board = board_twice y own (both x y) (board_back own y (board_of own y own_actors))
        (board_twice own v (both x y) (subst (λ (z : View). IsSameBoard z v) (sym own_is) (board_back v (only mask v) (board_only mask v)))
        (board_twice v left (both x y) (subst (IsSameBoard v) (sym left_is) (board_without mask v))
        (board_twice left x (both x y) (board_of left x actors) (board_both x y))))

    either_number : (i : ℕ) (p : Player C) → slice_get (rest' ++ group') i ≡ Some p → core.number p.actor ≡ i
    either_number i p at = elim (get_either rest' group' i p at) [
      | inl old ↦ kept.troop.each i p old
      | inr new ↦ omega (arith, (group_back new.0 p new.1).0, new.2, same.count)
    ]

    either_agrees : (i : ℕ) (p : Player C) → slice_get (rest' ++ group') i ≡ Some p → core.agrees p.actor (both x y)
    either_agrees i p at = elim (get_either rest' group' i p at) [
      | inl old ↦ (let was = kept.each i p old in
          let number = kept.troop.each i p old in
          let has = held_at core core_laws p x i number was in
          moved core core_laws p x (both x y) i number was (board_both x y) (holds_both x y i ∙ ap (λ (b : Bool). b || holds y i) has) (both_mine x y i has))
      | inr new ↦ (let back = group_back new.0 p new.1 in
          let was = given.each new.0 p new.1 in
          let theirs = both_theirs x y (length rest + new.0) (off (length rest + new.0) back.1) in
          moved core core_laws p y (both x y) (length rest + new.0) back.0 was own_board (theirs.0 ∙ held_at core core_laws p y (length rest + new.0) back.0 was) theirs.1)
    ]

    whole_held : AreHeld core control (rest' ++ group') lead' w
    whole_held = subst (AreHeld core control (rest' ++ group') lead') (sym joined) (record {
      troop = record {
        few = omega (arith, many, same.count, further.count, length-append rest' group');
        each = either_number;
        lead_is = kept.troop.lead_is;
      };
      each = either_agrees;
      control_agrees = (let number = kept.troop.lead_is in
          let has = held_at control control_laws lead' x controller number kept.control_agrees in
          moved control control_laws lead' x (both x y) controller number kept.control_agrees (board_both x y)
          (holds_both x y controller ∙ ap (λ (b : Bool). b || holds y controller) has) (both_mine x y controller has));
    })

    same_either : (i : ℕ) (p q : Player C) → slice_get (rest ++ group) i ≡ Some p → slice_get (rest' ++ group') i ≡ Some q → core.same p.actor q.actor
    same_either i p q at at' = elim (get_either rest group i p at) [
      | inl old ↦ elim (get_either rest' group' i q at') [
        | inl old' ↦ same.each i p q old old'
        | inr new' ↦ absurd (omega (arith, slice_get_within rest i p old, new'.2, same.count))
      ]
      | inr new ↦ elim (get_either rest' group' i q at') [
        | inl old' ↦ absurd (omega (arith, slice_get_within rest' i q old', new.2, same.count))
        | inr new' ↦ (let e : new'.0 ≡ new.0 = omega (arith, new.2, new'.2, same.count) in
            further.each new.0 p q new.1 (subst (λ (k : ℕ). slice_get group' k ≡ Some q) e new'.1))
      ]
    ]

    pub have_met : (cores : List (Player C)) → cores ≡ rest ++ group → HaveMet core control cores lead v (rest' ++ group') lead' w
    have_met cores cut = record {
      held = whole_held;
      same = subst (λ (ps : List (Player C)). AreSame core control ps lead (rest' ++ group') lead') (sym cut) (record {
        count = omega (arith, same.count, further.count, length-append rest group, length-append rest' group');
        each = same_either;
        same_lead = same.same_lead;
      });
      actors = actors_met mask v left own x y w left_is own_is actors own_actors joined;
    }
