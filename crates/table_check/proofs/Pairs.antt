-- The first clash of the pairs of cores that were swept so far.
use Rattle.std.proofs.Common.{◌≡◌, ◌⊎◌, ℕ, ◌+◌, ◌<◌, ◌≤◌, List, length, get_or, slice_get, Option, Some, None, IsSomeAnd, refl, ap, subst, sym, ◌∙◌, inl, inr, arith}
use Rattle.std.proofs.lemmas.Bool.{cases_lt, cases_eq}
use Rattle.std.proofs.lemmas.Option.{slice_get_read}
use Rattle.table_form.specs.Tables.Rows.{Row}
use Rattle.table_form.specs.Tables.Serves.{Apart, cell_of, flat}
use Rattle.table_form.proofs.SpotLemmas.{owner_within, flat_some}
use Rattle.table_check.specs.Clashes.{IsClash, IsFirstClash, IsLeastClash}
use Rattle.table_check.specs.Inside.Meetings.{MeetsAt, MeetNoneBefore}
use Rattle.table_check.specs.declared.clash.Clash.{Clash}
use Rattle.table_check.specs.Inside.Pairs.{IsClashBefore, IsEarlierPair, IsFirstBefore}

-- a clash of two cores is a meeting of their rows
meets_from_clash : (rows : List Row) (core other v x : ℕ) (a b : Row) → slice_get rows core ≡ Some a
    → slice_get rows other ≡ Some b
    → IsClash rows v x core other → MeetsAt a b v x
meets_from_clash rows core other v x a b at_a at_b clash = record {
  here = flat_some (slice_get a x) v (sym (ap (λ row. cell_of row x) at_a) ∙ clash.here);
  there = flat_some (slice_get b x) v (sym (ap (λ row. cell_of row x) at_b) ∙ clash.there);
}

-- two rows that meet are a clash of their cores
clash_from_meeting : (rows : List Row) (core other v x : ℕ) (a b : Row) → slice_get rows core ≡ Some a
    → slice_get rows other ≡ Some b
    → core < other → MeetsAt a b v x → IsClash rows v x core other
clash_from_meeting rows core other v x a b at_a at_b lower meets = record {
  here = ap (λ row. cell_of row x) at_a ∙ ap flat meets.here;
  there = ap (λ row. cell_of row x) at_b ∙ ap flat meets.there;
  lower = lower;
}

-- with one more pair the pairs are the earlier ones and this one
split_pair : (core other c d : ℕ) → IsEarlierPair core (other + 1) c d
    → IsEarlierPair core other c d ⊎ ((c ≡ core) × (d ≡ other))
split_pair core other c d (inl lt) = inl (inl lt)
split_pair core other c d (inr both) = elim (cases_lt d other) [
  | inl lt ↦ inl (inr (both.0, lt))
  | inr le ↦ inr (both.0, omega (arith, both.1))
]

-- the pairs before this one come before the next too
more_pairs : (core other c d : ℕ) → IsEarlierPair core other c d → IsEarlierPair core (other + 1) c d
more_pairs core other c d (inl lt) = inl lt
more_pairs core other c d (inr both) = inr (both.0, omega (arith, both.1))

-- an earlier pair's first core is no higher
low_core : (core other c d : ℕ) → IsEarlierPair core other c d → c ≤ core
low_core core other c d (inl lt) = omega arith
low_core core other c d (inr both) = omega (arith, both.0)

-- an earlier pair with the same first core has a lower second
low_other : (core other c d : ℕ) → IsEarlierPair core other c d → c ≡ core → d < other
low_other core other c d (inl lt) e = absurd (omega arith)
low_other core other c d (inr both) e = both.1

-- a clash of the pair itself, where it isn't of an earlier one
clash_here : (rows : List Row) (core other v x c d : ℕ) → c ≡ core → d ≡ other → IsClash rows v x c d
    → IsClash rows v x core other
clash_here rows core other v x c d e f clash = subst (λ k. IsClash rows v x core k) f
    (subst (λ k. IsClash rows v x k d) e clash)

-- the first clash stays where the new pair has none before its tick
pub stays_first : (rows : List Row) (core other : ℕ) (first : Clash)
    → IsFirstBefore rows core other (Some first)
    → ((v x : ℕ) → IsClash rows v x core other → first.tick ≤ x)
    → IsFirstBefore rows core (other + 1) (Some first)
stays_first rows core other first before later =
    let earlier = before.among.earlier in
    record {
      among = record {
        clash = before.among.clash;
        earlier = more_pairs core other first.core first.other earlier;
      };
      least_tick = λ w x c d h. elim (split_pair core other c d h.earlier) [
        | inl old ↦ before.least_tick w x c d (record { clash = h.clash; earlier = old })
        | inr new ↦ later w x (clash_here rows core other w x c d new.0 new.1 h.clash)
      ];
      least_core = λ w c d h. elim (split_pair core other c d h.earlier) [
        | inl old ↦ before.least_core w c d (record { clash = h.clash; earlier = old })
        | inr new ↦ (let low = low_core core other first.core first.other earlier in omega (arith, new.0))
      ];
      least_other = λ w d h. elim (split_pair core other first.core d h.earlier) [
        | inl old ↦ before.least_other w d (record { clash = h.clash; earlier = old })
        | inr new ↦
            (let low = low_other core other first.core first.other earlier new.0 in omega
            (arith, new.1))
      ];
    }

-- a meeting that is no sooner leaves the first clash as it was
pub stays_sooner : (rows : List Row) (core other tick : ℕ) (best : Option Clash)
    → IsFirstBefore rows core other best
    → IsSomeAnd best (λ first. first.tick ≤ tick) → ((v x : ℕ) → IsClash rows v x core other → tick ≤ x)
    → IsFirstBefore rows core (other + 1) best
stays_sooner rows core other tick None before low later = absurd low
stays_sooner rows core other tick (Some first) before low later =
    stays_first rows core other first before
    (λ v x clash.
    (let le : tick ≤ x = later v x clash in let first_low : first.tick ≤ tick = low in omega
    arith))

-- what is known of the earlier pairs is known of these where the new pair has no clash
pub none_here : (rows : List Row) (core other : ℕ) (best : Option Clash) → IsFirstBefore rows core other best
    → ((v x : ℕ) → IsClash rows v x core other → ⊥) → IsFirstBefore rows core (other + 1) best
none_here rows core other None before none = λ v x c d h. elim (split_pair core other c d h.earlier) [
  | inl old ↦ before v x c d (record { clash = h.clash; earlier = old })
  | inr new ↦ none v x (clash_here rows core other v x c d new.0 new.1 h.clash)
]
none_here rows core other (Some first) before none = stays_first rows core other first before
    (λ v x clash. absurd (none v x clash))

-- no earlier pair clashes at or before a tick that is below that of their first clash
none_so_early : (rows : List Row) (core other x : ℕ) (best : Option Clash)
    → IsFirstBefore rows core other best
    → ((first : Clash) → best ≡ Some first → x < first.tick) → (w y c d : ℕ)
    → IsClashBefore rows core other w y c d
    → x < y
none_so_early rows core other x None before sooner w y c d h = absurd (before w y c d h)
none_so_early rows core other x (Some first) before sooner w y c d h =
    let le = before.least_tick w y c d h in
    let lt = sooner first refl in
    omega arith

-- the new pair's first clash is the first of all where it is sooner
pub becomes_first : (rows : List Row) (core other v x : ℕ) (best : Option Clash)
    → IsFirstBefore rows core other best
    → ((first : Clash) → best ≡ Some first → x < first.tick) → IsClash rows v x core other
    → ((w y : ℕ) → IsClash rows w y core other → x ≤ y)
    → IsLeastClash (IsClashBefore rows core (other + 1)) v x core other
becomes_first rows core other v x best before sooner clash first = record {
  among = record { clash = clash; earlier = inr (refl, omega arith) };
  least_tick = λ w y c d h. elim (split_pair core other c d h.earlier) [
    | inl old ↦ (let lt = none_so_early rows core other x best before sooner w y c d
        (record { clash = h.clash; earlier = old }) in omega arith)
    | inr new ↦ first w y (clash_here rows core other w y c d new.0 new.1 h.clash)
  ];
  least_core = λ w c d h. elim (split_pair core other c d h.earlier) [
    | inl old ↦ absurd (let lt = none_so_early rows core other x best before sooner w x c d
        (record { clash = h.clash; earlier = old }) in omega arith)
    | inr new ↦ omega (arith, new.0)
  ];
  least_other = λ w d h. elim (split_pair core other core d h.earlier) [
    | inl old ↦ absurd (let lt = none_so_early rows core other x best before sooner w x core d
        (record { clash = h.clash; earlier = old }) in omega arith)
    | inr new ↦ omega (arith, new.1)
  ];
}

-- what is known of some pairs is known of others with the same clashes
same_pairs : (rows : List Row) (core other core' other' : ℕ) (best : Option Clash)
    → ((v x c d : ℕ) → IsClash rows v x c d → IsEarlierPair core other c d → IsEarlierPair core' other' c d)
    → ((v x c d : ℕ) → IsClash rows v x c d → IsEarlierPair core' other' c d → IsEarlierPair core other c d)
    → IsFirstBefore rows core other best → IsFirstBefore rows core' other' best
same_pairs rows core other core' other' None there back before = λ v x c d h. before v x c d
    (record { clash = h.clash; earlier = back v x c d h.clash h.earlier })
same_pairs rows core other core' other' (Some first) there back before = record {
  among = record {
    clash = before.among.clash;
    earlier = there first.vcpu first.tick first.core first.other
        before.among.clash before.among.earlier;
  };
  least_tick = λ w x c d h. before.least_tick w x c d
      (record { clash = h.clash; earlier = back w x c d h.clash h.earlier });
  least_core = λ w c d h. before.least_core w c d
      (record { clash = h.clash; earlier = back w first.tick c d h.clash h.earlier });
  least_other = λ w d h. before.least_other w d
      (record { clash = h.clash; earlier = back w first.tick first.core d h.clash h.earlier });
}

-- a core has no clash with itself or a lower one as its other core
pub first_others : (rows : List Row) (core : ℕ) (best : Option Clash) → IsFirstBefore rows core 0 best
    → IsFirstBefore rows core (core + 1) best
first_others rows core best before = same_pairs rows core 0 core (core + 1) best there back before
  where
    there : (v x c d : ℕ) → IsClash rows v x c d → IsEarlierPair core 0 c d
        → IsEarlierPair core (core + 1) c d
    there v x c d clash (inl lt) = inl lt
    there v x c d clash (inr both) = absurd (omega (arith, both.1))

    back : (v x c d : ℕ) → IsClash rows v x c d → IsEarlierPair core (core + 1) c d → IsEarlierPair core 0 c d
    back v x c d clash (inl lt) = inl lt
    back v x c d clash (inr both) = absurd (omega (arith, both.0, both.1, clash.lower))

-- after its last pair the next core's turn comes
pub next_core : (rows : List Row) (core other : ℕ) (best : Option Clash) → length rows ≤ other
    → IsFirstBefore rows core other best → IsFirstBefore rows (core + 1) 0 best
next_core rows core other best past before = same_pairs rows core other (core + 1) 0 best there back before
  where
    there : (v x c d : ℕ) → IsClash rows v x c d → IsEarlierPair core other c d
        → IsEarlierPair (core + 1) 0 c d
    there v x c d clash (inl lt) = inl (omega arith)
    there v x c d clash (inr both) = inl (omega (arith, both.0))

    back : (v x c d : ℕ) → IsClash rows v x c d → IsEarlierPair (core + 1) 0 c d
        → IsEarlierPair core other c d
    back v x c d clash (inl lt) = elim (cases_lt c core) [
      | inl less ↦ inl less
      | inr le ↦ inr (omega arith, (let within = owner_within rows d x v clash.there in omega arith))
    ]
    back v x c d clash (inr both) = absurd (omega (arith, both.1))

-- before the first pair there is no clash
pub no_pair_yet : (rows : List Row) → IsFirstBefore rows 0 0 None
no_pair_yet rows v x c d h = absurd (none c d h.earlier)
  where
    none : (c d : ℕ) → IsEarlierPair 0 0 c d → ⊥
    none c d (inl lt) = omega arith
    none c d (inr both) = omega (arith, both.1)

-- all pairs come before the count of cores
before_all : (rows : List Row) (count v x c d : ℕ) → length rows ≤ count → IsClash rows v x c d
    → IsClashBefore rows count 0 v x c d
before_all rows count v x c d all clash = record {
  clash = clash;
  earlier = inl (let within = owner_within rows c x v clash.here in omega arith);
}

-- after the last pair no clash means that the rows are apart
pub apart_if_none : (rows : List Row) (count : ℕ) → length rows ≤ count
    → IsFirstBefore rows count 0 None → Apart rows
apart_if_none rows count all none v place c d here there = elim (cases_eq c d) [
  | inl same ↦ same
  | inr ne ↦ elim (cases_lt c d) [
    | inl lt ↦ absurd (none v place c d
        (before_all rows count v place c d all (record { here = here; there = there; lower = lt })))
    | inr le ↦ absurd (none v place d c
        (before_all rows count v place d c all (record { here = there; there = here; lower = omega arith })))
  ]
]

-- a first clash of the pairs is the first of all
pub first_of_all : (rows : List Row) (count : ℕ) (first : Clash) → length rows ≤ count
    → IsFirstBefore rows count 0 (Some first)
    → IsFirstClash rows first.vcpu first.tick first.core first.other
first_of_all rows count first all before = record {
  among = before.among.clash;
  least_tick = λ w x c d clash. before.least_tick w x c d (before_all rows count w x c d all clash);
  least_core = λ w c d clash. before.least_core w c d (before_all rows count w first.tick c d all clash);
  least_other = λ w d clash. before.least_other w d
      (before_all rows count w first.tick first.core d all clash);
}

-- the two rows that the sweep of a pair is given
pub record ArePair (rows : List Row) (core other : ℕ) (a b : Row) : Type 0 where
  pub here : slice_get rows core ≡ Some a
  pub there : slice_get rows other ≡ Some b
  pub lower : core < other

-- the two rows that are swept are those of the two cores
pub are_pair : (rows : List Row) (core other : ℕ) (a b x y : Row) → core < other → other < length rows
    → x ≡ get_or rows core x → y ≡ get_or rows other y
    → a ≡ x → b ≡ y → ArePair rows core other a b
are_pair rows core other a b x y lower there at_x at_y is_a is_b = record {
  here = slice_get_read rows (length rows) core x refl (omega arith) at_x ∙ ap Some (sym is_a);
  there = slice_get_read rows (length rows) other y refl there at_y ∙ ap Some (sym is_b);
  lower = lower;
}

-- where the sweep finds no clash of two rows, their cores have none
pub no_clash : (rows : List Row) (core other : ℕ) (a b : Row) → ArePair rows core other a b
    → ((v x : ℕ) → MeetsAt a b v x → ⊥)
    → (v x : ℕ) → IsClash rows v x core other → ⊥
no_clash rows core other a b pair none v x clash = none v x
    (meets_from_clash rows core other v x a b pair.here pair.there clash)

-- no earlier clash of these cores
pub first_clash : (rows : List Row) (core other tick : ℕ) (a b : Row) → ArePair rows core other a b
    → MeetNoneBefore a b tick
    → (v x : ℕ) → IsClash rows v x core other → tick ≤ x
first_clash rows core other tick a b pair none v x clash = none v x
    (meets_from_clash rows core other v x a b pair.here pair.there clash)

-- where the sweep finds a clash of two rows, their cores have it there
pub is_clash : (rows : List Row) (core other v x : ℕ) (a b : Row) → ArePair rows core other a b
    → MeetsAt a b v x
    → IsClash rows v x core other
is_clash rows core other v x a b pair meets = clash_from_meeting rows core other v x a b pair.here pair.there
    pair.lower meets
