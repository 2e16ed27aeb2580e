-- A walk over the places at which a core's vCPUs may come to other rows or leave them, and the spans up to there.
use Rattle.std.proofs.Common.{◌≡◌, ◌≢◌, ℕ, zero, suc, ◌+◌, ◌-◌, ◌<◌, ◌≤◌, length, Option, Some, inl, inr, refl, ap, subst, sym, ◌∙◌, arith}
use Rattle.std.specs.Prelude.{slice_get}
use Rattle.std.proofs.lemmas.Bool.{cases_lt}
use Rattle.tab_core.specs.declared.TheConstants.{ROUND}
use Rattle.table_form.specs.Tables.Plans.{PlanView}
use Rattle.table_form.specs.Tables.Rows.{Row}
use Rattle.table_form.specs.Tables.Segments.{segments_from}
use Rattle.table_form.specs.Tables.Serves.{cell_of, flat, owner_at}
use Rattle.table_form.specs.Tables.Spots.{HasSpans, IsAway, SameSpot}
use Rattle.table_form.proofs.SpotLemmas.{has_more, no_spans, same_spot, spot_through}
use Rattle.run_limit.specs.declared.lanes.Lane.{Lane}
use Rattle.run_limit.specs.declared.lanes.Lanes.{Lanes}
use Rattle.run_limit.specs.Inside.Walks.{AreAllLanes, AreBefore, AreLanes, AreSame, AreSpansCounted, EndFrom, IsHere, IsListed, Shows, WasHere, passed}
use Rattle.run_limit.proofs.PassedLemmas.{IsNewSegment, IsOldSegment, owner_of, row_cell, row_maximal, segment_cases}

-- ---- who is away

-- at the tick each lane's row shows the lane's owner
abbrev pub AreShown : PlanView → ℕ → ℕ → Lanes → Type 0
AreShown plan c x lanes = (at : ℕ) (lane : Lane) → IsListed lanes at lane
    → (lane.row ≢ c) × Shows plan c x lane.row lane.owner

-- from the place on, up to where the first one ends
pub lanes_show : (plan : PlanView) (c place next x : ℕ) (lanes : Lanes) → AreLanes plan c place lanes
    → EndFrom next lanes → place ≤ x → x < next → AreShown plan c x lanes
lanes_show plan c place next x lanes are end low lt at lane listed =
    let is = are at lane listed in
    let far : next ≤ lane.end = end at lane listed in
    (is.other, is.shows x low (omega arith))

-- a vCPU that a lane has is away
here_away : (plan : PlanView) (c x v : ℕ) (lanes : Lanes) → AreShown plan c x lanes → IsHere lanes v
    → IsAway plan c x v
here_away plan c x v lanes shown here =
    let is = shown here.at here.lane here.listed in
    record {
      home = is.1.home v here.owner;
      other = here.lane.row;
      elsewhere = is.0;
      stands = is.1.stands v here.owner;
    }

-- a vCPU that is away a lane has
away_here : (plan : PlanView) (c x v : ℕ) (lanes : Lanes) → AreAllLanes plan c lanes → AreShown plan c x lanes
    → IsAway plan c x v → IsHere lanes v
away_here plan c x v lanes all shown away =
    let lane = all away.other v x (λ e. away.elsewhere (sym e)) away.home away.stands in
    let is = shown lane.at lane.lane lane.listed in
    record {
      at = lane.at;
      lane = lane.lane;
      listed = lane.listed;
      owner = is.1.only v away.home (ap (λ (d : ℕ). owner_at plan.rows d x) lane.row ∙ away.stands);
    }

-- a vCPU that a lane had was away
was_away : (plan : PlanView) (c x v : ℕ) (lanes : Lanes) → AreBefore plan c x lanes
    → ((at : ℕ) (lane : Lane) → IsListed lanes at lane → lane.row ≢ c) → WasHere lanes v → IsAway plan c x v
was_away plan c x v lanes before other was =
    let is = before was.at was.lane was.listed in
    record {
      home = is.home v was.was;
      other = was.lane.row;
      elsewhere = other was.at was.lane was.listed;
      stands = is.stands v was.was;
    }

-- a vCPU that was away a lane had
away_was : (plan : PlanView) (c x v : ℕ) (lanes : Lanes) → AreAllLanes plan c lanes → AreBefore plan c x lanes
    → IsAway plan c x v → WasHere lanes v
away_was plan c x v lanes all before away =
    let lane = all away.other v x (λ e. away.elsewhere (sym e)) away.home away.stands in
    let is = before lane.at lane.lane lane.listed in
    record {
      at = lane.at;
      lane = lane.lane;
      listed = lane.listed;
      was = is.only v away.home (ap (λ (d : ℕ). owner_at plan.rows d x) lane.row ∙ away.stands);
    }

-- at both places the same vCPUs are away
pub record AreAwayAlike (plan : PlanView) (c x y : ℕ) : Type 0 where
  pub away : (v : ℕ) → IsAway plan c x v → IsAway plan c y v
  pub back : (v : ℕ) → IsAway plan c y v → IsAway plan c x v

-- where the lanes show one thing at both
pub shown_alike : (plan : PlanView) (c x y : ℕ) (lanes : Lanes) → AreAllLanes plan c lanes
    → AreShown plan c x lanes → AreShown plan c y lanes → AreAwayAlike plan c x y
shown_alike plan c x y lanes all one other = record {
  away = λ v a. here_away plan c y v lanes other (away_here plan c x v lanes all one a);
  back = λ v a. here_away plan c x v lanes one (away_here plan c y v lanes all other a);
}

-- where the lanes have whom they had
pub same_alike : (plan : PlanView) (c x y : ℕ) (lanes : Lanes) → AreAllLanes plan c lanes
    → AreBefore plan c x lanes → AreShown plan c y lanes → AreSame lanes → AreAwayAlike plan c x y
same_alike plan c x y lanes all before shown same = record {
  away = λ v a. here_away plan c y v lanes shown (same.stay v (away_was plan c x v lanes all before a));
  back = λ v a. was_away plan c x v lanes before (λ at lane listed. (shown at lane listed).0)
      (same.are_old v (away_here plan c y v lanes all shown a));
}

-- only where the spot stays have the lanes whom they had
pub alike_same : (plan : PlanView) (c x y : ℕ) (lanes : Lanes) → AreAllLanes plan c lanes
    → AreBefore plan c x lanes → AreShown plan c y lanes → SameSpot plan c x y → AreSame lanes
alike_same plan c x y lanes all before shown same = record {
  stay = λ v was. away_here plan c y v lanes all shown (same.away v
      (was_away plan c x v lanes before (λ at lane listed. (shown at lane listed).0) was));
  are_old = λ v here. away_was plan c x v lanes all before (same.back v (here_away plan c y v lanes shown here));
}

-- ---- the spans up to a place

-- alike is alike both ways
spot_back : (plan : PlanView) (c x y : ℕ) → SameSpot plan c x y → SameSpot plan c y x
spot_back plan c x y same = record { owner = sym same.owner; away = same.back; back = same.away }

-- up to the place the core's row has so many spans with the one that isn't known to end
pub record IsCounted (plan : PlanView) (c place count : ℕ) : Type 0 where
  pub begin : ℕ
  pub spans : AreSpansCounted plan c place begin count

-- the first span begins with the round
pub counted_first : (plan : PlanView) (c : ℕ) → IsCounted plan c 1 1
counted_first plan c = record {
  begin = 0;
  spans = record {
    before = 0;
    spans = no_spans plan c;
    count_is = refl;
    begun = omega arith;
    few = omega arith;
    alike = λ x low lt. same_spot plan c 0 x
        (λ d. ap (owner_at plan.rows d) (let is : 0 ≡ x = omega arith in is));
  };
}

-- it goes on over a place that shows the same
pub counted_more : (plan : PlanView) (c place count : ℕ) → IsCounted plan c place count
    → SameSpot plan c (place - 1) place → IsCounted plan c (place + 1) count
counted_more plan c place count so_far same =
    let was = so_far.spans in
    let first = so_far.begin in
    record {
      begin = first;
      spans = record {
        before = was.before;
        spans = was.spans;
        count_is = was.count_is;
        begun = (let lt = was.begun in omega arith);
        few = was.few;
        alike = λ x low lt. elim (cases_lt x place) [
          | inl inside ↦ was.alike x low inside
          | inr later ↦
              let here : place ≡ x = omega arith in
              let begun = was.begun in
              subst (SameSpot plan c first) here
              (spot_through plan c first (place - 1) place
              (was.alike (place - 1) (omega arith) (omega arith)) same)
        ];
      };
    }

-- a span begins at a place that shows something else
pub counted_new : (plan : PlanView) (c place count : ℕ) → IsCounted plan c place count → place < ROUND
    → (SameSpot plan c (place - 1) place → ⊥) → IsCounted plan c (place + 1) (count + 1)
counted_new plan c place count so_far in_round unlike =
    let was = so_far.spans in
    let first = so_far.begin in
    let begun = was.begun in
    record {
      begin = place;
      spans = record {
        before = was.before + 1;
        spans = has_more plan c first was.before place was.spans (record {
          after = begun;
          within = omega arith;
          alike = was.alike;
          maximal = inr (λ same.
              unlike (spot_through plan c (place - 1) first place
              (spot_back plan c first (place - 1) (was.alike (place - 1) (omega arith) (omega arith))) same));
        });
        count_is = (let is = was.count_is in omega arith);
        begun = omega arith;
        few = (let few = was.few in omega arith);
        alike = λ x low lt. same_spot plan c place x
            (λ d. ap (owner_at plan.rows d) (let is : place ≡ x = omega arith in is));
      };
    }

-- with the round the last span ends
pub counted_whole : (plan : PlanView) (c count : ℕ) → IsCounted plan c ROUND count → HasSpans plan c ROUND count
counted_whole plan c count so_far =
    let was = so_far.spans in
    subst (λ (n : ℕ). HasSpans plan c ROUND n) (sym was.count_is)
    (has_more plan c so_far.begin was.before ROUND was.spans (record {
      after = was.begun;
      within = omega arith;
      alike = was.alike;
      maximal = inl refl;
    }))

-- ---- the core's own row

-- the core's own row is whole
pub record IsOwnRow (plan : PlanView) (c : ℕ) (row : Row) : Type 0 where
  pub is : slice_get plan.rows c ≡ Some row
  pub size : length row ≡ ROUND

-- at a tick that begins a segment the spot is another one
own_new : (plan : PlanView) (c x : ℕ) (row : Row) → IsOwnRow plan c row
    → IsNewSegment 0 (segments_from 0 row) x → SameSpot plan c (x - 1) x → ⊥
own_new plan c x row own new same = new.other
    (sym (owner_of plan.rows c (x - 1) row new.was own.is (row_cell row (x - 1) ∙ new.before))
    ∙ (same.owner ∙ owner_of plan.rows c x row new.owner own.is (row_cell row x ∙ new.here)))

-- at another one it shows the same owner
own_old : (plan : PlanView) (c x : ℕ) (row : Row) → IsOwnRow plan c row
    → IsOldSegment 0 (segments_from 0 row) x → owner_at plan.rows c (x - 1) ≡ owner_at plan.rows c x
own_old plan c x row own old =
    ap (λ (r : Option Row). cell_of r (x - 1)) own.is
    ∙ (ap flat (row_cell row (x - 1) ∙ (old.same ∙ sym (row_cell row x)))
    ∙ sym (ap (λ (r : Option Row). cell_of r x) own.is))

-- one owner and one set of vCPUs away are one spot
spot_of : (plan : PlanView) (c x y : ℕ) → owner_at plan.rows c x ≡ owner_at plan.rows c y
    → AreAwayAlike plan c x y → SameSpot plan c x y
spot_of plan c x y owner away = record { owner = owner; away = away.away; back = away.back }

-- as many spans as segments begin in a tick at which nobody comes or goes
pub counted_tick : (plan : PlanView) (c place more : ℕ) (row : Row) → IsOwnRow plan c row → 0 < place
    → place < ROUND → AreAwayAlike plan c (place - 1) place
    → IsCounted plan c place (1 + passed (segments_from 0 row) (place - 1) + more)
    → IsCounted plan c (place + 1) (1 + passed (segments_from 0 row) place + more)
counted_tick plan c place more row own some in_round away so_far =
    let ts = segments_from 0 row in
    elim (segment_cases 0 ts ROUND place (row_maximal row own.size) some in_round) [
      | inl new ↦
          let n = new.counts in
          subst (IsCounted plan c (place + 1))
          (let e : 1 + passed ts (place - 1) + more + 1 ≡ 1 + passed ts place + more = omega arith in e)
          (counted_new plan c place (1 + passed ts (place - 1) + more) so_far in_round
          (own_new plan c place row own new))
      | inr old ↦
          subst (IsCounted plan c (place + 1))
          (let n = old.counts in
          let e : 1 + passed ts (place - 1) + more ≡ 1 + passed ts place + more = omega arith in e)
          (counted_more plan c place (1 + passed ts (place - 1) + more) so_far
          (spot_of plan c (place - 1) place (own_old plan c place row own old) away))
    ]

-- many ticks in which nobody comes or leaves add no more than their own segments
pub counted_run : (plan : PlanView) (c from n to more : ℕ) (row : Row) → IsOwnRow plan c row → to ≡ from + n
    → to < ROUND → ((x : ℕ) → from < x → x ≤ to → AreAwayAlike plan c (x - 1) x)
    → IsCounted plan c (from + 1) (1 + passed (segments_from 0 row) from + more)
    → IsCounted plan c (to + 1) (1 + passed (segments_from 0 row) to + more)
counted_run plan c from zero to more row own is in_round away so_far =
    subst (λ (x : ℕ). IsCounted plan c (x + 1) (1 + passed (segments_from 0 row) x + more))
    (let e : from ≡ to = omega arith in e) so_far
counted_run plan c from (suc n) to more row own is in_round away so_far =
    let before = counted_run plan c from n (to - 1) more row own (omega arith) (omega arith)
    (λ x low le. away x low (omega arith)) so_far in
    counted_tick plan c to more row own (omega arith) in_round (away to (omega arith) (omega arith))
    (subst (λ (x : ℕ). IsCounted plan c x (1 + passed (segments_from 0 row) (to - 1) + more))
    (let e : to - 1 + 1 ≡ to = omega arith in e) before)

-- at a place where the own row's segment ends a span begins
pub counted_end : (plan : PlanView) (c place more : ℕ) (row : Row) → IsOwnRow plan c row → 0 < place
    → place < ROUND → passed (segments_from 0 row) place ≡ passed (segments_from 0 row) (place - 1) + 1
    → IsCounted plan c place (1 + passed (segments_from 0 row) (place - 1) + more)
    → IsCounted plan c (place + 1) (1 + passed (segments_from 0 row) place + more)
counted_end plan c place more row own some in_round ends so_far =
    let ts = segments_from 0 row in
    elim (segment_cases 0 ts ROUND place (row_maximal row own.size) some in_round) [
      | inl new ↦
          subst (IsCounted plan c (place + 1))
          (let e : 1 + passed ts (place - 1) + more + 1 ≡ 1 + passed ts place + more = omega arith in e)
          (counted_new plan c place (1 + passed ts (place - 1) + more) so_far in_round
          (own_new plan c place row own new))
      | inr old ↦ absurd (let n = old.counts in omega arith)
    ]

-- where it goes on, one begins where somebody came or went
pub counted_change : (plan : PlanView) (c place more : ℕ) (row : Row) → IsOwnRow plan c row
    → place < ROUND → passed (segments_from 0 row) place ≡ passed (segments_from 0 row) (place - 1)
    → (SameSpot plan c (place - 1) place → ⊥)
    → IsCounted plan c place (1 + passed (segments_from 0 row) (place - 1) + more)
    → IsCounted plan c (place + 1) (1 + passed (segments_from 0 row) place + (more + 1))
counted_change plan c place more row own in_round goes_on unlike so_far =
    let ts = segments_from 0 row in
    subst (IsCounted plan c (place + 1))
    (let e : 1 + passed ts (place - 1) + more + 1 ≡ 1 + passed ts place + (more + 1) = omega arith in e)
    (counted_new plan c place (1 + passed ts (place - 1) + more) so_far in_round unlike)
