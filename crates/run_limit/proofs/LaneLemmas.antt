-- What a row shows of a core's vCPUs from a segment on.
use Rattle.std.proofs.Common.{◌≡◌, ◌≢◌, ◌⊎◌, ℕ, ◌+◌, ◌<◌, ◌≤◌, List, length, map, get_or, set, None, Some, inl, inr, refl, ap, sym, ◌∙◌, arith}
use Rattle.std.specs.Prelude.{slice_get}
use Rattle.std.specs.Option.{option_map}
use Rattle.std.proofs.lemmas.Bool.{cases_eq, cases_lt}
use Rattle.std.proofs.lemmas.List.{length-map}
use Rattle.std.proofs.lemmas.Option.{get_or_from_slice_get, same_Some, slice_get-get_or, slice_get-map, slice_get_read}
use Rattle.tab_core.proofs.Lists.{set_here, set_other}
use Rattle.tab_core.specs.declared.TheConstants.{ROUND}
use Rattle.table_form.specs.declared.segment.Segment.{Segment}
use Rattle.table_form.specs.Tables.Homes.{IsHome}
use Rattle.table_form.specs.Tables.Plans.{PlanView}
use Rattle.table_form.specs.Tables.Rows.{Row, RisesTo, cells_from}
use Rattle.table_form.specs.Tables.Segments.{SegmentView, segment_view, segments_from}
use Rattle.table_form.specs.Tables.Serves.{owner_at}
use Rattle.table_form.proofs.RowLemmas.{length-cells_from}
use Rattle.run_limit.specs.declared.lanes.Lane.{Lane}
use Rattle.run_limit.specs.declared.lanes.Lanes.{Lanes}
use Rattle.run_limit.specs.Inside.Walks.{ArePassed, HasLane, IsLane, IsListed, Shows, passed}
use Rattle.run_limit.proofs.PassedLemmas.{ends_within, owner_passed, passed_end, passed_ends, passed_inside, passed_more, passed_over, passed_same, row_maximal}

-- what is read at an index is what is listed there
pub item_here : {X : Type 0} (xs : List X) (i k : ℕ) (d x : X) → k ≡ i → slice_get xs k ≡ Some x → get_or xs i d ≡ x
item_here xs i k d x e at = get_or_from_slice_get xs i x d (ap (slice_get xs) (sym e) ∙ at)

-- a segment as what it says
pub viewed : (ss : List Segment) (i : ℕ) (s : Segment) → slice_get ss i ≡ Some s
    → slice_get (map segment_view ss) i ≡ Some (segment_view s)
viewed ss i s at = slice_get-map segment_view ss i ∙ ap (option_map segment_view) at

-- the segments are those of a whole row
pub record AreOfRow (rows : List Row) (d : ℕ) (row : Row) (ss : List Segment) : Type 0 where
  pub is : slice_get rows d ≡ Some row
  pub size : length row ≡ ROUND
  pub views : map segment_view ss ≡ segments_from 0 row

-- segments that rise to the round are of a whole row
pub whole_size : (row : Row) (ss : List Segment) → cells_from 0 ss ≡ row → RisesTo 0 ss ROUND → length row ≡ ROUND
whole_size row ss cells rises =
    (let size = length-cells_from 0 ss ROUND rises in let same = ap length cells in omega arith)

-- as a row that is read says of its segments
pub of_row : (rows list : List Row) (d : ℕ) (row : Row) (ss : List Segment) → d < length rows
    → row ≡ get_or list d row → list ≡ rows → cells_from 0 ss ≡ row → RisesTo 0 ss ROUND
    → map segment_view ss ≡ segments_from 0 row → AreOfRow rows d row ss
of_row rows list d row ss lt read same cells rises views = record {
  is = slice_get_read rows (length rows) d row refl lt (read ∙ ap (λ (l : List Row). get_or l d row) same);
  size = whole_size row ss cells rises;
  views = views;
}

-- a segment as the row's
pub view_at : (rows : List Row) (d i : ℕ) (row : Row) (ss : List Segment) (s : Segment) → AreOfRow rows d row ss
    → slice_get ss i ≡ Some s → slice_get (segments_from 0 row) i ≡ Some (segment_view s)
view_at rows d i row ss s of at =
    ap (λ (ts : List SegmentView). slice_get ts i) (sym of.views) ∙ viewed ss i s at

-- there are as many
pub view_count : (rows : List Row) (d : ℕ) (row : Row) (ss : List Segment) → AreOfRow rows d row ss
    → length (segments_from 0 row) ≡ length ss
view_count rows d row ss of = ap length (sym of.views) ∙ length-map ss segment_view

-- a tick is in one of them
pub next_inside : (rows : List Row) (d place : ℕ) (row : Row) (ss : List Segment) → AreOfRow rows d row ss
    → place < ROUND → passed (segments_from 0 row) place < length ss
next_inside rows d place row ss of lt =
    (let inside = passed_inside 0 (segments_from 0 row) ROUND place (row_maximal row of.size) (omega arith) lt in
    let count = view_count rows d row ss of in omega arith)

-- the next segment ends after the place
pub next_after : (rows : List Row) (d next place : ℕ) (row : Row) (ss : List Segment) (s : Segment)
    → AreOfRow rows d row ss → slice_get ss next ≡ Some s → next ≡ passed (segments_from 0 row) place
    → place < s.end
next_after rows d next place row ss s of at is = elim (cases_lt place s.end) [
  | inl lt ↦ lt
  | inr le ↦ absurd
      (let over = passed_over 0 (segments_from 0 row) ROUND next place (segment_view s) (row_maximal row of.size)
      (view_at rows d next row ss s of at) le in omega arith)
]

-- each segment from the next one on ends after the place
pub last_after : (rows : List Row) (d next place last : ℕ) (row : Row) (ss : List Segment) (s : Segment)
    → AreOfRow rows d row ss → slice_get ss last ≡ Some s → next ≡ passed (segments_from 0 row) place
    → next ≤ last → place < s.end
last_after rows d next place last row ss s of at is low = elim (cases_lt place s.end) [
  | inl lt ↦ lt
  | inr le ↦ absurd
      (let over = passed_over 0 (segments_from 0 row) ROUND last place (segment_view s) (row_maximal row of.size)
      (view_at rows d last row ss s of at) le in omega arith)
]

-- after a segment's end the next one is next
pub next_passed : (rows : List Row) (d i : ℕ) (row : Row) (ss : List Segment) (s : Segment) → AreOfRow rows d row ss
    → slice_get ss i ≡ Some s → ArePassed rows d s.end (i + 1)
next_passed rows d i row ss s of at other there =
    let same : row ≡ other = same_Some {A = Row} row other (sym of.is ∙ there) in
    sym (passed_end 0 (segments_from 0 row) ROUND i (segment_view s) (row_maximal row of.size)
    (view_at rows d i row ss s of at)) ∙ ap (λ (r : Row). passed (segments_from 0 r) s.end) same

-- no segment ends after the round
pub end_within : (rows : List Row) (d i : ℕ) (row : Row) (ss : List Segment) (s : Segment) → AreOfRow rows d row ss
    → slice_get ss i ≡ Some s → s.end ≤ ROUND
end_within rows d i row ss s of at = ends_within 0 (segments_from 0 row) ROUND i (segment_view s)
    (row_maximal row of.size) (view_at rows d i row ss s of at)

-- the segments are the row's, and the next one is one of them
pub record IsNext (rows : List Row) (d next place : ℕ) (row : Row) (ss : List Segment) : Type 0 where
  pub of : AreOfRow rows d row ss
  pub is : next ≡ passed (segments_from 0 row) place
  pub inside : next < length ss

-- as the row's count of passed segments says
pub is_next : (rows : List Row) (d next place : ℕ) (row : Row) (ss : List Segment) → AreOfRow rows d row ss
    → place < ROUND → ArePassed rows d place next → IsNext rows d next place row ss
is_next rows d next place row ss of lt are = record {
  of = of;
  is = are row of.is;
  inside = (let is = are row of.is in let inside = next_inside rows d place row ss of lt in omega arith);
}

-- a segment of the core's vCPU shows it
pub shows_owner : (plan : PlanView) (c d next place x : ℕ) (row : Row) (ss : List Segment) (s : Segment)
    → AreOfRow plan.rows d row ss → slice_get ss next ≡ Some s → next ≡ passed (segments_from 0 row) place
    → ((v : ℕ) → s.owner ≡ Some v → IsHome plan.homes c v) → place ≤ x → x < s.end
    → Shows plan c x d s.owner
shows_owner plan c d next place x row ss s of at is home low lt =
    let view = view_at plan.rows d next row ss s of at in
    let owner : owner_at plan.rows d x ≡ s.owner =
    owner_passed plan.rows d row next x (segment_view s) of.is of.size view
    (passed_same (segments_from 0 row) next place x (segment_view s) view (sym is) low lt) in
    record { home = home; stands = λ v e. owner ∙ e; only = λ v there e. sym owner ∙ e }

-- none of the segments up to the last shows one of the core's vCPUs
pub shows_nobody : (plan : PlanView) (c d next place last x : ℕ) (row : Row) (ss : List Segment) (s : Segment)
    → AreOfRow plan.rows d row ss → slice_get ss last ≡ Some s → next ≡ passed (segments_from 0 row) place
    → ((k v : ℕ) (t : Segment) → next ≤ k → k ≤ last → slice_get ss k ≡ Some t → t.owner ≡ Some v
    → IsHome plan.homes c v → ⊥)
    → place ≤ x → x < s.end → Shows plan c x d None
shows_nobody plan c d next place last x row ss s of at is others low lt =
    let ts = segments_from 0 row in
    let k : ℕ = passed ts x in
    let whole = end_within plan.rows d last row ss s of at in
    let inside : k < length ss = next_inside plan.rows d x row ss of (omega arith) in
    let t : Segment = get_or ss k s in
    let there : slice_get ss k ≡ Some t = slice_get-get_or ss k s inside in
    let owner : owner_at plan.rows d x ≡ t.owner =
    owner_passed plan.rows d row k x (segment_view t) of.is of.size (view_at plan.rows d k row ss t of there) refl in
    let first : next ≤ k = (let more = passed_more ts place x low in omega arith) in
    let most : k ≤ last = elim (cases_lt last k) [
      | inl over ↦ absurd (let le = passed_ends ts last x (segment_view s)
          (view_at plan.rows d last row ss s of at) over in let end : s.end ≤ x = le in omega arith)
      | inr le ↦ le
    ] in
    record {
      home = λ v e. absurd cc;
      stands = λ v e. absurd cc;
      only = λ v home e. absurd (others k v t first most there (sym owner ∙ e) home);
    }

-- ---- lanes in their list

-- a lane is known at a later place too
pub lane_later : (plan : PlanView) (c from place : ℕ) (lane : Lane) → IsLane plan c from lane → from ≤ place
    → place < lane.end → IsLane plan c place lane
lane_later plan c from place lane is low lt = record {
  there = is.there;
  other = is.other;
  after = lt;
  within = is.within;
  next = is.next;
  shows = λ x le less. is.shows x (omega arith) less;
}

-- with a lane in place of another
abbrev pub put : Lanes → ℕ → Lane → Lanes
put lanes i new = record { items = set lanes.items i new; count = lanes.count }

-- each is that one, or was there before
pub put_cases : (lanes : Lanes) (i k : ℕ) (new lane : Lane) → i < length lanes.items
    → IsListed (put lanes i new) k lane → ((k ≡ i) × (new ≡ lane)) ⊎ ((k ≢ i) × IsListed lanes k lane)
put_cases lanes i k new lane room listed = elim (cases_eq k i) [
  | inl here ↦ inl (
    here,
    same_Some {A = Lane} new lane (sym (set_here lanes.items i new room)
        ∙ (ap (slice_get (set lanes.items i new)) (sym here) ∙ listed.is)),
  )
  | inr ne ↦ inr (
    ne,
    record {
      counted = listed.counted;
      is = sym (set_other lanes.items i k new ne) ∙ listed.is;
    },
  )
]

-- a lane of the same row leaves each row its lane
pub put_keeps : (lanes : Lanes) (i d : ℕ) (new other : Lane) → i < length lanes.items → i < lanes.count
    → new.row ≡ (get_or lanes.items i other).row → HasLane lanes d → HasLane (put lanes i new) d
put_keeps lanes i d new other room lt row has = elim (cases_eq has.at i) [
  | inl here ↦ record {
    at = i;
    lane = new;
    listed = record { counted = lt; is = set_here lanes.items i new room };
    row = row ∙ (ap (λ (l : Lane). l.row) (item_here lanes.items i has.at other has.lane here has.listed.is)
        ∙ has.row);
  }
  | inr ne ↦ record {
    at = has.at;
    lane = has.lane;
    listed = record {
      counted = has.listed.counted;
      is = set_other lanes.items i has.at new ne ∙ has.listed.is;
    };
    row = has.row;
  }
]

-- with a lane more
abbrev pub pushed : Lanes → Lane → Lanes
pushed lanes new = record { items = set lanes.items lanes.count new; count = lanes.count + 1 }

-- each is that one, or was there before
pub pushed_cases : (lanes : Lanes) (k : ℕ) (new lane : Lane) → lanes.count < length lanes.items
    → IsListed (pushed lanes new) k lane → (new ≡ lane) ⊎ IsListed lanes k lane
pushed_cases lanes k new lane room listed = elim (cases_eq k lanes.count) [
  | inl here ↦ inl (same_Some {A = Lane} new lane (sym (set_here lanes.items lanes.count new room)
      ∙ (ap (slice_get (set lanes.items lanes.count new)) (sym here) ∙ listed.is)))
  | inr ne ↦ inr (record {
    counted = (let lt = listed.counted in omega arith);
    is = sym (set_other lanes.items lanes.count k new ne) ∙ listed.is;
  })
]

-- each row keeps its lane
pub pushed_keeps : (lanes : Lanes) (d : ℕ) (new : Lane) → HasLane lanes d → HasLane (pushed lanes new) d
pushed_keeps lanes d new has =
    let lt = has.listed.counted in
    record {
      at = has.at;
      lane = has.lane;
      listed = record {
        counted = omega arith;
        is = set_other lanes.items lanes.count has.at new (omega arith) ∙ has.listed.is;
      };
      row = has.row;
    }

-- the row of the lane that is pushed has a lane
pub pushed_has : (lanes : Lanes) (d : ℕ) (new : Lane) → lanes.count < length lanes.items → new.row ≡ d
    → HasLane (pushed lanes new) d
pushed_has lanes d new room row = record {
  at = lanes.count;
  lane = new;
  listed = record { counted = omega arith; is = set_here lanes.items lanes.count new room };
  row = row;
}
