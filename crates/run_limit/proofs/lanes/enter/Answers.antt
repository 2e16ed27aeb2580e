use Rattle.std.proofs.Common.{◌≡◌, ◌+◌, ◌-◌, ◌≤◌, ℕ, List, length, get_or, Option, Some, inl, inr, refl, ap, subst, sym, ◌∙◌, arith, rules}
use Rattle.std.specs.Prelude.{slice_get}
use Rattle.std.proofs.lemmas.Bool.{cases_eq}
use Rattle.std.proofs.lemmas.Option.{slice_get-get_or, slice_get_read}
use Rattle.table_form.specs.declared.segment.Segment.{Segment}
use Rattle.table_form.specs.Tables.Homes.{IsHome}
use Rattle.table_form.specs.Tables.Rows.{Row}
use Rattle.table_form.specs.Tables.Views.{plan_view}
use Rattle.run_limit.proofs.LaneLemmas.{end_within, item_here, is_next, last_after, next_after, next_passed, of_row, shows_nobody, shows_owner}
use Rattle.run_limit.specs.Inside.Walks.{ArePassed, Shows}
use Rattle.run_limit.proofs.lanes.enter.Goals as goal

pub offset_bounds-segments-next : goal.offset_bounds-segments-next
offset_bounds-segments-next c =
    let plan = plan_view c.args.plan.now in
    let lane = c.args.lane.now in
    let rows : List Row = plan.rows in
    let row = c.index-items-lane.result in
    let ss = c.segments-segments.result.now in
    let facts = c.segments-segments.ensures in
    let is = is_next rows lane.row lane.next c.args.place row ss
    (of_row rows c.items.result.now lane.row row ss c.requires.there c.index-items-lane.is c.items.ensures.same
    facts.cells facts.rises facts.maximal) c.requires.in_round c.requires.next in
    let lt = is.inside in
    search rules

pub bounds-segments-next : goal.bounds-segments-next
bounds-segments-next c =
    let plan = plan_view c.args.plan.now in
    let lane = c.args.lane.now in
    let rows : List Row = plan.rows in
    let row = c.index-items-lane.result in
    let ss = c.segments-segments.result.now in
    let facts = c.segments-segments.ensures in
    let is = is_next rows lane.row lane.next c.args.place row ss
    (of_row rows c.items.result.now lane.row row ss c.requires.there c.index-items-lane.is c.items.ensures.same
    facts.cells facts.rises facts.maximal) c.requires.in_round c.requires.next in
    is.inside

pub overflow_add-lane : goal.overflow_add-lane
overflow_add-lane c =
    let plan = plan_view c.args.plan.now in
    let lane = c.args.lane.now in
    let rows : List Row = plan.rows in
    let row = c.index-items-lane.result in
    let ss = c.segments-segments.result.now in
    let facts = c.segments-segments.ensures in
    let is = is_next rows lane.row lane.next c.args.place row ss
    (of_row rows c.items.result.now lane.row row ss c.requires.there c.index-items-lane.is c.items.ensures.same
    facts.cells facts.rises facts.maximal) c.requires.in_round c.requires.next in
    let lt = is.inside in
    search rules

pub overflow_add-next : goal.overflow_add-next
overflow_add-next c =
    let plan = plan_view c.args.plan.now in
    let lane = c.args.lane.now in
    let rows : List Row = plan.rows in
    let row = c.index-items-lane.result in
    let ss = c.segments-segments.result.now in
    let facts = c.segments-segments.ensures in
    let is = is_next rows lane.row lane.next c.args.place row ss
    (of_row rows c.items.result.now lane.row row ss c.requires.there c.index-items-lane.is c.items.ensures.same
    facts.cells facts.rises facts.maximal) c.requires.in_round c.requires.next in
    let lt = is.inside in
    search rules

pub behind_others-behind-requires : goal.behind_others-behind-requires
behind_others-behind-requires c =
    let plan = plan_view c.args.plan.now in
    let lane = c.args.lane.now in
    let rows : List Row = plan.rows in
    let row = c.index-items-lane.result in
    let ss = c.segments-segments.result.now in
    let facts = c.segments-segments.ensures in
    let is = is_next rows lane.row lane.next c.args.place row ss
    (of_row rows c.items.result.now lane.row row ss c.requires.there c.index-items-lane.is c.items.ensures.same
    facts.cells facts.rises facts.maximal) c.requires.in_round c.requires.next in
    let lt = is.inside in
    omega arith

pub returns-then-is_of_core-clause-lane : goal.returns-then-is_of_core-clause-lane
returns-then-is_of_core-clause-lane c =
    let plan = plan_view c.args.plan.now in
    let lane = c.args.lane.now in
    let rows : List Row = plan.rows in
    let row = c.index-items-lane.result in
    let ss = c.segments-segments.result.now in
    let facts = c.segments-segments.ensures in
    let is = is_next rows lane.row lane.next c.args.place row ss
    (of_row rows c.items.result.now lane.row row ss c.requires.there c.index-items-lane.is c.items.ensures.same
    facts.cells facts.rises facts.maximal) c.requires.in_round c.requires.next in
    let next = lane.next in
    let first = c.index-segments-next.result in
    let at : slice_get ss next ≡ Some first =
    slice_get_read ss (length ss) next first refl is.inside c.index-segments-next.is in
    record {
      there = c.requires.there;
      other = c.requires.other;
      after = next_after rows lane.row next c.args.place row ss first is.of at is.is;
      within = end_within rows lane.row next row ss first is.of at;
      next = next_passed rows lane.row next row ss first is.of at;
      shows = λ x low lt. shows_owner plan c.args.core lane.row next c.args.place x row ss first is.of at is.is
          (λ v owner. subst (λ (hs : List (Option ℕ)). IsHome hs c.args.core v) c.items-homes.ensures.same
          (c.if-is_of_core.ensures.yes refl v owner)) low lt;
    }

pub returns-clause-lane : goal.returns-clause-lane
returns-clause-lane c =
    let plan = plan_view c.args.plan.now in
    let lane = c.args.lane.now in
    let rows : List Row = plan.rows in
    let row = c.index-items-lane.result in
    let ss = c.segments-segments.result.now in
    let facts = c.segments-segments.ensures in
    let is = is_next rows lane.row lane.next c.args.place row ss
    (of_row rows c.items.result.now lane.row row ss c.requires.there c.index-items-lane.is c.items.ensures.same
    facts.cells facts.rises facts.maximal) c.requires.in_round c.requires.next in
    let next = lane.next in
    let first = c.index-segments-next.result in
    let at : slice_get ss next ≡ Some first =
    slice_get_read ss (length ss) next first refl is.inside c.index-segments-next.is in
    let behind = c.behind_others-behind.ensures in
    let count = c.behind_others-behind.result in
    let last : ℕ = count - 1 in
    let s : Segment = get_or ss last c.index-segments-behind.result in
    let there : slice_get ss last ≡ Some s = slice_get-get_or ss last c.index-segments-behind.result
    (let a = behind.later in let b = behind.within in omega arith) in
    let e : last + 1 ≡ count = (let a = behind.later in omega arith) in
    let low : next ≤ last = (let a = behind.later in omega arith) in
    record {
      there = c.requires.there;
      other = c.requires.other;
      after = last_after rows lane.row next c.args.place last row ss s is.of there is.is low;
      within = end_within rows lane.row last row ss s is.of there;
      next = subst (ArePassed rows lane.row s.end) e (next_passed rows lane.row last row ss s is.of there);
      shows = λ x from lt. subst (Shows plan c.args.core x lane.row) (sym c.of-lane.ensures)
          (shows_nobody plan c.args.core lane.row next c.args.place last x row ss s is.of there is.is
          (λ k v t low' high got owner home. elim (cases_eq k next) [
            | inl here ↦ c.if-is_of_core.ensures.no refl v
                (ap (λ (u : Segment). u.owner)
                (c.index-segments-next.is ∙ item_here ss next k first t here got) ∙ owner)
                (subst (λ (hs : List (Option ℕ)). IsHome hs c.args.core v) (sym c.items-homes.ensures.same) home)
            | inr ne ↦ behind.others k v t (omega arith) (omega arith) got owner
                (subst (λ (hs : List (Option ℕ)). IsHome hs c.args.core v) (sym c.items-homes.ensures.same) home)
          ]) from lt);
    }
