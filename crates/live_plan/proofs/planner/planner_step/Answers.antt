use Rattle.std.proofs.Common.{◌≡◌, ◌+◌, ◌<◌, ℕ, Bool, true, false, length, map, sym, ap, subst, ◌∙◌, arith}
use Rattle.live_plan.specs.Books.{IsMadeFor}
use Rattle.live_plan.specs.Finding.{is_stopped}
use Rattle.live_plan.specs.Mades.{MadeView}
use Rattle.live_plan.specs.Planners.{IsPlannerOf, PlannerView, PlansNext, planner_view}
use Rattle.live_plan.proofs.PlannersLemmas.{count_before, for_same, next_made, planned_next, stands_for, stands_on}
use Rattle.live_plan.proofs.planner.planner_step.Goals as goal
use Rattle.live_plan.proofs.planner.planner_step.Goals.{After-fill_from, After-put, In-Some}

-- the planner is one of the book, as it is inside
of : (c : In-Some) → IsPlannerOf c.args.book.now (planner_view (map (λ made. made.value) c.planner.inside.left.items)
    c.planner.inside.standing c.planner.inside.next c.planner.inside.stopped)
of c = subst (IsPlannerOf c.args.book.now) (sym c.planner.view_is) c.requires.planner

-- its last value is for the next change
mine : (c : In-Some) → IsMadeFor c.args.book.now c.planner.inside.next c.in-Some.made.value
mine c =
    let inside = c.planner.inside in
    next_made (λ made. made.value) c.args.book.now inside.left.items c.pop.new.self.items c.in-Some.made inside.standing inside.next
    inside.stopped c.in-Some.ensures.items (of c)

-- the filled value is for the next change too
for_it : (c : After-fill_from) → IsMadeFor c.args.book.now c.planner.inside.next c.fill_from.new.self
for_it c =
    let was = c.deref_mut.ensures.value in
    let f = c.fill_from.ensures in
    for_same c.args.book.now c.planner.inside.next c.in-Some.made.value c.fill_from.new.self (mine (goal.at.After-fill_from c).In-Some)
    (f.change ∙ ap (λ (m : MadeView). m.change) was) (f.host ∙ ap (λ (m : MadeView). m.host) was)
    (f.edits ∙ ap (λ (m : MadeView). m.edits) was)

-- whether it is out of memory is what was asked
found : (c : After-put) → is_stopped c.fill_from.new.self.found ≡ c.is_stopped-stopped.result
found c = sym (c.is_stopped-stopped.ensures ∙ ap is_stopped c.found.ensures.found
    ∙ ap (λ (m : MadeView). is_stopped m.found) c.deref.ensures)

-- the planner that has planned the change
abbrev after : After-put → PlannerView
after c = planner_view (map (λ made. made.value) c.pop.new.self.items) c.fill_from.new.standing (c.planner.inside.next + 1) c.is_stopped-stopped.result

-- it is one of the book
of_after : (c : After-put) → IsPlannerOf c.args.book.now (after c)
of_after c =
    let p = goal.at.After-put c in
    let b = c.args.book.now in
    let inside = c.planner.inside in
    planned_next (λ made. made.value) b inside.left.items c.pop.new.self.items c.in-Some.made inside.standing
    c.fill_from.new.standing inside.next inside.stopped c.is_stopped-stopped.result c.in-Some.ensures.items (of p.In-Some)
    (λ going. stands_on b inside.next c.fill_from.new.self c.fill_from.new.standing (for_it p.After-fill_from) (c.fill_from.ensures.stands (found c ∙ going)))

-- what the step did
told : (c : After-put) (stopped : Bool) → c.is_stopped-stopped.result ≡ stopped
    → PlansNext c.args.book.now c.args.planner.now c.args.shelf.now c.planner.inside.next stopped (after c) c.put.new.self
told c stopped is = record {
  going = ap (λ (p : PlannerView). p.stopped) (sym c.planner.view_is) ∙ c.if-planner.false;
  change_is = ap (λ (p : PlannerView). p.next) c.planner.view_is;
  next = ap (λ (p : PlannerView). p.next + 1) c.planner.view_is;
  stopped_is = is;
  made = c.fill_from.new.self;
  for_it = for_it (goal.at.After-put c).After-fill_from;
  first = c.put.result;
  put = c.put.ensures.puts;
  is = c.put.ensures.puts.stopped ∙ found c ∙ is;
}

pub fill_from-requires : goal.fill_from-requires
fill_from-requires c =
    let p = goal.at.fill_from-requires c in
    stands_for c.args.book.now c.planner.inside.next c.deref_mut.result.now c.planner.inside.standing
    (subst (IsMadeFor c.args.book.now c.planner.inside.next) (sym c.deref_mut.ensures.value) (mine p.In-Some)) ((of p.In-Some).stands c.if-planner.false)

pub put-requires : goal.put-requires
put-requires c =
    let p = goal.at.put-requires c in
    let place : c.planner.inside.next ≡ c.args.shelf.now.puts = ap (λ (q : PlannerView). q.next) c.planner.view_is ∙ sym c.requires.puts in
    let count = count_before (λ made. made.value) c.planner.inside.left.items c.pop.new.self.items c.in-Some.made c.in-Some.ensures.items in
    let some : c.args.shelf.now.puts < length c.args.book.now.changes = omega (arith, (of p.In-Some).count, count, place) in
    let value = subst (λ (k : ℕ). IsMadeFor c.args.book.now k c.fill_from.new.self) place (for_it p.After-fill_from) in
    record { book = c.requires.shelf; change = some; value = value }

pub overflow_add-planner : goal.overflow_add-planner
overflow_add-planner c = (let first = of (goal.at.overflow_add-planner c).In-Some in omega (arith, first.count, first.few))

pub returns-then-stopped-clause-planner : goal.returns-then-stopped-clause-planner
returns-then-stopped-clause-planner c = of_after (goal.at.returns-then-stopped-clause-planner c).After-put

pub returns-then-stopped-clause-told : goal.returns-then-stopped-clause-told
returns-then-stopped-clause-told c = told (goal.at.returns-then-stopped-clause-told c).After-put true c.if-stopped.true

pub returns-else-stopped-clause-planner : goal.returns-else-stopped-clause-planner
returns-else-stopped-clause-planner c = of_after (goal.at.returns-else-stopped-clause-planner c).After-put

pub returns-else-stopped-clause-told : goal.returns-else-stopped-clause-told
returns-else-stopped-clause-told c = told (goal.at.returns-else-stopped-clause-told c).After-put false c.if-stopped.false
