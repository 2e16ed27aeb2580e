use Rattle.std.proofs.Common.{◌≡◌, ◌<◌, ℕ, Option, None, Some, length, refl, sym, ap, subst, ◌∙◌, arith}
use Rattle.std.proofs.lemmas.Option.{slice_get_read}
use Rattle.table_form.specs.Tables.Views.{plan_view}
use Rattle.live_plan.specs.Actors.{IsLastChange}
use Rattle.live_plan.specs.Finding.{IsFoundOf, is_stopped}
use Rattle.live_plan.proofs.FindingLemmas.{found_in_book}
use Rattle.live_plan.proofs.SeekingLemmas.{never_refused, slice_at}
use Rattle.live_plan.proofs.seeking.seek.Given.{Over}
use Rattle.live_plan.proofs.seeking.seek.Goals as goal
use Rattle.live_plan.proofs.seeking.seek.Goals.{After-found, In_ok-take_up}

-- what was taken up is the last change that was planned, if any
last : (g : Over) (c : In_ok-take_up g) (planned : Option ℕ) → c.take_up.new.taken.planned ≡ planned → IsLastChange c.args.book.now c.args.changes planned
last g c planned is =
    let e = c.in_ok-take_up.ensures in
    subst (λ (k : ℕ). IsLastChange c.args.book.now k planned) e.ok (subst (IsLastChange c.args.book.now c.take_up.new.taken.changes) is e.taken.last)

-- what was found is of it
told : (g : Over) (c : After-found g) → IsFoundOf c.args.book.now.host c.args.book.now.changes c.in-Some.change c.found.result.now
told g c = found_in_book c.args.book.now c.in-Some.change c.in-Some-look.made.now c.found.result.now
    c.in-Some-look.ensures.for_it c.found.ensures.told c.found.ensures.found

pub unreachable-requires : goal.unreachable-requires
unreachable-requires g c =
    let b = c.args.book.now in
    let i = c.in-Some.change in
    never_refused b c.args.changes i c.in-Refused.outcome (last g (goal.at.unreachable-requires g c).In_ok-take_up (Some i) c.in-Some.is)
    (subst (IsFoundOf b.host b.changes i) c.in-Refused.is (told g (goal.at.unreachable-requires g c).After-found))

pub returns-in-None-clause-ok : goal.returns-in-None-clause-ok
returns-in-None-clause-ok g c = record {
  host = c.args.book.now.host;
  after = last g (goal.at.returns-in-None-clause-ok g c).In_ok-take_up None c.in-None.is;
  planned = c.requires.kept.planned;
  rows = c.requires.kept.rows;
}

pub returns-in-Planned-clause-ok : goal.returns-in-Planned-clause-ok
returns-in-Planned-clause-ok g c =
    let b = c.args.book.now in
    let i = c.in-Some.change in
    let of = subst (IsFoundOf b.host b.changes i) c.in-Planned.is (told g (goal.at.returns-in-Planned-clause-ok g c).After-found) in
    let slices = c.in-Planned.slices.items in
    let lt : c.args.core < length slices = omega (arith, c.requires.core, of.tables_are.count, of.rows) in
    slice_at b c.args.changes i c.args.core (plan_view c.in-Planned.plan) slices c.index.result.now (last g (goal.at.returns-in-Planned-clause-ok g c).In_ok-take_up (Some i) c.in-Some.is) of
    (slice_get_read slices _ c.args.core c.index.result.now refl lt c.index.ensures)

pub returns-in-NoMemory-clause-err : goal.returns-in-NoMemory-clause-err
returns-in-NoMemory-clause-err g c = (
  (last g (goal.at.returns-in-NoMemory-clause-err g c).In_ok-take_up (Some c.in-Some.change) c.in-Some.is).before,
  record {
    made = c.in-Some-look.made.now;
    known = c.in-Some-look.ensures.found;
    is = ap is_stopped (sym c.found.ensures.found ∙ c.in-NoMemory.is);
  },
)
