use Rattle.std.proofs.Common.{◌≡◌, ◌+◌, ℕ, suc, List, Some, refl, sym, subst, arith}
use Rattle.std.specs.Prelude.{slice_get}
use Rattle.std.proofs.lemmas.Option.{slice_get_read}
use Rattle.tab_core.specs.declared.edit.Edit.{Edit}
use Rattle.live_plan.specs.Changes.{HostAfter}
use Rattle.live_plan.specs.Mades.{MadeView}
use Rattle.live_plan.proofs.ChangesLemmas.{edits_of_host}
use Rattle.live_plan.proofs.FindingLemmas.{found_of_next, stands_next}
use Rattle.live_plan.proofs.made.Made.fill_from.Goals as goal
use Rattle.live_plan.proofs.made.Made.fill_from.Goals.{After-items-edits}

-- the known host is the one before the change
stands : (c : After-items-edits) → HostAfter c.self.inside.host c.self.inside.edits.items c.self.inside.change c.args.standing.now
stands c = subst (λ (m : MadeView). HostAfter m.host m.edits m.change c.args.standing.now) (sym c.self.view_is) c.requires

-- the edits are those of the change
edits_at : (c : After-items-edits) → slice_get c.self.inside.edits.items c.self.inside.change ≡ Some c.items-edits.result.now
edits_at c = subst (λ (es : List Edit). slice_get c.self.inside.edits.items c.self.inside.change ≡ Some es) (sym c.items-edits.ensures)
    (slice_get_read c.self.inside.edits.items _ c.self.inside.change c.index.result.now refl (omega (arith, c.self.invariant.count)) c.index.ensures)

pub found_next-requires : goal.found_next-requires
found_next-requires c =
    let inside = c.self.inside in
    let p = (goal.at.found_next-requires c).After-items-edits in
    edits_of_host inside.host inside.edits.items inside.change c.args.standing.now c.items-edits.result.now c.self.invariant.within (stands p) (edits_at p)

pub invariant_of-self : goal.invariant_of-self
invariant_of-self c =
    let inside = c.self.inside in
    let p = (goal.at.invariant_of-self c).After-items-edits in
    record {
      count = c.self.invariant.count;
      few = c.self.invariant.few;
      within = c.self.invariant.within;
      told = found_of_next inside.host inside.edits.items inside.change c.args.standing.now c.items-edits.result.now
          c.found_next.result c.found_next.new.standing (stands p) (edits_at p) c.found_next.ensures;
    }

pub returns-clause-stands : goal.returns-clause-stands
returns-clause-stands c = λ going.
    let inside = c.self.inside in
    let p = (goal.at.returns-clause-stands c).After-items-edits in
    let one : suc inside.change ≡ inside.change + 1 = omega arith in
    subst (λ (k : ℕ). HostAfter inside.host inside.edits.items k c.found_next.new.standing) one
    (stands_next inside.host inside.edits.items inside.change c.args.standing.now c.items-edits.result.now c.found_next.result
    c.found_next.new.standing (stands p) (edits_at p) c.found_next.ensures going)
