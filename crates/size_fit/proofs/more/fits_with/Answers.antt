use Rattle.std.proofs.Common.{◌≤◌, ap, Err, length, subst, sym, ◌∙◌}
use Rattle.size_fit.specs.Fits.{Full, NoPeriod, NoRoom, Split, Unplanned}
use Rattle.size_fit.proofs.more.fits_with.Goals as goal

pub returns-in-Ok-clause-fit : goal.returns-in-Ok-clause-fit
returns-in-Ok-clause-fit c = λ is. record {
  other = c.in_ok-other.other;
  plan = _;
  vcpus = c.in_ok-split-in-Ok.split.items;
  more = c.in_ok-other.ensures;
  planned = rw c.in-Ok.is at c.plan.ensures.ok;
  split = c.in_ok-split-in-Ok.ensures.split;
  whole = λ no. ap length (sym c.deref.ensures.value) ∙ c.is_whole.ensures.whole is no;
}

pub returns-in-Ok-clause-full : goal.returns-in-Ok-clause-full
returns-in-Ok-clause-full c = λ is. Full c.in_ok-other.other c.in_ok-other.ensures
    (Split c.in_ok-split-in-Ok.split.items (c.is_whole.ensures.split is) c.in_ok-split-in-Ok.ensures.split
    (subst (λ vcpus. 1 ≤ length vcpus) c.deref.ensures.value (c.is_whole.ensures.some is)))

pub returns-in-Err-NoPeriod-clause-full : goal.returns-in-Err-NoPeriod-clause-full
returns-in-Err-NoPeriod-clause-full c = λ is.
    let fault = c.in-Err-NoPeriod in
    Full c.in_ok-other.other c.in_ok-other.ensures (Unplanned
    (NoPeriod fault.field-0-0 (c.plan.ensures.no_period fault.field-0-0 (fault.is ∙ ap Err fault.field-0-is))))

pub returns-in-Err-NoRoom-clause-full : goal.returns-in-Err-NoRoom-clause-full
returns-in-Err-NoRoom-clause-full c = λ is.
    let fault = c.in-Err-NoRoom in
    Full c.in_ok-other.other c.in_ok-other.ensures (Unplanned
    (NoRoom fault.field-0-0 fault.field-0-1 fault.field-0-2 (c.plan.ensures.no_room fault.field-0-0 fault.field-0-1
    fault.field-0-2 (fault.is ∙ ap Err fault.field-0-is))))
