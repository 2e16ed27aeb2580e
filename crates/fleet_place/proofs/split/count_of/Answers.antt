use Rattle.std.proofs.Common.{ap, refl, Err, ◌∙◌}
use Rattle.size_fit.specs.Fits.{NoPeriod}
use Rattle.fleet_place.specs.Fits.{Splits, SplitsNone}
use Rattle.fleet_place.proofs.split.count_of.Goals as goal

pub returns-in_ok-split_of-in-Ok : goal.returns-in_ok-split_of-in-Ok
returns-in_ok-split_of-in-Ok c =
    let split = c.in_ok-split_of-in-Ok.field-0 in
    Splits split.items c.in_ok-split_of-in-Ok.ensures.split (c.len.ensures ∙ split.ok.0)

pub returns-in-Err-NoPeriod : goal.returns-in-Err-NoPeriod
returns-in-Err-NoPeriod c =
    let fault = c.in-Err-NoPeriod in
    SplitsNone (NoPeriod fault.field-0-0 (c.tasks_of.ensures.no_period fault.field-0-0 (fault.is ∙ ap Err fault.field-0-is)))
    refl
