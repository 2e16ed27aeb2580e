use Rattle.std.proofs.Common.{◌++◌, [], ◌∷◌, ap, sym, ◌∙◌}
use Rattle.tab_core.proofs.Lists.{range_next}
use Rattle.cd_split.proofs.splitting.numbers_of.Goals as goal

pub loop-number-preserved : goal.loop-number-preserved
loop-number-preserved c =
    let n = c.loop-number.number in
    c.in_ok-push.ensures.items ∙ ap (λ numbers. numbers ++ n ∷ []) c.loop-number.invariant
    ∙ sym (range_next n)
