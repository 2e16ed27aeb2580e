use Rattle.std.proofs.Common.{◌∙◌}
use Rattle.view_svg.proofs.KeyLemmas.{count_same}
use Rattle.view_svg.proofs.keys.count_of.Goals as goal

pub returns-clause-value : goal.returns-clause-value
returns-clause-value c = c.count_below.ensures.value
    ∙ count_same _ _ _ _ c.requires.few c.requires.holders
