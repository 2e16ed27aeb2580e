use Rattle.std.proofs.Common.{◌∙◌}
use Rattle.view_svg.proofs.KeyLemmas.{count_same}
use Rattle.view_chart.proofs.legend.listed_in.Goals as goal

pub returns-clause-value : goal.returns-clause-value
returns-clause-value c = c.count_below.ensures.value
    ∙ count_same _ _ _ _ c.requires c.holders_in.ensures
