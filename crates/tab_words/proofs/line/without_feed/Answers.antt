use Rattle.std.proofs.Common.{◌∷◌, [], ap, refl, ◌∙◌}
use Rattle.std.proofs.lemmas.Bool.Decides.{Decides-eqb}
use Rattle.std.proofs.lemmas.Slice.Eq.{strip_suffix_is}
use Rattle.tab_words.proofs.LineLemmas.{stripped}
use Rattle.tab_words.proofs.line.without_feed.Goals as goal

pub returns : goal.returns
returns c =
    ap (λ r. r.now) c.unwrap_or.ensures
    ∙ stripped c.args.line.now c.args.line c.strip_suffix.result refl
    (strip_suffix_is Decides-eqb c.args.line.now (10 ∷ []) c.strip_suffix.result c.strip_suffix.ensures.cases)
