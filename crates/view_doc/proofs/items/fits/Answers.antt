use Rattle.std.proofs.Common.{drop, map, subst}
use Rattle.std.proofs.lemmas.Bool.{false≢true}
use Rattle.tab_words.specs.Texts.{Line}
use Rattle.view_doc.specs.Inside.Statements.{blank_of}
use Rattle.view_doc.specs.Items.{FitsForm}
use Rattle.view_doc.proofs.ItemLemmas.{fits_none}
use Rattle.view_doc.proofs.items.fits.Goals as goal

pub returns-in_default : goal.returns-in_default
returns-in_default c = (
  λ no. absurd (false≢true no),
  λ fits. absurd (fits_none c.args.form.now c.loop-blank.blank-index c.loop-blank-test.true
      (subst (λ (words : Line). FitsForm words (map blank_of (drop c.loop-blank.blank-index c.args.form.now)))
      c.in_default.ensures.steps.0 (c.loop-blank.invariant.0 fits))),
)
