use Rattle.std.proofs.Common.{◌↔◌, drop, map}
use Rattle.tab_words.specs.Words.{words_of}
use Rattle.view_doc.specs.Inside.Statements.{blank_of}
use Rattle.view_doc.specs.Items.{FitsForm}
use Rattle.view_doc.proofs.items.fits.Given as goal

-- what is left decides
abbrev pub invariant-loop-blank : goal.invariant-loop-blank
invariant-loop-blank l = FitsForm (words_of l.line) (map blank_of l.form)
    ↔ FitsForm l.words (map blank_of (drop l.blank-index l.form))
