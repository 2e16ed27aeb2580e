use Rattle.std.proofs.Common.{arith, sym, ◌∙◌}
use Rattle.tab_words.proofs.SectionLemmas.{none_after, rest_more}
use Rattle.tab_words.proofs.section.Sections.part.Goals as goal
use Rattle.tab_words.proofs.section.Sections.part.Goals.{in-Some, in_default}

pub loop-preserved : goal.loop-preserved
loop-preserved c =
    elim c.match-after.branch [
      | in-Some w ↦
          let first = rw w.in-Some.is at c.first_section.ensures.sections in
          rw w.rest-is (rest_more _ c.loop.counter _ _ (sym c.loop.invariant ∙ first))
      | in_default w ↦
          let only = rw w.in_default.is at c.first_section.ensures.sections in
          absurd (omega (arith, none_after _ c.loop.counter _ (sym c.loop.invariant ∙ only)))
    ]
