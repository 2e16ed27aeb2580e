use Rattle.std.proofs.Common.{arith, rules, length, length-append, ap}
use Rattle.tab_words.proofs.FrontLemmas.{section_skip}
use Rattle.tab_words.proofs.SectionLemmas.{section_before, section_last, section_more}
use Rattle.tab_words.proofs.section.first_section.Goals as goal

pub returns-then-is_separator-clause-sections : goal.returns-then-is_separator-clause-sections
returns-then-is_separator-clause-sections c =
    rw c.split_at.ensures.front (section_before _ _ _ _ _ c.loop-at.invariant.sections
    (rw c.split_at.ensures.back at c.first_line.ensures.lines) (search rules))

pub loop-at-preserved : goal.loop-at-preserved
loop-at-preserved c = record {
  within = omega (
    arith,
    ap length c.first_line.ensures.parts,
    length-append c.first_line.result.0.now
        c.first_line.result.1.now,
    c.split_at.ensures.back_len,
    c.plain_length.ensures.within,
  );
  sections = section_skip c.args.bytes.now c.split_at.result.1.now c.first_line.result.0.now
      c.first_line.result.1.now c.loop-at.at c.plain_length.result
      c.split_at.ensures.back c.first_line.ensures.parts
      (section_more c.args.bytes.now c.split_at.result.1.now c.first_line.result.0.now
      c.first_line.result.1.now c.loop-at.at
      c.loop-at.invariant.sections c.split_at.ensures.back c.first_line.ensures.parts
      c.first_line.ensures.lines
      (search rules) c.loop-at.invariant.within)
      c.plain_length.ensures.sections;
}

pub returns-clause-sections : goal.returns-clause-sections
returns-clause-sections c = section_last c.args.bytes.now c.loop-at.at c.loop-at.invariant.sections
    c.loop-at-test.false
