-- the bytes before belong to the first section
use Rattle.std.proofs.Common.{length, ◌-◌, ◌≡◌, ◌≤◌, take, drop}
use Rattle.tab_words.specs.Sections.{sections_of}
use Rattle.tab_words.specs.Inside.Fronts.{sections_after}
use Rattle.tab_words.proofs.section.first_section.Given as goal

abbrev pub invariant-loop-at : goal.invariant-loop-at
invariant-loop-at l = record {
  within : l.at ≤ length l.bytes;
  sections : sections_of l.bytes ≡ sections_after (take l.at l.bytes) (sections_of (drop l.at l.bytes));
}

abbrev pub decreases-loop-at : goal.decreases-loop-at
decreases-loop-at l = length l.bytes - l.at
