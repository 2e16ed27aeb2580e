-- the sections that are counted, and those of the rest, of which the first is counted already
use Rattle.std.proofs.Common.{◌≡◌, ◌+◌, ◌*◌, ◌≤◌, length}
use Rattle.tab_words.specs.Sections.{sections_of}
use Rattle.tab_words.proofs.section.cut_sections.Given as goal

abbrev pub invariant-loop-more : goal.invariant-loop-more
invariant-loop-more l = record {
  counted : l.count + length (sections_of l.rest) ≡ length (sections_of l.bytes) + 1;
  room : 2 * l.count + length l.rest ≤ length l.bytes + 2;
}

abbrev pub decreases-loop-more : goal.decreases-loop-more
decreases-loop-more l = length l.rest
