use Rattle.std.proofs.Common.{◌≡◌, ◌≤◌, ◌++◌, drop, length}
use Rattle.view_svg.specs.Joined.{seams_after}
use Rattle.view_svg.proofs.joined.seams_of.Given as goal

-- the seams so far, with those of the bars that are left
abbrev pub invariant-loop-next : goal.invariant-loop-next
invariant-loop-next l = record {
  whole : l.seams.items ++ seams_after l.frame l.last (drop l.next-index l.rest)
      ≡ seams_after l.frame l.initial.last l.rest;
  few : length l.seams.items ≤ l.next-index;
}
