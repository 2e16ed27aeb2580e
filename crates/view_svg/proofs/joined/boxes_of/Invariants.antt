use Rattle.std.proofs.Common.{◌≡◌, ◌≤◌, ◌∷◌, ◌++◌, drop, length}
use Rattle.view_svg.specs.Joined.{boxes_of}
use Rattle.view_svg.proofs.joined.boxes_of.Given as goal

-- the boxes so far, with those of the last one and of the bars that are left
abbrev pub invariant-loop-next : goal.invariant-loop-next
invariant-loop-next l = record {
  whole : l.boxes.items ++ boxes_of l.frame (l.last ∷ drop l.next-index l.rest)
      ≡ boxes_of l.frame (l.initial.last ∷ l.rest);
  few : length l.boxes.items ≤ l.next-index;
}
