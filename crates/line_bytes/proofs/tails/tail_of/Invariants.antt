use Rattle.std.proofs.Common.{◌≡◌, ◌+◌, ◌∷◌, length, take}
use Rattle.line_bytes.proofs.tails.tail_of.Given as goal

-- after the space are the bytes so far
abbrev pub invariant-loop-at : goal.invariant-loop-at
invariant-loop-at l = record {
  sized : length l.bytes ≡ 40;
  behind : take (l.at + 1) l.bytes ≡ 32 ∷ take l.at l.word;
}
