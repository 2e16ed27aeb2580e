use Rattle.std.proofs.Common.{◌≡◌, ◌+◌, ◌++◌, take}
use Rattle.stint_text.proofs.number_parts.put_text.Given as goal

-- the bytes so far came after the others
abbrev pub invariant-loop-byte : goal.invariant-loop-byte
invariant-loop-byte l = record {
  end : l.end ≡ l.at + l.byte-index;
  bytes : take l.end l.block ≡ take l.at l.fn.block ++ take l.byte-index l.text;
}
