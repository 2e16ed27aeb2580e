-- the bytes so far were appended, and there is room for the others
use Rattle.std.proofs.Common.{◌≡◌, ◌+◌, ◌++◌, ◌≤◌, length, take}
use Rattle.arrayvec.specs.ArrayVec.{array_vec_len}
use Rattle.tab_words.proofs.line_block.gather_bytes.Given as goal

abbrev pub invariant-loop-byte : goal.invariant-loop-byte
invariant-loop-byte g l = record {
  appended : l.bytes.items ≡ l.fn.bytes.items ++ take l.byte-index l.text;
  room : array_vec_len l.bytes + length l.text ≤ g.row.N + l.byte-index;
}
