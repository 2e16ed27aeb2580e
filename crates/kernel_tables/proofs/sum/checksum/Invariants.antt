use Rattle.std.proofs.Common.{◌≡◌, fold, take}
use Rattle.kernel_tables.specs.Sums.{sum_with}
use Rattle.kernel_tables.proofs.sum.checksum.Given as goal

-- the sum of the bytes so far
abbrev pub invariant-loop-byte : goal.invariant-loop-byte
invariant-loop-byte l = l.sum ≡ fold sum_with 14695981039346656037 (take l.byte-index l.bytes)
