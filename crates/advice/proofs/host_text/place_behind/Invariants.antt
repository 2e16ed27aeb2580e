use Rattle.std.proofs.Common.{◌≡◌, ◌≤◌, ◌+◌, take}
use Rattle.advice.specs.Places.{place_after_all}
use Rattle.advice.proofs.host_text.place_behind.Given as goal

-- the place after the bytes so far, whose numbers are no more than these bytes allow
abbrev pub invariant-loop-byte : goal.invariant-loop-byte
invariant-loop-byte l = record {
  place : l.place ≡ place_after_all (take l.byte-index l.front);
  line : l.place.line ≤ l.byte-index + 1;
  column : l.place.column ≤ l.byte-index + 1;
}
