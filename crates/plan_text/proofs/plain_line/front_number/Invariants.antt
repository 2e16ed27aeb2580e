-- the digits so far, and their number
use Rattle.std.proofs.Common.{◌≡◌, ◌≤◌, ◌-◌, take}
use Rattle.std.specs.Str.Parse.{AllDigits, digits_value}
use Rattle.plan_text.proofs.plain_line.front_number.Given as goal

abbrev pub invariant-loop-count : goal.invariant-loop-count
invariant-loop-count l = record {
  within : l.count ≤ l.most;
  digits : AllDigits 10 (take l.count l.bytes);
  value : l.number ≡ digits_value 10 (take l.count l.bytes);
}

abbrev pub decreases-loop-count : goal.decreases-loop-count
decreases-loop-count l = l.most - l.count
