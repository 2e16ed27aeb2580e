use Rattle.std.proofs.Common.{◌≡◌}
use Rattle.advice.specs.Mistaken.{first_said, said_in}
use Rattle.advice.proofs.mistaken.first_said.Given as goal

-- the lines that are left have the same first one that says something
abbrev pub invariant-loop-line : goal.invariant-loop-line
invariant-loop-line l = first_said l.text ≡ said_in l.line-iterator
