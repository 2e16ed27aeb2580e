use Rattle.std.proofs.Common.{◌≡◌, drop}
use Rattle.tab_words.specs.Lines.{lines_of}
use Rattle.advice.proofs.line.lines_after.Given as goal

-- so many lines were stepped over
abbrev pub invariant-loop : goal.invariant-loop
invariant-loop l = l.lines ≡ drop l.counter (lines_of l.text)
