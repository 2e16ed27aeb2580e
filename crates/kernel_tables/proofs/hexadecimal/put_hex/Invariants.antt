use Rattle.std.proofs.Common.{◌≡◌, ◌++◌}
use Rattle.tab_words.specs.Texts.{texts_below}
use Rattle.kernel_tables.specs.Lines.{hex_at}
use Rattle.kernel_tables.proofs.hexadecimal.put_hex.Given as goal

-- the digits so far came
abbrev pub invariant-loop-i : goal.invariant-loop-i
invariant-loop-i l = l.text.items ≡ l.fn.text.items ++ texts_below (hex_at l.n) l.i
