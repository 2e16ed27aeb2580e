-- A line of numbers, each after its text.
use Rattle.std.specs.Prelude.{ℕ, ◌++◌, List, codes, decimal}
use Rattle.stint_text.specs.declared.numbered.Numbered.{Numbered}

-- three numbers, and a line feed
abbrev pub numbers_line : Numbered → Numbered → Numbered → List ℕ
numbers_line a b c =
    a.text.now ++ (decimal a.number
    ++ (b.text.now ++ (decimal b.number ++ (c.text.now ++ (decimal c.number ++ codes "\n")))))
