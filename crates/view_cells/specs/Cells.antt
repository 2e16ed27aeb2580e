-- The cells of a table: texts and numbers in columns of a width, which longer ones overrun.
use Rattle.std.specs.Prelude.{ℕ, zero, suc, ◌-◌, ◌/◌, ◌%◌, ◌++◌, Bool, true, false, max, List, codes, decimal, length}
use Rattle.tab_words.specs.Texts.{texts_below}
use Rattle.vcpu_names.specs.Names.{name_at}

-- so many spaces
unfoldable pub spaces : ℕ → List ℕ
spaces n = texts_below (λ _. codes " ") n

-- a text at the left of a column of so many bytes, which spaces fill
unfoldable pub left : ℕ → List ℕ → List ℕ
left width text = text ++ spaces (width - length text)

-- a text at the right of a column of so many bytes, which spaces fill
unfoldable pub right : ℕ → List ℕ → List ℕ
right width text = spaces (width - length text) ++ text

-- a whole number, at the right
unfoldable pub count_cell : ℕ → ℕ → List ℕ
count_cell width n = right width (decimal n)

-- a number below 1000 as three digits after a point
unfoldable pub three_behind : ℕ → List ℕ
three_behind n = codes "." ++ (decimal (n / 100) ++ (decimal (n / 10 % 10) ++ decimal (n % 10)))

-- a number below 10000 as four digits after a point
unfoldable pub four_behind : ℕ → List ℕ
four_behind n = codes "." ++ (decimal (n / 1000) ++ (decimal (n / 100 % 10)
    ++ (decimal (n / 10 % 10) ++ decimal (n % 10))))

-- parts per million as percent with four digits after the point, which is exact; the width is that of
-- what is before it
unfoldable pub percent_cell : ℕ → ℕ → List ℕ
percent_cell width ppm = count_cell width (ppm / 10000) ++ four_behind (ppm % 10000)

-- nanoseconds as milliseconds with three digits after the point, rounded down
unfoldable pub millis_cell : ℕ → ℕ → List ℕ
millis_cell width ns = count_cell width (ns / 1000000) ++ three_behind (ns / 1000 % 1000)

-- the word for whether something is so
abbrev pub yes_or_no : Bool → List ℕ
yes_or_no true = codes "yes"
yes_or_no false = codes "no"

-- the width of the column of the first names, which has four bytes at least
unfoldable pub width_below : List (List ℕ) → ℕ → ℕ
width_below names zero = 4
width_below names (suc v) = max (width_below names v) (length (name_at names v))
