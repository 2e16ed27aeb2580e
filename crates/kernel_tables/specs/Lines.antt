-- The lines of a row: spans of a core, and stretches of a vCPU. Times are in nanoseconds of the round.
-- Source: the rules of this project.
use Rattle.std.specs.Prelude.{ℕ, ◌+◌, ◌-◌, ◌*◌, ◌/◌, ◌%◌, ◌^◌, ◌++◌, Bool, if◌then◌else◌, nat_lt, List, [], ◌∷◌, codes, decimal, Option, Some, None}
use Rattle.tab_core.specs.VcpuSets.{has_vcpu}
use Rattle.tab_words.specs.Texts.{texts_below}

-- ---- hexadecimal

-- the digit of a number below 16
abbrev pub hex_digit : ℕ → ℕ
hex_digit n = if nat_lt n 10 then 48 + n else 87 + n

-- one of the sixteen digits of a number below 2^64, of which the highest is number 0
abbrev pub hex_at : ℕ → ℕ → List ℕ
hex_at n i = hex_digit (n / 2 ^ (60 - 4 * i) % 16) ∷ []

-- all sixteen
abbrev pub hex_text : ℕ → List ℕ
hex_text n = texts_below (hex_at n) 16

-- 1 for a member of the set, 0 for another
abbrev pub bit_of : List Bool → ℕ → ℕ
bit_of set v = if has_vcpu set v then 1 else 0

-- the digit of four vCPUs from one on: 1, 2, 4 and 8 together for those that are members
abbrev pub set_digit : List Bool → ℕ → ℕ
set_digit set v =
    hex_digit (bit_of set v + 2 * bit_of set (v + 1) + 4 * bit_of set (v + 2) + 8 * bit_of set (v + 3))

-- one of the sixteen digits of a word of the set, which has the 64 vCPUs from 64 times its number on: digit 0 has the
-- highest of them
abbrev pub set_at : List Bool → ℕ → ℕ → List ℕ
set_at set word i = set_digit set (64 * word + (60 - 4 * i)) ∷ []

-- a word of the set, after a space
abbrev pub word_text : List Bool → ℕ → List ℕ
word_text set word = codes " " ++ texts_below (set_at set word) 16

-- the first words of the set
abbrev pub set_text : List Bool → ℕ → List ℕ
set_text set words = texts_below (word_text set) words

-- ---- lines

-- a number, or `-` where there is none
abbrev pub number_word : Option ℕ → List ℕ
number_word None = codes "-"
number_word (Some n) = decimal n

-- a line of a core: the end, the slot's owner, and who may share it, in so many words
unfoldable pub span_line : ℕ → ℕ → Option ℕ → List Bool → ℕ → List ℕ
span_line tick words owner sharers end = decimal (end * tick) ++ (codes " " ++ (number_word owner
    ++ (set_text sharers words ++ codes "\n")))

-- a line of a vCPU: the end, and the core in whose slot it is
unfoldable pub stretch_line : ℕ → Option ℕ → ℕ → List ℕ
stretch_line tick core end = decimal (end * tick) ++ (codes " " ++ (number_word core ++ codes "\n"))

-- the line before a row: what it is of, its number, and how many lines the row has
unfoldable pub row_line : List ℕ → ℕ → ℕ → List ℕ
row_line what number count = what ++ (decimal number ++ (codes " " ++ (decimal count ++ codes "\n")))
