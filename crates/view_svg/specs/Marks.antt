-- The texts of boxes, and names that are cut.
use Rattle.std.specs.Prelude.{ℕ, ◌-◌, ◌++◌, nat_le, List, [], codes, decimal, drop, if◌then◌else◌, length, take}

-- a path round a box
unfoldable pub box_path : ℕ → ℕ → ℕ → ℕ → List ℕ
box_path x0 y0 x1 y1 = codes "M" ++ (decimal x0 ++ (codes " " ++ (decimal y0 ++ (codes "H" ++ (decimal x1
    ++ (codes "V" ++ (decimal y1 ++ (codes "H" ++ (decimal x0 ++ codes "z")))))))))

-- the first letters of a name that is cut to 15: seven, or all where it has no more than 15
abbrev pub short_front : List ℕ → List ℕ
short_front name = if nat_le (length name) 15 then name else take 7 name

-- the dots of a name that is cut to 15 letters; none where it has no more than 15
abbrev pub short_dots : List ℕ → List ℕ
short_dots name = if nat_le (length name) 15 then [] else codes ".."

-- the last letters of a name that is cut to 15: six, or none where it has no more than 15
abbrev pub short_back : List ℕ → List ℕ
short_back name = if nat_le (length name) 15 then [] else drop (length name - 6) name
