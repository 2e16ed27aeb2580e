-- The key of a lane, right of it: who has bars there, by number, in places that are in rows. Where these are too few,
-- the last says how many more there are.
use Rattle.std.specs.Prelude.{ℕ, zero, suc, ◌+◌, ◌-◌, ◌*◌, ◌/◌, ◌%◌, ◌==◌, ◌++◌, nat_le, nat_lt, Bool, true, false, List, [], codes, decimal, if◌then◌else◌, length, max, slice_index}
use Rattle.std.specs.List.{list_any}
use Rattle.tab_words.specs.Texts.{texts_below}
use Rattle.vcpu_names.specs.Names.{name_at}
use Rattle.view_svg.specs.Drawings.{PaletteView}
use Rattle.view_svg.specs.Marks.{short_back, short_dots, short_front}
use Rattle.view_svg.specs.declared.drawing.Band.{Band}
use Rattle.view_lanes.specs.declared.frame.Bar.{Bar}

-- ---- who is listed

-- a lane of these bars has one of this key
abbrev pub has_bar : List Bar → ℕ → Bool
has_bar bars v = list_any (λ bar. bar.key == v) bars

-- one of the lanes has a bar of this key
abbrev pub has_lane : List (List Bar) → ℕ → Bool
has_lane lanes v = list_any (λ bars. has_bar bars v) lanes

-- how many of the numbers below one pass a test
abbrev pub count_below : (ℕ → Bool) → ℕ → ℕ
count_below test zero = 0
count_below test (suc n) = count_below test n + (if test n then 1 else 0)

-- ---- places

-- how many rows a lane of a height has, with the gap below it
abbrev pub lane_rows : ℕ → ℕ
lane_rows high = max 1 ((high + high / 5) / 1000)

-- how many places the rows beside a lane have: four in a row beside a core's lane, and six, which begin right
-- of the wait, beside a vCPU's
abbrev pub key_room : Bool → ℕ → ℕ
key_room false high = 4 * lane_rows high
key_room true high = 6 * lane_rows high

-- where the place of a number begins, from the left
abbrev pub key_x : Bool → ℕ → ℕ
key_x false k = 113000 + k % 4 * 9000
key_x true k = 122000 + k % 6 * 4500

-- how wide a place is, beside a vCPU's lane or a core's
abbrev pub key_width : Bool → ℕ
key_width false = 9000
key_width true = 4500

-- where the place of a number begins, from the top, beside a lane that begins there
abbrev pub key_top : Bool → ℕ → ℕ → ℕ
key_top false y k = y + 100 + k / 4 * 1000
key_top true y k = y + 100 + k / 6 * 1000

-- how many are listed of so many: all, or one less than there are places
abbrev pub listed_of : ℕ → ℕ → ℕ
listed_of room count = if nat_le count room then count else room - 1

-- ---- texts

-- a box of a colour
unfoldable pub key_box : ℕ → ℕ → ℕ → List ℕ
key_box colour x y = codes "<path class=\"c" ++ (decimal colour ++ (codes "\" d=\"M" ++ (decimal x ++ (codes " "
    ++ (decimal y ++ codes "h900v800h-900z\"/>")))))

-- a name in small letters, maybe cut: the letters before the dots, the dots, and those after them
unfoldable pub key_name : ℕ → ℕ → List ℕ → List ℕ → List ℕ → List ℕ
key_name x y front dots back = codes "<text x=\"" ++ (decimal x ++ (codes "\" y=\"" ++ (decimal y
    ++ (codes "\" font-size=\"800\" class=\"name\">" ++ (front ++ (dots ++ (back ++ codes "</text>\n")))))))

-- a box of a colour, and right of it a name
abbrev pub key_mark : ℕ → ℕ → ℕ → List ℕ → List ℕ
key_mark x top colour name = key_box colour x top
    ++ key_name (x + 1200) (top + 700) (short_front name) (short_dots name) (short_back name)

-- the key of a number that has bars is in the place of a number, if that one is among those that are listed
abbrev pub key_entry : Band → PaletteView → ℕ → Bool → ℕ → ℕ → List ℕ
key_entry b p listed false k v = []
key_entry b p listed true k v =
    if nat_lt k listed
    then key_mark (key_x b.frame.by_vcpu k) (key_top b.frame.by_vcpu b.y k) (slice_index p.colours v) (name_at p.names v)
    else []

-- the key of this number, if it has a bar on the lane and is one of those that are listed
abbrev pub key_at : Band → PaletteView → List Bar → ℕ → ℕ → List ℕ
key_at b p bars listed v = key_entry b p listed (has_bar bars v) (count_below (has_bar bars) v) v

-- how many aren't listed, if some aren't
unfoldable pub more_text : ℕ → ℕ → ℕ → List ℕ
more_text x y more = codes "<text x=\"" ++ (decimal x ++ (codes "\" y=\"" ++ (decimal y
    ++ (codes "\" font-size=\"800\" class=\"dim\">" ++ (decimal more ++ codes " more</text>\n")))))

-- how many keys aren't listed of so many, in the last place, if some aren't
abbrev pub more_at : Band → ℕ → ℕ → List ℕ
more_at b listed count =
    if nat_lt listed count
    then more_text (key_x b.frame.by_vcpu listed) (key_top b.frame.by_vcpu b.y listed + 700) (count - listed)
    else []

-- the key of a lane on which so many have bars, of whom so many are listed
abbrev pub keys_of : Band → PaletteView → List Bar → ℕ → ℕ → List ℕ
keys_of b p bars listed count = texts_below (key_at b p bars listed) (length p.names) ++ more_at b listed count

-- the keys of a lane, as many as have places beside it
abbrev pub keys_text : Band → PaletteView → List Bar → List ℕ
keys_text b p bars = keys_of b p bars
    (listed_of (key_room b.frame.by_vcpu b.high) (count_below (has_bar bars) (length p.names)))
    (count_below (has_bar bars) (length p.names))
