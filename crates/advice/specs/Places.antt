-- Places in a text: line and column, both from 1. A column counts characters, of which UTF-8 may write
-- one in several bytes.
use Rattle.std.specs.Prelude.{ℕ, ◌+◌, ◌==◌, ◌&&◌, nat_le, if◌then◌else◌, List, fold}
use Rattle.advice.specs.declared.host_text.Place.{Place}

-- the place after one more byte: a line feed begins a line, and a byte that goes on a character is no
-- column of its own
abbrev pub place_after : Place → ℕ → Place
place_after place byte = if byte == 10 then record { line = place.line + 1; column = 1 }
    else (if nat_le 128 byte && nat_le byte 191 then place
    else record { line = place.line; column = place.column + 1 })

-- the place after these bytes of a text
abbrev pub place_after_all : List ℕ → Place
place_after_all front = fold place_after (record { line = 1; column = 1 }) front
