-- What a part of an advice writes: bytes, digits, or a word or a line of somebody else in quotes.
use Rattle.std.specs.Prelude.{ℕ, ◌&&◌, nat_le, nat_lt, if◌then◌else◌, List, [], ◌∷◌, ◌++◌, codes, decimal, flat_map, length, Option, Some, None, take}
use Rattle.advice.specs.declared.part.Part.{Part}
use Rattle.advice.specs.declared.part.Part.TheVariants.{Text, Number, Wide, Quoted, Line}

-- a printed character of ASCII as it is, any other byte as `?`
abbrev pub shown_byte : ℕ → List ℕ
shown_byte byte = if nat_le 32 byte && nat_le byte 126 then byte ∷ [] else codes "?"

-- the quote that ends, after two dots where more than 60 bytes are there
abbrev pub end_of_quote : List ℕ → List ℕ
end_of_quote bytes = if nat_lt 60 (length bytes) then codes "..'" else codes "'"

-- the first 60 bytes and the quote that ends
abbrev pub rest_of_quote : List ℕ → List ℕ
rest_of_quote bytes = flat_map shown_byte (take 60 bytes) ++ end_of_quote bytes

-- the first 60 bytes in quotes
abbrev pub quoted : List ℕ → List ℕ
quoted bytes = codes "'" ++ rest_of_quote bytes

-- the line of this number, from 1, in quotes
abbrev pub line_text : ℕ → List ℕ → List ℕ
line_text number line = (codes ", line " ++ (decimal number ++ codes ", ")) ++ quoted line

-- the bytes that a part of an advice writes
abbrev pub part_text : Part → List ℕ
part_text (Text bytes) = bytes.now
part_text (Number n) = decimal n
part_text (Wide n) = decimal n
part_text (Quoted bytes) = quoted bytes.now
part_text (Line number line) = line_text number line.now

-- a word or a line in quotes, where there is one
abbrev pub quote_of : Option (List ℕ) → List ℕ
quote_of None = []
quote_of (Some bytes) = quoted bytes
