-- The line of a host document that an advice names: the one that gives a key its value, or the one that begins a vCPU.
-- Source: TOML 1.0, "Key/Value Pair", "Array of Tables" and "Inline Table". A line is read by its first words alone, so
-- one with a key in quotes is passed over, and the advice then names none.
use Rattle.std.specs.Prelude.{ℕ, Bool, false, true, ◌+◌, ◌-◌, ◌==◌, ◌&&◌, ◌||◌, nat_eq, nat_le, not, if◌then◌else◌, List, [], ◌∷◌, bytes_eq, codes, drop, length, Option, Some, None, slice_get}
use Rattle.std.specs.List.{starts_with}
use Rattle.std.specs.Option.{option_or}
use Rattle.tab_words.specs.Lines.{lines_of}
use Rattle.tab_words.specs.Words.{words_of}
use Rattle.advice.specs.Parts.{line_text}

-- the text, if it is short enough that its lines are named: at most 2,000,000,000 bytes
abbrev pub named_text : List ℕ → List ℕ
named_text text = if nat_le (length text) 2000000000 then text else []

-- the byte is an equals sign
abbrev pub is_equals : Option ℕ → Bool
is_equals None = false
is_equals (Some byte) = byte == 61

-- the words begin with an equals sign
abbrev pub begin_value : List (List ℕ) → Bool
begin_value [] = false
begin_value (word ∷ words) = starts_with nat_eq word (codes "=")

-- the words give this key a value: the key and an equals sign, with or without a space between them
abbrev pub give_key : List ℕ → List (List ℕ) → Bool
give_key key [] = false
give_key key (word ∷ words) = if bytes_eq word key then begin_value words
    else starts_with nat_eq word key && is_equals (slice_get word (length key))

-- the line gives this key a value
abbrev pub gives_key : List ℕ → List ℕ → Bool
gives_key key line = give_key key (words_of line)

-- the words begin a vCPU: a line `[[vcpu]]`, or a table in braces
abbrev pub begin_vcpu : List (List ℕ) → Bool
begin_vcpu [] = false
begin_vcpu (word ∷ words) = starts_with nat_eq word (codes "[[vcpu]]") || starts_with nat_eq word (codes "{")

-- the line begins a vCPU
abbrev pub begins_vcpu : List ℕ → Bool
begins_vcpu line = begin_vcpu (words_of line)

-- the first line that gives the key a value, of lines that are numbered from this one on; if only one table is looked
-- at, it is before the next vCPU
abbrev pub key_line_from : Bool → List ℕ → ℕ → List (List ℕ) → Option (ℕ × List ℕ)
key_line_from in_table key number [] = None
key_line_from in_table key number (line ∷ lines) =
    if in_table && begins_vcpu line then None
    else (if gives_key key line then Some (number, line) else key_line_from in_table key (number + 1) lines)

-- the line that gives the key a value, in the table that goes on after so many lines
abbrev pub key_line_after : ℕ → List ℕ → List ℕ → Option (ℕ × List ℕ)
key_line_after count key text = key_line_from true key (count + 1) (drop count (lines_of text))

-- the line that gives a key of the host a value
abbrev pub host_line : List ℕ → List ℕ → Option (ℕ × List ℕ)
host_line key text = key_line_after 0 key (named_text text)

-- the first line that gives the key a value, in the host's table or in a vCPU's
abbrev pub any_line : List ℕ → List ℕ → Option (ℕ × List ℕ)
any_line key text = key_line_from false key 1 (lines_of (named_text text))

-- the line that begins the vCPU after so many others, of lines that are numbered from this one on
abbrev pub vcpu_start_from : ℕ → ℕ → List (List ℕ) → Option (ℕ × List ℕ)
vcpu_start_from count number [] = None
vcpu_start_from count number (line ∷ lines) =
    if not (begins_vcpu line) then vcpu_start_from count (number + 1) lines
    else (if count == 0 then Some (number, line) else vcpu_start_from (count - 1) (number + 1) lines)

-- the line that begins the vCPU of this number, from 0
abbrev pub vcpu_start : ℕ → List ℕ → Option (ℕ × List ℕ)
vcpu_start number text = vcpu_start_from number 1 (lines_of (named_text text))

-- the line that gives the key a value in the table that this line begins, or else this line; if no line begins the
-- vCPU, the line that gives the vCPUs of the host
abbrev pub key_line_of : List ℕ → List ℕ → Option (ℕ × List ℕ) → Option (ℕ × List ℕ)
key_line_of key text None = key_line_after 0 (codes "vcpu") text
key_line_of key text (Some start) = option_or (key_line_after start.0 key text) (Some start)

-- the line that gives a key of the vCPU of this number a value, or else the one that begins the vCPU, or all of them
abbrev pub vcpu_line : ℕ → List ℕ → List ℕ → Option (ℕ × List ℕ)
vcpu_line number key text = key_line_of key (named_text text) (vcpu_start number text)

-- the number of a line and the line in quotes, if there is one
abbrev pub line_part : Option (ℕ × List ℕ) → List ℕ
line_part None = []
line_part (Some line) = line_text line.0 line.1
