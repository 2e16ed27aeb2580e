-- What a text is that was given by mistake, and what is said of it.
-- Source: the first bytes of UTF-16 are those of RFC 2781, section 3.2, and of what it writes of ASCII. The other kinds are
-- seen by the first line that says something.
use Rattle.std.specs.Prelude.{ℕ, Bool, false, ◌==◌, ◌&&◌, ◌||◌, nat_eq, nat_lt, not, if◌then◌else◌, List, [], ◌∷◌, bytes_eq, codes, drop, slice_index_or}
use Rattle.std.specs.List.{ends_with, list_any, starts_with}
use Rattle.script_doc.specs.Statements.{is_skipped}
use Rattle.tab_words.specs.Lines.{lines_of}
use Rattle.tab_words.specs.Words.{words_of}
use Rattle.advice.specs.KeyLines.{begin_value, begins_vcpu}
use Rattle.advice.specs.declared.mistaken.Kind.{Kind}
use Rattle.advice.specs.declared.mistaken.Kind.TheVariants.{Utf16, Refusal, Plan, Sizes, Script, Json, Yaml, Twice, NoUtf8, Control, Return, Host, Other}

-- the two bytes are the first of a text in UTF-16: its mark, or a character of ASCII
abbrev pub is_wide_start : ℕ → ℕ → Bool
is_wide_start first second = ((first == 255) && (second == 254)) || (((first == 254) && (second == 255))
    || ((first == 0) || (second == 0)))

-- the text is in UTF-16
abbrev pub is_wide : List ℕ → Bool
is_wide [] = false
is_wide (first ∷ []) = false
is_wide (first ∷ second ∷ bytes) = is_wide_start first second

-- the first of the lines that is neither blank nor a comment, or nothing
abbrev pub said_in : List (List ℕ) → List ℕ
said_in [] = []
said_in (line ∷ lines) = if is_skipped line then said_in lines else line

-- the first line that says something
abbrev pub first_said : List ℕ → List ℕ
first_said text = said_in (lines_of text)

-- the first word, or nothing
abbrev pub first_of_words : List (List ℕ) → List ℕ
first_of_words words = slice_index_or words 0 []

-- the word begins a refusal
abbrev pub is_refusal : List ℕ → Bool
is_refusal first = bytes_eq first (codes "refused:") || bytes_eq first (codes "no:")

-- the words begin a plan
abbrev pub is_plan : List ℕ → List ℕ → Bool
is_plan first second = bytes_eq first (codes "plan") && bytes_eq second (codes "cores")

-- the words begin a size of VMs
abbrev pub is_size : List ℕ → List ℕ → List ℕ → Bool
is_size first second third = not (starts_with nat_eq second (codes "="))
    && (bytes_eq first (codes "vm") || bytes_eq third (codes "x"))

-- the word is that of an event
abbrev pub is_event : List ℕ → Bool
is_event second = bytes_eq second (codes "wake") || (bytes_eq second (codes "block")
    || (bytes_eq second (codes "burst") || bytes_eq second (codes "change")))

-- the word begins JSON
abbrev pub is_json : List ℕ → Bool
is_json first = starts_with nat_eq first (codes "{") || (bytes_eq first (codes "[")
    || starts_with nat_eq first (codes "[{"))

-- the word begins YAML
abbrev pub is_yaml : List ℕ → Bool
is_yaml first = ends_with nat_eq first (codes ":") || bytes_eq first (codes "---")

-- the kind of a text whose first line that says something begins with these words, the last of which may be nothing
abbrev pub kind_of_three : List ℕ → List ℕ → List ℕ → Kind
kind_of_three first second third = if is_refusal first then Refusal
    else (if is_plan first second then Plan
    else (if is_size first second third then Sizes
    else (if is_event second then Script
    else (if is_json first then Json
    else (if is_yaml first then Yaml else Other)))))

-- the kind of a text whose first line that says something has these words
abbrev pub kind_of_words : List (List ℕ) → Kind
kind_of_words words = kind_of_three (first_of_words words) (first_of_words (drop 1 words))
    (first_of_words (drop 1 (drop 1 words)))

-- the byte is one of the control characters of ASCII, other than a tab
abbrev pub is_control : ℕ → Bool
is_control byte = (nat_lt byte 32 && not (byte == 9)) || (byte == 127)

-- the line has such a byte
abbrev pub has_control : List ℕ → Bool
has_control line = list_any is_control line

-- how a line is wrong that the reader of TOML refuses with these words
abbrev pub kind_of_fault : List ℕ → List ℕ → Kind
kind_of_fault line message = if bytes_eq message (codes "duplicate key") then Twice
    else (if bytes_eq message (codes "invalid UTF-8") then NoUtf8
    else (if has_control line then Control else Other))

-- the one kind, or where the text is of no kind the other
abbrev pub kind_or : Kind → Kind → Kind
kind_or Other kind = kind
kind_or known kind = known

-- what a text is that is no host document: this line is the one that the reader of TOML refuses with these words
abbrev pub kind_of_text : List ℕ → List ℕ → List ℕ → Kind
kind_of_text text line message = if is_wide text then Utf16
    else kind_or (kind_of_words (words_of (first_said text))) (kind_of_fault line message)

-- what is said of a text that is no host document
abbrev pub kind_text : Kind → List ℕ
kind_text Utf16 = codes "the text is in UTF-16: save it in UTF-8"
kind_text Refusal = codes "the text is the refusal of an earlier call: do what that says first"
kind_text Plan = codes "the text is a plan: the host comes first, then a line %%, then its plan"
kind_text Sizes = codes "the text has sizes of VMs: tableau-tools host --cores N makes a host document of them"
kind_text Script = codes "the text is a script: the host comes first, then a line %%, then its script"
kind_text Json = codes "the text is JSON, and a host document is TOML:\ntableau: a line cores = 1, and a line [[vcpu]] before the keys of each vCPU"
kind_text Yaml = codes "the text is YAML, and a host document is TOML: cores = 1, not cores: 1"
kind_text Twice = codes "a table has a key once: leave one line out, or begin another vCPU by [[vcpu]]"
kind_text NoUtf8 = codes "the text isn't in UTF-8: save it so"
kind_text Control = codes "a ? there is a byte that no text has: leave it out"
kind_text _ = codes "texts are in quotes, and a number has neither % nor unit:\ntableau: share_ppm 200000 is 20 %, latency_ns 20000000 is 20 ms"

-- what a line is that is none of a plan: a refusal, the first of a plan, a line that ends in CR LF, or one of a host
abbrev pub kind_of_plan_line : List ℕ → Kind
kind_of_plan_line line = if is_refusal (first_of_words (words_of line)) then Refusal
    else (if ends_with nat_eq line (codes "\r") then Return
    else (if begins_vcpu line || begin_value (drop 1 (words_of line)) then Host else Other))

-- what is said of a line that is none of a plan; of one that is of no other text, these words
abbrev pub plan_kind_text : Kind → List ℕ → List ℕ
plan_kind_text Refusal other = codes "; it is the refusal of an earlier call: do what that says, and plan again"
plan_kind_text Return other = codes "; it ends in CR LF, and lines end in LF alone: tableau-tools sections mends that"
plan_kind_text Host other = codes "; it is of a host document: tableau plan makes the plan of it"
plan_kind_text kind other = other

-- what a line is that is none of a script: the first of a plan, or as none of a plan
abbrev pub kind_of_script_line : List ℕ → Kind
kind_of_script_line line = if is_plan (first_of_words (words_of line)) (first_of_words (drop 1 (words_of line))) then Plan
    else kind_of_plan_line line

-- what is said of a line that is none of a script; of one that is of no other text, these words
abbrev pub script_kind_text : Kind → List ℕ → List ℕ
script_kind_text Refusal other = codes "it is the refusal of an earlier call: do what that says first"
script_kind_text Plan other = codes "it is the first line of a plan, and a script is wanted there"
script_kind_text Return other = codes "it ends in CR LF, and lines end in LF alone:\ntableau: tableau-tools sections mends that"
script_kind_text Host other = codes "it is of a host document, which comes before the script"
script_kind_text kind other = other
