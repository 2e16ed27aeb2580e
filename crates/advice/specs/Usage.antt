-- The advice on words that are no command: what may be at the place of the fault, and what to type.
use Rattle.std.specs.Prelude.{ℕ, Bool, false, true, ◌==◌, ◌&&◌, ◌||◌, nat_le, not, if◌then◌else◌, List, [], ◌∷◌, ◌++◌, bytes_eq, codes, decimal, flat_map, Option, Some, None, slice_get, slice_index, take}
use Rattle.std.specs.List.{list_all, list_any}
use Rattle.advice.specs.Parts.{quoted}
use Rattle.advice.specs.declared.usage.Wanted.{Wanted}
use Rattle.advice.specs.declared.usage.Wanted.TheVariants.{Command, Nothing, Whole, Rounds, Mode, Seed, Cores, Vcpus}

-- what may be after this word, which is the only one so far
abbrev pub wanted_first : List ℕ → Wanted
wanted_first word = if bytes_eq word (codes "plan") then Whole
    else (if bytes_eq word (codes "replay") || bytes_eq word (codes "run") then Rounds
    else (if bytes_eq word (codes "gen") || bytes_eq word (codes "selftest") then Seed
    else Nothing))

-- what may be after two words, of which this is the first
abbrev pub wanted_second : List ℕ → Wanted
wanted_second word = if bytes_eq word (codes "run") then Mode
    else (if bytes_eq word (codes "gen") then Cores else Nothing)

-- what may be after three words, of which this is the first
abbrev pub wanted_third : List ℕ → Wanted
wanted_third word = if bytes_eq word (codes "gen") then Vcpus else Nothing

-- what may be after words that a command begins with
abbrev pub wanted_behind : List (List ℕ) → Wanted
wanted_behind [] = Command
wanted_behind (word ∷ []) = wanted_first word
wanted_behind (word ∷ second ∷ []) = wanted_second word
wanted_behind (word ∷ second ∷ third ∷ []) = wanted_third word
wanted_behind (word ∷ second ∷ third ∷ fourth ∷ more) = Nothing

-- the name of what has to be there; where nothing has to, these other words
abbrev pub wanted_name : Wanted → List ℕ → List ℕ
wanted_name Command other = codes "a command"
wanted_name Rounds other = codes "a count of rounds"
wanted_name Seed other = codes "a seed"
wanted_name Cores other = codes "a count of cores"
wanted_name Vcpus other = codes "a count of vCPUs"
wanted_name wanted other = other

-- what may be there, in words
abbrev pub wanted_word_text : Wanted → List ℕ
wanted_word_text Command =
    codes "the commands are plan, check, run, replay, gen and selftest; for help type: tableau --help"
wanted_word_text Nothing = codes "the command takes no more words"
wanted_word_text Whole = codes "plan takes no word but whole or stay"
wanted_word_text Rounds = codes "type a number from 1 to 10000"
wanted_word_text Mode = codes "run takes no more words but trace, burst or live"
wanted_word_text Seed = codes "type a number from 0 to 18446744073709551615"
wanted_word_text Cores = codes "type a number from 1 to 32"
wanted_word_text Vcpus = codes "type a number, at most 256 and at most 99 for each core and one more"

-- the word asks for help, or begins with a dash as nothing but `--help` and `--version` do
abbrev pub asks_help : List ℕ → Bool
asks_help word = (slice_index word 0 == 45) || bytes_eq word (codes "help")

-- a command of this name reads its input
abbrev pub reads_by_name : List ℕ → Bool
reads_by_name word = bytes_eq word (codes "plan") || (bytes_eq word (codes "check")
    || (bytes_eq word (codes "run") || bytes_eq word (codes "replay")))

-- the words begin with the name of a command that reads its input
abbrev pub read_behind : List (List ℕ) → Bool
read_behind [] = false
read_behind (word ∷ words) = reads_by_name word

-- a letter, a digit or one of `-./_`
abbrev pub is_plain_byte : ℕ → Bool
is_plain_byte byte = (nat_le 97 byte && nat_le byte 122) || ((nat_le 65 byte && nat_le byte 90)
    || ((nat_le 45 byte && nat_le byte 57) || (byte == 95)))

-- the word has a dot
abbrev pub has_dot : List ℕ → Bool
has_dot word = list_any (λ byte. byte == 46) word

-- the word has plain bytes alone: letters, digits and `-./_`
abbrev pub are_plain : List ℕ → Bool
are_plain word = list_all is_plain_byte word

-- the word looks like a file's name: it has a dot, and needs no quotes in a shell
abbrev pub is_file_word : List ℕ → Bool
is_file_word word = has_dot word && are_plain word

-- the file of the line to type: the word itself if it looks like one, else FILE
abbrev pub file_word : List ℕ → List ℕ
file_word word = if is_file_word word then word else codes "FILE"

-- a word after a space
abbrev pub after_space : List ℕ → List ℕ
after_space word = codes " " ++ word

-- the place of the count of rounds, where that is missing
abbrev pub wanted_rounds : Wanted → List ℕ
wanted_rounds Rounds = codes " ROUNDS"
wanted_rounds wanted = []

-- the file after the words
abbrev pub file_text : List (List ℕ) → List ℕ → List ℕ
file_text front word = wanted_rounds (wanted_behind front) ++ (codes " < " ++ (file_word word ++ codes "\n"))

-- the line to type: the words that are right, and the file after them
abbrev pub shell_text : List (List ℕ) → List ℕ → List ℕ
shell_text front word = codes "tableau: a file goes to standard input: tableau"
    ++ (flat_map after_space front ++ file_text front word)

-- some word is right
abbrev pub is_begun : List (List ℕ) → Bool
is_begun [] = false
is_begun (word ∷ words) = true

-- a digit or a point
abbrev pub is_figure : ℕ → Bool
is_figure byte = (nat_le 48 byte && nat_le byte 57) || (byte == 46)

-- the word has digits and points alone, so it is meant as a number and not as a file's name
abbrev pub are_figures : List ℕ → Bool
are_figures word = list_all is_figure word

-- what to type in place of a word after others
abbrev pub hint_text : List (List ℕ) → List ℕ → List ℕ
hint_text front word = if is_begun front
    then (if asks_help word then codes "tableau: for help type: tableau --help\n"
    else (if read_behind front && not (are_figures word) then shell_text front word else []))
    else []

-- the advice on a word at this place that is wrong after the words before it
abbrev pub found_word_text : List (List ℕ) → List ℕ → ℕ → List ℕ
found_word_text front word place = codes "tableau: word "
    ++ (decimal place ++ (codes ", " ++ (quoted word
    ++ (codes ", isn't " ++ (wanted_name (wanted_behind front) (codes "expected")
    ++ (codes ": " ++ (wanted_word_text (wanted_behind front) ++ codes "\n")))))))

-- the advice on words after which one is missing
abbrev pub missing_text : List (List ℕ) → List ℕ
missing_text front = codes "tableau: "
    ++ (wanted_name (wanted_behind front) (codes "a word")
    ++ (codes " is missing: " ++ (wanted_word_text (wanted_behind front) ++ codes "\n")))

-- the advice on what comes after words that are right: the word at this place is wrong, or none is there
abbrev pub behind_text : List (List ℕ) → ℕ → Option (List ℕ) → List ℕ
behind_text front place None = missing_text front
behind_text front place (Some word) = found_word_text front word place ++ hint_text front word

-- the advice on a fault at this place
abbrev pub usage_text : List (List ℕ) → ℕ → List ℕ
usage_text words place = behind_text (take place words) place (slice_get words place)
