-- What is written before a command reads a terminal: which texts it reads, in their order, and what to
-- type.
use Rattle.std.specs.Prelude.{ℕ, List, [], ◌++◌, codes, flat_map}
use Rattle.tab_words.specs.declared.command.Command.{Command}
use Rattle.tab_words.specs.declared.command.Command.TheVariants.{Plan, PlanStay, PlanWhole, Check, Replay, Run}
use Rattle.advice.specs.Usage.{after_space}

-- the line that says which texts are read
abbrev pub reading_text : List ℕ → List ℕ
reading_text input = codes "tableau: reading " ++ (input ++ codes " from the terminal\n")

-- the line to type: the words of the command, and a file after them
abbrev pub typed_text : List (List ℕ) → List ℕ
typed_text words = flat_map after_space words ++ codes " < FILE\n"

-- what ends the input, and what to type to read a file
abbrev pub ending_text : List (List ℕ) → List ℕ
ending_text words = codes "tableau: end the input with Ctrl-D, or use: tableau" ++ typed_text words

-- the prompt of a command of these words that reads these texts from a terminal
abbrev pub asking_text : List (List ℕ) → List ℕ → List ℕ
asking_text words input = reading_text input ++ ending_text words

-- what is written of a command of these words; nothing of one that reads nothing
abbrev pub prompt_text : List (List ℕ) → Command → List ℕ
prompt_text words Plan = asking_text words (codes "a host document")
prompt_text words PlanWhole = asking_text words (codes "a host document")
prompt_text words PlanStay = asking_text words (codes "a host document, a line %% and an earlier plan text")
prompt_text words Check = asking_text words (codes "a host document, a line %% and a plan text")
prompt_text words (Replay rounds) =
    asking_text words (codes "a host document, a line %%, a script, a line %% and a list of steps")
prompt_text words (Run rounds mode) = asking_text words (codes "a host document, a line %% and a script")
prompt_text words command = []
