-- The lines of a report, which is read past.
use Rattle.std.specs.Prelude.{◌≡◌, ℕ, ◌⊎◌, List, [], ◌∷◌, codes}
use Rattle.tab_core.specs.Name.{IsName}
use Rattle.tab_words.specs.Numbers.{Spells}
use Rattle.tab_words.specs.Texts.{Line}

-- what is at a place of a report's line: this word, a number, a name, or any word
pub data Blank : Type 0 where
  this : List ℕ → Blank
  a_number : Blank
  a_name : Blank
  any_word : Blank

-- the word is a number below 2^64
pub record IsNumber (word : List ℕ) : Type 0 where
  pub value : ℕ
  pub spelled : Spells word value

-- the word may be in this place of a line
abbrev pub Fills : List ℕ → Blank → Type 0
Fills word (this other) = word ≡ other
Fills word a_number = IsNumber word
Fills word a_name = IsName word
Fills word any_word = Unit {0}

-- each of the words fits its form
abbrev pub FitsForm : Line → List Blank → Type 0
FitsForm [] [] = Unit {0}
FitsForm (word ∷ words) (blank ∷ form) = Fills word blank × FitsForm words form
FitsForm _ _ = ⊥

-- the form of a report's first line: how many rounds, cores and events there are
abbrev pub report_form : List Blank
report_form = this (codes "run") ∷ a_number ∷ this (codes "rounds") ∷ a_number ∷ this (codes "cores") ∷ a_number
    ∷ this (codes "events") ∷ []

-- the form of a round's line: the number of its plan
abbrev pub round_form : List Blank
round_form = this (codes "round") ∷ a_number ∷ this (codes "plan") ∷ a_number ∷ []

-- the form of a vCPU's line: the ticks that it was offered, had in its slots and had besides, and its gap
abbrev pub vcpu_form : List Blank
vcpu_form = this (codes "vcpu") ∷ a_name ∷ this (codes "offered") ∷ a_number ∷ this (codes "slots") ∷ a_number
    ∷ this (codes "shared") ∷ a_number ∷ this (codes "gap") ∷ a_number ∷ []

-- the form of a core's line: the ticks in which it ran vCPUs in their slots, ran others, and idled
abbrev pub core_form : List Blank
core_form = this (codes "core") ∷ a_number ∷ this (codes "slots") ∷ a_number ∷ this (codes "shared") ∷ a_number
    ∷ this (codes "idle") ∷ a_number ∷ []

-- the form of the line of a change that was planned; the tick's word, which ends in a colon, isn't read
abbrev pub planned_form : List Blank
planned_form = this (codes "change") ∷ a_number ∷ this (codes "at") ∷ any_word ∷ this (codes "planned") ∷ []

-- the form of the line of a change that was refused: what is missing, and for which vCPU
abbrev pub refused_form : List Blank
refused_form = this (codes "change") ∷ a_number ∷ this (codes "at") ∷ any_word
    ∷ this (codes "no") ∷ any_word ∷ this (codes "for") ∷ a_name ∷ []

-- the words are a report's line between its first and its last
abbrev pub IsItem : Line → Type 0
IsItem words = FitsForm words round_form ⊎ (FitsForm words vcpu_form ⊎ (FitsForm words core_form
    ⊎ (FitsForm words planned_form ⊎ FitsForm words refused_form)))
