-- What a line says of a plan, of a run, or of neither, and the words by which it says so. The forms are
-- this project's own, as the programs of it write them.
use Rattle.std.specs.Prelude.{◌≡◌, ℕ, ◌<◌, ◌≤◌, ◌^◌, List, [], ◌∷◌, codes, decimal}
use Rattle.tab_core.specs.Name.{IsName}
use Rattle.tab_core.specs.declared.TheConstants.{MAX_CORES, MAX_VCPUS}
use Rattle.tab_words.specs.Texts.{Line}
use Rattle.view_doc.specs.Items.{FitsForm, IsItem, report_form}

-- who has the ticks of a line: nobody, a vCPU in its slot, or one in time that nobody used
pub data Holder : Type 0 where
  nobody : Holder
  in_slot : List ℕ → Holder
  in_unused : List ℕ → Holder

-- what a line says
pub data Told : Type 0 where
  -- a plan begins, for so many cores and vCPUs
  head : ℕ → ℕ → Told
  -- a vCPU's name, period, cost and home
  task : List ℕ → ℕ → ℕ → ℕ → Told
  -- the segments of this core follow
  core : ℕ → Told
  -- the ticks up to this one are of the holder
  segment : ℕ → Holder → Told
  -- the plan ends
  end : Told
  -- a run follows the plan
  cut : Told
  -- a core, the round that it enters, and the count of events that the round's plan includes
  entry : ℕ → ℕ → ℕ → Told
  -- a core, the ticks from the first number up to the second, the counts of events that its plan and
  -- its runnable set include, and the holder
  stint : ℕ → ℕ → ℕ → ℕ → ℕ → Holder → Told
  -- a replay ends, after so many events
  posted : ℕ → Told
  -- a report begins, goes on, and ends
  report : Line → Told
  item : Line → Told
  done : Told

-- the name of whoever is the owner of a segment, or `-`
abbrev pub word_of_holder : Holder → List ℕ
word_of_holder nobody = codes "-"
word_of_holder (in_slot name) = name
word_of_holder (in_unused name) = name

-- how the holder came to run
abbrev pub how_of_holder : Holder → List ℕ
how_of_holder nobody = codes "idle"
how_of_holder (in_slot name) = codes "slot"
how_of_holder (in_unused name) = codes "shared"

-- the words of a line
abbrev pub told_words : Told → Line
told_words (head cores vcpus) =
    codes "plan" ∷ codes "cores" ∷ decimal cores ∷ codes "vcpus" ∷ decimal vcpus ∷ []
told_words (task name period cost home) =
    codes "vcpu" ∷ name ∷ codes "period" ∷ decimal period ∷ codes "cost" ∷ decimal cost
    ∷ codes "home" ∷ decimal home ∷ []
told_words (core c) = codes "core" ∷ decimal c ∷ []
told_words (segment to holder) = decimal to ∷ word_of_holder holder ∷ []
told_words end = codes "end" ∷ []
told_words cut = codes "%%" ∷ []
told_words (entry c round count) =
    codes "core" ∷ decimal c ∷ codes "round" ∷ decimal round ∷ codes "count" ∷ decimal count ∷ []
told_words (stint c from to used seen holder) =
    codes "core" ∷ decimal c ∷ decimal from ∷ decimal to
    ∷ codes "used" ∷ decimal used ∷ codes "seen" ∷ decimal seen
    ∷ word_of_holder holder ∷ how_of_holder holder ∷ []
told_words (posted count) = codes "posted" ∷ decimal count ∷ []
told_words (report words) = words
told_words (item words) = words
told_words done = codes "done" ∷ []

-- the holder, if there is one, has the form of a name
abbrev pub IsGoodHolder : Holder → Type 0
IsGoodHolder nobody = Unit {0}
IsGoodHolder (in_slot name) = IsName name
IsGoodHolder (in_unused name) = IsName name

-- the owner of a segment has it as its slot
abbrev pub IsGoodOwner : Holder → Type 0
IsGoodOwner nobody = Unit {0}
IsGoodOwner (in_slot name) = IsName name
IsGoodOwner (in_unused name) = ⊥

-- numbers and names are in their ranges
abbrev pub IsGood : Told → Type 0
IsGood (head cores vcpus) = (1 ≤ cores) × (cores ≤ MAX_CORES) × (vcpus ≤ MAX_VCPUS)
IsGood (task name period cost home) = IsName name × (period < 2 ^ 32) × (cost < 2 ^ 32) × (home < MAX_CORES)
IsGood (core c) = c < MAX_CORES
IsGood (segment to holder) = (to < 2 ^ 32) × IsGoodOwner holder
IsGood end = Unit {0}
IsGood cut = Unit {0}
IsGood (entry c round count) = (c < MAX_CORES) × (round < 2 ^ 32) × (count < 2 ^ 32)
IsGood (stint c from to used seen holder) = (c < MAX_CORES) × (from < 2 ^ 32) × (to < 2 ^ 32)
    × (used < 2 ^ 32) × (seen < 2 ^ 32) × IsGoodHolder holder
IsGood (posted count) = count < 2 ^ 32
IsGood (report words) = FitsForm words report_form
IsGood (item words) = IsItem words
IsGood done = Unit {0}

-- the words say this
pub record Says (words : Line) (told : Told) : Type 0 where
  pub written : words ≡ told_words told
  pub good : IsGood told

-- the words say nothing
abbrev pub SaysNothing : Line → Type 0
SaysNothing words = (told : Told) → Says words told → ⊥

-- a line of a report isn't plain: it is read past
abbrev pub IsPlain : Told → Type 0
IsPlain (report words) = ⊥
IsPlain (item words) = ⊥
IsPlain _ = Unit {0}
