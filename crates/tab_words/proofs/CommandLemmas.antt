-- Commands and faults exclude each other, and each list of words has one of them.
use Rattle.std.proofs.Common.{arith, ◌+◌, ◌*◌, ◌-◌, ◌^◌, ◌≡◌, ◌≢◌, ℕ, ◌<◌, ◌≤◌, min, lit<, lit≤, inl, inr, List, [], ◌∷◌, ◌++◌, length, take, drop, codes, decimal, ap, subst, sym, ◌∙◌, refl, false, append_assoc, String, string_bytes, Result, Ok, Err, MatchResult}
use Rattle.std.specs.Str.{bytes_eq}
use Rattle.std.proofs.lemmas.Slice.Eq.{bytes_eq-Decides}
use Rattle.std.proofs.lemmas.List.{take-append-drop, take-take, take_all, length-append, append-nil}
use Rattle.std.proofs.Math.Seq.{take-append_seam, take-append-add}
use Rattle.std.proofs.lemmas.Fmt.{decimal_injective}
use Rattle.std.specs.declared.alloc.Global.{Global}
use Rattle.tab_core.specs.declared.TheConstants.{MAX_CORES, MAX_ROUNDS, MAX_VCPUS}
use Rattle.tab_words.specs.Commands.{BeginsCommand, IsCommand, IsFaultAt, IsGenerable, IsNoCommand, IsRoundCount, mode_words, texts}
use Rattle.tab_words.specs.Inside.Readings.{BeginsWithNumber, IsReading}
use Rattle.tab_words.specs.Numbers.{Spells}
use Rattle.tab_words.specs.declared.command.Command.{Command}
use Rattle.tab_words.specs.declared.command.Command.TheVariants.{Plan, PlanWhole, PlanStay, Check, Replay, Run, Gen, Selftest, Help, Version}
use Rattle.tab_words.specs.declared.command.RunMode.{RunMode}
use Rattle.tab_words.specs.declared.command.RunMode.TheVariants.{Report, Trace, Burst, Live}
use Rattle.tab_words.specs.declared.command.Usage.{Usage}
use Rattle.tab_words.proofs.NumberLemmas.{spelled_once}

-- ---- any grammar

-- a prefix of words that begin a command begins it too
begun_front : (front back : List (List ℕ)) → BeginsCommand (front ++ back) → BeginsCommand front
begun_front front back begun = record {
  command = begun.command;
  rest = back ++ begun.rest;
  whole = subst (λ ws. IsCommand ws begun.command) (append_assoc front back begun.rest) begun.whole;
}

-- each prefix of a command begins it
begun_by_command : (words : List (List ℕ)) (command : Command) (n : ℕ) → IsCommand words command
    → BeginsCommand (take n words)
begun_by_command words command n is = record {
  command = command;
  rest = drop n words;
  whole = subst (λ ws. IsCommand ws command) (sym (take-append-drop n words)) is;
}

-- words are not both a command and at fault
pub no_fault : (words : List (List ℕ)) (command : Command) (place : ℕ) → IsCommand words command
    → IsFaultAt words place → ⊥
no_fault words command place is fault =
    elim fault.fault [
      | inl stops ↦ stops.1 (begun_by_command words command (place + 1) is)
      | inr ends ↦
          ends.1 command is
    ]

-- a fault is at a word, or after the last
fault_within : (words : List (List ℕ)) (place : ℕ) → IsFaultAt words place → place ≤ length words
fault_within words place fault = elim fault.fault [ inl stops ↦ omega arith | inr ends ↦ omega arith ]

-- no fault is after another: the words up to the later one begin a command
not_before : (words : List (List ℕ)) (place later : ℕ) → IsFaultAt words place → IsFaultAt words later
    → place < later → ⊥
not_before words place later fault other less =
    let within = fault_within words later other in
    let longer : take later words ≡ take (place + 1) words ++ drop (place + 1) (take later words) =
    sym (take-append-drop (place + 1) (take later words))
    ∙ ap (λ front. front ++ drop (place + 1) (take later words))
    (take-take (place + 1) later words (omega arith)) in
    elim fault.fault [
      | inl stops ↦
          stops.1 (begun_front (take (place + 1) words) (drop (place + 1) (take later words))
          (subst BeginsCommand longer other.before))
      | inr ends ↦ absurd (omega arith)
    ]

-- words have one fault at most
pub one_place : (words : List (List ℕ)) (a b : ℕ) → IsFaultAt words a → IsFaultAt words b → a ≡ b
one_place words a b fault other =
    let no_less = not_before words a b fault other in
    let no_more = not_before words b a other fault in
    grind arith

-- no command goes on with this word after these
abbrev GoesNotOn : List (List ℕ) → List ℕ → Type 0
GoesNotOn front word = (command : Command) (rest : List (List ℕ)) → IsCommand (front ++ word ∷ rest) command → ⊥

-- a word with which no command goes on is the fault of words that begin one before it
fault_at_word : (front : List (List ℕ)) (word : List ℕ) (rest : List (List ℕ)) → BeginsCommand front
    → GoesNotOn front word → IsFaultAt (front ++ word ∷ rest) (length front)
fault_at_word front word rest begun none =
    let up_to : take (length front + 1) (front ++ word ∷ rest) ≡ front ++ word ∷ [] =
    take-append-add front (word ∷ rest) 1 in
    record {
      before = subst BeginsCommand (sym (take-append_seam front (word ∷ rest))) begun;
      fault = inl (
        omega (arith, length-append front (word ∷ rest)),
        λ on. none on.command on.rest (subst (λ ws. IsCommand ws on.command)
            (ap (λ ws. ws ++ on.rest) up_to ∙ append_assoc front (word ∷ []) on.rest) on.whole),
      );
    }

-- words that begin a command and are none want another word
fault_at_end : (front : List (List ℕ)) → BeginsCommand front → IsNoCommand front → IsFaultAt front (length front)
fault_at_end front begun none = record {
  before = subst BeginsCommand (sym (take_all (length front) front (omega arith))) begun;
  fault = inr (refl, none);
}

-- each command that begins with these words goes on with a number in this range
abbrev GoesOnWithNumber : List (List ℕ) → ℕ → ℕ → Type 0
GoesOnWithNumber front least most = (command : Command) (rest : List (List ℕ))
    → IsCommand (front ++ rest) command → BeginsWithNumber least most rest

-- where no number in the range follows words that only such a number goes on from, the fault is
-- there
fault_at_number : (front words : List (List ℕ)) (least most : ℕ) → BeginsCommand front
    → GoesOnWithNumber front least most → (BeginsWithNumber least most words → ⊥)
    → IsFaultAt (front ++ words) (length front)
fault_at_number front [] least most begun shape none =
    subst (λ ws. IsFaultAt ws (length front)) (sym (append-nil front)) (fault_at_end front begun
    (λ command is. none (shape command [] (subst (λ ws. IsCommand ws command) (sym (append-nil front)) is))))
fault_at_number front (word ∷ rest) least most begun shape none =
    fault_at_word front word rest begun (λ command more is.
    let on = shape command (word ∷ more) is in
    let spelled : word ≡ decimal on.number = cc on.digits in
    none (record {
      number = on.number;
      rest = rest;
      digits = ap (λ w. w ∷ rest) spelled;
      enough = on.enough;
      few = on.few;
    }))

-- no words begin with no number
pub begins_nothing : (least most : ℕ) (words : List (List ℕ)) → words ≡ []
    → BeginsWithNumber least most words → ⊥
begins_nothing least most words none begins = omega (arith, ap length (sym begins.digits ∙ none))

-- words of which the first spells no number begin with none
pub begins_none : (least most : ℕ) (words : List (List ℕ)) (word : List ℕ) (rest : List (List ℕ))
    → words ≡ word ∷ rest → most < 2 ^ 64 → ((n : ℕ) → Spells word n → ⊥) → BeginsWithNumber least most words → ⊥
begins_none least most words word rest is fits none begins =
    let spelled : word ≡ decimal begins.number = cc (is, begins.digits) in
    none begins.number (record { fits = omega (arith, begins.few); digits = spelled })

-- the number with which words begin is the one that the first spells
pub begins_once : (least most : ℕ) (words : List (List ℕ)) (word : List ℕ) (rest : List (List ℕ)) (n : ℕ)
    → words ≡ word ∷ rest → most < 2 ^ 64 → Spells word n → (begins : BeginsWithNumber least most words)
    → n ≡ begins.number
begins_once least most words word rest n is fits spells begins =
    let spelled : word ≡ decimal begins.number = cc (is, begins.digits) in
    spelled_once word n begins.number spells (omega (arith, begins.few)) spelled

-- what the reader of a command's end answers
abbrev pub ReadsEnd : Command → ℕ → List (String Global) → Result Command Usage → Type 0
ReadsEnd command place rest r =
    MatchResult r (λ read. (read ≡ command) × (rest ≡ [])) (λ usage. (usage.place ≡ place) × (0 < length rest))

-- where no command goes on, the reader looks only whether a word follows: that is enough
reading_end : (front : List (List ℕ)) (command : Command) (rest : List (String Global))
    (r : Result Command Usage) → IsCommand front command → ((word : List ℕ) → GoesNotOn front word)
    → ReadsEnd command (length front) rest r → IsReading (front ++ texts rest) r
reading_end front command [] (Ok read) is none reads =
    subst (IsCommand (front ++ [])) (sym reads.0)
    (subst (λ ws. IsCommand ws command) (sym (append-nil front)) is)
reading_end front command (word ∷ rest) (Ok read) is none reads = absurd cc
reading_end front command [] (Err usage) is none reads = absurd (omega arith)
reading_end front command (word ∷ rest) (Err usage) is none reads =
    let begun : BeginsCommand front = record {
      command = command;
      rest = [];
      whole = subst (λ ws. IsCommand ws command)
          (sym (append-nil front)) is;
    } in
    subst (IsFaultAt (front ++ texts (word ∷ rest))) (sym reads.0)
    (fault_at_word front (string_bytes word) (texts rest) begun (none (string_bytes word)))

-- ---- the commands, by their names

-- the first word of a command
abbrev name_of : Command → List ℕ
name_of Plan = codes "plan"
name_of PlanWhole = codes "plan"
name_of PlanStay = codes "plan"
name_of Check = codes "check"
name_of (Replay rounds) = codes "replay"
name_of (Run rounds mode) = codes "run"
name_of (Gen seed cores vcpus) = codes "gen"
name_of (Selftest seed) = codes "selftest"
name_of Help = codes "--help"
name_of Version = codes "--version"

-- the words after a command's name
abbrev arguments_of : Command → List (List ℕ)
arguments_of Plan = []
arguments_of PlanWhole = codes "whole" ∷ []
arguments_of PlanStay = codes "stay" ∷ []
arguments_of Check = []
arguments_of (Replay rounds) = decimal rounds ∷ []
arguments_of (Run rounds mode) = decimal rounds ∷ mode_words mode
arguments_of (Gen seed cores vcpus) = decimal seed ∷ decimal cores ∷ decimal vcpus ∷ []
arguments_of (Selftest seed) = decimal seed ∷ []
arguments_of Help = []
arguments_of Version = []

-- a command is its name and its arguments: the cases below compare names alone
named : (words : List (List ℕ)) (command : Command) → IsCommand words command
    → words ≡ name_of command ∷ arguments_of command
named words Plan is = is
named words PlanWhole is = is
named words PlanStay is = is
named words Check is = is
named words (Replay rounds) is = is.0
named words (Run rounds mode) is = is.0
named words (Gen seed cores vcpus) is = is.0
named words (Selftest seed) is = is.0
named words Help is = is
named words Version is = is

-- words that begin with another name are another command
pub other_word : {a b : List ℕ} (more others : List (List ℕ)) → bytes_eq a b ≡ false → a ∷ more ≡ b ∷ others → ⊥
other_word {a} {b} more others other same =
    let name : a ≡ b = cc in
    absurd (cc (other, (bytes_eq-Decides a b).1 name))

-- a number of a command has one spelling
same_number : (m n : ℕ) → m < 2 ^ 64 → n < 2 ^ 64 → decimal m ≡ decimal n → m ≡ n
same_number m n few other same = decimal_injective m n (omega arith) (omega arith) same

-- what a run writes has one spelling
same_mode : (a b : RunMode) → mode_words a ≡ mode_words b → a ≡ b
same_mode Report Report same = refl
same_mode Trace Trace same = refl
same_mode Burst Burst same = refl
same_mode Live Live same = refl
same_mode Report Trace same = absurd (omega (arith, ap length same))
same_mode Trace Report same = absurd (omega (arith, ap length same))
same_mode Report Burst same = absurd (omega (arith, ap length same))
same_mode Burst Report same = absurd (omega (arith, ap length same))
same_mode Report Live same = absurd (omega (arith, ap length same))
same_mode Live Report same = absurd (omega (arith, ap length same))
same_mode Trace Burst same = absurd (other_word [] [] refl same)
same_mode Trace Live same = absurd (other_word [] [] refl same)
same_mode Burst Trace same = absurd (other_word [] [] refl same)
same_mode Burst Live same = absurd (other_word [] [] refl same)
same_mode Live Trace same = absurd (other_word [] [] refl same)
same_mode Live Burst same = absurd (other_word [] [] refl same)

-- `plan whole` isn't `plan stay`
other_kind : codes "plan" ∷ codes "whole" ∷ [] ≡ codes "plan" ∷ codes "stay" ∷ [] → ⊥
other_kind same =
    let kinds : codes "whole" ∷ [] ≡ codes "stay" ∷ [] = cc same in
    other_word [] [] refl kinds

-- words are one command at most
pub same_command : (words : List (List ℕ)) (a b : Command) → IsCommand words a → IsCommand words b → a ≡ b
same_command words Plan Plan p q = refl
same_command words Plan PlanWhole p q = absurd (omega (arith, ap length (sym p ∙ q)))
same_command words PlanWhole Plan p q = absurd (omega (arith, ap length (sym p ∙ q)))
same_command words PlanWhole PlanWhole p q = refl
same_command words Plan PlanStay p q = absurd (omega (arith, ap length (sym p ∙ q)))
same_command words PlanStay Plan p q = absurd (omega (arith, ap length (sym p ∙ q)))
same_command words PlanStay PlanStay p q = refl
same_command words PlanWhole PlanStay p q = absurd (other_kind (sym p ∙ q))
same_command words PlanStay PlanWhole p q = absurd (other_kind (sym q ∙ p))
same_command words Check Check p q = refl
same_command words (Replay m) (Replay n) p q =
    let spelling : decimal m ≡ decimal n = cc (p.0, q.0) in
    ap Replay (same_number m n (omega (arith, p.1.1)) (omega (arith, q.1.1)) spelling)
same_command words (Run m mode) (Run n other) p q =
    let spelling : decimal m ≡ decimal n = cc (p.0, q.0) in
    let modes : mode_words mode ≡ mode_words other = cc (p.0, q.0) in
    let count = same_number m n (omega (arith, p.1.1)) (omega (arith, q.1.1)) spelling in
    ap (λ r. Run r mode) count ∙ ap (Run n) (same_mode mode other modes)
same_command words (Gen s c v) (Gen t d w) p q =
    let seeds : decimal s ≡ decimal t = cc (p.0, q.0) in
    let cores : decimal c ≡ decimal d = cc (p.0, q.0) in
    let vcpus : decimal v ≡ decimal w = cc (p.0, q.0) in
    ap (λ n. Gen n c v) (same_number s t p.1.seed_fits q.1.seed_fits seeds)
    ∙ ap (λ n. Gen t n v) (same_number c d (omega (arith, p.1.few)) (omega (arith, q.1.few)) cores)
    ∙ ap (Gen t d) (same_number v w (omega (arith, p.1.few_vcpus)) (omega (arith, q.1.few_vcpus)) vcpus)
same_command words (Selftest s) (Selftest t) p q =
    let spelling : decimal s ≡ decimal t = cc (p.0, q.0) in
    ap Selftest (same_number s t p.1 q.1 spelling)
same_command words Help Help p q = refl
same_command words Version Version p q = refl
same_command words a b p q =
    absurd (other_word (arguments_of a) (arguments_of b) refl (sym (named words a p) ∙ named words b q))

-- the answer is due where the words are a command, and where they have a fault
pub command_due : (words : List (List ℕ)) (r : Result Command Usage) → IsReading words r
    → (command : Command) → IsCommand words command → r ≡ Ok command
command_due words (Ok read) reading command is = ap Ok (same_command words read command reading is)
command_due words (Err usage) reading command is = absurd (no_fault words command usage.place is reading)

-- a fault is due where the words have it
pub fault_due : (words : List (List ℕ)) (r : Result Command Usage) → IsReading words r → (place : ℕ)
    → IsFaultAt words place → r ≡ Err (record { place = place })
fault_due words (Ok read) reading place fault = absurd (no_fault words read place reading fault)
fault_due words (Err usage) reading place fault =
    ap (λ p. Err (record { place = p })) (one_place words usage.place place reading fault)

-- ---- names

-- no words are no command
nothing : IsNoCommand []
nothing command is = omega (arith, ap length (named [] command is))

-- the fault of no words is at the word that is missing
pub fault_of_none : IsFaultAt [] 0
fault_of_none = record {
  before = record { command = Plan; rest = codes "plan" ∷ []; whole = refl };
  fault = inr (refl, nothing);
}

-- a name that no command has
pub record IsUnknown (name : List ℕ) : Type 0 where
  pub no_plan : name ≢ codes "plan"
  pub no_check : name ≢ codes "check"
  pub no_replay : name ≢ codes "replay"
  pub no_run : name ≢ codes "run"
  pub no_gen : name ≢ codes "gen"
  pub no_selftest : name ≢ codes "selftest"
  pub no_help : name ≢ codes "--help"
  pub no_version : name ≢ codes "--version"

-- a name that no command has begins none
unknown : (name : List ℕ) (rest : List (List ℕ)) → IsUnknown name → IsNoCommand (name ∷ rest)
unknown name rest other Plan is = absurd (other.no_plan cc)
unknown name rest other PlanWhole is = absurd (other.no_plan cc)
unknown name rest other PlanStay is = absurd (other.no_plan cc)
unknown name rest other Check is = absurd (other.no_check cc)
unknown name rest other (Replay rounds) is = absurd (other.no_replay (cc is.0))
unknown name rest other (Run rounds mode) is = absurd (other.no_run (cc is.0))
unknown name rest other (Gen seed cores vcpus) is = absurd (other.no_gen (cc is.0))
unknown name rest other (Selftest seed) is = absurd (other.no_selftest (cc is.0))
unknown name rest other Help is = absurd (other.no_help cc)
unknown name rest other Version is = absurd (other.no_version cc)

-- the fault of a name that no command has is at that name
pub fault_of_name : (name : List ℕ) (rest : List (List ℕ)) → IsUnknown name → IsFaultAt (name ∷ rest) 0
fault_of_name name rest other = record {
  before = record { command = Plan; rest = codes "plan" ∷ []; whole = refl };
  fault = inl (
    omega arith,
    λ begun. unknown name begun.rest other begun.command begun.whole,
  );
}

-- ---- commands of one word: nothing may follow it

-- the reader of `check` answers by the grammar
pub reading_check : (rest : List (String Global)) (r : Result Command Usage) → ReadsEnd Check 1 rest r
    → IsReading (codes "check" ∷ texts rest) r
reading_check rest r reads = reading_end (codes "check" ∷ []) Check rest r refl after reads where
  after : (word : List ℕ) → GoesNotOn (codes "check" ∷ []) word
  after word Check more is = omega (arith, ap length is)
  after word command more is = other_word (word ∷ more) (arguments_of command) refl (named _ command is)

-- the reader of `--help` answers by the grammar
pub reading_help : (rest : List (String Global)) (r : Result Command Usage) → ReadsEnd Help 1 rest r
    → IsReading (codes "--help" ∷ texts rest) r
reading_help rest r reads = reading_end (codes "--help" ∷ []) Help rest r refl after reads where
  after : (word : List ℕ) → GoesNotOn (codes "--help" ∷ []) word
  after word Help more is = omega (arith, ap length is)
  after word command more is = other_word (word ∷ more) (arguments_of command) refl (named _ command is)

-- the reader of `--version` answers by the grammar
pub reading_version : (rest : List (String Global)) (r : Result Command Usage) → ReadsEnd Version 1 rest r
    → IsReading (codes "--version" ∷ texts rest) r
reading_version rest r reads = reading_end (codes "--version" ∷ []) Version rest r refl after reads where
  after : (word : List ℕ) → GoesNotOn (codes "--version" ∷ []) word
  after word Version more is = omega (arith, ap length is)
  after word command more is = other_word (word ∷ more) (arguments_of command) refl (named _ command is)

-- ---- `plan`, `plan whole` and `plan stay`

-- a plan of any kind has one word at most after its name
plan_is_short : (rest : List (List ℕ)) (command : Command) → IsCommand (codes "plan" ∷ rest) command
    → length rest ≤ 1
plan_is_short rest Plan is = omega (arith, ap length is)
plan_is_short rest PlanWhole is = omega (arith, ap length is)
plan_is_short rest PlanStay is = omega (arith, ap length is)
plan_is_short rest command is = absurd (other_word rest (arguments_of command) refl (named _ command is))

-- a word after `plan` that is no kind of plan begins no command
no_other_kind : (word : List ℕ) (more : List (List ℕ)) → word ≢ codes "whole" → word ≢ codes "stay"
    → (command : Command) → IsCommand (codes "plan" ∷ word ∷ more) command → ⊥
no_other_kind word more no_whole no_stay Plan is = omega (arith, ap length is)
no_other_kind word more no_whole no_stay PlanWhole is = no_whole cc
no_other_kind word more no_whole no_stay PlanStay is = no_stay cc
no_other_kind word more no_whole no_stay command is =
    other_word (word ∷ more) (arguments_of command) refl (named _ command is)

-- another word after `plan`
pub fault_of_plan : (word : List ℕ) (rest : List (List ℕ)) → word ≢ codes "whole" → word ≢ codes "stay"
    → IsFaultAt (codes "plan" ∷ word ∷ rest) 1
fault_of_plan word rest no_whole no_stay =
    fault_at_word (codes "plan" ∷ []) word rest (record { command = Plan; rest = []; whole = refl })
    (λ command more is. no_other_kind word more no_whole no_stay command is)

-- nothing may follow the kind
kind_ends : (kind word : List ℕ) → GoesNotOn (codes "plan" ∷ kind ∷ []) word
kind_ends kind word command more is = omega (arith, plan_is_short (kind ∷ word ∷ more) command is)

-- the reader of `plan whole` answers by the grammar
pub reading_whole : (rest : List (String Global)) (r : Result Command Usage) → ReadsEnd PlanWhole 2 rest r
    → IsReading (codes "plan" ∷ codes "whole" ∷ texts rest) r
reading_whole rest r reads =
    reading_end (codes "plan" ∷ codes "whole" ∷ []) PlanWhole rest r refl (kind_ends (codes "whole")) reads

-- the reader of `plan stay` answers by the grammar
pub reading_stay : (rest : List (String Global)) (r : Result Command Usage) → ReadsEnd PlanStay 2 rest r
    → IsReading (codes "plan" ∷ codes "stay" ∷ texts rest) r
reading_stay rest r reads =
    reading_end (codes "plan" ∷ codes "stay" ∷ []) PlanStay rest r refl (kind_ends (codes "stay")) reads

-- ---- `replay` and its count of rounds

-- what follows the name is a count of rounds and no more
record IsReplay (rest : List (List ℕ)) : Type 0 where
  rounds : ℕ
  words : rest ≡ decimal rounds ∷ []
  count : IsRoundCount rounds

only_replay : (rest : List (List ℕ)) (command : Command) → IsCommand (codes "replay" ∷ rest) command
    → IsReplay rest
only_replay rest (Replay rounds) is = record { rounds = rounds; words = cc is.0; count = is.1 }
only_replay rest command is = absurd (other_word rest (arguments_of command) refl (named _ command is))

-- no such count
pub fault_of_replay : (words : List (List ℕ)) → (BeginsWithNumber 1 MAX_ROUNDS words → ⊥)
    → IsFaultAt (codes "replay" ∷ words) 1
fault_of_replay words none =
    fault_at_number (codes "replay" ∷ []) words 1 MAX_ROUNDS (record {
      command = Replay 1;
      rest = decimal 1 ∷ [];
      whole = (refl, (lit≤ tt, lit≤ tt));
    }) (λ command rest is.
    let replay = only_replay rest command is in
    record {
      number = replay.rounds;
      rest = [];
      digits = replay.words;
      enough = replay.count.0;
      few = replay.count.1;
    }) none

-- the reader of the words after the count answers by the grammar
pub reading_replay : (rounds : ℕ) (rest : List (String Global)) (r : Result Command Usage)
    → IsRoundCount rounds → ReadsEnd (Replay rounds) 2 rest r
    → IsReading (codes "replay" ∷ decimal rounds ∷ texts rest) r
reading_replay rounds rest r count reads =
    reading_end (codes "replay" ∷ decimal rounds ∷ []) (Replay rounds) rest r (refl, count)
    (λ word command more is.
    let replay = only_replay (decimal rounds ∷ word ∷ more) command is in
    omega (arith, ap length replay.words)) reads

-- ---- `run`, its count of rounds and what it writes

-- what follows the name is a count of rounds, and the word for the trace or no more
record IsRun (rest : List (List ℕ)) : Type 0 where
  rounds : ℕ
  mode : RunMode
  words : rest ≡ decimal rounds ∷ mode_words mode
  count : IsRoundCount rounds

only_run : (rest : List (List ℕ)) (command : Command) → IsCommand (codes "run" ∷ rest) command → IsRun rest
only_run rest (Run rounds mode) is = record { rounds = rounds; mode = mode; words = cc is.0; count = is.1 }
only_run rest command is = absurd (other_word rest (arguments_of command) refl (named _ command is))

-- no such count
pub fault_of_run : (words : List (List ℕ)) → (BeginsWithNumber 1 MAX_ROUNDS words → ⊥)
    → IsFaultAt (codes "run" ∷ words) 1
fault_of_run words none =
    fault_at_number (codes "run" ∷ []) words 1 MAX_ROUNDS (record {
      command = Run 1 Report;
      rest = decimal 1 ∷ [];
      whole = (refl, (lit≤ tt, lit≤ tt));
    }) (λ command rest is.
    let run = only_run rest command is in
    record {
      number = run.rounds;
      rest = mode_words run.mode;
      digits = run.words;
      enough = run.count.0;
      few = run.count.1;
    }) none

-- a run that writes its report alone
pub reading_run : (rounds : ℕ) → IsRoundCount rounds
    → IsCommand (codes "run" ∷ decimal rounds ∷ []) (Run rounds Report)
reading_run rounds count = (refl, count)

-- at most one word is after the count
one_word : (mode : RunMode) (word : List ℕ) (more : List (List ℕ)) → word ∷ more ≡ mode_words mode
    → (mode_words mode ≡ word ∷ []) × (more ≡ [])
one_word Report word more is = absurd (omega (arith, ap length is))
one_word Trace word more is = (cc, cc)
one_word Burst word more is = (cc, cc)
one_word Live word more is = (cc, cc)

-- another word after the count
pub fault_of_mode : (rounds : ℕ) (word : List ℕ) (rest : List (List ℕ)) → IsRoundCount rounds
    → ((mode : RunMode) → mode_words mode ≡ word ∷ [] → ⊥)
    → IsFaultAt (codes "run" ∷ decimal rounds ∷ word ∷ rest) 2
fault_of_mode rounds word rest count other =
    fault_at_word (codes "run" ∷ decimal rounds ∷ []) word rest
    (record { command = Run rounds Report; rest = []; whole = (refl, count) })
    (λ command more is.
    let run = only_run (decimal rounds ∷ word ∷ more) command is in
    other run.mode (one_word run.mode word more (cc run.words)).0)

-- the reader of the words after that for what is written answers by the grammar
pub reading_mode : (rounds : ℕ) (mode : RunMode) (word : List ℕ) (rest : List (String Global)) (r : Result Command Usage)
    → IsRoundCount rounds → mode_words mode ≡ word ∷ [] → ReadsEnd (Run rounds mode) 3 rest r
    → IsReading (codes "run" ∷ decimal rounds ∷ word ∷ texts rest) r
reading_mode rounds mode word rest r count is reads =
    reading_end (codes "run" ∷ decimal rounds ∷ word ∷ []) (Run rounds mode) rest r
    (ap (λ (words : List (List ℕ)). codes "run" ∷ decimal rounds ∷ words) (sym is), count)
    (λ next command more whole.
    let run = only_run (decimal rounds ∷ word ∷ next ∷ more) command whole in
    omega (arith, ap length (one_word run.mode word (next ∷ more) (cc run.words)).1)) reads

-- ---- `gen` and its three numbers

-- what follows the name are three numbers and no more
record IsGen (rest : List (List ℕ)) : Type 0 where
  seed : ℕ
  cores : ℕ
  vcpus : ℕ
  words : rest ≡ decimal seed ∷ decimal cores ∷ decimal vcpus ∷ []
  fits : IsGenerable seed cores vcpus

only_gen : (rest : List (List ℕ)) (command : Command) → IsCommand (codes "gen" ∷ rest) command → IsGen rest
only_gen rest (Gen s c v) is = record { seed = s; cores = c; vcpus = v; words = cc is.0; fits = is.1 }
only_gen rest command is = absurd (other_word rest (arguments_of command) refl (named _ command is))

-- a host of one core without vCPUs can be generated of any seed
small : (seed : ℕ) → seed < 2 ^ 64 → IsGenerable seed 1 0
small seed fits = record {
  seed_fits = fits;
  some = lit≤ tt;
  few = lit≤ tt;
  few_vcpus = lit≤ tt;
  roomy = lit≤ tt;
}

-- no seed
pub fault_of_gen : (words : List (List ℕ)) → (BeginsWithNumber 0 (2 ^ 64 - 1) words → ⊥)
    → IsFaultAt (codes "gen" ∷ words) 1
fault_of_gen words none =
    fault_at_number (codes "gen" ∷ []) words 0 (2 ^ 64 - 1) (record {
      command = Gen 0 1 0;
      rest = decimal 0 ∷ decimal 1 ∷ decimal 0 ∷ [];
      whole = (refl, small 0 (lit< tt));
    }) (λ command rest is.
    let gen = only_gen rest command is in
    record {
      number = gen.seed;
      rest = decimal gen.cores ∷ decimal gen.vcpus ∷ [];
      digits = gen.words;
      enough = omega arith;
      few = omega (arith, gen.fits.seed_fits);
    }) none

-- no count of cores
pub fault_of_cores : (seed : ℕ) (words : List (List ℕ)) → seed < 2 ^ 64
    → (BeginsWithNumber 1 MAX_CORES words → ⊥) → IsFaultAt (codes "gen" ∷ decimal seed ∷ words) 2
fault_of_cores seed words fits none =
    fault_at_number (codes "gen" ∷ decimal seed ∷ []) words 1 MAX_CORES (record {
      command = Gen seed 1 0;
      rest = decimal 1 ∷ decimal 0 ∷ [];
      whole = (refl, small seed fits);
    }) (λ command rest is.
    let gen = only_gen (decimal seed ∷ rest) command is in
    record {
      number = gen.cores;
      rest = decimal gen.vcpus ∷ [];
      digits = cc gen.words;
      enough = gen.fits.some;
      few = gen.fits.few;
    }) none

-- the most vCPUs for so many cores
abbrev pub most_vcpus : ℕ → ℕ
most_vcpus cores = min MAX_VCPUS (99 * cores + 1)

-- no count of vCPUs
pub fault_of_vcpus : (seed cores : ℕ) (words : List (List ℕ)) → seed < 2 ^ 64 → 1 ≤ cores
    → cores ≤ MAX_CORES → (BeginsWithNumber 0 (most_vcpus cores) words → ⊥)
    → IsFaultAt (codes "gen" ∷ decimal seed ∷ decimal cores ∷ words) 3
fault_of_vcpus seed cores words fits some few none =
    fault_at_number (codes "gen" ∷ decimal seed ∷ decimal cores ∷ []) words 0 (most_vcpus cores) (record {
      command = Gen seed cores 0;
      rest = decimal 0 ∷ [];
      whole = (
        refl,
        record {
          seed_fits = fits;
          some = some;
          few = few;
          few_vcpus = lit≤ tt;
          roomy = omega arith;
        },
      );
    }) (λ command rest is.
    let gen = only_gen (decimal seed ∷ decimal cores ∷ rest) command is in
    let spelling : decimal cores ≡ decimal gen.cores = cc gen.words in
    let same = same_number cores gen.cores (omega arith) (omega (arith, gen.fits.few)) spelling in
    record {
      number = gen.vcpus;
      rest = [];
      digits = cc gen.words;
      enough = omega arith;
      few = omega (arith, gen.fits.few_vcpus, gen.fits.roomy, same);
    }) none

-- the reader of the words after the three numbers answers by the grammar
pub reading_gen : (seed cores vcpus : ℕ) (rest : List (String Global)) (r : Result Command Usage)
    → IsGenerable seed cores vcpus → ReadsEnd (Gen seed cores vcpus) 4 rest r
    → IsReading (codes "gen" ∷ decimal seed ∷ decimal cores ∷ decimal vcpus ∷ texts rest) r
reading_gen seed cores vcpus rest r fits reads =
    reading_end (codes "gen" ∷ decimal seed ∷ decimal cores ∷ decimal vcpus ∷ []) (Gen seed cores vcpus) rest r
    (refl, fits) (λ word command more is.
    let gen = only_gen (decimal seed ∷ decimal cores ∷ decimal vcpus ∷ word ∷ more) command is in
    omega (arith, ap length gen.words)) reads

-- ---- `selftest` and its seed

-- what follows the name is a seed and no more
record IsSelftest (rest : List (List ℕ)) : Type 0 where
  seed : ℕ
  words : rest ≡ decimal seed ∷ []
  fits : seed < 2 ^ 64

only_selftest : (rest : List (List ℕ)) (command : Command) → IsCommand (codes "selftest" ∷ rest) command
    → IsSelftest rest
only_selftest rest (Selftest seed) is = record { seed = seed; words = cc is.0; fits = is.1 }
only_selftest rest command is = absurd (other_word rest (arguments_of command) refl (named _ command is))

-- no seed
pub fault_of_selftest : (words : List (List ℕ)) → (BeginsWithNumber 0 (2 ^ 64 - 1) words → ⊥)
    → IsFaultAt (codes "selftest" ∷ words) 1
fault_of_selftest words none =
    fault_at_number (codes "selftest" ∷ []) words 0 (2 ^ 64 - 1) (record {
      command = Selftest 0;
      rest = decimal 0 ∷ [];
      whole = (refl, lit< tt);
    }) (λ command rest is.
    let test = only_selftest rest command is in
    record {
      number = test.seed;
      rest = [];
      digits = test.words;
      enough = omega arith;
      few = omega (arith, test.fits);
    }) none

-- the reader of the words after the seed answers by the grammar
pub reading_selftest : (seed : ℕ) (rest : List (String Global)) (r : Result Command Usage) → seed < 2 ^ 64
    → ReadsEnd (Selftest seed) 2 rest r → IsReading (codes "selftest" ∷ decimal seed ∷ texts rest) r
reading_selftest seed rest r fits reads =
    reading_end (codes "selftest" ∷ decimal seed ∷ []) (Selftest seed) rest r (refl, fits)
    (λ word command more is.
    let test = only_selftest (decimal seed ∷ word ∷ more) command is in
    omega (arith, ap length test.words)) reads
