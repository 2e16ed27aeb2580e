-- The grammar of the command line's words.
use Rattle.std.specs.Prelude.{◌≡◌, ℕ, ◌+◌, ◌*◌, ◌^◌, ◌<◌, ◌≤◌, ◌⊎◌, List, [], ◌∷◌, ◌++◌, length, take, map, codes, decimal, String, string_bytes}
use Rattle.std.specs.declared.alloc.Global.{Global}
use Rattle.tab_core.specs.declared.TheConstants.{MAX_CORES, MAX_ROUNDS, MAX_VCPUS}
use Rattle.tab_words.specs.declared.command.Command.{Command}
use Rattle.tab_words.specs.declared.command.Command.TheVariants.{Plan, PlanWhole, PlanStay, Check, Replay, Run, Gen, Selftest, Help, Version}
use Rattle.tab_words.specs.declared.command.RunMode.{RunMode}
use Rattle.tab_words.specs.declared.command.RunMode.TheVariants.{Report, Trace, Burst, Live}

-- the words as bytes
abbrev pub texts : List (String Global) → List (List ℕ)
texts words = map string_bytes words

-- how many rounds a command takes
abbrev pub IsRoundCount : ℕ → Type 0
IsRoundCount rounds = (1 ≤ rounds) × (rounds ≤ MAX_ROUNDS)

-- the seed, cores and vCPUs of a host that can be generated
pub record IsGenerable (seed cores vcpus : ℕ) : Type 0 where
  pub seed_fits : seed < 2 ^ 64
  pub some : 1 ≤ cores
  pub few : cores ≤ MAX_CORES
  pub few_vcpus : vcpus ≤ MAX_VCPUS
  pub roomy : vcpus ≤ 99 * cores + 1

-- the words after a count of rounds
abbrev pub mode_words : RunMode → List (List ℕ)
mode_words Report = []
mode_words Trace = codes "trace" ∷ []
mode_words Burst = codes "burst" ∷ []
mode_words Live = codes "live" ∷ []

-- the words are this command
abbrev pub IsCommand : List (List ℕ) → Command → Type 0
IsCommand words Plan = words ≡ codes "plan" ∷ []
IsCommand words PlanWhole = words ≡ codes "plan" ∷ codes "whole" ∷ []
IsCommand words PlanStay = words ≡ codes "plan" ∷ codes "stay" ∷ []
IsCommand words Check = words ≡ codes "check" ∷ []
IsCommand words (Replay rounds) = (words ≡ codes "replay" ∷ decimal rounds ∷ []) × IsRoundCount rounds
IsCommand words (Run rounds mode) = (words ≡ codes "run" ∷ decimal rounds ∷ mode_words mode)
    × IsRoundCount rounds
IsCommand words (Gen seed cores vcpus) =
    (words ≡ codes "gen" ∷ decimal seed ∷ decimal cores ∷ decimal vcpus ∷ []) × IsGenerable seed cores vcpus
IsCommand words (Selftest seed) = (words ≡ codes "selftest" ∷ decimal seed ∷ []) × (seed < 2 ^ 64)
IsCommand words Help = words ≡ codes "--help" ∷ []
IsCommand words Version = words ≡ codes "--version" ∷ []

-- some command begins with these words
pub record BeginsCommand (words : List (List ℕ)) : Type 0 where
  pub command : Command
  pub rest : List (List ℕ)
  pub whole : IsCommand (words ++ rest) command

-- the words are no command
abbrev pub IsNoCommand : List (List ℕ) → Type 0
IsNoCommand words = (command : Command) → IsCommand words command → ⊥

-- the place of the fault, from 0: a command begins with the words before it, and with the word at it
-- none does, or the words end there and are no command
pub record IsFaultAt (words : List (List ℕ)) (place : ℕ) : Type 0 where
  pub before : BeginsCommand (take place words)
  pub fault : ((place < length words) × (BeginsCommand (take (place + 1) words) → ⊥))
      ⊎ ((place ≡ length words) × IsNoCommand words)
