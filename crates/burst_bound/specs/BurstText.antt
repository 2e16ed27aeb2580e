-- The lines of bursts. The form is this project's own.
use Rattle.std.specs.Prelude.{ℕ, List, [], ◌∷◌, Option, None, Some, codes, decimal, length, slice_index_or}
use Rattle.tab_core.specs.declared.host.Host.{Host}
use Rattle.tab_words.specs.Texts.{line_of, texts_below}
use Rattle.vcpu_names.specs.Names.{name_at, names_of}
use Rattle.script_doc.specs.declared.event.Event.{Event}
use Rattle.burst_bound.specs.ScriptBursts.{ScriptBurst, bursts_of}
use Rattle.burst_bound.specs.declared.answer.BurstAnswer.{BurstAnswer}

-- a tick, or `-` where there is none
abbrev pub tick_word : Option ℕ → List ℕ
tick_word None = codes "-"
tick_word (Some tick) = decimal tick

-- the line of burst k of a script, by its vCPU's name
unfoldable pub burst_line : List ℕ → ℕ → ScriptBurst → BurstAnswer → List ℕ
burst_line name k burst answer = line_of
    (codes "burst" ∷ decimal k ∷ name ∷ codes "at" ∷ decimal burst.tick ∷ codes "work" ∷ decimal burst.work
    ∷ codes "seen" ∷ tick_word answer.seen ∷ codes "bound" ∷ tick_word answer.bound
    ∷ codes "done" ∷ tick_word answer.done ∷ [])

-- stands for a burst and an answer that a list doesn't have
abbrev pub no_burst : ScriptBurst
no_burst = record { event = 0; tick = 0; vcpu = 0; work = 0 }

-- what stands for the answer of a burst that a list of answers doesn't have
abbrev pub no_answer : BurstAnswer
no_answer = record { seen = None; bound = None; done = None }

-- the line of a burst out of lists of bursts and of their answers
abbrev pub burst_line_at : List (List ℕ) → List ScriptBurst → List BurstAnswer → ℕ → List ℕ
burst_line_at names bursts answers k =
    let burst = slice_index_or bursts k no_burst in
    burst_line (name_at names burst.vcpu) k burst (slice_index_or answers k no_answer)

-- a line for each burst of the script, in their order
abbrev pub bursts_text : Host → List Event → List BurstAnswer → List ℕ
bursts_text host events answers =
    texts_below (burst_line_at (names_of host.vcpus) (bursts_of events) answers) (length (bursts_of events))
