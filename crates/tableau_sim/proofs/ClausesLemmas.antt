-- What a status of the call tells by itself, whatever the commands R are.
use Rattle.std.proofs.Common.{◌≡◌, ◌≢◌, ◌⊎◌, ℕ, ◌+◌, List, [], Bool, true, false, length, refl, sym, ap, subst, ◌∙◌, inl, inr, arith}
use Rattle.std.specs.Io.KnownBytes.{Consumes}
use Rattle.tab_io.specs.Views.{SourceView, SinkView}
use Rattle.tab_io.specs.FaultCounts.{Rose}
use Rattle.tab_words.specs.Commands.{IsCommand, IsFaultAt}
use Rattle.tab_words.specs.declared.command.Command.{Command}
use Rattle.tab_words.proofs.CommandLemmas.{no_fault, same_command, one_place}
use Rattle.tableau_sim.specs.declared.input.TheConstants.{INPUT_LIMIT}
use Rattle.tableau_sim.specs.declared.status.Status.{Status}
use Rattle.tableau_sim.specs.declared.status.Status.TheVariants as status
use Rattle.tableau_sim.specs.Clauses.{CameOut, EndsUnread, IsFaultless, IsToRead, IsToReadIf, LineIsOut, NoFaults, PrefixIsOut, Unread}
use Rattle.tableau_sim.specs.Columns.{reads, takes_memory}
use Rattle.tableau_sim.specs.Frame.{Answers, Due, HasDue, HasReadIf, IsDue, IsOut, outcome_of}
use Rattle.tableau_sim.specs.Frame.Due.{LacksMemory, NoCommand, Replied, SourceFailed, TooMuch}
use Rattle.tableau_sim.specs.Lines.{line_of_status}
use Rattle.tableau_sim.specs.Outcomes.{CallOutcome, IsOfInput, status_of, text_of_outcome}
use Rattle.tableau_sim.specs.Outcomes.CallOutcome.{Refuses, Writes}
use Rattle.tableau_sim.proofs.ReadingLemmas.{read_given, read_within}

-- what is shown of each R: its refusals are of the input
abbrev pub RefusesInput : (Command → List ℕ → CallOutcome → Type 0) → Type 0
RefusesInput R = (command : Command) (input : List ℕ) (refusal : Status) (names : List (List ℕ))
    → R command input (Refuses refusal names) → IsOfInput refusal

-- a command that reads nothing refuses nothing
abbrev pub WritesUnread : (Command → List ℕ → CallOutcome → Type 0) → Type 0
WritesUnread R = (command : Command) (input : List ℕ) (outcome : CallOutcome) → reads command ≡ false
    → R command input outcome → status_of outcome ≡ status.Ok

-- what was due came whole, with its status
pub record IsTold (R : Command → List ℕ → CallOutcome → Type 0) (Leaves : Due → List ℕ → Type 0)
    (words : List (List ℕ)) (source source' : SourceView) (sink sink' : SinkView)
    (told : Status) : Type 0 where
  pub due : Due
  pub came : CameOut R Leaves words source source' sink sink' due
  pub told_is : status_of (outcome_of due) ≡ told

-- where the status is no write fault, what was due is out whole: each clause on a status starts here
told_due : (R : Command → List ℕ → CallOutcome → Type 0) (Leaves : Due → List ℕ → Type 0)
    (words : List (List ℕ)) (source source' : SourceView) (sink sink' : SinkView) (told : Status)
    → Answers R Leaves words source source' sink sink' told → told ≢ status.WriteFault
    → IsTold R Leaves words source source' sink sink' told
told_due R Leaves words source source' sink sink' told a works = elim a.written.whole [
  | inl came ↦ record {
    due = a.due;
    came = record { had = a.has_due; out = came.1 };
    told_is = sym came.0;
  }
  | inr failed ↦ absurd (works failed.0)
]

-- ---- a text

-- a command that ends with `Ok` has written a text, since its refusals are of its input
outcome_written : (outcome : CallOutcome) → status_of outcome ≡ status.Ok
    → ((refusal : Status) (names : List (List ℕ)) → outcome ≡ Refuses refusal names → IsOfInput refusal)
    → outcome ≡ Writes (text_of_outcome outcome)
outcome_written (Writes text) is of = refl
outcome_written (Refuses refusal names) is of = absurd (subst IsOfInput is (of refusal names refl))

-- a command that ends with `Ok` has written a text, by a premise on any outcome, so that it needn't
-- be a refusal by its form
of_input : (R : Command → List ℕ → CallOutcome → Type 0) (refuses : RefusesInput R)
    (command : Command) (input : List ℕ) (outcome : CallOutcome) → R command input outcome
    → (refusal : Status) (names : List (List ℕ)) → outcome ≡ Refuses refusal names → IsOfInput refusal
of_input R refuses command input outcome h refusal names is =
    refuses command input refusal names (subst (R command input) is h)

-- a text of the command was due for what it has read, and is out
abbrev pub WroteFor : (Command → List ℕ → CallOutcome → Type 0) → (Due → List ℕ → Type 0) → List (List ℕ) → Command
    → SourceView → SourceView → SinkView → SinkView → Type 0
WroteFor R Leaves words command source source' sink sink' =
    (text : List ℕ) × CameOut R Leaves words source source' sink sink' (Replied command (Writes text))

-- with `Ok` only a reply can have been due, and it is a text of the command
wrote_of : (R : Command → List ℕ → CallOutcome → Type 0) (Leaves : Due → List ℕ → Type 0) (refuses : RefusesInput R)
    (words : List (List ℕ)) (source source' : SourceView) (sink sink' : SinkView)
    (command : Command) (input : List ℕ) (due : Due) → IsCommand words command
    → Consumes source.rest source'.rest input → IsDue R Leaves words source source' input due
    → status_of (outcome_of due) ≡ status.Ok → IsOut sink sink' (text_of_outcome (outcome_of due))
    → WroteFor R Leaves words command source source' sink sink'
wrote_of R Leaves refuses words source source' sink sink' command input (NoCommand place) are consumed h is out = absurd cc
wrote_of R Leaves refuses words source source' sink sink' command input (SourceFailed other) are consumed h is out = absurd cc
wrote_of R Leaves refuses words source source' sink sink' command input (TooMuch other) are consumed h is out = absurd cc
wrote_of R Leaves refuses words source source' sink sink' command input (LacksMemory other) are consumed h is out = absurd cc
wrote_of R Leaves refuses words source source' sink sink' command input (Replied other outcome) are consumed h is out =
    let same : other ≡ command = same_command words other command h.0 are in
    let replies = subst (λ c. R c input outcome) same h.2 in (
      text_of_outcome outcome,
      record {
        had = record {
          input = input;
          consumed = consumed;
          is_due = (
            are,
            subst (λ c. HasReadIf (reads c) source' input) same h.1,
            subst (R command input) (outcome_written outcome is (of_input R refuses other input outcome h.2)) replies,
          );
        };
        out = out;
      },
    )

-- the clause `wrote`
pub wrote_told : (R : Command → List ℕ → CallOutcome → Type 0) (Leaves : Due → List ℕ → Type 0) (refuses : RefusesInput R)
    (words : List (List ℕ)) (source source' : SourceView) (sink sink' : SinkView) (told : Status)
    → Answers R Leaves words source source' sink sink' told → (command : Command) → IsCommand words command
    → told ≡ status.Ok → WroteFor R Leaves words command source source' sink sink'
wrote_told R Leaves refuses words source source' sink sink' told a command are is =
    let t = told_due R Leaves words source source' sink sink' told a (λ failed. let e = sym is ∙ failed in absurd cc) in
    wrote_of R Leaves refuses words source source' sink sink' command t.came.had.input t.due are t.came.had.consumed
    t.came.had.is_due (t.told_is ∙ is) t.came.out

-- ---- a refusal of the input

-- the words are a command that refuses what it has read so, and the line of that is out
abbrev pub HasCause : (Command → List ℕ → CallOutcome → Type 0) → (Due → List ℕ → Type 0) → List (List ℕ)
    → SourceView → SourceView → SinkView → SinkView → Status → Type 0
HasCause R Leaves words source source' sink sink' refusal = (command : Command) × (names : List (List ℕ))
    × CameOut R Leaves words source source' sink sink' (Replied command (Refuses refusal names))

-- with a refusal of the input only a refusal of a command can have been due
cause_of : (R : Command → List ℕ → CallOutcome → Type 0) (Leaves : Due → List ℕ → Type 0)
    (words : List (List ℕ)) (source source' : SourceView) (sink sink' : SinkView) (told : Status) (due : Due)
    → CameOut R Leaves words source source' sink sink' due → status_of (outcome_of due) ≡ told → IsOfInput told
    → HasCause R Leaves words source source' sink sink' told
cause_of R Leaves words source source' sink sink' told (NoCommand place) came is of =
    absurd (subst IsOfInput (sym is) of)
cause_of R Leaves words source source' sink sink' told (SourceFailed command) came is of =
    absurd (subst IsOfInput (sym is) of)
cause_of R Leaves words source source' sink sink' told (TooMuch command) came is of =
    absurd (subst IsOfInput (sym is) of)
cause_of R Leaves words source source' sink sink' told (LacksMemory command) came is of =
    absurd (subst IsOfInput (sym is) of)
cause_of R Leaves words source source' sink sink' told (Replied command (Writes text)) came is of =
    absurd (subst IsOfInput (sym is) of)
cause_of R Leaves words source source' sink sink' told (Replied command (Refuses refusal names)) came is of = (
  command,
  names,
  subst (λ r. CameOut R Leaves words source source' sink sink' (Replied command (Refuses r names))) is came,
)

-- the clause `refused`
pub cause_told : (R : Command → List ℕ → CallOutcome → Type 0) (Leaves : Due → List ℕ → Type 0)
    (words : List (List ℕ)) (source source' : SourceView) (sink sink' : SinkView) (told : Status)
    → Answers R Leaves words source source' sink sink' told → IsOfInput told
    → HasCause R Leaves words source source' sink sink' told
cause_told R Leaves words source source' sink sink' told a of =
    let t = told_due R Leaves words source source' sink sink' told a (λ failed. subst IsOfInput failed of) in
    cause_of R Leaves words source source' sink sink' told t.due t.came t.told_is of

-- ---- a faultless input

-- what a command makes of a faultless input is a text
faultless : (R : Command → List ℕ → CallOutcome → Type 0)
    (command : Command) (input : List ℕ) (outcome : CallOutcome) → IsFaultless R command input
    → R command input outcome → status_of outcome ≡ status.Ok
faultless R command input (Writes text) fine h = refl
faultless R command input (Refuses refusal names) fine h = absurd (fine refusal names h)

-- an input within the limit never ends in `TooMuch`
not_too_much : (reading : Bool) (old new : SourceView) (input given : List ℕ) → reading ≡ true
    → IsToReadIf reading old given → Consumes old.rest new.rest input
    → length input ≡ INPUT_LIMIT + 1 → ⊥
not_too_much true old new input given reading_is is consumed size =
    let low = read_within old.rest new.rest input given consumed is.0 in
    let within = is.1 in
    omega (arith, low, within, size)
not_too_much false old new input given reading_is is consumed size = absurd cc

-- over a source that works, of a faultless input a text is due, or memory ran out
complete_of : (R : Command → List ℕ → CallOutcome → Type 0) (Leaves : Due → List ℕ → Type 0)
    (words : List (List ℕ)) (source source' : SourceView) (command : Command)
    (input given : List ℕ) (due : Due) → IsCommand words command → IsToRead command source given
    → IsFaultless R command given → (Rose source.faults source'.faults → ⊥)
    → Consumes source.rest source'.rest input → IsDue R Leaves words source source' input due
    → (status_of (outcome_of due) ≡ status.Ok) ⊎ (status_of (outcome_of due) ≡ status.NoMemory)
complete_of R Leaves words source source' command input given (NoCommand place) are is fine works consumed h =
    absurd (no_fault words command place are h.0)
complete_of R Leaves words source source' command input given (SourceFailed other) are is fine works consumed h =
    absurd (works h.3)
complete_of R Leaves words source source' command input given (TooMuch other) are is fine works consumed h =
    let same = same_command words other command h.0 are in
    let reading : reads command ≡ true = subst (λ c. reads c ≡ true) same h.1 in
    absurd (not_too_much (reads command) source source' input given reading is consumed h.2)
complete_of R Leaves words source source' command input given (LacksMemory other) are is fine works consumed h = inr refl
complete_of R Leaves words source source' command input given (Replied other outcome) are is fine works consumed h =
    let same : other ≡ command = same_command words other command h.0 are in
    let replies = subst (λ c. R c input outcome) same h.2 in
    let read = subst (λ c. HasReadIf (reads c) source' input) same h.1 in
    let whole : input ≡ given = read_given (reads command) source source' input given consumed read is in
    inl (faultless R command given outcome fine (subst (λ i. R command i outcome) whole replies))

-- the clause `complete`
pub complete_told : (R : Command → List ℕ → CallOutcome → Type 0) (Leaves : Due → List ℕ → Type 0)
    (words : List (List ℕ)) (source source' : SourceView) (sink sink' : SinkView)
    (told : Status) → Answers R Leaves words source source' sink sink' told → (command : Command)
    (given : List ℕ) → IsCommand words command → IsToRead command source given → IsFaultless R command given
    → NoFaults source source' sink sink' → (told ≡ status.Ok) ⊎ (told ≡ status.NoMemory)
complete_told R Leaves words source source' sink sink' told a command given are is fine works = elim a.written.whole [
  | inl came ↦
      elim (complete_of R Leaves words source source' command a.has_due.input given a.due are is fine works.source_works
      a.has_due.consumed a.has_due.is_due) [
        | inl ok ↦ inl (came.0 ∙ ok)
        | inr lacks ↦ inr (came.0 ∙ lacks)
      ]
  | inr failed ↦ absurd (works.sink_works failed.2)
]

-- ---- a command that reads nothing

-- what is due is its text, or memory ran out, and nothing was read
silent_of : (R : Command → List ℕ → CallOutcome → Type 0) (Leaves : Due → List ℕ → Type 0) (silent : WritesUnread R)
    (words : List (List ℕ)) (source source' : SourceView) (command : Command)
    (input : List ℕ) (due : Due) → IsCommand words command → reads command ≡ false
    → IsDue R Leaves words source source' input due
    → ((status_of (outcome_of due) ≡ status.Ok)
    ⊎ ((takes_memory command ≡ true) × (status_of (outcome_of due) ≡ status.NoMemory))) × (input ≡ [])
silent_of R Leaves silent words source source' command input (NoCommand place) are still h =
    absurd (no_fault words command place are h.0)
silent_of R Leaves silent words source source' command input (SourceFailed other) are still h =
    let e = sym still ∙ subst (λ c. reads c ≡ true) (same_command words other command h.0 are) h.1 in absurd cc
silent_of R Leaves silent words source source' command input (TooMuch other) are still h =
    let e = sym still ∙ subst (λ c. reads c ≡ true) (same_command words other command h.0 are) h.1 in absurd cc
silent_of R Leaves silent words source source' command input (LacksMemory other) are still h =
    let same : other ≡ command = same_command words other command h.0 are in (
      inr (subst (λ c. takes_memory c ≡ true) same h.1, refl),
      h.2 (ap reads same ∙ still),
    )
silent_of R Leaves silent words source source' command input (Replied other outcome) are still h =
    let same : other ≡ command = same_command words other command h.0 are in
    let replies = subst (λ c. R c input outcome) same h.2 in (
      inl (silent command input outcome still replies),
      subst (λ b. HasReadIf b source' input) (ap reads same ∙ still) h.1,
    )

-- a command that reads nothing ends with its text, or because memory ran out
ends_unread : (takes : Bool) (told due : Status) → (told ≡ due) ⊎ (told ≡ status.WriteFault)
    → (due ≡ status.Ok) ⊎ ((takes ≡ true) × (due ≡ status.NoMemory)) → EndsUnread takes told
ends_unread false told due (inl is) (inl ok) = inl (is ∙ ok)
ends_unread false told due (inl is) (inr lacks) = let e = lacks.0 in absurd cc
ends_unread false told due (inr failed) end = inr failed
ends_unread true told due (inl is) (inl ok) = inl (is ∙ ok)
ends_unread true told due (inl is) (inr lacks) = inr (inr (is ∙ lacks.1))
ends_unread true told due (inr failed) end = inr (inl failed)

-- the clause `unread`
pub silent_told : (R : Command → List ℕ → CallOutcome → Type 0) (Leaves : Due → List ℕ → Type 0) (silent : WritesUnread R)
    (words : List (List ℕ)) (source source' : SourceView) (sink sink' : SinkView)
    (told : Status) → Answers R Leaves words source source' sink sink' told → (command : Command)
    → IsCommand words command → reads command ≡ false
    → EndsUnread (takes_memory command) told × Unread source source'
silent_told R Leaves silent words source source' sink sink' told a command are still =
    let s = silent_of R Leaves silent words source source' command a.has_due.input a.due are still a.has_due.is_due in (
      ends_unread (takes_memory command) told (status_of (outcome_of a.due))
          (elim a.written.whole [ inl came ↦ inl came.0 | inr failed ↦ inr failed.0 ]) s.0,
      subst (Consumes source.rest source'.rest) s.1 a.has_due.consumed,
    )

-- ---- the words

-- `Usage` can only have been due for words that are no command
usage_of : (R : Command → List ℕ → CallOutcome → Type 0) (Leaves : Due → List ℕ → Type 0) (refuses : RefusesInput R)
    (words : List (List ℕ)) (source source' : SourceView) (input : List ℕ) (due : Due) (place : ℕ)
    → IsDue R Leaves words source source' input due → status_of (outcome_of due) ≡ status.Usage place
    → IsFaultAt words place × (input ≡ [])
usage_of R Leaves refuses words source source' input (NoCommand other) place h is =
    let same : other ≡ place = cc in (subst (IsFaultAt words) same h.0, h.1)
usage_of R Leaves refuses words source source' input (SourceFailed command) place h is = absurd cc
usage_of R Leaves refuses words source source' input (TooMuch command) place h is = absurd cc
usage_of R Leaves refuses words source source' input (LacksMemory command) place h is = absurd cc
usage_of R Leaves refuses words source source' input (Replied command (Writes text)) place h is = absurd cc
usage_of R Leaves refuses words source source' input (Replied command (Refuses refusal names)) place h is =
    absurd (subst IsOfInput is (refuses command input refusal names h.2))

-- the clause `usage`
pub usage_told : (R : Command → List ℕ → CallOutcome → Type 0) (Leaves : Due → List ℕ → Type 0) (refuses : RefusesInput R)
    (words : List (List ℕ)) (source source' : SourceView) (sink sink' : SinkView)
    (told : Status) → Answers R Leaves words source source' sink sink' told → (place : ℕ)
    → told ≡ status.Usage place → IsFaultAt words place × Unread source source'
usage_told R Leaves refuses words source source' sink sink' told a place is =
    let t = told_due R Leaves words source source' sink sink' told a (λ failed. let e = sym is ∙ failed in absurd cc) in
    let u = usage_of R Leaves refuses words source source' t.came.had.input t.due place t.came.had.is_due (t.told_is ∙ is) in
    (u.0, subst (Consumes source.rest source'.rest) u.1 t.came.had.consumed)

-- for words that are no command nothing but `Usage` can be due
usage_only : (R : Command → List ℕ → CallOutcome → Type 0) (Leaves : Due → List ℕ → Type 0)
    (words : List (List ℕ)) (source source' : SourceView) (input : List ℕ) (due : Due) (place : ℕ)
    → IsFaultAt words place → IsDue R Leaves words source source' input due
    → status_of (outcome_of due) ≡ status.Usage place
usage_only R Leaves words source source' input (NoCommand other) place fault h =
    ap status.Usage (one_place words other place h.0 fault)
usage_only R Leaves words source source' input (SourceFailed command) place fault h =
    absurd (no_fault words command place h.0 fault)
usage_only R Leaves words source source' input (TooMuch command) place fault h =
    absurd (no_fault words command place h.0 fault)
usage_only R Leaves words source source' input (LacksMemory command) place fault h =
    absurd (no_fault words command place h.0 fault)
usage_only R Leaves words source source' input (Replied command outcome) place fault h =
    absurd (no_fault words command place h.0 fault)

-- the clause `usage_due`
pub usage_due : (R : Command → List ℕ → CallOutcome → Type 0) (Leaves : Due → List ℕ → Type 0)
    (words : List (List ℕ)) (source source' : SourceView) (sink sink' : SinkView)
    (told : Status) → Answers R Leaves words source source' sink sink' told → (place : ℕ) → IsFaultAt words place
    → (told ≡ status.Usage place) ⊎ (told ≡ status.WriteFault)
usage_due R Leaves words source source' sink sink' told a place fault = elim a.written.whole [
  | inl came ↦ inl (came.0 ∙ usage_only R Leaves words source source' a.has_due.input a.due place fault a.has_due.is_due)
  | inr failed ↦ inr failed.0
]

-- ---- the ends

-- `ReadFault` can only have been due after a fault of the source
read_fault_of : (R : Command → List ℕ → CallOutcome → Type 0) (Leaves : Due → List ℕ → Type 0) (refuses : RefusesInput R)
    (words : List (List ℕ)) (source source' : SourceView) (input : List ℕ) (due : Due)
    → IsDue R Leaves words source source' input due → status_of (outcome_of due) ≡ status.ReadFault
    → Rose source.faults source'.faults
read_fault_of R Leaves refuses words source source' input (NoCommand place) h is = absurd cc
read_fault_of R Leaves refuses words source source' input (SourceFailed command) h is = h.3
read_fault_of R Leaves refuses words source source' input (TooMuch command) h is = absurd cc
read_fault_of R Leaves refuses words source source' input (LacksMemory command) h is = absurd cc
read_fault_of R Leaves refuses words source source' input (Replied command (Writes text)) h is = absurd cc
read_fault_of R Leaves refuses words source source' input (Replied command (Refuses refusal names)) h is =
    absurd (subst IsOfInput is (refuses command input refusal names h.2))

-- the clause `read_fault`
pub read_fault_told : (R : Command → List ℕ → CallOutcome → Type 0) (Leaves : Due → List ℕ → Type 0) (refuses : RefusesInput R)
    (words : List (List ℕ)) (source source' : SourceView) (sink sink' : SinkView)
    (told : Status) → Answers R Leaves words source source' sink sink' told → told ≡ status.ReadFault
    → Rose source.faults source'.faults
read_fault_told R Leaves refuses words source source' sink sink' told a is =
    let t = told_due R Leaves words source source' sink sink' told a (λ failed. let e = sym is ∙ failed in absurd cc) in
    read_fault_of R Leaves refuses words source source' t.came.had.input t.due t.came.had.is_due (t.told_is ∙ is)

-- `TooLong` can only have been due after a byte too much
too_long_of : (R : Command → List ℕ → CallOutcome → Type 0) (Leaves : Due → List ℕ → Type 0) (refuses : RefusesInput R)
    (words : List (List ℕ)) (source source' : SourceView) (due : Due)
    → HasDue R Leaves words source source' due → status_of (outcome_of due) ≡ status.TooLong
    → (command : Command) × HasDue R Leaves words source source' (TooMuch command)
too_long_of R Leaves refuses words source source' (NoCommand place) had is = absurd cc
too_long_of R Leaves refuses words source source' (SourceFailed command) had is = absurd cc
too_long_of R Leaves refuses words source source' (TooMuch command) had is = (command, had)
too_long_of R Leaves refuses words source source' (LacksMemory command) had is = absurd cc
too_long_of R Leaves refuses words source source' (Replied command (Writes text)) had is = absurd cc
too_long_of R Leaves refuses words source source' (Replied command (Refuses refusal names)) had is =
    absurd (subst IsOfInput is (refuses command had.input refusal names had.is_due.2))

-- the clause `too_long`
pub too_long_told : (R : Command → List ℕ → CallOutcome → Type 0) (Leaves : Due → List ℕ → Type 0) (refuses : RefusesInput R)
    (words : List (List ℕ)) (source source' : SourceView) (sink sink' : SinkView)
    (told : Status) → Answers R Leaves words source source' sink sink' told → told ≡ status.TooLong
    → (command : Command) × HasDue R Leaves words source source' (TooMuch command)
too_long_told R Leaves refuses words source source' sink sink' told a is =
    let t = told_due R Leaves words source source' sink sink' told a (λ failed. let e = sym is ∙ failed in absurd cc) in
    too_long_of R Leaves refuses words source source' t.due t.came.had (t.told_is ∙ is)

-- with `NoMemory` only running out of memory can have been due
lacked_of : (R : Command → List ℕ → CallOutcome → Type 0) (Leaves : Due → List ℕ → Type 0) (refuses : RefusesInput R)
    (words : List (List ℕ)) (source source' : SourceView) (due : Due)
    → HasDue R Leaves words source source' due → status_of (outcome_of due) ≡ status.NoMemory
    → (command : Command) × HasDue R Leaves words source source' (LacksMemory command)
lacked_of R Leaves refuses words source source' (NoCommand place) had is = absurd cc
lacked_of R Leaves refuses words source source' (SourceFailed command) had is = absurd cc
lacked_of R Leaves refuses words source source' (TooMuch command) had is = absurd cc
lacked_of R Leaves refuses words source source' (LacksMemory command) had is = (command, had)
lacked_of R Leaves refuses words source source' (Replied command (Writes text)) had is = absurd cc
lacked_of R Leaves refuses words source source' (Replied command (Refuses refusal names)) had is =
    absurd (subst IsOfInput is (refuses command had.input refusal names had.is_due.2))

-- the clause `no_memory`
pub lacked_told : (R : Command → List ℕ → CallOutcome → Type 0) (Leaves : Due → List ℕ → Type 0) (refuses : RefusesInput R)
    (words : List (List ℕ)) (source source' : SourceView) (sink sink' : SinkView)
    (told : Status) → Answers R Leaves words source source' sink sink' told → told ≡ status.NoMemory
    → (command : Command) × HasDue R Leaves words source source' (LacksMemory command)
lacked_told R Leaves refuses words source source' sink sink' told a is =
    let t = told_due R Leaves words source source' sink sink' told a (λ failed. let e = sym is ∙ failed in absurd cc) in
    lacked_of R Leaves refuses words source source' t.due t.came.had (t.told_is ∙ is)

-- `WriteFault` is never due, so it tells of the sink
no_write_fault : (R : Command → List ℕ → CallOutcome → Type 0) (Leaves : Due → List ℕ → Type 0) (refuses : RefusesInput R)
    (words : List (List ℕ)) (source source' : SourceView) (input : List ℕ) (due : Due)
    → IsDue R Leaves words source source' input due → status_of (outcome_of due) ≢ status.WriteFault
no_write_fault R Leaves refuses words source source' input (NoCommand place) h is = absurd cc
no_write_fault R Leaves refuses words source source' input (SourceFailed command) h is = absurd cc
no_write_fault R Leaves refuses words source source' input (TooMuch command) h is = absurd cc
no_write_fault R Leaves refuses words source source' input (LacksMemory command) h is = absurd cc
no_write_fault R Leaves refuses words source source' input (Replied command (Writes text)) h is = absurd cc
no_write_fault R Leaves refuses words source source' input (Replied command (Refuses refusal names)) h is =
    absurd (subst IsOfInput is (refuses command input refusal names h.2))

-- the clause `write_fault`
pub front_told : (R : Command → List ℕ → CallOutcome → Type 0) (Leaves : Due → List ℕ → Type 0) (refuses : RefusesInput R)
    (words : List (List ℕ)) (source source' : SourceView) (sink sink' : SinkView)
    (told : Status) → Answers R Leaves words source source' sink sink' told → told ≡ status.WriteFault
    → PrefixIsOut R Leaves words source source' sink sink'
front_told R Leaves refuses words source source' sink sink' told a is = elim a.written.whole [
  | inl came ↦ absurd (no_write_fault R Leaves refuses words source source' a.has_due.input a.due a.has_due.is_due (sym came.0 ∙ is))
  | inr failed ↦ record {
    due = a.due;
    had = a.has_due;
    failed = failed.2;
    begun = failed.1;
  }
]

-- ---- a refusal's line

-- the text of an outcome that isn't `Ok` is a line
line_from : (outcome : CallOutcome) → status_of outcome ≢ status.Ok
    → (names : List (List ℕ)) × (text_of_outcome outcome ≡ line_of_status names (status_of outcome))
line_from (Writes text) not_ok = absurd (not_ok refl)
line_from (Refuses refusal names) not_ok = (names, refl)

-- the clause `refusal`
pub line_told : (R : Command → List ℕ → CallOutcome → Type 0) (Leaves : Due → List ℕ → Type 0)
    (words : List (List ℕ)) (source source' : SourceView) (sink sink' : SinkView)
    (told : Status) → Answers R Leaves words source source' sink sink' told → told ≢ status.Ok
    → told ≢ status.WriteFault → LineIsOut sink sink' told
line_told R Leaves words source source' sink sink' told a not_ok not_failed =
    let t = told_due R Leaves words source source' sink sink' told a not_failed in
    let line = line_from (outcome_of t.due) (λ ok. not_ok (sym t.told_is ∙ ok)) in
    (line.0, subst (IsOut sink sink') (line.1 ∙ ap (line_of_status line.0) t.told_is) t.came.out)
