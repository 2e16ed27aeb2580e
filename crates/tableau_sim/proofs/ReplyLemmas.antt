-- What was read, and what is due after it: the lemmas of `specs/Inside/Reply.antt`.
use Rattle.std.proofs.Common.{◌≡◌, ℕ, ◌≤◌, List, [], true, false, length, refl, Option, Some, None, Result, Ok, Err, inl, inr, sym, subst, ◌∙◌, arith}
use Rattle.std.proofs.KnownBytes.{Consumes-nil}
use Rattle.std.specs.Io.KnownBytes.{Consumes}
use Rattle.std.specs.Prelude.{IsErrOf, Vec}
use Rattle.std.specs.declared.alloc.Global.{Global}
use Rattle.tab_core.specs.declared.host.Host.{Host}
use Rattle.tab_core.specs.declared.over.Over.{Over}
use Rattle.tab_io.specs.Sources.{EndsReading, ReadsAll}
use Rattle.tab_io.specs.Views.{SourceView, SinkView}
use Rattle.tab_io.specs.declared.source.ReadAll.{ReadAll}
use Rattle.tab_io.specs.declared.source.ReadAll.TheVariants as read
use Rattle.tab_words.specs.Commands.{IsCommand, IsFaultAt}
use Rattle.tab_words.specs.Sections.{sections_of}
use Rattle.tab_words.specs.declared.command.Command.{Command}
use Rattle.host_doc.specs.Document.{IsHostText}
use Rattle.vcpu_names.specs.Names.{names_of}
use Rattle.tableau_sim.specs.declared.input.TheConstants.{INPUT_LIMIT}
use Rattle.tableau_sim.specs.declared.reply.Stop.{Stop}
use Rattle.tableau_sim.specs.declared.reply.Stop.TheVariants as stop
use Rattle.tableau_sim.specs.declared.reply.Text.{Text}
use Rattle.tableau_sim.specs.declared.status.Status.{Status}
use Rattle.tableau_sim.specs.declared.status.Status.TheVariants as status
use Rattle.tab_words.specs.declared.command.Command.TheVariants as called
use Rattle.tableau_sim.specs.Columns.{reads, takes_memory}
use Rattle.tableau_sim.specs.Commands.{IsStillCommand}
use Rattle.tableau_sim.specs.Inside.Reply.{AnswersWith, HasInput, HasNoInput, IsOff, IsReplyTo, Makes, StopsReading, handed, host_in, outcome_in}
use Rattle.tableau_sim.specs.Clauses.{HandsHost, RefusesHost}
use Rattle.tableau_sim.specs.Frame.{Answers, Due, HasReadIf, IsDue, WritesReply, outcome_of}
use Rattle.tableau_sim.specs.Frame.Due.{LacksMemory, NoCommand, Replied, SourceFailed, TooMuch}
use Rattle.tableau_sim.specs.Outcomes.{CallOutcome, status_of}
use Rattle.tableau_sim.specs.Outcomes.CallOutcome.{Refuses}
use Rattle.tableau_sim.specs.Hosts.{OfHost}
use Rattle.tableau_sim.specs.Hosts.OfHost.{Hosted}
use Rattle.tableau_sim.specs.PlanStay.{IsTextOfNone, PlansAnew, PlansStaying}
use Rattle.tableau_sim.specs.Scripts.{HasScript, OfScript}
use Rattle.tableau_sim.specs.Scripts.OfScript.{Scripted}
use Rattle.script_doc.specs.Statements.{statements_of}
use Rattle.script_doc.specs.Steps.{AreSteps}
use Rattle.script_doc.specs.declared.event.Event.{Event}
use Rattle.script_doc.specs.declared.step.Step.{Step}
use Rattle.tableau_sim.specs.Replay.{Replays, ReplaysSteps, steps_section}
use Rattle.tableau_sim.specs.Sections.{OfSections, host_section}
use Rattle.tableau_sim.specs.Sections.OfSections.{BadSections, Sectioned}

-- the call replies and writes, and no more: its whole answer comes from these two
answers_of : (R : Command → List ℕ → CallOutcome → Type 0) (Leaves : Due → List ℕ → Type 0) (words : List (List ℕ))
    (source source' : SourceView) (sink sink' : SinkView) (told : Status) (reply : Result Text Stop)
    → IsReplyTo R Leaves words source source' reply
    → WritesReply sink sink' (outcome_in reply) told → Answers R Leaves words source source' sink sink' told
answers_of R Leaves words source source' sink sink' told reply is written = record {
  due = is.due;
  has_due = record { input = is.input; consumed = is.consumed; is_due = is.is_due };
  later = is.later;
  written = subst (λ outcome. WritesReply sink sink' outcome told) (sym is.same) written;
}

-- a refusal for room that is due is a command's of what it has read
refused_by : (R : Command → List ℕ → CallOutcome → Type 0) (Leaves : Due → List ℕ → Type 0) (words : List (List ℕ))
    (old new : SourceView) (input : List ℕ) (due : Due) (vcpu rest : ℕ) (over : List Over) (host : Host)
    → Consumes old.rest new.rest input → IsDue R Leaves words old new input due
    → outcome_of due ≡ Refuses (status.NoRoom vcpu rest over) (names_of host.vcpus)
    → IsHostText (host_section (sections_of input)) host
    → RefusesHost R Leaves words old new (status.NoRoom vcpu rest over) host
refused_by R Leaves words old new input (NoCommand place) vcpu rest over host consumed h same is = absurd cc
refused_by R Leaves words old new input (SourceFailed command) vcpu rest over host consumed h same is = absurd cc
refused_by R Leaves words old new input (TooMuch command) vcpu rest over host consumed h same is = absurd cc
refused_by R Leaves words old new input (LacksMemory command) vcpu rest over host consumed h same is = absurd cc
refused_by R Leaves words old new input (Replied command outcome) vcpu rest over host consumed h same is = record {
  command = command;
  had = record { input = input; consumed = consumed; is_due = (h.0, h.1, subst (R command input) same h.2) };
  is_host = is;
}

-- a refusal hands on its host if it is one for room
refused_hands : (R : Command → List ℕ → CallOutcome → Type 0) (Leaves : Due → List ℕ → Type 0) (words : List (List ℕ))
    (source source' : SourceView) (refusal : Status) (host : Option Host)
    → IsReplyTo R Leaves words source source' (Err (stop.Refused refusal host))
    → HandsHost R Leaves words source source' refusal (handed refusal host)
refused_hands R Leaves words source source' (status.NoRoom vcpu rest over) None is = is.has_host
refused_hands R Leaves words source source' (status.NoRoom vcpu rest over) (Some host) is =
    refused_by R Leaves words source source' is.input is.due vcpu rest over host is.consumed is.is_due is.same is.has_host
refused_hands R Leaves words source source' other host is = refl

-- what comes whole of a reply hands on its host if that is a refusal for room
reply_hands : (R : Command → List ℕ → CallOutcome → Type 0) (Leaves : Due → List ℕ → Type 0) (words : List (List ℕ))
    (source source' : SourceView) (reply : Result Text Stop) → IsReplyTo R Leaves words source source' reply
    → HandsHost R Leaves words source source' (status_of (outcome_in reply)) (handed (status_of (outcome_in reply)) (host_in reply))
reply_hands R Leaves words source source' (Ok text) is = refl
reply_hands R Leaves words source source' (Err (stop.Refused refusal host)) is =
    refused_hands R Leaves words source source' refusal host is
reply_hands R Leaves words source source' (Err stop.NoMemory) is = refl

-- what was written of a reply hands on its host if that is a refusal for room
told_hands : (R : Command → List ℕ → CallOutcome → Type 0) (Leaves : Due → List ℕ → Type 0) (words : List (List ℕ))
    (source source' : SourceView) (sink sink' : SinkView) (told : Status) (reply : Result Text Stop)
    → IsReplyTo R Leaves words source source' reply → WritesReply sink sink' (outcome_in reply) told
    → HandsHost R Leaves words source source' told (handed told (host_in reply))
told_hands R Leaves words source source' sink sink' told reply is written = elim written.whole [
  | inl came ↦ subst (λ t. HandsHost R Leaves words source source' t (handed t (host_in reply))) (sym came.0)
      (reply_hands R Leaves words source source' reply is)
  | inr failed ↦ subst (λ t. HandsHost R Leaves words source source' t (handed t (host_in reply))) (sym failed.0) refl
]

-- the call replies, writes and hands on a host, and no more
pub ended_of : (R : Command → List ℕ → CallOutcome → Type 0) (Leaves : Due → List ℕ → Type 0) (words : List (List ℕ))
    (source source' : SourceView) (sink sink' : SinkView) (told : Status) (host : Option Host)
    (reply : Result Text Stop) → IsReplyTo R Leaves words source source' reply
    → WritesReply sink sink' (outcome_in reply) told → host ≡ handed told (host_in reply)
    → AnswersWith R Leaves words source source' sink sink' told host
ended_of R Leaves words source source' sink sink' told host reply is written same = record {
  answers = answers_of R Leaves words source source' sink sink' told reply is written;
  hands = subst (HandsHost R Leaves words source source' told) (sym same)
      (told_hands R Leaves words source source' sink sink' told reply is written);
}

-- words that are no command: nothing is read
pub usage_reply : (R : Command → List ℕ → CallOutcome → Type 0) (Leaves : Due → List ℕ → Type 0) (words : List (List ℕ))
    (source : SourceView) (place : ℕ) → IsFaultAt words place
    → Leaves (NoCommand place) []
    → IsReplyTo R Leaves words source source (Err (stop.Refused (status.Usage place) None))
usage_reply R Leaves words source place fault still = record {
  input = [];
  consumed = Consumes-nil source.rest;
  later = omega arith;
  due = NoCommand place;
  is_due = (fault, refl, still);
  same = refl;
  writable = tt {0};
  has_host = tt {0};
}

-- a command that has read what it wants: what it makes of that is due
pub made_reply : (R : Command → List ℕ → CallOutcome → Type 0) (Leaves : Due → List ℕ → Type 0) (words : List (List ℕ))
    (old new : SourceView) (command : Command) (input : List ℕ) (reply : Result Text Stop)
    → IsCommand words command → Consumes old.rest new.rest input → old.faults ≤ new.faults
    → HasReadIf (reads command) new input → (reads command ≡ false → input ≡ [])
    → (reply ≡ Err stop.NoMemory → (takes_memory command ≡ true) × Leaves (LacksMemory command) input)
    → Makes (R command input) (host_section (sections_of input)) reply → IsReplyTo R Leaves words old new reply
made_reply R Leaves words old new command input (Ok text) are consumed later read part lacks h = record {
  input = input;
  consumed = consumed;
  later = later;
  due = Replied command (outcome_in (Ok text));
  is_due = (are, read, h.0);
  same = refl;
  writable = h.1;
  has_host = tt {0};
}
made_reply R Leaves words old new command input (Err (stop.Refused refusal host)) are consumed later read part
    lacks h = record {
      input = input;
      consumed = consumed;
      later = later;
      due = Replied command (outcome_in (Err (stop.Refused refusal host)));
      is_due = (are, read, h.0);
      same = refl;
      writable = tt {0};
      has_host = h.1;
    }
made_reply R Leaves words old new command input (Err stop.NoMemory) are consumed later read part lacks h = record {
  input = input;
  consumed = consumed;
  later = later;
  due = LacksMemory command;
  is_due = (are, (lacks refl).0, part, (lacks refl).1);
  same = refl;
  writable = tt {0};
  has_host = tt {0};
}

-- a command that reads nothing
pub unread_reply : (R : Command → List ℕ → CallOutcome → Type 0) (Leaves : Due → List ℕ → Type 0) (words : List (List ℕ))
    (source : SourceView) (command : Command) (reply : Result Text Stop) → IsCommand words command
    → reads command ≡ false → (reply ≡ Err stop.NoMemory → (takes_memory command ≡ true) × Leaves (LacksMemory command) [])
    → Makes (R command []) (host_section (sections_of [])) reply → IsReplyTo R Leaves words source source reply
unread_reply R Leaves words source command reply are still lacks h =
    made_reply R Leaves words source source command [] reply are (Consumes-nil source.rest) (omega arith)
    (subst (λ b. HasReadIf b source []) (sym still) refl) (λ unread. refl)
    lacks h

-- who reads takes memory
reading_takes : (command : Command) → reads command ≡ true → takes_memory command ≡ true
reading_takes called.Help reading = absurd cc
reading_takes called.Version reading = absurd cc
reading_takes other reading = refl

-- who starts no threads and is none of those that read nothing reads
pub reads_unless : (command : Command) → IsStillCommand command → (command ≡ called.Help → ⊥)
    → (command ≡ called.Version → ⊥)
    → ((seed cores vcpus : ℕ) → command ≡ called.Gen seed cores vcpus → ⊥) → reads command ≡ true
reads_unless called.Help still no_help no_version no_gen = absurd (no_help refl)
reads_unless called.Version still no_help no_version no_gen = absurd (no_version refl)
reads_unless (called.Gen seed cores vcpus) still no_help no_version no_gen =
    absurd (no_gen seed cores vcpus refl)
reads_unless (called.Selftest seed) still no_help no_version no_gen = absurd still
reads_unless other still no_help no_version no_gen = refl

-- a command that has read its whole input
pub input_reply : (R : Command → List ℕ → CallOutcome → Type 0) (Leaves : Due → List ℕ → Type 0) (words : List (List ℕ))
    (old new : SourceView) (command : Command) (input : List ℕ) (reply : Result Text Stop)
    → IsCommand words command → reads command ≡ true → HasInput old new input
    → (reply ≡ Err stop.NoMemory → Leaves (LacksMemory command) input)
    → Makes (R command input) (host_section (sections_of input)) reply
    → IsReplyTo R Leaves words old new reply
input_reply R Leaves words old new command input reply are reading has lacks h =
    made_reply R Leaves words old new command input reply are has.consumed has.later
    (subst (λ b. HasReadIf b new input) (sym reading) (has.short, has.ended))
    (λ unread. let e = sym reading ∙ unread in absurd cc)
    (λ is. (reading_takes command reading, lacks is)) h

-- why a command got no input is due
stop_due : (R : Command → List ℕ → CallOutcome → Type 0) (Leaves : Due → List ℕ → Type 0) (words : List (List ℕ))
    (old new : SourceView) (command : Command) (input : List ℕ) (why : Stop) → IsCommand words command
    → reads command ≡ true → ((due : Due) → Leaves due input) → Consumes old.rest new.rest input → old.faults ≤ new.faults
    → HasNoInput old new input why → IsReplyTo R Leaves words old new (Err why)
stop_due R Leaves words old new command input why are reading still consumed later
    (HasNoInput.Failed short rose sound) = record {
      input = input;
      consumed = consumed;
      later = later;
      due = SourceFailed command;
      is_due = (are, reading, short, rose, sound, still (SourceFailed command));
      same = refl;
      writable = tt {0};
      has_host = tt {0};
    }
stop_due R Leaves words old new command input why are reading still consumed later
    (HasNoInput.TooLong long) = record {
      input = input;
      consumed = consumed;
      later = later;
      due = TooMuch command;
      is_due = (are, reading, long, still (TooMuch command));
      same = refl;
      writable = tt {0};
      has_host = tt {0};
    }
stop_due R Leaves words old new command input why are reading still consumed later HasNoInput.Lacks =
    let part : reads command ≡ false → input ≡ [] = λ unread. (let e = sym reading ∙ unread in absurd cc) in
    record {
      input = input;
      consumed = consumed;
      later = later;
      due = LacksMemory command;
      is_due = (are, reading_takes command reading, part, still (LacksMemory command));
      same = refl;
      writable = tt {0};
      has_host = tt {0};
    }

-- a command that got no input
pub no_input_reply : (R : Command → List ℕ → CallOutcome → Type 0) (Leaves : Due → List ℕ → Type 0) (words : List (List ℕ))
    (old new : SourceView) (command : Command) (why : Stop) → IsCommand words command
    → reads command ≡ true → ((due : Due) (input : List ℕ) → Leaves due input) → StopsReading old new why → IsReplyTo R Leaves words old new (Err why)
no_input_reply R Leaves words old new command why are reading still stops =
    stop_due R Leaves words old new command stops.input why are reading (λ due. still due stops.input) stops.consumed stops.later stops.why_is

-- ---- sections

-- a reply is one for all that have its outcomes
makes_as : (P P' : CallOutcome → Type 0) (section : List ℕ) (reply : Result Text Stop)
    → ((outcome : CallOutcome) → P outcome → P' outcome) → Makes P section reply → Makes P' section reply
makes_as P P' section (Ok text) made h = (made _ h.0, h.1)
makes_as P P' section (Err (stop.Refused refusal host)) made h = (made _ h.0, h.1)
makes_as P P' section (Err stop.NoMemory) made h = tt {0}

-- what is made of the sections is made of the input, where they are as many as wanted
pub made_of_sections : (n : ℕ) (P : List (List ℕ) → CallOutcome → Type 0) (input : List ℕ)
    (reply : Result Text Stop) → length (sections_of input) ≡ n
    → Makes (P (sections_of input)) (host_section (sections_of input)) reply
    → Makes (OfSections n P input) (host_section (sections_of input)) reply
made_of_sections n P input reply size = makes_as (P (sections_of input)) (OfSections n P input)
    (host_section (sections_of input)) reply (λ outcome made. Sectioned outcome size made)

-- what is made of the host of the first section is made of the sections
pub made_of_host : (Q : Host → List (List ℕ) → CallOutcome → Type 0) (sections : List (List ℕ)) (host : Host)
    (reply : Result Text Stop) → IsHostText (host_section sections) host
    → Makes (Q host sections) (host_section sections) reply
    → Makes (OfHost Q sections) (host_section sections) reply
made_of_host Q sections host reply is = makes_as (Q host sections) (OfHost Q sections) (host_section sections) reply
    (λ outcome made. Hosted host outcome is made)

-- what is made anew, where the second section is the text of no plan of the host, is made of the sections
pub made_of_changed : (sections : List (List ℕ)) (host : Host) (reply : Result Text Stop)
    → IsHostText (host_section sections) host → IsTextOfNone sections host
    → Makes (PlansAnew host sections) (host_section sections) reply
    → Makes (OfHost PlansStaying sections) (host_section sections) reply
made_of_changed sections host reply is none = makes_as (PlansAnew host sections) (OfHost PlansStaying sections)
    (host_section sections) reply (λ outcome made. Hosted host outcome is (PlansStaying.Changed outcome none made))

-- what is made of the host and the script of the first two sections is made of the sections
pub made_of_script : (rounds : ℕ) (Q : Host → List Event → List (List ℕ) → CallOutcome → Type 0)
    (sections : List (List ℕ)) (host : Host) (events : List Event) (reply : Result Text Stop)
    → HasScript rounds sections host events → Makes (Q host events sections) (host_section sections) reply
    → Makes (OfHost (OfScript rounds Q) sections) (host_section sections) reply
made_of_script rounds Q sections host events reply has = makes_as (Q host events sections)
    (OfHost (OfScript rounds Q) sections) (host_section sections) reply
    (λ outcome made. Hosted host outcome has.is_host (Scripted events outcome has.is_script made))

-- what is made of the steps of the third section is made of the host, the script and the sections
pub made_of_steps : (rounds : ℕ) (host : Host) (events : List Event) (steps : List Step) (lines : List ℕ)
    (sections : List (List ℕ)) (reply : Result Text Stop)
    → AreSteps host.cores (statements_of (steps_section sections)) steps lines
    → Makes (ReplaysSteps rounds host events steps lines) (host_section sections) reply
    → Makes (Replays rounds host events sections) (host_section sections) reply
made_of_steps rounds host events steps lines sections reply are = makes_as
    (ReplaysSteps rounds host events steps lines) (Replays rounds host events sections) (host_section sections) reply
    (λ outcome made. Replays.Listed steps lines outcome are made)

-- the refusal of the number of sections is made of the input, where they aren't as many as wanted
pub off_sections : (n : ℕ) (P : List (List ℕ) → CallOutcome → Type 0) (input : List ℕ) (why : Stop)
    → IsOff n input why → Makes (OfSections n P input) (host_section (sections_of input)) (Err why)
off_sections n P input why is =
    subst (λ w. Makes (OfSections n P input) (host_section (sections_of input)) (Err w)) (sym is.why_is)
    (BadSections _ refl is.off, tt {0})

-- ---- reading

-- `read_all` gave bytes: they are the whole input
pub input_read : (old new : SourceView) (result : Result (Vec ℕ Global) ReadAll) (bytes : Vec ℕ Global)
    → ReadsAll old new INPUT_LIMIT result → result ≡ Ok bytes → HasInput old new bytes.items
input_read old new result bytes all is =
    let ended = subst (EndsReading old new INPUT_LIMIT all.bytes) is all.ended in
    subst (HasInput old new) (sym ended.0) (record {
      consumed = all.consumed;
      later = all.later;
      short = ended.1;
      ended = ended.2;
    })

-- the source failed
pub read_failed : (old new : SourceView) (result : Result (Vec ℕ Global) ReadAll)
    → ReadsAll old new INPUT_LIMIT result → result ≡ Err read.ReadFault
    → StopsReading old new (stop.Refused status.ReadFault None)
read_failed old new result all is =
    let ended = subst (EndsReading old new INPUT_LIMIT all.bytes) is all.ended in
    record {
      input = all.bytes;
      consumed = all.consumed;
      later = all.later;
      why_is = HasNoInput.Failed ended.0 ended.1
          (λ sound. all.sound sound (subst (λ r. IsErrOf r read.ReadFault) (sym is) refl));
    }

-- one byte more than the limit came
pub read_too_much : (old new : SourceView) (result : Result (Vec ℕ Global) ReadAll) (at : ℕ)
    → ReadsAll old new INPUT_LIMIT result → result ≡ Err (read.TooLong at)
    → StopsReading old new (stop.Refused status.TooLong None)
read_too_much old new result at all is =
    let ended = subst (EndsReading old new INPUT_LIMIT all.bytes) is all.ended in
    record {
      input = all.bytes;
      consumed = all.consumed;
      later = all.later;
      why_is = HasNoInput.TooLong ended.1;
    }

-- memory ran out while the input was read
pub read_lacking : (old new : SourceView) (result : Result (Vec ℕ Global) ReadAll)
    → ReadsAll old new INPUT_LIMIT result → StopsReading old new stop.NoMemory
read_lacking old new result all = record {
  input = all.bytes;
  consumed = all.consumed;
  later = all.later;
  why_is = HasNoInput.Lacks;
}

-- an input that was read is one of a source in the same state, of the same bytes
pub input_still : (old mid new : SourceView) (bytes read : List ℕ) → new ≡ mid → read ≡ bytes
    → HasInput old mid bytes → HasInput old new read
input_still old mid new bytes read is same has =
    subst (λ n. HasInput old n read) (sym is) (subst (HasInput old mid) (sym same) has)
