-- A view as trace events, which Perfetto and Chromium's `about:tracing` open: an event a line.
-- Source: Trace Event Format (The Chromium Authors), phases X, i and M.
use Rattle.std.specs.Prelude.{ℕ, ◌*◌, ◌-◌, ◌/◌, ◌%◌, ◌++◌, List, [], codes, decimal, flat_map}
use Rattle.tab_core.specs.declared.TheConstants.{ROUND}
use Rattle.tab_words.specs.Texts.{texts_below}
use Rattle.view_doc.specs.declared.view.Entry.{Entry}
use Rattle.view_doc.specs.declared.view.Stretch.{Stretch}
use Rattle.view_doc.specs.declared.view.Use.{Use}
use Rattle.view_doc.specs.declared.view.Use.TheVariants.{Idle, Slot, Shared}
use Rattle.view_doc.specs.declared.view.View.{View}
use Rattle.view_doc.specs.Views.{shown_in}
use Rattle.view_export.specs.Shown.{holder_name, how_text, lanes_in}

-- three digits of a number below 1000
unfoldable pub three_digits : ℕ → List ℕ
three_digits n = decimal (n / 100) ++ (decimal (n / 10 % 10) ++ decimal (n % 10))

-- nanoseconds as microseconds with three digits after the point
unfoldable pub micros : ℕ → List ℕ
micros ns = decimal (ns / 1000) ++ (codes "." ++ three_digits (ns % 1000))

-- the first line, and the event that names what is shown
abbrev pub chrome_head : List ℕ
chrome_head = codes "{\"displayTimeUnit\":\"ns\",\"traceEvents\":[\n{\"ph\":\"M\",\"pid\":0,\"name\":\"process_name\",\"args\":{\"name\":\"tableau\"}}"

-- the events that name a core and give its place
unfoldable pub core_events : ℕ → List ℕ
core_events c = codes ",\n{\"ph\":\"M\",\"pid\":0,\"tid\":" ++ (decimal c
    ++ (codes ",\"name\":\"thread_name\",\"args\":{\"name\":\"core " ++ (decimal c
    ++ (codes "\"}},\n{\"ph\":\"M\",\"pid\":0,\"tid\":" ++ (decimal c
    ++ (codes ",\"name\":\"thread_sort_index\",\"args\":{\"sort_index\":" ++ (decimal c ++ codes "}}")))))))

-- the beginning of the event of a stretch that somebody has: the core, who and how
unfoldable pub holder_event : List (List ℕ) → Stretch → List ℕ
holder_event names s = codes ",\n{\"ph\":\"X\",\"pid\":0,\"tid\":" ++ (decimal s.core
    ++ (codes ",\"name\":\"" ++ (holder_name names s.by
    ++ (codes "\",\"cat\":\"" ++ (how_text s.by ++ codes "\",\"ts\":")))))

-- the end of the event of a stretch: its ticks and counts of events
unfoldable pub held_counts : Stretch → List ℕ
held_counts s = codes ",\"args\":{\"from\":" ++ (decimal s.from
    ++ (codes ",\"end\":" ++ (decimal s.end
    ++ (codes ",\"used\":" ++ (decimal s.used
    ++ (codes ",\"seen\":" ++ (decimal s.seen ++ codes "}}")))))))

-- the event of a stretch that somebody has, where a tick has so many nanoseconds
abbrev pub held_event : ℕ → List (List ℕ) → Stretch → List ℕ
held_event tick names s = holder_event names s ++ (micros (s.from * tick)
    ++ (codes ",\"dur\":" ++ (micros ((s.end - s.from) * tick) ++ held_counts s)))

-- the text of a stretch's event where somebody has the stretch; else nothing
abbrev pub event_by : Use → List ℕ → List ℕ
event_by Idle text = []
event_by (Slot vcpu) text = text
event_by (Shared vcpu) text = text

-- the event of a stretch, if somebody has it
abbrev pub stretch_event : ℕ → List (List ℕ) → Stretch → List ℕ
stretch_event tick names s = event_by s.by (held_event tick names s)

-- the beginning of the event of a core's entry into a round
unfoldable pub entry_by : Entry → List ℕ
entry_by e = codes ",\n{\"ph\":\"i\",\"s\":\"t\",\"pid\":0,\"tid\":" ++ (decimal e.core
    ++ (codes ",\"name\":\"round " ++ (decimal e.round ++ codes "\",\"ts\":")))

-- the end of the event of a core's entry: the count of events
unfoldable pub entry_count : Entry → List ℕ
entry_count e = codes ",\"args\":{\"count\":" ++ (decimal e.count ++ codes "}}")

-- the event of a core's entry into a round, where the round begins; a tick has so many nanoseconds
abbrev pub entry_event : ℕ → Entry → List ℕ
entry_event tick e = entry_by e ++ (micros (e.round * ROUND * tick) ++ entry_count e)

-- the text of so many lanes with these stretches and entries
abbrev pub chrome_of : ℕ → ℕ → List (List ℕ) → List Stretch → List Entry → List ℕ
chrome_of tick lanes names stretches entries = chrome_head ++ (texts_below core_events lanes
    ++ (flat_map (stretch_event tick names) stretches
    ++ (flat_map (entry_event tick) entries ++ codes "\n]}\n")))

-- the text of a view
abbrev pub chrome_text : ℕ → View → List ℕ
chrome_text tick view = chrome_of tick (lanes_in view) view.names.items (shown_in view) view.entries.items
