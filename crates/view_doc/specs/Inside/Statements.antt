-- What the reader's statements say.
use Rattle.tab_words.specs.Texts.{Line}
use Rattle.view_doc.specs.Lines.{IsPlain, Says, Told, head, task, core, segment, end, cut, entry, stint, posted, report, item, done, nobody, in_slot, in_unused}
use Rattle.view_doc.specs.Items.{Blank as Form, this, a_number, a_name, any_word}
use Rattle.view_doc.specs.Lines.{Holder as Held}
use Rattle.view_doc.specs.declared.items.Blank.{Blank}
use Rattle.view_doc.specs.declared.items.Blank.TheVariants.{This, Number, Name, Any}
use Rattle.view_doc.specs.declared.statement.Holder.{Holder}
use Rattle.view_doc.specs.declared.statement.Holder.TheVariants.{Nobody, Slot, Shared}
use Rattle.view_doc.specs.declared.statement.Statement.{Statement}
use Rattle.view_doc.specs.declared.statement.Statement.TheVariants.{Head, Task, Core, Segment, End, Cut, Entry, Stint, Posted, Report, Item, Done}

-- whoever the reader found
abbrev pub held_by : Holder → Held
held_by Nobody = nobody
held_by (Slot name) = in_slot name.now
held_by (Shared name) = in_unused name.now

-- what a statement of these words says
abbrev pub told_by : Line → Statement → Told
told_by words (Head cores vcpus) = head cores vcpus
told_by words (Task name period cost home) = task name.now period cost home
told_by words (Core c) = core c
told_by words (Segment to holder) = segment to (held_by holder)
told_by words End = end
told_by words Cut = cut
told_by words (Entry c round count) = entry c round count
told_by words (Stint c from to used seen holder) = stint c from to used seen (held_by holder)
told_by words (Posted count) = posted count
told_by words Report = report words
told_by words Item = item words
told_by words Done = done

-- what the reader looks for at a place
abbrev pub blank_of : Blank → Form
blank_of (This word) = this word.now
blank_of Number = a_number
blank_of Name = a_name
blank_of Any = any_word

-- the words say nothing but what a report has
abbrev pub SaysNoPlain : Line → Type 0
SaysNoPlain words = (told : Told) → IsPlain told → Says words told → ⊥
