-- Spans that share what they show: each has the number of that.
use Rattle.std.specs.Prelude.{ℕ, List, [], None, slice_index_or}
use Rattle.slice_table.specs.declared.full_span.FullSpan.{FullSpan}
use Rattle.slice_table.specs.declared.span_list.Shown.{Shown}
use Rattle.slice_table.specs.declared.span_list.SpanEntry.{SpanEntry}

-- what is shown at the number
abbrev pub shown_at : List Shown → ℕ → Shown
shown_at shown number = slice_index_or shown number (record { owner = None; away = []; sharers = [] })

-- the span of this end that shows this
abbrev pub span_with : ℕ → Shown → FullSpan
span_with end shown = record {
  owner = shown.owner;
  away = shown.away;
  sharers = shown.sharers;
  end = end;
}

-- the span that the entry stands for
abbrev pub span_of : List Shown → SpanEntry → FullSpan
span_of shown entry = span_with entry.end (shown_at shown entry.shown)
