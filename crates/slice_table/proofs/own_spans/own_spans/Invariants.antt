use Rattle.std.proofs.Common.{◌<◌, ◌≤◌, All, length, map}
use Rattle.slice_table.specs.declared.span_list.SpanEntry.{SpanEntry}
use Rattle.slice_table.specs.Inside.OwnSpans.{AreKnown, AreOwnSpans}
use Rattle.slice_table.specs.Inside.SpanLists.{span_of}
use Rattle.slice_table.proofs.own_spans.own_spans.Given as goal

-- the spans of the segments so far
abbrev pub invariant-loop-at : goal.invariant-loop-at
invariant-loop-at l = record {
  own : AreOwnSpans l.scope.sharers l.segments l.at (map (span_of l.shown.items) l.entries.items);
  known : AreKnown l.scope.sharers l.shown.items l.numbers;
  few : length l.shown.items ≤ length l.entries.items;
  within : All (λ (entry : SpanEntry). entry.shown < length l.shown.items) l.entries.items;
}
