use Rattle.std.proofs.Common.{◌≡◌, ◌++◌, ◌∷◌, [], ap, map, ◌∙◌, List}
use Rattle.slice_table.specs.declared.span_list.SpanEntry.{SpanEntry}
use Rattle.slice_table.specs.declared.full_span.FullSpan.{FullSpan}
use Rattle.slice_table.specs.declared.span_list.Shown.{Shown}
use Rattle.slice_table.specs.Inside.SpanLists.{shown_at, span_of, span_with}
use Rattle.slice_table.proofs.SpanListLemmas.{entry_pushed, shown_before, shown_behind}
use Rattle.slice_table.proofs.span_list.SpanList.push.Goals as goal

pub returns : goal.returns
returns c =
    let shown = c.self.inside.shown.items in
    let entries = c.self.inside.entries.items in
    let show : Shown =
    record { owner = c.args.span.owner; away = c.args.span.away; sharers = c.args.span.sharers } in
    let entry : SpanEntry = record { end = c.args.span.end; shown = c.len-shown.result } in
    let more : c.push_reserved.new.self.items ≡ shown ++ show ∷ [] =
    c.push_reserved.ensures.items ∙ ap (λ (xs : List Shown). xs ++ show ∷ []) c.reserve.ensures.items in
    let pushed : c.push-2.new.self.items ≡ entries ++ entry ∷ [] = c.in_ok-push-2.ensures.items in
    ap (map (span_of c.push_reserved.new.self.items)) pushed
    ∙ ap (λ (xs : List Shown). map (span_of xs) (entries ++ entry ∷ [])) more
    ∙ entry_pushed shown (shown ++ show ∷ []) entries entry c.args.span c.self.invariant.1
    (shown_before shown show)
    (ap (span_with c.args.span.end)
    (ap (shown_at (shown ++ show ∷ [])) (c.len-shown.ensures ∙ c.self.inside.shown.ok.0) ∙ shown_behind shown show))
    ∙ ap (λ (spans : List FullSpan). spans ++ c.args.span ∷ []) c.self.view_is
