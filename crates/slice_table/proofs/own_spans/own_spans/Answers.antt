use Rattle.std.proofs.Common.{◌≡◌, ℕ, ◌+◌, ◌-◌, ◌<◌, ◌++◌, ◌∷◌, [], All, List, get_or, length, length-append, map, replicate, refl, ap, subst, sym, ◌∙◌, arith}
use Rattle.std.specs.Prelude.{slice_get}
use Rattle.std.proofs.lemmas.List.{length-map}
use Rattle.std.proofs.lemmas.List.Elements.{All-nil}
use Rattle.std.proofs.lemmas.Option.{slice_get_read}
use Rattle.tab_core.specs.declared.TheConstants.{ROUND}
use Rattle.table_form.specs.Tables.Rows.{Row, cells_from}
use Rattle.table_form.specs.Tables.Views.{plan_view}
use Rattle.slice_table.specs.declared.span_list.SpanEntry.{SpanEntry}
use Rattle.slice_table.specs.declared.full_span.FullSpan.{FullSpan}
use Rattle.slice_table.specs.declared.own_spans.TheConstants.{NONE}
use Rattle.slice_table.specs.declared.span_list.Shown.{Shown}
use Rattle.slice_table.specs.Inside.OwnSpans.{AreKnown, AreOwnSpans}
use Rattle.slice_table.specs.Inside.SpanLists.{span_of}
use Rattle.slice_table.specs.Slices.{AreSpansOf}
use Rattle.slice_table.proofs.OwnSpansLemmas.{known_none, own_are, own_more, own_none, row_maximal, segments_few, within_more}
use Rattle.slice_table.proofs.SpanListLemmas.{entry_pushed}
use Rattle.slice_table.proofs.own_spans.own_spans.Goals as goal

pub loop-at-init : goal.loop-at-init
loop-at-init c =
    let shown = c.new-shown.result.items in
    let sharers = c.args.scope.now.sharers in
    let none = ap length c.new-shown.ensures.items in
    record {
      own = subst (λ (entries : List SpanEntry). AreOwnSpans sharers c.segments-segments.result.now 0
          (map (span_of shown) entries)) (sym c.in_ok-entries.ensures.items) (own_none sharers c.segments-segments.result.now);
      known = subst (λ (xs : List Shown). AreKnown sharers xs (replicate 257 NONE)) (sym c.new-shown.ensures.items)
          (known_none sharers);
      few = omega arith;
      within = subst (λ (entries : List SpanEntry). All (λ (entry : SpanEntry). entry.shown < length shown) entries)
          (sym c.in_ok-entries.ensures.items) (All-nil (λ (entry : SpanEntry). entry.shown < length shown));
    }

pub number_of-requires-clause-few : goal.number_of-requires-clause-few
number_of-requires-clause-few c =
    let was = c.loop-at.invariant in
    let size = length-map c.loop-at.entries.items (span_of c.loop-at.shown.items) in
    let few = segments_few 0 c.segments-segments.result.now ROUND c.segments-segments.ensures.rises in
    omega (arith, was.few, was.own.count, c.loop-at-test.true)

pub number_of-requires-clause-known : goal.number_of-requires-clause-known
number_of-requires-clause-known c = c.loop-at.invariant.known

pub loop-at-preserved : goal.loop-at-preserved
loop-at-preserved c =
    let was = c.loop-at.invariant in
    let sharers = c.args.scope.now.sharers in
    let ss = c.segments-segments.result.now in
    let at = c.loop-at.at in
    let s = c.index-segments-at.result in
    let found = c.in_ok-number.ensures in
    let entries = c.loop-at.entries.items in
    let old = c.loop-at.shown.items in
    let shown = c.number_of.new.shown.items in
    let entry : SpanEntry = record { end = s.end; shown = c.in_ok-number.number } in
    let span : FullSpan = span_of shown entry in
    let pushed : c.push.new.self.items ≡ entries ++ entry ∷ [] = c.in_ok-push.ensures.items in
    let size = length-append entries (entry ∷ []) in
    let count = ap length pushed in
    record {
      own = subst (AreOwnSpans sharers ss (at + 1))
          (sym (ap (map (span_of shown)) pushed
          ∙ entry_pushed old shown entries entry span was.within found.kept refl))
          (own_more sharers ss at (map (span_of old) entries) s span was.own
          (slice_get_read ss (length ss) at s refl c.loop-at-test.true c.index-segments-at.is)
          (record { shown = found.own; end = refl }));
      known = found.known;
      few = omega (arith, was.few, found.few);
      within = subst (All (λ (x : SpanEntry). x.shown < length shown)) (sym pushed)
          (within_more entries entry (length old) (length shown) was.within found.more found.there);
    }

pub of-requires-clause-few : goal.of-requires-clause-few
of-requires-clause-few c =
    (let same = ap length c.shrink_to_fit.ensures.items in omega (arith, c.loop-at.invariant.few))

pub of-requires-clause-within : goal.of-requires-clause-within
of-requires-clause-within c =
    subst (λ (shown : List Shown). All (λ (entry : SpanEntry). entry.shown < length shown) c.loop-at.entries.items)
    (sym c.shrink_to_fit.ensures.items) c.loop-at.invariant.within

pub returns : goal.returns
returns c =
    let plan = plan_view c.args.plan.now in
    let scope = c.args.scope.now in
    let ss = c.segments-segments.result.now in
    let of = c.segments-segments.ensures in
    let row = c.index-items-index.result in
    let entries = c.loop-at.entries.items in
    let shown = c.loop-at.shown.items in
    let spans = map (span_of shown) entries in
    let row_is : row ≡ get_or plan.rows scope.core row =
    c.index-items-index.is ∙ ap (λ (rows : List Row). get_or rows c.index.result row) c.items.ensures.same
    ∙ ap (λ (n : ℕ). get_or plan.rows n row) c.index.ensures.value in
    let all : c.loop-at.at ≡ length ss = omega (arith, c.loop-at-test.false, c.loop-at.auto.at-end) in
    subst (λ (xs : List FullSpan). AreSpansOf plan scope.core 0 xs ROUND)
    (sym (c.of.ensures ∙ ap (λ (xs : List Shown). map (span_of xs) entries) c.shrink_to_fit.ensures.items))
    (own_are plan scope row 0 ss spans (record {
      scope_is = c.requires.scope;
      alone = c.requires.alone;
      there = c.requires.scope.core;
      row_is = row_is;
    })
    (row_maximal row ss of.maximal of.cells of.rises)
    (λ x low. ap (λ (cells : Row). slice_get cells x) (sym of.cells)
    ∙ ap (slice_get (cells_from 0 ss)) (let same : x ≡ x - 0 = omega arith in same))
    (subst (λ (n : ℕ). AreOwnSpans scope.sharers ss n spans) all c.loop-at.invariant.own))
