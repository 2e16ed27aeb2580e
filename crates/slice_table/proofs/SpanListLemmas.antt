-- Spans that share what they show.
use Rattle.std.proofs.Common.{◌≡◌, ℕ, zero, suc, ◌<◌, List, [], ◌∷◌, ◌++◌, length, map, get_or, All, None, ap, subst, ◌∙◌, arith}
use Rattle.std.specs.Prelude.{slice_index}
use Rattle.std.proofs.Math.Seq.{get_or-append_seam}
use Rattle.std.proofs.lemmas.List.{get_or_append_left}
use Rattle.std.proofs.lemmas.List.Elements.{All-head, All-tail}
use Rattle.slice_table.specs.declared.full_span.FullSpan.{FullSpan}
use Rattle.slice_table.specs.declared.span_list.Shown.{Shown}
use Rattle.slice_table.specs.declared.span_list.SpanEntry.{SpanEntry}
use Rattle.slice_table.specs.Inside.SpanLists.{shown_at, span_of, span_with}
use Rattle.slice_table.specs.Slices.{ends_of}

-- the end of an entry is that of its span
entry_end : (shown : List Shown) (entries : List SpanEntry) (k : ℕ) (e : SpanEntry)
    → k < length (map (span_of shown) entries) → e ≡ get_or entries k e
    → e.end ≡ slice_index (ends_of (map (span_of shown) entries)) k
entry_end shown [] k e lt is = absurd (omega arith)
entry_end shown (x ∷ xs) zero e lt is = ap (λ (y : SpanEntry). y.end) is
entry_end shown (x ∷ xs) (suc k) e lt is = entry_end shown xs k e (omega arith) is

-- the end of an entry, where the entries are seen as these spans
pub end_read : (shown : List Shown) (entries : List SpanEntry) (spans : List FullSpan) (k : ℕ)
    (e : SpanEntry)
    → map (span_of shown) entries ≡ spans → k < length spans → e ≡ get_or entries k e
    → e.end ≡ slice_index (ends_of spans) k
end_read shown entries spans k e view lt is =
    subst (λ (xs : List FullSpan). k < length xs → e.end ≡ slice_index (ends_of xs) k) view
    (λ lt'. entry_end shown entries k e lt' is) lt

-- an entry more is a span more, where what the others show stays
pub entry_pushed : (shown shown' : List Shown) (entries : List SpanEntry) (e : SpanEntry) (span : FullSpan)
    → All (λ (x : SpanEntry). x.shown < length shown) entries
    → ((k : ℕ) → k < length shown → shown_at shown' k ≡ shown_at shown k) → span_of shown' e ≡ span
    → map (span_of shown') (entries ++ e ∷ []) ≡ map (span_of shown) entries ++ span ∷ []
entry_pushed shown shown' [] e span small kept is = ap (λ (s : FullSpan). s ∷ []) is
entry_pushed shown shown' (x ∷ xs) e span small kept is =
    let first : x.shown < length shown = All-head (λ (y : SpanEntry). y.shown < length shown) x xs small in
    let rest = entry_pushed shown shown' xs e span
    (All-tail (λ (y : SpanEntry). y.shown < length shown) x xs small) kept is in
    ap (λ (show : Shown). span_with x.end show ∷ map (span_of shown') (xs ++ e ∷ [])) (kept x.shown first)
    ∙ ap (λ (spans : List FullSpan). span_of shown x ∷ spans) rest

-- what is shown at the number after all others
pub shown_behind : (shown : List Shown) (show : Shown) → shown_at (shown ++ show ∷ []) (length shown) ≡ show
shown_behind shown show = get_or-append_seam shown show [] (record { owner = None; away = []; sharers = [] })

-- what is shown at a number before the pushed one
pub shown_before : (shown : List Shown) (show : Shown) (k : ℕ) → k < length shown
    → shown_at (shown ++ show ∷ []) k ≡ shown_at shown k
shown_before shown show k lt =
    get_or_append_left shown (show ∷ []) (record { owner = None; away = []; sharers = [] }) k lt
