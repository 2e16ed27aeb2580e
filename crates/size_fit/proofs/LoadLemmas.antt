-- The load of a row, segment by segment.
use Rattle.std.proofs.Common.{◌≡◌, ℕ, ◌+◌, ◌-◌, ◌<◌, ◌≤◌, List, [], ◌∷◌, ◌++◌, length, length-drop, get_or, drop, take, replicate, Option, Some, None, suc, refl, subst, sym, ◌∙◌, ap, arith}
use Rattle.std.proofs.Math.Seq.{take-suc}
use Rattle.std.proofs.lemmas.List.Sums.{sum_by-append}
use Rattle.std.proofs.lemmas.List.Folds.{sum_by-replicate}
use Rattle.std.proofs.lemmas.List.{map-append, nil_from_length}
use Rattle.tab_core.specs.declared.TheConstants.{ROUND}
use Rattle.tab_core.proofs.Lists.{drop_next}
use Rattle.table_form.specs.declared.segment.Segment.{Segment}
use Rattle.table_form.specs.Tables.Rows.{Row, cells_from, RisesTo}
use Rattle.table_form.proofs.RowLemmas.{rises_parts, cells-cons, cells-nil, length-cells_from}
use Rattle.size_fit.specs.Inside.Owned.{owned_ticks}
use Rattle.size_fit.specs.Loads.{load_of_row, loads_of}

-- what the segments from a tick on add
abbrev pub rest_of : ℕ → List Segment → ℕ
rest_of from ss = load_of_row (cells_from from ss)

-- this much is counted of the segments before this one, and the others rise from here
pub record Counts (ss : List Segment) (place from load : ℕ) : Type 0 where
  pub rises : RisesTo from (drop place ss) ROUND
  pub low : load ≤ from
  pub counted : load + rest_of from (drop place ss) ≡ rest_of 0 ss

cells_add : (n : ℕ) (o : Option ℕ) → load_of_row (replicate n o) ≡ owned_ticks n o
cells_add n None = sum_by-replicate _ n None ∙ omega arith
cells_add n (Some v) = sum_by-replicate _ n (Some v) ∙ omega arith

-- what the next segment and those after it add
rest_next : (from : ℕ) (s : Segment) (ss : List Segment)
    → rest_of from (s ∷ ss) ≡ owned_ticks (s.end - from) s.owner + rest_of s.end ss
rest_next from s ss =
    ap load_of_row (cells-cons from s ss)
    ∙ (sum_by-append _ (replicate (s.end - from) s.owner) (cells_from s.end ss)
    ∙ ap (λ n. n + rest_of s.end ss) (cells_add (s.end - from) s.owner))

-- an owner has at most all ticks
owned_at_most : (n : ℕ) (o : Option ℕ) → owned_ticks n o ≤ n
owned_at_most n None = omega arith
owned_at_most n (Some v) = omega arith

-- before the first segment nothing is counted
pub counts_none : (ss : List Segment) → RisesTo 0 ss ROUND → Counts ss 0 0 0
counts_none ss rises =
    let same : rest_of 0 (drop 0 ss) ≡ rest_of 0 ss = refl in
    record { rises = rises; low = omega arith; counted = omega (arith, same) }

-- what is known at the next segment
pub record Next (ss : List Segment) (place from load : ℕ) (s : Segment) : Type 0 where
  pub rises : from < s.end
  pub ends : s.end ≤ ROUND
  pub low : load + owned_ticks (s.end - from) s.owner ≤ s.end
  pub more : Counts ss (place + 1) s.end (load + owned_ticks (s.end - from) s.owner)

pub next : (ss : List Segment) (place from load : ℕ) (s : Segment) → Counts ss place from load
    → place < length ss → s ≡ get_or ss place s → Next ss place from load s
next ss place from load s counts small at =
    let step = drop_next ss place s small at in
    let parts = rises_parts from s (drop (place + 1) ss) ROUND
    (subst (λ xs. RisesTo from xs ROUND) step counts.rises) in
    let rest = rest_next from s (drop (place + 1) ss) in
    let same : rest_of from (drop place ss) ≡ rest_of from (s ∷ drop (place + 1) ss) = ap (rest_of from) step in
    let counted : (load + owned_ticks (s.end - from) s.owner) + rest_of s.end (drop (place + 1) ss) ≡ rest_of 0 ss =
    omega (arith, counts.counted, rest, same) in
    let low : load + owned_ticks (s.end - from) s.owner ≤ s.end =
    omega (arith, counts.low, owned_at_most (s.end - from) s.owner, parts.0) in
    let whole = length-cells_from s.end (drop (place + 1) ss) ROUND parts.1 in
    record {
      rises = parts.0;
      ends = omega (arith, whole);
      low = low;
      more = record { rises = parts.1; low = low; counted = counted };
    }

-- after the last one all is counted
pub counts_all : (ss : List Segment) (place from load : ℕ) → length ss ≤ place → Counts ss place from load
    → load ≡ load_of_row (cells_from 0 ss)
counts_all ss place from load past counts =
    let none : drop place ss ≡ [] = drop_past ss place past in
    let same : rest_of from (drop place ss) ≡ 0 = ap (rest_of from) none ∙ ap load_of_row (cells-nil from) in
    omega (arith, counts.counted, same)
  where
    drop_past : (xs : List Segment) (n : ℕ) → length xs ≤ n → drop n xs ≡ []
    drop_past xs n le = nil_from_length (drop n xs) (omega (arith, length-drop n xs))

-- the load of one more core
pub loads_next : (rows : List Row) (i : ℕ) (loads : List ℕ) (row : Row) → i < length rows → row ≡ get_or rows i row
    → loads ≡ loads_of (take i rows) → loads ++ load_of_row row ∷ [] ≡ loads_of (take (i + 1) rows)
loads_next rows i loads row low at before =
    let count : i + 1 ≡ suc i = omega arith in
    let more : take (suc i) rows ≡ take i rows ++ row ∷ [] =
    take-suc rows i row low ∙ ap (λ r. take i rows ++ r ∷ []) (sym at) in
    rw count (ap (λ xs. xs ++ load_of_row row ∷ []) before
    ∙ (sym (map-append load_of_row (take i rows) (row ∷ [])) ∙ ap loads_of (sym more)))
