-- The rows of the cores.
use Rattle.std.proofs.Common.{◌≡◌, ℕ, ◌<◌, List, [], length, get_or, slice_get, map, Some, subst, sym, ◌∙◌, inl, inr, arith}
use Rattle.std.proofs.lemmas.Bool.{cases_lt}
use Rattle.std.proofs.lemmas.List.{ext_get_or, get_or-map, get_or_past, length-map}
use Rattle.std.proofs.lemmas.List.Elements.{All-nil}
use Rattle.std.proofs.lemmas.Option.{get_or_from_slice_get, slice_get_within}
use Rattle.std.specs.List.{All}
use Rattle.tab_core.specs.declared.piece.Piece.{Piece}
use Rattle.table_form.specs.Planning.EdfRow.{edf_row}
use Rattle.table_form.specs.Planning.Jobs.{jobs_of}
use Rattle.table_form.specs.Tables.Rows.{Row}
use Rattle.table_form.specs.Planning.Windows.{DistinctVcpus}
use Rattle.cd_split.specs.Cores.{pieces_on}
use Rattle.plan_make.specs.Inside.RowsOfCores.{AreRowsOf, IsRowOf}

-- there is a row for each core, which is the core's
pub record AreMade (cores : List (List Piece)) (rows : List Row) : Type 0 where
  pub size : length rows ≡ length cores
  pub each : (core : ℕ) → core < length cores → IsRowOf core (pieces_on cores core) (get_or rows core [])

-- the rows are those of the rule, as the plan's definition has them
pub made_rows : (cores : List (List Piece)) (rows : List Row) → AreMade cores rows
    → rows ≡ map (λ pieces. edf_row (jobs_of pieces)) cores
made_rows cores rows made =
    ext_get_or [] rows (map (λ pieces. edf_row (jobs_of pieces)) cores)
    (made.size ∙ sym (length-map cores (λ pieces. edf_row (jobs_of pieces))))
    (λ core lt. let lt' : core < length cores = (let size = made.size in omega arith) in
    (made.each core lt').edf ∙ sym (get_or-map (λ pieces. edf_row (jobs_of pieces)) cores core [] [] lt'))

-- what was kept of each row, by its place
made_at : (cores : List (List Piece)) (rows : List Row) (core : ℕ) (row : Row) → AreMade cores rows
    → slice_get rows core ≡ Some row → IsRowOf core (pieces_on cores core) row
made_at cores rows core row made at =
    subst (IsRowOf core (pieces_on cores core)) (get_or_from_slice_get rows core row [] at)
    (made.each core (let within = slice_get_within rows core row at in let size = made.size in omega arith))

-- what holds of the pieces of each core with a row, and of none, holds on each core
on_each : (P : ℕ → List Piece → Type 0) (cores : List (List Piece)) → ((core : ℕ) → P core [])
    → ((core : ℕ) → core < length cores → P core (pieces_on cores core)) → (core : ℕ)
    → P core (pieces_on cores core)
on_each P cores none each core = elim (cases_lt core (length cores)) [
  | inl lt ↦ each core lt
  | inr past ↦ subst (P core) (sym (get_or_past cores core [] past)) (none core)
]

-- a core past the last has no pieces, so none of one vCPU twice
none_distinct : DistinctVcpus []
none_distinct i j a b at at' same = absurd (cc)

-- what a draft asks of its rows
pub made_of : (cores : List (List Piece)) (rows : List Row) → AreMade cores rows → AreRowsOf cores rows
made_of cores rows made = record {
  size = made.size;
  own = on_each (λ core pieces. All (λ p. p.core ≡ core) pieces) cores
      (λ core. All-nil (λ (p : Piece). p.core ≡ core))
      (λ core lt. (made.each core lt).own);
  distinct = on_each (λ core. DistinctVcpus) cores (λ core. none_distinct)
      (λ core lt. (made.each core lt).distinct);
  serve = λ core row at. (made_at cores rows core row made at).serves;
  inside = λ core row at. (made_at cores rows core row made at).inside;
}
