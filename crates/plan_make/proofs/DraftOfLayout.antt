-- The draft of a layout: its pieces, homes and rows are what joining takes.
use Rattle.std.proofs.Common.{◌≡◌, ℕ, ◌+◌, ◌*◌, ◌-◌, ◌%◌, ◌<◌, ◌≤◌, ◌&&◌, true, eqb, leb, ltb, List, [], ◌∷◌, slice_get, Option, None, Some, refl, ap, subst, sym, ◌∙◌, inl, inr, arith}
use Rattle.std.proofs.lemmas.Bool.{and_from, cases_Bool, eq-eqb, le-leb, lt-ltb}
use Rattle.std.proofs.lemmas.List.Folds.{list_any_at}
use Rattle.std.proofs.lemmas.Nat.{mod-mul-add}
use Rattle.std.proofs.lemmas.Option.{get_or_from_slice_get, none-some, slice_get_within}
use Rattle.std.specs.List.{list_any}
use Rattle.plan_make.specs.Inside.Allotted.{AreLaidOut, IsOfAdmitted, has_piece}
use Rattle.plan_make.specs.Inside.RowsOfCores.{AreRowsOf}
use Rattle.plan_make.specs.Planned.{all_pieces}
use Rattle.tab_core.specs.declared.periodic.Periodic.{Periodic}
use Rattle.tab_core.specs.declared.piece.Piece.{Piece}
use Rattle.table_form.specs.Planning.Drafts.{AreOnPieces, HaveOwnCores, HaveOwnWindows, IsDraft, KeepInWindows, has_in_window, is_piece_on, period_in, pieces_at}
use Rattle.table_form.specs.Tables.Rows.{Row}
use Rattle.table_form.specs.Tables.Serves.{cell_of}
use Rattle.table_form.specs.Planning.Windows.{IsInWindow, ServesWindows}
use Rattle.table_form.proofs.SpotLemmas.{flat_some}
use Rattle.cd_split.specs.Cores.{pieces_on}
use Rattle.plan_make.proofs.AllPieces.{IsStanding, cost_of_all, pieces_at_core, same_number, standing}
use Rattle.plan_make.proofs.ListMembers.{all_at}
use Rattle.plan_make.proofs.TasksOfPlan.{all_cost, all_have_homes}

-- the core of a piece is the one on which it is
core_of : (cores : List (List Piece)) (rows : List Row) (i : ℕ) (p : Piece) → AreRowsOf cores rows
    → (a : IsStanding cores i p) → p.core ≡ a.core
core_of cores rows i p made a = all_at (λ (q : Piece). q.core ≡ a.core) (pieces_on cores a.core) a.place p
    (made.own a.core) a.at

-- a piece's period is its task's, in the form that a draft asks for
period_of : (tasks : List (Option Periodic)) (p : Piece) → IsOfAdmitted tasks p
    → period_in (slice_get tasks p.vcpu) ≡ Some p.period
period_of tasks p has = ap period_in has.at ∙ ap Some (sym has.period)

-- of one vCPU no core has two pieces
one_on_core : (cores : List (List Piece)) (rows : List Row) (i j : ℕ) (p q : Piece) → AreRowsOf cores rows
    → (a : IsStanding cores i p) (b : IsStanding cores j q) → a.core ≡ b.core → p.vcpu ≡ q.vcpu → i ≡ j
one_on_core cores rows i j p q made a b same one =
    let at = ap (λ c. slice_get (pieces_on cores c) b.place) same ∙ b.at in
    same_number cores i j p q a b same (made.distinct a.core a.place b.place p q a.at at one)

-- a draft asks that a vCPU's pieces are on different cores
own_cores : (cores : List (List Piece)) (rows : List Row) → AreRowsOf cores rows
    → HaveOwnCores (all_pieces cores)
own_cores cores rows made i j p q at at' one on =
    let a = standing cores i p at in
    let b = standing cores j q at' in
    one_on_core cores rows i j p q made a b (sym (core_of cores rows i p made a) ∙ on
    ∙ core_of cores rows j q made b) one

-- a draft asks that the windows of a vCPU's pieces don't meet
own_windows : (tasks : List (Option Periodic)) (cores : List (List Piece)) (homes : List (Option ℕ))
    (rows : List Row)
    → AreLaidOut tasks cores homes [] → AreRowsOf cores rows → HaveOwnWindows (all_pieces cores)
own_windows tasks cores homes rows laid made i j p q at at' one begins ends =
    let a = standing cores i p at in
    let b = standing cores j q at' in
    elim (laid.allotted.apart a.core b.core a.place b.place p q a.at b.at one) [
      | inl same ↦ one_on_core cores rows i j p q made a b same one
      | inr (inl before) ↦ absurd (omega arith)
      | inr (inr after) ↦ absurd (omega arith)
    ]

-- a tick inside a window of one of the pieces passes the test for it
window_found : (pieces : List Piece) (vcpu tick : ℕ) → IsInWindow pieces vcpu tick
    → list_any (has_in_window vcpu tick) pieces ≡ true
window_found pieces vcpu tick a =
    list_any_at (has_in_window vcpu tick) pieces a.at a.piece (slice_get_within pieces a.at a.piece a.listed)
    (ap (has_in_window vcpu tick) (get_or_from_slice_get pieces a.at a.piece a.piece a.listed)
    ∙ passes a.piece a.window a.owner a.after_begin a.before_end)
  where
    passes : (p : Piece) (k : ℕ) → p.vcpu ≡ vcpu → k * p.period + p.from ≤ tick → tick < k * p.period + p.to
        → has_in_window vcpu tick p ≡ true
    passes p k owner begun not_over = (
        let rest = tick - k * p.period in
        let small : rest < p.period = omega (arith, p.within) in
        let place : k * p.period + rest ≡ tick = omega arith in
        let rest_is : tick % p.period ≡ rest =
        ap (λ n. n % p.period) (sym place) ∙ mod-mul-add k p.period rest small in
        let begins : p.from ≤ tick % p.period = omega arith in
        let ends : tick % p.period < p.to = omega arith in
        and_from (eqb p.vcpu vcpu && leb p.from (tick % p.period)) (ltb (tick % p.period) p.to)
        (and_from (eqb p.vcpu vcpu) (leb p.from (tick % p.period)) (eq-eqb p.vcpu vcpu owner)
        (le-leb p.from (tick % p.period) begins))
        (lt-ltb (tick % p.period) p.to ends))

-- a place with an owner is a cell of a row
owned_cell : (row : Option Row) (place v : ℕ) → cell_of row place ≡ Some v
    → (it : Row) × (row ≡ Some it) × (slice_get it place ≡ Some (Some v))
owned_cell None place v e = absurd (none-some v e)
owned_cell (Some row) place v e = (row, refl, flat_some (slice_get row place) v e)

-- a row owns cells inside the pieces' windows only, which a draft asks for
in_windows : (cores : List (List Piece)) (rows : List Row) → AreRowsOf cores rows
    → KeepInWindows (all_pieces cores) rows
in_windows cores rows made vcpu tick core owned =
    let cell = owned_cell (slice_get rows core) tick vcpu owned in
    let inside = made.inside core cell.0 cell.1 vcpu tick cell.2 in
    ap (list_any (has_in_window vcpu tick)) (pieces_at_core cores core made.own)
    ∙ window_found (pieces_on cores core) vcpu tick inside

-- a piece of the vCPU on the core is one of the vCPU's pieces that are there
piece_on_core : (vcpu core : ℕ) (ps : List Piece) → has_piece vcpu (pieces_at ps core) ≡ true
    → list_any (is_piece_on vcpu core) ps ≡ true
piece_on_core vcpu core [] has = has
piece_on_core vcpu core (p ∷ ps) has = elim (cases_Bool (eqb p.core core)) [
  | inl here ↦ elim (cases_Bool (eqb p.vcpu vcpu)) [
    | inl own ↦ rw own (rw here refl)
    | inr other ↦ rw other (piece_on_core vcpu core ps (rw other at (rw here at has)))
  ]
  | inr elsewhere ↦ elim (cases_Bool (eqb p.vcpu vcpu)) [
    | inl own ↦ rw own (rw elsewhere (piece_on_core vcpu core ps (rw elsewhere at has)))
    | inr other ↦ rw other (piece_on_core vcpu core ps (rw elsewhere at has))
  ]
]

-- each home has a piece of its vCPU, which a draft asks for
on_pieces : (tasks : List (Option Periodic)) (cores : List (List Piece)) (homes : List (Option ℕ))
    (rows : List Row)
    → AreLaidOut tasks cores homes [] → AreRowsOf cores rows → AreOnPieces homes (all_pieces cores)
on_pieces tasks cores homes rows laid made vcpu core at =
    piece_on_core vcpu core (all_pieces cores) (ap (has_piece vcpu) (pieces_at_core cores core made.own)
    ∙ laid.allotted.at_home vcpu core at)

-- a layout with nobody left over, and rows of its pieces, are a draft
layout_is_draft : (tasks : List (Option Periodic)) (cores : List (List Piece)) (homes : List (Option ℕ))
    (rows : List Row)
    → AreLaidOut tasks cores homes [] → AreRowsOf cores rows → IsDraft tasks (all_pieces cores) homes rows
layout_is_draft tasks cores homes rows laid made = record {
  serves = λ core row at. subst (λ ps. ServesWindows ps row) (sym (pieces_at_core cores core made.own))
      (made.serve core row at);
  inside = in_windows cores rows made;
  periods = λ i p at. (let a = standing cores i p at in period_of tasks p
      (laid.allotted.of_tasks a.core a.place p a.at));
  costs = λ vcpu task at. cost_of_all vcpu cores ∙ all_cost tasks cores homes laid vcpu task at;
  own_cores = own_cores cores rows made;
  own_windows = own_windows tasks cores homes rows laid made;
  on_rows = λ i p at. (
      let a = standing cores i p at in
      let there = a.there in
      let size = made.size in
      let on = core_of cores rows i p made a in
      omega arith);
  housed = all_have_homes tasks cores homes rows laid made.size;
  at_home = on_pieces tasks cores homes rows laid made;
}

-- a layout that the calls gave, with nobody left over, and rows of its pieces, are a draft
pub made_draft : (tasks : List (Option Periodic)) (cores : List (List Piece)) (homes homes' : List (Option ℕ))
    (pieces : List Piece)
    (rows : List Row) → AreLaidOut tasks cores homes [] → AreRowsOf cores rows → pieces ≡ all_pieces cores
    → homes' ≡ homes
    → IsDraft tasks pieces homes' rows
made_draft tasks cores homes homes' pieces rows laid made pieces_are homes_are =
    subst (λ ps. IsDraft tasks ps homes' rows) (sym pieces_are)
    (subst (λ hs. IsDraft tasks (all_pieces cores) hs rows) (sym homes_are)
    (layout_is_draft tasks cores homes rows laid made))
