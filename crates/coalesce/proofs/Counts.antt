-- How many of a row's first cells are a vCPU's, where cells of two owners change places.
use Rattle.std.proofs.Common.{◌≡◌, ◌≢◌, ℕ, zero, suc, ◌+◌, ◌-◌, ◌≤◌, min, Bool, true, false, cond, eqb, [], ◌∷◌, ◌++◌, length, replicate, take, Option, Some, refl, ap, ◌∙◌, arith}
use Rattle.std.specs.List.{count_by}
use Rattle.std.proofs.lemmas.Bool.{eqb-true}
use Rattle.std.proofs.lemmas.List.Sums.{sum_by-cons}
use Rattle.table_form.specs.Tables.Rows.{Row}
use Rattle.table_form.specs.Tables.Serves.{is_cell_of}
use Rattle.table_form.proofs.Supplies.{cells_before}

-- cells of one owner before others
before_replicate : (v w n m : ℕ) (cells : Row) (b : Bool) → eqb v w ≡ b → cells_before v
    (replicate n (Some w) ++ cells) m ≡ cond b (min m n) 0 + cells_before v cells (m - n)
unfolding cells_before
before_replicate v w zero m cells true is =
    let e : m - 0 ≡ m = omega arith in
    let none : min m 0 ≡ 0 = omega arith in
    rw (e, none) (omega arith)
before_replicate v w zero m cells false is = let e : m - 0 ≡ m = omega arith in rw e (omega arith)
before_replicate v w (suc n) zero cells true is = let e : 0 - suc n ≡ 0 = omega arith in let none : min 0
    (suc n) ≡ 0 = omega arith in rw (e, none) refl
before_replicate v w (suc n) zero cells false is = let e : 0 - suc n ≡ 0 = omega arith in rw e refl
before_replicate v w (suc n) (suc m) cells true is =
    let rest : cells_before v (replicate n (Some w) ++ cells) m ≡ min m n + cells_before v cells
    (m - n) = before_replicate v w n m cells true is in
    let e : suc m - suc n ≡ m - n = omega arith in
    let one : ◌≡◌ {A = ℕ} (cond (eqb v w) 1 0) 1 = rw is refl in
    rw e (omega (
      arith,
      sum_by-cons (λ (cell : Option ℕ). cond (is_cell_of v cell) 1 0) (Some w)
          (take m (replicate n (Some w) ++ cells)),
      rest,
      one,
    ))
before_replicate v w (suc n) (suc m) cells false is =
    let rest : cells_before v (replicate n (Some w) ++ cells) m ≡ 0 + cells_before v cells
    (m - n) = before_replicate v w n m cells false is in
    let e : suc m - suc n ≡ m - n = omega arith in
    let none : ◌≡◌ {A = ℕ} (cond (eqb v w) 1 0) 0 = rw is refl in
    rw e (omega (
      arith,
      sum_by-cons (λ (cell : Option ℕ). cond (is_cell_of v cell) 1 0) (Some w)
          (take m (replicate n (Some w) ++ cells)),
      rest,
      none,
    ))

-- other cells before them
before_front : (v : ℕ) (front cells : Row) (m : ℕ) → cells_before v
    (front ++ cells) m ≡ cells_before v front m + cells_before v cells (m - length front)
unfolding cells_before
before_front v [] cells m = let e : m - 0 ≡ m = omega arith in rw e (nothing m)
  where
    nothing : (m : ℕ) → count_by (λ cell. is_cell_of v cell) (take m cells)
        ≡ count_by (λ cell. is_cell_of v cell)
        (take m (let none : Row = [] in none)) + count_by (λ cell. is_cell_of v cell) (take m cells)
    nothing zero = refl
    nothing (suc m) = omega arith
before_front v (c ∷ front) cells zero = let e : 0 - length (c ∷ front) ≡ 0 = omega arith in rw e refl
before_front v (c ∷ front) cells (suc m) =
    let rest = before_front v front cells m in
    let e : suc m - suc (length front) ≡ m - length front = omega arith in
    rw e (omega (
      arith,
      sum_by-cons (λ (cell : Option ℕ). cond (is_cell_of v cell) 1 0) c
          (take m (front ++ cells)),
      sum_by-cons (λ (cell : Option ℕ). cond (is_cell_of v cell) 1 0) c
          (take m front),
      rest,
    ))

-- two rows, in which l cells of the second vCPU and a cells of the first, from the tick b on, have
-- changed places
pub record AreMoved (row row' : Row) (b l a first second : ℕ) : Type 0 where
  pub front : Row
  pub back : Row
  pub size : length front ≡ b
  pub old : row ≡ front ++ (replicate l (Some second) ++ (replicate a (Some first) ++ back))
  pub new : row' ≡ front ++ (replicate a (Some first) ++ (replicate l (Some second) ++ back))

-- neither of them, or a tick that isn't strictly between
pub data IsOutside (b l a first second v n : ℕ) : Type 0 where
  Another : v ≢ first → v ≢ second → IsOutside b l a first second v n
  Before : n ≤ b → IsOutside b l a first second v n
  Behind : b + l + a ≤ n → IsOutside b l a first second v n

-- two runs of cells have as many of the vCPU's in either order
two_runs : (v first second l a n b : ℕ) (x y : Bool) → IsOutside b l a first second v n → eqb v first ≡ x
    → eqb v second ≡ y
    → cond y (min (n - b) l) 0 + cond x (min (n - b - l) a) 0
    ≡ cond x (min (n - b) a) 0 + cond y (min (n - b - a) l) 0
two_runs v first second l a n b false false out ex ey = refl
two_runs v first second l a n b true y (Another no_first no_second) ex ey =
    absurd (no_first (eqb-true v first ex))
two_runs v first second l a n b false true (Another no_first no_second) ex ey = absurd
    (no_second (eqb-true v second ey))
two_runs v first second l a n b true true (Before le) ex ey = omega arith
two_runs v first second l a n b true false (Before le) ex ey = omega arith
two_runs v first second l a n b false true (Before le) ex ey = omega arith
two_runs v first second l a n b true true (Behind le) ex ey = omega arith
two_runs v first second l a n b true false (Behind le) ex ey = omega arith
two_runs v first second l a n b false true (Behind le) ex ey = omega arith

-- up to a tick outside of what changes places the vCPU has as many cells
pub same_before : (row row' : Row) (b l a first second v n : ℕ) → AreMoved row row' b l a first second
    → IsOutside b l a first second v n → cells_before v row' n ≡ cells_before v row n
same_before row row' b l a first second v n moved out =
    let A : Row → Row = λ cells. replicate a (Some first) ++ cells in
    let B : Row → Row = λ cells. replicate l (Some second) ++ cells in
    let in_front = λ (cells : Row). before_front v moved.front cells n ∙ ap
    (λ m. cells_before v moved.front n + cells_before v cells (n - m)) moved.size in
    let old = ap (λ r. cells_before v r n) moved.old ∙ in_front (B (A moved.back)) in
    let new = ap (λ r. cells_before v r n) moved.new ∙ in_front (A (B moved.back)) in
    let old_runs : cells_before v (B (A moved.back)) (n - b) ≡ cond (eqb v second) (min (n - b) l) 0 +
    (cond (eqb v first) (min (n - b - l) a) 0 + cells_before v moved.back (n - b - l - a))
    = before_replicate v second l (n - b) (A moved.back) (eqb v second) refl ∙ ap
    (λ m. cond (eqb v second) (min (n - b) l) 0 + m)
    (before_replicate v first a (n - b - l) moved.back (eqb v first) refl) in
    let new_runs : cells_before v (A (B moved.back)) (n - b) ≡ cond (eqb v first) (min (n - b) a) 0 +
    (cond (eqb v second) (min (n - b - a) l) 0 + cells_before v moved.back (n - b - a - l))
    = before_replicate v first a (n - b) (B moved.back) (eqb v first) refl ∙ ap
    (λ m. cond (eqb v first) (min (n - b) a) 0 + m)
    (before_replicate v second l (n - b - a) moved.back (eqb v second) refl) in
    let runs = two_runs v first second l a n b (eqb v first) (eqb v second) out refl refl in
    let rest : cells_before v moved.back (n - b - a - l) ≡ cells_before v moved.back (n - b - l - a) = ap
    (cells_before v moved.back) (omega arith) in
    omega (arith, old, new, old_runs, new_runs, runs, rest)
