-- The column of names.
use Rattle.std.proofs.Common.{◌≡◌, ℕ, ◌+◌, ap, max, List, length, refl, add-one}
use Rattle.vcpu_names.specs.Names.{name_at}
use Rattle.view_cells.specs.Cells.{width_below}

-- its width before the first name
pub width_below-zero : (names : List (List ℕ)) → width_below names 0 ≡ 4
unfolding width_below
width_below-zero names = refl

-- the width with one more name
pub width_below-more : (names : List (List ℕ)) (v : ℕ)
    → width_below names (v + 1) ≡ max (width_below names v) (length (name_at names v))
unfolding width_below
width_below-more names v = ap (width_below names) (add-one v)
