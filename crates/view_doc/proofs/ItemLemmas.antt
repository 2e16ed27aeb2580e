-- Words that fit their form, one by one.
use Rattle.std.proofs.Common.{ℕ, ◌<◌, List, [], ◌∷◌, length, map, drop, zero, suc, arith}
use Rattle.view_doc.specs.Inside.Statements.{blank_of}
use Rattle.view_doc.specs.Items.{FitsForm}
use Rattle.view_doc.specs.declared.items.Blank.{Blank}

-- where a place is left the words don't end
pub fits_none : (form : List Blank) (at : ℕ) → at < length form → FitsForm [] (map blank_of (drop at form)) → ⊥
fits_none [] at low fits = absurd (omega arith)
fits_none (b ∷ form) zero low fits = fits
fits_none (b ∷ form) (suc at) low fits = fits_none form at (omega arith) fits
