-- Sections that begin earlier.
use Rattle.std.specs.Prelude.{ℕ, List, [], ◌∷◌, ◌++◌}

-- the sections after these bytes, which belong to the first of them
abbrev pub sections_after : List ℕ → List (List ℕ) → List (List ℕ)
sections_after front [] = front ∷ []
sections_after front (section ∷ sections) = (front ++ section) ∷ sections
