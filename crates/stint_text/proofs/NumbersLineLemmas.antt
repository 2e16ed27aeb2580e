-- The parts of a line of numbers.
use Rattle.std.proofs.Common.{◌≡◌, ℕ, List, ◌++◌, append_assoc}

-- six parts and an end, in one row
pub in_a_row_of_three : (a m b n c o f : List ℕ)
    → (((a ++ m) ++ (b ++ n)) ++ (c ++ o)) ++ f ≡ a ++ (m ++ (b ++ (n ++ (c ++ (o ++ f)))))
in_a_row_of_three a m b n c o f = simp append_assoc
