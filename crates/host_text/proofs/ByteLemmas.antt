-- Tests that all bytes of a text pass.
use Rattle.std.proofs.Common.{◌≡◌, ℕ, Bool, true, List, [], ◌∷◌, refl}
use Rattle.std.proofs.lemmas.Bool.{and_parts}
use Rattle.std.specs.List.{list_all}
use Rattle.tab_core.specs.Name.{IsName, is_byte_of_name}

-- bytes that pass a test pass another one that follows from it
pub weaker : (p q : ℕ → Bool) → ((b : ℕ) → p b ≡ true → q b ≡ true) → (bs : List ℕ) → list_all p bs ≡ true
    → list_all q bs ≡ true
weaker p q follows [] all = refl
weaker p q follows (b ∷ bs) all =
    let (here, more) = and_parts (p b) (list_all p bs) all in
    rw (follows b here) (weaker p q follows bs more)

-- the bytes of a name are such bytes
pub name_bytes : (name : List ℕ) → IsName name → list_all is_byte_of_name name ≡ true
name_bytes name good = (and_parts _ (list_all is_byte_of_name name) good).1
