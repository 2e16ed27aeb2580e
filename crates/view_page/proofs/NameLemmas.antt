-- Names are no markup.
use Rattle.std.proofs.Common.{◌≡◌, ℕ, true, List, [], ◌∷◌, refl, arith}
use Rattle.std.proofs.lemmas.Bool.{and_parts}
use Rattle.std.proofs.lemmas.Bool.Decides.{nat_tests}
use Rattle.std.specs.List.{list_all}
use Rattle.tab_core.specs.Name.{IsName, is_byte_of_name}
use Rattle.view_page.specs.Pages.{is_plain}

-- bytes of names are plain
plain_bytes : (bs : List ℕ) → list_all is_byte_of_name bs ≡ true → list_all is_plain bs ≡ true
plain_bytes [] all = refl
plain_bytes (b ∷ bs) all =
    let (here, more) = and_parts (is_byte_of_name b) (list_all is_byte_of_name bs) all in
    let plain : is_plain b ≡ true = grind (arith, nat_tests) in
    rw plain (plain_bytes bs more)

-- names are plain
pub plain_name : (name : List ℕ) → IsName name → list_all is_plain name ≡ true
plain_name name good = plain_bytes name (and_parts _ (list_all is_byte_of_name name) good).1
