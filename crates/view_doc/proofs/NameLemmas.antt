-- Names that are known, and one more.
use Rattle.std.proofs.Common.{◌≡◌, ℕ, ◌<◌, Bool, true, false, IfNone, IfSome, List, [], ◌∷◌, ◌++◌, length, zero, suc, Option, Some, None, refl, sym, ◌∙◌, arith}
use Rattle.std.proofs.lemmas.Grind.{common_steps}
use Rattle.std.proofs.lemmas.Slice.Eq.{bytes_eq-Decides}
use Rattle.std.specs.Borrow.{Bor}
use Rattle.std.specs.BTreeMap.{BTreeMap, IsUnchanged}
use Rattle.std.specs.Str.{bytes_eq}
use Rattle.vcpu_names.specs.Names.{HasNumbers, IsUnknown, name_at, number_at}
use Rattle.view_doc.specs.Grammar.{is_known}

-- a name that others have is known with one more
known_if : (held name : List ℕ) (names : List (List ℕ)) (same : Bool) → bytes_eq held name ≡ same
    → (held ≡ name → ⊥) → is_known names name ≡ false → is_known (held ∷ names) name ≡ false
known_if held name names true is differs rest = absurd (differs ((bytes_eq-Decides held name).0 is))
known_if held name names false is differs rest = rw is rest

-- a name that none has isn't known
pub is_unknown : (names : List (List ℕ)) (name : List ℕ) → IsUnknown names name → is_known names name ≡ false
is_unknown [] name none = refl
is_unknown (held ∷ names) name none =
    known_if held name names (bytes_eq held name) refl (none 0 (omega arith))
    (is_unknown names name (λ vcpu low. none (suc vcpu) (omega arith)))

-- a name that others have is known with one more
pub known_behind : (held name : List ℕ) (names : List (List ℕ)) (same : Bool) → bytes_eq held name ≡ same
    → is_known names name ≡ true → is_known (held ∷ names) name ≡ true
known_behind held name names true is rest = rw is refl
known_behind held name names false is rest = rw is rest

-- a name that some has is known
pub known_at : (names : List (List ℕ)) (name : List ℕ) (vcpu : ℕ) → vcpu < length names
    → name_at names vcpu ≡ name → is_known names name ≡ true
known_at [] name vcpu low is = absurd (omega arith)
known_at (held ∷ names) name zero low is = rw ((bytes_eq-Decides held name).1 is) refl
known_at (held ∷ names) name (suc vcpu) low is =
    known_behind held name names (bytes_eq held name) refl (known_at names name vcpu (omega arith) is)

-- what a look-up finds
pub found : (names : List (List ℕ)) (numbers : BTreeMap (Bor (List ℕ)) ℕ) (name : List ℕ) (result : Option ℕ)
    → HasNumbers names numbers → result ≡ number_at numbers name
    → IfSome result (λ vcpu. (vcpu < length names) × (name_at names vcpu ≡ name) × (is_known names name ≡ true))
found names numbers name None has is = tt
found names numbers name (Some vcpu) has is =
    let at = has.known name vcpu (sym is) in (at.0, at.1, known_at names name vcpu at.0 at.1)

-- what a look-up finds nothing for
pub not_found : (names : List (List ℕ)) (numbers : BTreeMap (Bor (List ℕ)) ℕ) (name : List ℕ)
    (result : Option ℕ) → HasNumbers names numbers → result ≡ number_at numbers name
    → IfNone result (is_known names name ≡ false)
not_found names numbers name None has is = is_unknown names name (has.every name (sym is))
not_found names numbers name (Some vcpu) has is = tt

-- the last name is at its number
pub name_last : (names : List (List ℕ)) (name : List ℕ) → name_at (names ++ name ∷ []) (length names) ≡ name
name_last names name = grind (arith, common_steps)

-- a map whose entries stay has the same numbers
pub unchanged_numbers : (names : List (List ℕ)) (numbers more : BTreeMap (Bor (List ℕ)) ℕ)
    → IsUnchanged numbers more → HasNumbers names numbers → HasNumbers names more
unchanged_numbers names numbers more same has =
    let found : (name : List ℕ) → number_at more name ≡ number_at numbers name = λ name.
    rw same refl in
    record {
      known = λ name vcpu at. has.known name vcpu (sym (found name) ∙ at);
      every = λ name at. has.every name (sym (found name) ∙ at);
    }
