-- The tails of owners, at their places.
use Rattle.std.proofs.Common.{◌≡◌, ◌≢◌, ℕ, ◌+◌, ◌<◌, ◌≤◌, ◌&&◌, nat_le, not, List, get_or, length, replicate, set, Some, None, ap, subst, sym, ◌∙◌, inl, inr, arith}
use Rattle.std.specs.List.{list_all}
use Rattle.std.proofs.lemmas.Bool.{and_parts, cases_eq, leb-true}
use Rattle.std.proofs.lemmas.List.{get_or-replicate, get_or-set_other, get_or-set_same}
use Rattle.tab_core.specs.Name.{IsName, is_byte_of_name, is_lone_dash}
use Rattle.tab_core.specs.declared.TheConstants.{MAX_NAME}
use Rattle.line_bytes.specs.Tails.{AreTails, tail_bytes, tail_text}
use Rattle.line_bytes.specs.declared.tail.Tail.{Tail}

-- a name has so many bytes at most
pub name_fits : (name : List ℕ) → IsName name → length name ≤ MAX_NAME
name_fits name good =
    let parts = and_parts ((nat_le 1 (length name) && nat_le (length name) MAX_NAME) && not (is_lone_dash name))
    (list_all is_byte_of_name name) good in
    let sized = and_parts (nat_le 1 (length name) && nat_le (length name) MAX_NAME)
    (not (is_lone_dash name)) parts.0 in
    let long = and_parts (nat_le 1 (length name)) (nat_le (length name) MAX_NAME) sized.0 in
    leb-true (length name) MAX_NAME long.1

-- at first idle cells have their tail
pub idle_tail : (names : List (List ℕ)) (b : ℕ) (tail : Tail) (n : ℕ) → 0 < n
    → tail_bytes tail ≡ tail_text names b None → AreTails names b 0 (replicate n tail)
idle_tail names b tail n some is None d low =
    ap tail_bytes (get_or-replicate n 0 tail d some) ∙ is
idle_tail names b tail n some is (Some vcpu) d low = absurd (omega arith)

-- idle cells and one vCPU more have their tails
pub tail_more : (names : List (List ℕ)) (b : ℕ) (tails : List Tail) (vcpu : ℕ) (tail : Tail)
    → vcpu + 1 < length tails → AreTails names b vcpu tails → tail_bytes tail ≡ tail_text names b (Some vcpu)
    → AreTails names b (vcpu + 1) (set tails (vcpu + 1) tail)
tail_more names b tails vcpu tail room are is None d low =
    ap tail_bytes (get_or-set_other tails (vcpu + 1) 0 tail d (λ same. omega (arith, same)))
    ∙ are None d (omega arith)
tail_more names b tails vcpu tail room are is (Some v) d low = elim (cases_eq v vcpu) [
  | inl same ↦ subst
      (λ w. tail_bytes (get_or (set tails (vcpu + 1) tail) (w + 1) d) ≡ tail_text names b (Some w)) (sym same)
      (ap tail_bytes (get_or-set_same tails (vcpu + 1) tail d room) ∙ is)
  | inr other ↦ ap tail_bytes
      (get_or-set_other tails (vcpu + 1) (v + 1) tail d (λ same. other (omega (arith, same))))
      ∙ are (Some v) d (let apart : v ≢ vcpu = other in omega (arith, apart))
]
