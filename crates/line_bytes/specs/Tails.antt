-- The names of vCPUs as they are in lines, made ready.
use Rattle.std.specs.Prelude.{◌≡◌, ℕ, ◌+◌, ◌≤◌, List, [], ◌∷◌, ◌++◌, Option, Some, None, slice_index_or, take}
use Rattle.vcpu_names.specs.Names.{owner_word}
use Rattle.line_bytes.specs.declared.tail.Tail.{Tail}

-- the bytes of a tail
abbrev pub tail_bytes : Tail → List ℕ
tail_bytes tail = take tail.len tail.bytes

-- a space, the owner's word, and the byte after it
abbrev pub tail_text : List (List ℕ) → ℕ → Option ℕ → List ℕ
tail_text names behind owner = 32 ∷ (owner_word names owner ++ behind ∷ [])

-- the place of an owner's tail: that of idle cells comes first
abbrev pub tail_place : Option ℕ → ℕ
tail_place None = 0
tail_place (Some vcpu) = vcpu + 1

-- each owner's tail is at its place, up to the last one
abbrev pub AreTails : List (List ℕ) → ℕ → ℕ → List Tail → Type 0
AreTails names behind last tails = (owner : Option ℕ) (d : Tail) → tail_place owner ≤ last
    → tail_bytes (slice_index_or tails (tail_place owner) d) ≡ tail_text names behind owner
