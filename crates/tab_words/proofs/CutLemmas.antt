-- Bytes that are cut at one of them.
use Rattle.std.proofs.Common.{arith, ◌≡◌, ◌≢◌, ℕ, ◌<◌, ◌≤◌, List, ◌∷◌, ◌++◌, length, length-take, take, drop, drop-cons, get_or, suc, ap, sym, ◌∙◌}
use Rattle.std.specs.List.{All}
use Rattle.std.proofs.lemmas.List.{take-append-drop, get_or-take, get_or_default}

-- a reader cuts at the first byte of a kind: what it cut is what was there
pub cut : (bytes : List ℕ) (at byte : ℕ) → at < length bytes → get_or bytes at 0 ≡ byte
    → bytes ≡ take at bytes ++ byte ∷ drop (suc at) bytes
cut bytes at byte low is =
    sym (take-append-drop at bytes)
    ∙ ap (λ rest. take at bytes ++ rest) (drop-cons bytes at 0 low ∙ ap (λ b. b ∷ drop (suc at) bytes) is)

-- what no byte is before a place, no byte of the prefix up to it is
pub front_lacks : (bytes : List ℕ) (at byte : ℕ) → at ≤ length bytes
    → ((k : ℕ) → k < at → get_or bytes k 0 ≢ byte) → All (λ b. b ≢ byte) (take at bytes)
front_lacks bytes at byte within before k d low is =
    let small : k < at = omega (arith, length-take at bytes) in
    before k small (get_or_default bytes k 0 d (omega arith) ∙ sym (get_or-take at bytes k d small) ∙ is)

-- no byte of a text in which a byte was searched and not found is that byte
pub lacks : (bytes : List ℕ) (byte : ℕ) → ((k : ℕ) → k < length bytes → get_or bytes k 0 ≢ byte)
    → All (λ b. b ≢ byte) bytes
lacks bytes byte none k d low is = none k low (get_or_default bytes k 0 d low ∙ is)
