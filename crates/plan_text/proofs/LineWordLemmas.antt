-- Words that are matched one by one.
use Rattle.std.proofs.Common.{◌≡◌, ◌↔◌, ℕ, ◌<◌, List, [], ◌∷◌, ◌++◌, length, length-append, length-drop, map, drop, ap, sym, refl, ◌∙◌, Bool, IsTrue, append-nil, arith}
use Rattle.std.proofs.lemmas.List.{length-map}
use Rattle.tab_words.specs.Pieces.{piece_text}
use Rattle.tab_words.specs.declared.text.TextPiece.{TextPiece}

-- all words are these and the rest exactly where those that are left are the pieces that are left
-- and the rest
abbrev pub GoesOn : List (List ℕ) → List TextPiece → List (List ℕ) → ℕ → Type 0
GoesOn all pieces left at = (rest : List (List ℕ))
    → ((all ≡ map piece_text pieces ++ rest) ↔ (left ≡ map piece_text (drop at pieces) ++ rest))

-- a word is missing
pub word_lacks : (all : List (List ℕ)) (pieces : List TextPiece) (at : ℕ) → at < length pieces
    → GoesOn all pieces [] at → (rest : List (List ℕ)) → all ≡ map piece_text pieces ++ rest → ⊥
word_lacks all pieces at low goes rest e =
    let none : 0 ≡ length (map piece_text (drop at pieces) ++ rest) = ap length ((goes rest).0 e) in
    let sum = length-append (map piece_text (drop at pieces)) rest in
    let same = length-map (drop at pieces) piece_text in
    let left = length-drop at pieces in
    absurd (omega arith)

-- the words after a prefix are none exactly where the prefix is all
pub all_matched : (all front left : List (List ℕ)) (none : Bool) → all ≡ front ++ left
    → (IsTrue none → left ≡ []) → (left ≡ [] → IsTrue none) → (IsTrue none ↔ (all ≡ front))
all_matched all front left none is empty fills = (
  λ yes. is ∙ (ap (λ ws. front ++ ws) (empty yes) ∙ append-nil front),
  λ same. fills (nothing left (let sum = length-append front left in let size = ap length (sym same ∙ is) in
      omega arith)),
)
  where
    nothing : (left : List (List ℕ)) → length left ≡ 0 → left ≡ []
    nothing [] size = refl
    nothing (word ∷ left) size = absurd (omega arith)
