-- Statements line by line, and two ways to part the statements of a text.
use Rattle.std.proofs.Common.{◌≡◌, ◌⊎◌, inl, inr, ℕ, ◌+◌, true, false, List, [], ◌∷◌, ◌++◌, refl}
use Rattle.tab_words.specs.Words.{words_of}
use Rattle.script_doc.specs.Statements.{Statement, is_skipped, statements_from}

-- at the end of a text there are no more statements
pub statements_from-nil : (number : ℕ) → statements_from number [] ≡ []
unfolding statements_from
statements_from-nil number = refl

-- a skipped line leaves the statements of the lines after it
pub statements_from-skipped : (number : ℕ) (line : List ℕ) (lines : List (List ℕ)) → is_skipped line ≡ true
    → statements_from number (line ∷ lines) ≡ statements_from (number + 1) lines
unfolding statements_from
statements_from-skipped number line lines skipped = rw skipped refl

-- another line is the first statement
pub statements_from-kept : (number : ℕ) (line : List ℕ) (lines : List (List ℕ)) → is_skipped line ≡ false
    → statements_from number (line ∷ lines)
    ≡ (record { number = number; words = words_of line }) ∷ statements_from (number + 1) lines
unfolding statements_from
statements_from-kept number line lines kept = rw kept refl

-- the list begins with this prefix, this statement after it, and more
pub record BeginsWith (list front : List Statement) (statement : Statement) : Type 0 where
  pub more : List Statement
  pub whole : list ≡ front ++ statement ∷ more

-- two statements that part one list are one, or the prefix of the one has the other
pub splits : (front other : List Statement) (one two : Statement) (back rest : List Statement)
    → front ++ one ∷ back ≡ other ++ two ∷ rest
    → ((front ≡ other) × (one ≡ two)) ⊎ (BeginsWith other front one ⊎ BeginsWith front other two)
splits [] [] one two back rest same = inl (refl, cc)
splits [] (first ∷ other) one two back rest same = inr (inl (record { more = other; whole = cc }))
splits (first ∷ front) [] one two back rest same = inr (inr (record { more = front; whole = cc }))
splits (first ∷ front) (start ∷ other) one two back rest same =
    let head : first ≡ start = cc in
    let tail : front ++ one ∷ back ≡ other ++ two ∷ rest = cc in
    elim (splits front other one two back rest tail) [
      | inl both ↦ (let fronts = both.0 in inl (cc, both.1))
      | inr (inl shorter) ↦ (let whole = shorter.whole in
          inr (inl (record { more = shorter.more; whole = cc })))
      | inr (inr longer) ↦ (let whole = longer.whole in
          inr (inr (record { more = longer.more; whole = cc })))
    ]
