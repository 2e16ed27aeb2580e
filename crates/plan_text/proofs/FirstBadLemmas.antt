-- The first bad line, line by line.
use Rattle.std.proofs.Common.{◌≡◌, ℕ, ◌+◌, ◌≤◌, List, [], ◌∷◌, ◌++◌, length, refl, sym, ap, ◌∙◌, subst, append_assoc, append-nil, arith}
use Rattle.tab_words.specs.Texts.{Line}
use Rattle.plan_text.specs.FirstBad.{BeginsText, GoesWrong, IsFirstBadFor}

-- the first line itself is bad
pub first_is_bad : (Texts : List Line → Type 0) (first : ℕ) (lines : List Line) → BeginsText Texts []
    → ((line : Line) (back : List Line) → lines ≡ line ∷ back → (rest : List Line) → Texts (line ∷ rest) → ⊥)
    → (lines ≡ [] → Texts [] → ⊥) → IsFirstBadFor Texts first lines first
first_is_bad Texts first [] begun bad none = record {
  front = [];
  back = [];
  whole = refl;
  begun = begun;
  wrong = none refl;
  number = omega arith;
}
first_is_bad Texts first (line ∷ back) begun bad none = record {
  front = [];
  back = line ∷ back;
  whole = refl;
  begun = begun;
  wrong = λ (b : BeginsText Texts (line ∷ [])). bad line back refl b.rest b.text;
  number = omega arith;
}

-- a text that goes wrong after a line goes wrong with it before
wrong_behind : (Texts More : List Line → Type 0) (line : Line) (front back : List Line)
    → ((rest : List Line) → Texts (line ∷ rest) → More rest) → GoesWrong More front back
    → GoesWrong Texts (line ∷ front) back
wrong_behind Texts More line front [] goes wrong = λ text. wrong (goes front text)
wrong_behind Texts More line front (next ∷ back) goes wrong =
    λ (b : BeginsText Texts ((line ∷ front) ++ next ∷ [])).
    wrong (record { rest = b.rest; text = goes ((front ++ next ∷ []) ++ b.rest) b.text })

-- the first line goes well, and after it there are these texts
pub bad_behind : (Texts More : List Line → Type 0) (first : ℕ) (line : Line) (lines : List Line) (bad : ℕ)
    → ((rest : List Line) → More rest → Texts (line ∷ rest))
    → ((rest : List Line) → Texts (line ∷ rest) → More rest)
    → IsFirstBadFor More (first + 1) lines bad → IsFirstBadFor Texts first (line ∷ lines) bad
bad_behind Texts More first line lines bad back_to goes is = record {
  front = line ∷ is.front;
  back = is.back;
  whole = ap (λ ls. line ∷ ls) is.whole;
  begun = record { rest = is.begun.rest; text = back_to (is.front ++ is.begun.rest) is.begun.text };
  wrong = wrong_behind Texts More line is.front is.back goes is.wrong;
  number = let number = is.number in omega arith;
}

-- of two sorts of texts one is of the other sort, and those that go on as the lines do are of both
wrong_of_both : (Texts Fewer : List Line → Type 0) (front back : List Line)
    → ((line : Line) (rest more : List Line) → front ++ back ≡ line ∷ rest → Texts (line ∷ more)
    → Fewer (line ∷ more))
    → (front ++ back ≡ [] → Texts [] → Fewer []) → GoesWrong Fewer front back → GoesWrong Texts front back
wrong_of_both Texts Fewer [] [] same none wrong = λ text. wrong (none refl text)
wrong_of_both Texts Fewer [] (line ∷ back) same none wrong = λ (b : BeginsText Texts (line ∷ [])).
    wrong (record { rest = b.rest; text = same line back b.rest refl b.text })
wrong_of_both Texts Fewer (line ∷ front) [] same none wrong =
    λ text. wrong (same line (front ++ []) front refl text)
wrong_of_both Texts Fewer (line ∷ front) (next ∷ back) same none wrong =
    λ (b : BeginsText Texts ((line ∷ front) ++ next ∷ [])).
    wrong (record {
      rest = b.rest;
      text =
          same line (front ++ next ∷ back) ((front ++ next ∷ []) ++ b.rest) refl b.text;
    })

-- where the lines are of the second sort alone, their first bad line is the same for both
pub bad_of_both : (Texts Fewer : List Line → Type 0) (first : ℕ) (lines : List Line) (bad : ℕ)
    → ((some : List Line) → Fewer some → Texts some)
    → ((line : Line) (rest more : List Line) → lines ≡ line ∷ rest → Texts (line ∷ more)
    → Fewer (line ∷ more))
    → (lines ≡ [] → Texts [] → Fewer []) → IsFirstBadFor Fewer first lines bad
    → IsFirstBadFor Texts first lines bad
bad_of_both Texts Fewer first lines bad all same none is = record {
  front = is.front;
  back = is.back;
  whole = is.whole;
  begun = record { rest = is.begun.rest; text = all (is.front ++ is.begun.rest) is.begun.text };
  wrong =
      wrong_of_both Texts Fewer is.front is.back (λ line rest more at. same line rest more (is.whole ∙ at))
      (λ at. none (is.whole ∙ at)) is.wrong;
  number = is.number;
}

-- lines with a bad one are no text
pub no_text : (Texts : List Line → Type 0) (first : ℕ) (lines : List Line) (bad : ℕ)
    → IsFirstBadFor Texts first lines bad → Texts lines → ⊥
no_text Texts first lines bad is text = of_parts is.front is.back is.wrong (subst Texts is.whole text)
  where
    of_parts : (front back : List Line) → GoesWrong Texts front back → Texts (front ++ back) → ⊥
    of_parts front [] wrong text = wrong (subst Texts (append-nil front) text)
    of_parts front (line ∷ back) wrong text =
        wrong (record { rest = back; text = subst Texts (sym (append_assoc front (line ∷ []) back)) text })

-- the prefix before the first bad line isn't longer than another that some text begins with
not_longer : (Texts : List Line → Type 0) (before front back longer rest : List Line)
    → front ++ back ≡ longer ++ rest
    → GoesWrong Texts (before ++ front) back → BeginsText Texts (before ++ longer) → length longer ≤ length front
not_longer Texts before front back [] rest same wrong begun = omega arith
not_longer Texts before [] [] (line ∷ longer) rest same wrong begun = absurd (cc)
not_longer Texts before [] (next ∷ back) (line ∷ longer) rest same wrong begun =
    let is : next ≡ line = cc in
    absurd (wrong (record {
      rest = longer ++ begun.rest;
      text = subst Texts (append_assoc before (line ∷ longer) begun.rest
          ∙ (ap (λ l. before ++ l ∷ (longer ++ begun.rest)) (sym is)
          ∙ (sym (append_assoc before (next ∷ []) (longer ++ begun.rest))
          ∙ ap (λ ls. (ls ++ next ∷ []) ++ (longer ++ begun.rest)) (sym (append-nil before))))) begun.text;
    }))
not_longer Texts before (first ∷ front) back (line ∷ longer) rest same wrong begun =
    let is : first ≡ line = cc in
    let tails : front ++ back ≡ longer ++ rest = cc in
    let moved : before ++ first ∷ front ≡ (before ++ first ∷ []) ++ front =
    sym (append_assoc before (first ∷ []) front) in
    let moved' : before ++ line ∷ longer ≡ (before ++ first ∷ []) ++ longer =
    ap (λ l. before ++ l ∷ longer) (sym is) ∙ sym (append_assoc before (first ∷ []) longer) in
    let less = not_longer Texts (before ++ first ∷ []) front back longer rest tails
    (subst (λ ls. GoesWrong Texts ls back) moved wrong) (subst (BeginsText Texts) moved' begun) in
    omega arith

-- there is one first bad line
pub one_bad : (Texts : List Line → Type 0) (first : ℕ) (lines : List Line) (a b : ℕ)
    → IsFirstBadFor Texts first lines a
    → IsFirstBadFor Texts first lines b → a ≡ b
one_bad Texts first lines a b of_a of_b =
    let low = not_longer Texts [] of_a.front of_a.back of_b.front of_b.back
    (sym of_a.whole ∙ of_b.whole) of_a.wrong of_b.begun in
    let high = not_longer Texts [] of_b.front of_b.back of_a.front of_a.back
    (sym of_b.whole ∙ of_a.whole) of_b.wrong of_a.begun in
    let at_a = of_a.number in
    let at_b = of_b.number in
    omega arith
