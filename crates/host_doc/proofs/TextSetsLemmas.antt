-- A set of texts with one more.
use Rattle.std.proofs.Common.{◌≡◌, ℕ, Bool, true, false, cond, not, ◌||◌, List, [], ◌∷◌, Bor, BTreeSet, refl, ap, ◌∙◌, bytes_eq, nat_cmp, arith}
use Rattle.std.proofs.lemmas.Bool.Decides.{nat_tests}
use Rattle.std.proofs.lemmas.Map.Text.{is_eq-slice_cmp}
use Rattle.std.specs.BTreeSet.{Updates}
use Rattle.std.specs.Cmp.Lexicographic.{slice_cmp}
use Rattle.host_doc.specs.Inside.TextSets.{has_text}

-- the test of two names does not depend on their order
bytes_eq-swap : (xs ys : List ℕ) → bytes_eq xs ys ≡ bytes_eq ys xs
bytes_eq-swap [] [] = refl
bytes_eq-swap [] (y ∷ ys) = refl
bytes_eq-swap (x ∷ xs) [] = refl
bytes_eq-swap (x ∷ xs) (y ∷ ys) = grind (arith, nat_tests, bytes_eq-swap xs ys)

-- how a set with one more text answers, as a disjunction
cond-true : (b c : Bool) → cond b true c ≡ (b || c)
cond-true true c = refl
cond-true false c = refl

-- a set with one more text has that text and those that it had
pub has_text-added : (old new : BTreeSet (Bor (List ℕ))) (text : Bor (List ℕ))
    → Updates (λ a b. slice_cmp nat_cmp a.now b.now) old new text true
    → (other : List ℕ) → has_text new other ≡ (bytes_eq other text.now || has_text old other)
has_text-added old new text h other =
    h.0 (record { ref_ptr = (0, 0); now = other })
    ∙ ap (λ (b : Bool). cond b true (has_text old other))
    (is_eq-slice_cmp text.now other ∙ bytes_eq-swap text.now other)
    ∙ cond-true (bytes_eq other text.now) (has_text old other)

-- a text that was added as a new one wasn't there
pub absent_if_new : (added : Bool) (texts : BTreeSet (Bor (List ℕ))) (text : List ℕ) → added ≡ true
    → added ≡ not (has_text texts text) → has_text texts text ≡ false
absent_if_new added texts text new is = grind arith
