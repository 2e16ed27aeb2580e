-- Texts by number that are appended one after the other.
use Rattle.std.proofs.Common.{◌≡◌, ◌∙◌, ℕ, ◌+◌, List, ◌++◌, Result, Ok, Err, add-one, ap, append-nil, append_assoc, sym}
use Rattle.std.specs.Prelude.{OnOk}
use Rattle.tab_words.specs.Texts.{texts_below}
use Rattle.tab_words.proofs.NumberedTextLemmas.{texts_below-suc, texts_below-zero}

-- before the first turn of the loop nothing is appended
pub none_yet : (old : List ℕ) (text : ℕ → List ℕ) → old ≡ old ++ texts_below text 0
none_yet old text = sym (ap (λ (t : List ℕ). old ++ t) (texts_below-zero text) ∙ append-nil old)

-- the text of one more number comes after the others
pub one_more : (old now new : List ℕ) (text : ℕ → List ℕ) (n : ℕ) → now ≡ old ++ texts_below text n → new ≡ now ++ text n
    → new ≡ old ++ texts_below text (n + 1)
one_more old now new text n was is = is ∙ (ap (λ (t : List ℕ). t ++ text n) was
    ∙ (append_assoc old (texts_below text n) (text n)
    ∙ ap (λ (t : List ℕ). old ++ t) (sym (ap (texts_below text) (add-one n) ∙ texts_below-suc text n))))

-- three texts that are appended one after the other
pub three_more : (old one two new a b d : List ℕ) → one ≡ old ++ a → two ≡ one ++ b → new ≡ two ++ d
    → new ≡ old ++ (a ++ (b ++ d))
three_more old one two new a b d first second third = third ∙ (ap (λ (t : List ℕ). t ++ d) (second ∙ ap (λ (t : List ℕ). t ++ b) first)
    ∙ (append_assoc (old ++ a) b d ∙ append_assoc old a (b ++ d)))

-- what holds of a result that is fine carries over
pub on_ok_then : {E : Type 0} (r : Result (Unit {0}) E) (P Q : Type 0) → (P → Q) → OnOk r P → OnOk r Q
on_ok_then (Ok u) P Q to holds = to holds
on_ok_then (Err e) P Q to holds = holds
