-- Texts of numbers that are written one after the other.
use Rattle.std.proofs.Common.{arith, sym, ap, subst, refl, ◌∙◌, ◌≡◌, ℕ, zero, suc, ◌+◌, ◌-◌, ◌<◌, ◌≤◌, List, [], ◌++◌, Result, Ok, Err, append_assoc, append-nil, add-one, add-suc}
use native.Mathlib.Numerals.{unary_clauses}
use Rattle.tab_io.specs.Views.{SinkView}
use Rattle.tab_io.specs.Sinks.{Writes}
use Rattle.tab_io.specs.declared.sink.WriteFault.{WriteFault}
use Rattle.tab_io.proofs.SinkLemmas.{writes_nothing, writes_more, writes_broken}
use Rattle.tab_words.specs.Texts.{texts_below}

-- a writer of numbered texts begins with none
pub texts_below-zero : (text : ℕ → List ℕ) → texts_below text 0 ≡ []
unfolding texts_below
texts_below-zero text = refl

-- the text after those below a number is that of the number
pub texts_below-suc : (text : ℕ → List ℕ) (n : ℕ) → texts_below text (suc n) ≡ texts_below text n ++ text n
unfolding texts_below
texts_below-suc text n = refl

-- the text after those below a number is that of the number, as loops count: by one more
texts_below-more : (text : ℕ → List ℕ) (n : ℕ) → texts_below text (n + 1) ≡ texts_below text n ++ text n
unfolding texts_below
texts_below-more text n = ap (texts_below text) (add-one n)

-- the first text, and those after it
pub texts_below-shift : (text : ℕ → List ℕ) (n : ℕ)
    → texts_below text (suc n) ≡ text 0 ++ texts_below (λ k. text (suc k)) n
unfolding texts_below
texts_below-shift text zero = sym (append-nil (text 0))
texts_below-shift text (suc n) = ap (λ front. front ++ text (suc n)) (texts_below-shift text n)
    ∙ append_assoc (text 0) (texts_below (λ k. text (suc k)) n) (text (suc n))

-- before the first turn of the loop nothing is written
pub none_written : (s : SinkView) (text : ℕ → List ℕ) (u : Unit {0}) → Writes s s (texts_below text 0) (Ok u)
none_written s text u = rw (texts_below-zero text) (writes_nothing s u)

-- one more text came
pub next_written : (s t v : SinkView) (text : ℕ → List ℕ) (n : ℕ) (u w : Unit {0})
    (r : Result (Unit {0}) WriteFault)
    → Writes s t (texts_below text n) (Ok u) → Writes t v (text n) r → r ≡ Ok w
    → Writes {U = Unit {0}} s v (texts_below text (n + 1)) (Ok w)
next_written s t v text n u w r h g is =
    let last : Writes t v (text n) (Ok w) =
    subst (λ (q : Result (Unit {0}) WriteFault). Writes t v (text n) q) is g in
    rw (texts_below-more text n) (writes_more s t v (texts_below text n) (text n) u (Ok w) h last)

-- the texts from one on
texts_from : (text : ℕ → List ℕ) (n k : ℕ)
    → (rest : List ℕ) × (texts_below text (suc n + k) ≡ texts_below text n ++ (text n ++ rest))
unfolding texts_below
texts_from text n zero =
    ([], simp unary_clauses (ap (λ last. texts_below text n ++ last) (sym (append-nil (text n)))))
texts_from text n (suc k) =
    let before = texts_from text n k in (
      before.0 ++ text (suc n + k),
      ap (texts_below text) (add-suc (suc n) k)
          ∙ (ap (λ front. front ++ text (suc n + k)) before.1
          ∙ (append_assoc (texts_below text n) (text n ++ before.0) (text (suc n + k))
          ∙ ap (λ rest. texts_below text n ++ rest) (append_assoc (text n) before.0 (text (suc n + k))))),
    )

-- where one fails, a prefix of all is out
pub next_broken : (s t v : SinkView) (text : ℕ → List ℕ) (n m : ℕ) (u : Unit {0})
    (r : Result (Unit {0}) WriteFault) (e : WriteFault)
    → n < m → Writes s t (texts_below text n) (Ok u) → Writes t v (text n) r → r ≡ Err e
    → Writes {U = Unit {0}} s v (texts_below text m) (Err e)
next_broken s t v text n m u r e low h g is =
    let count : suc n + (m - suc n) ≡ m = omega arith in
    let from = texts_from text n (m - suc n) in
    let split : texts_below text m ≡ texts_below text n ++ (text n ++ from.0) =
    ap (texts_below text) (sym count) ∙ from.1 in
    rw split (writes_more s t v (texts_below text n) (text n ++ from.0) u (Err e) h
    (writes_broken t v (text n) from.0 r e g is))

-- all came
pub all_written : (s t : SinkView) (text : ℕ → List ℕ) (n m : ℕ) (u : Unit {0}) → n ≤ m → m ≤ n
    → Writes s t (texts_below text n) (Ok u) → Writes s t (texts_below text m) (Ok u)
all_written s t text n m u low high h =
    let same : n ≡ m = omega (arith, low, high) in
    subst (λ k. Writes s t (texts_below text k) (Ok u)) same h
