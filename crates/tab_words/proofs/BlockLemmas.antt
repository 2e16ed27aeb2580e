-- Lines that are gathered in a block, and written many at once.
use Rattle.std.proofs.Common.{sym, ap, subst, ◌∙◌, ◌≡◌, ℕ, List, [], ◌++◌, append_assoc, append-nil, Result, Ok, Err, refl}
use Rattle.tab_io.specs.Sinks.{IsLeft, Writes}
use Rattle.tab_io.specs.Views.{SinkView}
use Rattle.tab_io.specs.declared.sink.WriteFault.{WriteFault}
use Rattle.tab_io.proofs.SinkLemmas.{left_behind, left_broken, left_last, writes_more}
use Rattle.tab_words.specs.Blocks.{PutsBehind}

-- one more line came after the gathered ones
pub left_gathered : (s t v : SinkView) (text gathered line rest behind : List ℕ) (r : Result (Unit {0}) WriteFault)
    (u : Unit {0})
    → IsLeft s t text (gathered ++ (line ++ rest)) → PutsBehind t v gathered behind line r → r ≡ Ok u
    → IsLeft s v text (behind ++ rest)
left_gathered s t v text gathered line rest behind r u is put done =
    let more : IsLeft t v (gathered ++ line) behind =
    subst (λ (q : Result (Unit {0}) WriteFault). PutsBehind t v gathered behind line q) done put in
    left_behind s t v text (gathered ++ (line ++ rest)) more.front (behind ++ rest) (Ok tt) tt is
    (sym (append_assoc gathered line rest) ∙ (ap (λ l. l ++ rest) more.whole
    ∙ append_assoc more.front behind rest)) more.written refl

-- where that fails, a prefix of the row's text is out
pub left_torn : (s t v : SinkView) (text gathered line rest behind : List ℕ) (r : Result (Unit {0}) WriteFault)
    (e : WriteFault)
    → IsLeft s t text (gathered ++ (line ++ rest)) → PutsBehind t v gathered behind line r → r ≡ Err e
    → Writes {U = Unit {0}} s v text (Err e)
left_torn s t v text gathered line rest behind r e is put failed =
    let torn : Writes {U = Unit {0}} t v (gathered ++ line) (Err e) =
    subst (λ (q : Result (Unit {0}) WriteFault). PutsBehind t v gathered behind line q) failed put in
    left_broken s t v text (gathered ++ (line ++ rest)) (gathered ++ line) rest (Err e) e is
    (sym (append_assoc gathered line rest)) torn refl

-- the gathered lines are written, and the line after them
pub put_at_once : (s t v : SinkView) (before line behind : List ℕ) (q r : Result (Unit {0}) WriteFault)
    (u : Unit {0})
    → Writes s t before q → q ≡ Ok u → Writes t v line r → behind ≡ [] → PutsBehind s v before behind line r
put_at_once s t v before line behind q (Ok w) u first done last none = record {
  front = before ++ line;
  whole = sym (ap (λ l. (before ++ line) ++ l) none ∙ append-nil (before ++ line));
  written = writes_more s t v before line u (Ok w)
      (subst (λ (k : Result (Unit {0}) WriteFault). Writes s t before k) done first) last;
}
put_at_once s t v before line behind q (Err e) u first done last none =
    writes_more s t v before line u (Err e)
    (subst (λ (k : Result (Unit {0}) WriteFault). Writes s t before k) done first) last

-- a line that came into an empty block, and what is gathered of it is written
pub line_written : (s t v : SinkView) (before behind line : List ℕ) (q r : Result (Unit {0}) WriteFault)
    (u : Unit {0})
    → PutsBehind s t before behind line q → q ≡ Ok u → before ≡ [] → Writes t v behind r → Writes s v line r
line_written s t v before behind line q r u put done none last =
    let left : IsLeft s t (before ++ line) behind =
    subst (λ (k : Result (Unit {0}) WriteFault). PutsBehind s t before behind line k) done put in
    left_last s t v line behind r (subst (λ b. IsLeft s t (b ++ line) behind) none left) last
