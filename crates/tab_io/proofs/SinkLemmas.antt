-- Texts that are written one after the other.
use Rattle.std.proofs.Common.{arith, sym, ap, ◌∙◌, ◌≡◌, ℕ, ◌≤◌, ◌-◌, Some, length, length-append, List, [], ◌++◌, Result, Ok, Err, refl, subst, append_assoc, append-nil}
use Rattle.std.proofs.KnownBytes.{Appends-nil, Appends-trans}
use Rattle.tab_io.specs.Views.{SinkView}
use Rattle.tab_io.specs.FaultCounts.{Rose}
use Rattle.tab_io.specs.Sinks.{IsLeft, Writes}
use Rattle.tab_io.specs.declared.sink.WriteFault.{WriteFault}

-- a fault in the second of two parts is a fault of both: the count didn't fall in the first
pub rose_since : (a b c : ℕ) → a ≤ b → Rose b c → Rose a c
rose_since a b c h g = omega (arith, g)

-- a fault in the first of two parts is a fault of both: the count didn't fall in the second
pub rose_until : (a b c : ℕ) → Rose a b → b ≤ c → Rose a c
rose_until a b c g h = omega (arith, g)

-- a loop that writes begins so: no byte is written yet
pub writes_nothing : {U : Type 0} (s : SinkView) (u : U) → Writes s s [] (Ok u)
writes_nothing s u = record {
  later = omega arith;
  bytes = Appends-nil s.taken;
  fits = record {
    uses = λ m is.
        let same : m ≡ m - 0 = omega arith in
        (omega arith, is ∙ ap Some same);
  };
}

-- what two calls wrote, one after the other, is both texts in a row
pub writes_more : {U W : Type 0} (s t v : SinkView) (a b : List ℕ) (u : U) (r : Result W WriteFault)
    → Writes s t a (Ok u) → Writes t v b r → Writes s v (a ++ b) r
writes_more s t v a b u (Ok w) h g = record {
  later = omega (arith, h.later, g.later);
  bytes = Appends-trans s.taken t.taken v.taken a b h.bytes g.bytes;
  fits = record {
    uses = λ m is.
        let p = h.fits.uses m is in
        let q = g.fits.uses (m - length a) p.1 in
        let rest : (m - length a) - length b ≡ m - length (a ++ b) = omega (arith, length-append a b) in
        (omega (arith, p.0, q.0, length-append a b), q.1 ∙ ap Some rest);
  };
}
writes_more s t v a b u (Err e) h g = record {
  later = omega (arith, h.later, g.later);
  bytes = (
    record {
      front = a ++ g.bytes.0.front;
      rest = g.bytes.0.rest;
      whole = ap (λ zs. a ++ zs) g.bytes.0.whole ∙ sym (append_assoc a g.bytes.0.front g.bytes.0.rest);
      appends = Appends-trans s.taken t.taken v.taken a g.bytes.0.front h.bytes g.bytes.0.appends;
    },
    rose_since s.faults t.faults v.faults h.later g.bytes.1,
  );
  fits = record {
    lacks = λ m is.
        let p = h.fits.uses m is in
        let q = g.fits.lacks (m - length a) p.1 in
        omega (arith, p.0, q, length-append a b);
  };
}

-- where a call fails, so does the writing of a longer text that begins with its own
pub writes_stopped : {U W : Type 0} (s t : SinkView) (a b : List ℕ) (e f : WriteFault)
    → Writes {U = U} s t a (Err e) → Writes {U = W} s t (a ++ b) (Err f)
writes_stopped s t a b e f h = record {
  later = h.later;
  bytes = (
    record {
      front = h.bytes.0.front;
      rest = h.bytes.0.rest ++ b;
      whole = ap (λ zs. zs ++ b) h.bytes.0.whole ∙ append_assoc h.bytes.0.front h.bytes.0.rest b;
      appends = h.bytes.0.appends;
    },
    h.bytes.1,
  );
  fits = record { lacks = λ m is. omega (arith, h.fits.lacks m is, length-append a b) };
}

-- `writes_more` where the first call's answer is known by an equation, as in a branch
pub writes_then : {U W : Type 0} (s t v : SinkView) (a b : List ℕ) (q : Result U WriteFault) (u : U)
    (r : Result W WriteFault)
    → Writes s t a q → q ≡ Ok u → Writes t v b r → Writes s v (a ++ b) r
writes_then s t v a b q u r h done g = writes_more s t v a b u r (subst (λ k. Writes s t a k) done h) g

-- `writes_stopped` likewise
pub writes_broken : {U W : Type 0} (s t : SinkView) (a b : List ℕ) (q : Result U WriteFault) (e : WriteFault)
    → Writes s t a q → q ≡ Err e → Writes {U = W} s t (a ++ b) (Err e)
writes_broken s t a b q e h is = writes_stopped s t a b e e (subst (λ k. Writes s t a k) is h)

-- ---- a text that is written in parts

-- before the first part all is left
pub all_left : (s : SinkView) (text : List ℕ) → IsLeft s s text text
all_left s text = record { front = []; whole = refl; written = writes_nothing s tt }

-- a part was written: the rest is left
pub left_behind : (s t v : SinkView) (text left part rest : List ℕ) (r : Result (Unit {0}) WriteFault)
    (u : Unit {0})
    → IsLeft s t text left → left ≡ part ++ rest → Writes t v part r → r ≡ Ok u → IsLeft s v text rest
left_behind s t v text left part rest r u is parts wrote done = record {
  front = is.front ++ part;
  whole = is.whole ∙ (ap (λ l. is.front ++ l) parts ∙ sym (append_assoc is.front part rest));
  written = writes_more s t v is.front part tt (Ok tt) is.written (subst (λ k. Writes t v part k) done wrote);
}

-- writing a part failed: so did writing the text
pub left_broken : (s t v : SinkView) (text left part rest : List ℕ) (r : Result (Unit {0}) WriteFault)
    (e : WriteFault)
    → IsLeft s t text left → left ≡ part ++ rest → Writes t v part r → r ≡ Err e
    → Writes {U = Unit {0}} s v text (Err e)
left_broken s t v text left part rest r e is parts wrote failed =
    subst (λ (x : List ℕ). Writes {U = Unit {0}} s v x (Err e))
    (sym (is.whole ∙ ap (λ l. is.front ++ l) parts))
    (writes_more s t v is.front (part ++ rest) tt (Err e) is.written
    (writes_broken t v part rest r e wrote failed))

-- the last part's answer is the answer for the text
pub left_last : (s t v : SinkView) (text left : List ℕ) (r : Result (Unit {0}) WriteFault)
    → IsLeft s t text left → Writes t v left r → Writes s v text r
left_last s t v text left r is wrote =
    subst (λ (x : List ℕ). Writes s v x r) (sym is.whole)
    (writes_more s t v is.front left tt r is.written wrote)

-- where nothing is left, the text was written
pub none_left : (s t : SinkView) (text left : List ℕ) → IsLeft s t text left → left ≡ []
    → Writes {U = Unit {0}} s t text (Ok tt)
none_left s t text left is none =
    subst (λ (x : List ℕ). Writes {U = Unit {0}} s t x (Ok tt))
    (sym (is.whole ∙ (ap (λ l. is.front ++ l) none ∙ append-nil is.front))) is.written
