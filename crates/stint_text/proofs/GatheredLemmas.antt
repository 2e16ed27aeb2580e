-- Lines that come one by one after those that are gathered.
use Rattle.std.proofs.Common.{◌≡◌, ℕ, ◌+◌, ◌<◌, ◌≤◌, List, ◌++◌, append-nil, drop, flat_map, get_or, length, Result, Ok, Err, ap, subst}
use Rattle.std.proofs.lemmas.List.{drop_all}
use Rattle.tab_core.proofs.Lists.{drop_next}
use Rattle.tab_io.specs.Sinks.{IsLeft, Writes}
use Rattle.tab_io.specs.Views.{SinkView}
use Rattle.tab_io.specs.declared.sink.WriteFault.{WriteFault}
use Rattle.tab_io.proofs.SinkLemmas.{left_last}
use Rattle.tab_words.specs.Blocks.{PutsBehind}
use Rattle.tab_words.proofs.BlockLemmas.{left_gathered, left_torn}

-- of what is left the first has the first line
line_first : {X : Type 0} (f : X → List ℕ) (xs : List X) (k : ℕ) (x : X) → k < length xs → x ≡ get_or xs k x
    → flat_map f (drop k xs) ≡ f x ++ flat_map f (drop (k + 1) xs)
line_first f xs k x low is = ap (flat_map f) (drop_next xs k x low is)

-- the next line came after the gathered ones
pub next_gathered : {X : Type 0} (s t v : SinkView) (f : X → List ℕ) (xs : List X) (k : ℕ) (x : X)
    (text gathered behind : List ℕ) (r : Result (Unit {0}) WriteFault) (u : Unit {0})
    → k < length xs → x ≡ get_or xs k x → IsLeft s t text (gathered ++ flat_map f (drop k xs))
    → PutsBehind t v gathered behind (f x) r → r ≡ Ok u
    → IsLeft s v text (behind ++ flat_map f (drop (k + 1) xs))
next_gathered s t v f xs k x text gathered behind r u low is left put done =
    left_gathered s t v text gathered (f x) (flat_map f (drop (k + 1) xs)) behind r u
    (subst (λ l. IsLeft s t text (gathered ++ l)) (line_first f xs k x low is) left) put done

-- where that fails, a prefix of the text is out
pub next_torn : {X : Type 0} (s t v : SinkView) (f : X → List ℕ) (xs : List X) (k : ℕ) (x : X)
    (text gathered behind : List ℕ) (r : Result (Unit {0}) WriteFault) (e : WriteFault)
    → k < length xs → x ≡ get_or xs k x → IsLeft s t text (gathered ++ flat_map f (drop k xs))
    → PutsBehind t v gathered behind (f x) r → r ≡ Err e → Writes {U = Unit {0}} s v text (Err e)
next_torn s t v f xs k x text gathered behind r e low is left put failed =
    left_torn s t v text gathered (f x) (flat_map f (drop (k + 1) xs)) behind r e
    (subst (λ l. IsLeft s t text (gathered ++ l)) (line_first f xs k x low is) left) put failed

-- after the last line the gathered ones are written
pub gathered_last : {X : Type 0} (s t v : SinkView) (f : X → List ℕ) (xs : List X) (k : ℕ)
    (text gathered : List ℕ) (r : Result (Unit {0}) WriteFault)
    → length xs ≤ k → IsLeft s t text (gathered ++ flat_map f (drop k xs)) → Writes t v gathered r
    → Writes s v text r
gathered_last s t v f xs k text gathered r past left wrote =
    let none : gathered ++ flat_map f (drop k xs) ≡ gathered = rw (drop_all k xs past) (append-nil gathered) in
    left_last s t v text gathered r (subst (IsLeft s t text) none left) wrote
