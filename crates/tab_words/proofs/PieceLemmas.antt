-- Pieces that are written one after the other.
use Rattle.std.proofs.Common.{sym, ap, subst, ◌∙◌, ◌≡◌, ℕ, ◌+◌, ◌<◌, List, [], ◌++◌, length, take, drop, get_or, flat_map, Result, Ok, Err, append_assoc}
use Rattle.std.proofs.lemmas.List.{take_more, flat_map_more, take-append-drop}
use Rattle.std.proofs.lemmas.Grind.{flat_map-append}
use Rattle.tab_io.specs.Views.{SinkView}
use Rattle.tab_io.specs.Sinks.{Writes}
use Rattle.tab_io.specs.declared.sink.WriteFault.{WriteFault}
use Rattle.tab_io.proofs.SinkLemmas.{writes_more, writes_broken}

-- the pieces so far and the next one are the pieces so far after it
pub front_more : {X : Type 0} (f : X → List ℕ) (xs : List X) (i : ℕ) (d : X) → i < length xs
    → flat_map f (take (i + 1) xs) ≡ flat_map f (take i xs) ++ f (get_or xs i d)
front_more f xs i d low =
    ap (flat_map f) (take_more xs i d low) ∙ sym (flat_map_more f [] (take i xs) (get_or xs i d))

-- a list of pieces and one more
pub pieces_last : {X : Type 0} (s t v : SinkView) (f : X → List ℕ) (xs : List X) (i : ℕ) (d : X)
    (u w : Unit {0}) (r : Result (Unit {0}) WriteFault)
    → i < length xs → Writes s t (flat_map f (take i xs)) (Ok u) → Writes t v (f (get_or xs i d)) r → r ≡ Ok w
    → Writes {U = Unit {0}} s v (flat_map f (take (i + 1) xs)) (Ok w)
pieces_last s t v f xs i d u w r low h g is =
    let last : Writes t v (f (get_or xs i d)) (Ok w) =
    subst (λ (q : Result (Unit {0}) WriteFault). Writes t v (f (get_or xs i d)) q) is g in
    rw (front_more f xs i d low) (writes_more s t v (flat_map f (take i xs)) (f (get_or xs i d)) u (Ok w) h
    last)

-- where a piece fails, the text is begun
pub pieces_broken : {X : Type 0} (s t v : SinkView) (f : X → List ℕ) (xs : List X) (i : ℕ) (d : X)
    (u : Unit {0}) (r : Result (Unit {0}) WriteFault) (e : WriteFault)
    → i < length xs → Writes s t (flat_map f (take i xs)) (Ok u) → Writes t v (f (get_or xs i d)) r
    → r ≡ Err e
    → Writes {U = Unit {0}} s v (flat_map f xs) (Err e)
pieces_broken s t v f xs i d u r e low h g is =
    let step : flat_map f xs ≡ flat_map f (take i xs) ++ (f (get_or xs i d) ++ flat_map f (drop (i + 1) xs)) =
    ap (flat_map f) (sym (take-append-drop (i + 1) xs))
    ∙ flat_map-append f (take (i + 1) xs) (drop (i + 1) xs)
    ∙ ap (λ ys. ys ++ flat_map f (drop (i + 1) xs)) (front_more f xs i d low)
    ∙ append_assoc (flat_map f (take i xs)) (f (get_or xs i d)) (flat_map f (drop (i + 1) xs)) in
    rw step (writes_more s t v (flat_map f (take i xs)) (f (get_or xs i d) ++ flat_map f (drop (i + 1) xs)) u
    (Err e) h (writes_broken t v (f (get_or xs i d)) (flat_map f (drop (i + 1) xs)) r e g is))
