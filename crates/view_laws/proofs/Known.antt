-- Names that come as they are met: there is room for each name of a host.
use Rattle.std.proofs.Common.{◌≡◌, ℕ, ◌+◌, ◌<◌, ◌≤◌, ◌⊎◌, ◌||◌, Bool, true, false, ltb, List, [], ◌∷◌, ◌++◌, length, length-append, zero, suc, Option, Some, None, refl, sym, ◌∙◌, subst, inl, inr, arith}
use Rattle.std.proofs.lemmas.Bool.{lt-ltb}
use Rattle.std.proofs.lemmas.List.Folds.{list_any-append}
use Rattle.std.proofs.lemmas.Slice.Eq.{bytes_eq-Decides}
use Rattle.std.specs.Option.{ForSome}
use Rattle.std.specs.Str.{bytes_eq}
use Rattle.tab_core.specs.declared.TheConstants.{MAX_VCPUS}
use Rattle.vcpu_names.specs.Names.{name_at}
use Rattle.view_doc.specs.Grammar.{is_known, names_behind, with_name}
use Rattle.view_doc.specs.Lines.{stint}
use Rattle.view_laws.specs.ShownRuns.{ran_holder}

-- the name is one of them
abbrev IsOneOf : List ℕ → List (List ℕ) → Type 0
IsOneOf name [] = ⊥
IsOneOf name (one ∷ names) = (name ≡ one) ⊎ IsOneOf name names

-- the others, where one is taken from them
record AreOthers (name : List ℕ) (names : List (List ℕ)) : Type 0 where
  rest : List (List ℕ)
  fewer : length rest + 1 ≡ length names
  each : (other : List ℕ) → IsOneOf other names → (other ≡ name) ⊎ IsOneOf other rest

others : (name : List ℕ) (names : List (List ℕ)) → IsOneOf name names → AreOthers name names
others name [] is = absurd is
others name (one ∷ names) (inl same) = record {
  rest = names;
  fewer = omega arith;
  each = λ other is. by_place other is;
}
  where
    by_place : (other : List ℕ) → IsOneOf other (one ∷ names) → (other ≡ name) ⊎ IsOneOf other names
    by_place other (inl first) = inl (first ∙ sym same)
    by_place other (inr behind) = inr behind
others name (one ∷ names) (inr behind) = kept (others name names behind)
  where
    kept : AreOthers name names → AreOthers name (one ∷ names)
    kept more = record {
      rest = one ∷ more.rest;
      fewer = let fewer = more.fewer in omega arith;
      each = λ other is. by_place other is;
    }
      where
        by_place : (other : List ℕ) → IsOneOf other (one ∷ names) → (other ≡ name)
            ⊎ IsOneOf other (one ∷ more.rest)
        by_place other (inl first) = inr (inl first)
        by_place other (inr later) = by_rest (more.each other later)
          where
            by_rest : (other ≡ name) ⊎ IsOneOf other more.rest → (other ≡ name)
                ⊎ IsOneOf other (one ∷ more.rest)
            by_rest (inl is) = inl is
            by_rest (inr is) = inr (inr is)

-- each of the host's names is known or among those that are left, for which there is room
pub record HasRoomFor (names known : List (List ℕ)) : Type 0 where
  pub left : List (List ℕ)
  pub few : length known + length left ≤ MAX_VCPUS
  pub each : (v : ℕ) → v < length names
      → (is_known known (name_at names v) ≡ true) ⊎ IsOneOf (name_at names v) left

-- at first all are left
pub room_at_first : (names : List (List ℕ)) → length names ≤ MAX_VCPUS → HasRoomFor names []
room_at_first names few = record { left = names; few = omega arith; each = λ v low. inr (among names v low) }
  where
    among : (all : List (List ℕ)) (v : ℕ) → v < length all → IsOneOf (name_at all v) all
    among [] v low = absurd (omega arith)
    among (one ∷ all) zero low = inl refl
    among (one ∷ all) (suc v) low = inr (among all v (omega arith))

-- the names after a line, among which there is room again
pub record Meets (names known : List (List ℕ)) (behind : Option (List (List ℕ))) : Type 0 where
  pub next : List (List ℕ)
  pub is : behind ≡ Some next
  pub room : HasRoomFor names next

-- a name that is known stays so
stays_known : (known : List (List ℕ)) (one name : List ℕ) → is_known known name ≡ true
    → is_known (known ++ one ∷ []) name ≡ true
stays_known known one name is = list_any-append (λ (k : List ℕ). bytes_eq k name) known (one ∷ []) ∙ rw is refl

-- a name that came is known
now_known : (known : List (List ℕ)) (name : List ℕ) → is_known (known ++ name ∷ []) name ≡ true
now_known known name =
    list_any-append (λ (k : List ℕ). bytes_eq k name) known (name ∷ [])
    ∙ by_front (is_known known name)
  where
    by_front : (front : Bool) → (front || is_known (name ∷ []) name) ≡ true
    by_front true = refl
    by_front false = rw ((bytes_eq-Decides name name).1 refl) refl

-- a name of the host's comes
name_met : (names known : List (List ℕ)) (v : ℕ) → v < length names → HasRoomFor names known
    → Meets names known (with_name known (name_at names v))
name_met names known v low room = by_test (is_known known (name_at names v)) refl
  where
    met : is_known known (name_at names v) ≡ false → IsOneOf (name_at names v) room.left
        → Meets names known (with_name known (name_at names v))
    met not_known among =
        let more = others (name_at names v) room.left among in
        let fewer = more.fewer in
        let few = room.few in
        let size = length-append known (name_at names v ∷ []) in
        let free : ltb (length known) MAX_VCPUS ≡ true = lt-ltb (length known) MAX_VCPUS (omega arith) in
        record {
          next = known ++ name_at names v ∷ [];
          is = rw (not_known, free) refl;
          room = record {
            left = more.rest;
            few = omega arith;
            each = λ w less. by_known w (room.each w less);
          };
        }
      where
        by_known : (w : ℕ) → (is_known known (name_at names w) ≡ true) ⊎ IsOneOf (name_at names w) room.left
            → (is_known (known ++ name_at names v ∷ []) (name_at names w) ≡ true)
            ⊎ IsOneOf (name_at names w) (others (name_at names v) room.left among).rest
        by_known w (inl is) = inl (stays_known known (name_at names v) (name_at names w) is)
        by_known w (inr is) = by_other ((others (name_at names v) room.left among).each (name_at names w) is)
          where
            by_other : (name_at names w ≡ name_at names v)
                ⊎ IsOneOf (name_at names w) (others (name_at names v) room.left among).rest
                → (is_known (known ++ name_at names v ∷ []) (name_at names w) ≡ true)
                ⊎ IsOneOf (name_at names w) (others (name_at names v) room.left among).rest
            by_other (inl same) = inl (subst (λ n. is_known (known ++ name_at names v ∷ []) n ≡ true)
                (sym same)
                (now_known known (name_at names v)))
            by_other (inr is_left) = inr is_left

    by_test : (is : Bool) → is_known known (name_at names v) ≡ is
        → Meets names known (with_name known (name_at names v))
    by_test true is = record { next = known; is = rw is refl; room = room }
    by_test false is = by_each (room.each v low)
      where
        by_each : (is_known known (name_at names v) ≡ true) ⊎ IsOneOf (name_at names v) room.left
            → Meets names known (with_name known (name_at names v))
        by_each (inl known_too) = absurd (let no : false ≡ true = sym is ∙ known_too in cc)
        by_each (inr among) = met is among

-- a stint's line may name whoever ran
pub stint_met : (names known : List (List ℕ)) (c from to used seen : ℕ) (shared : Bool) (ran : Option ℕ)
    → ForSome ran (λ v. v < length names) → HasRoomFor names known
    → Meets names known (names_behind known (stint c from to used seen (ran_holder names shared ran)))
stint_met names known c from to used seen shared None low room =
    record { next = known; is = refl; room = room }
stint_met names known c from to used seen true (Some v) low room = name_met names known v (low v refl) room
stint_met names known c from to used seen false (Some v) low room = name_met names known v (low v refl) room
