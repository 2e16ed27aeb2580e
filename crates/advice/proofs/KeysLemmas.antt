-- What look-ups in a document find.
use Rattle.std.proofs.Common.{◌≡◌, ℕ, zero, suc, if◌then◌else◌, List, [], ◌∷◌, Option, Some, None, option_map, String, Global, refl, ap, slice_get, string_bytes, ◌<◌, ◌∙◌, sym, length, get_or, ltb, is_some, IsSome, IfSome, inl, inr}
use Rattle.std.proofs.lemmas.Bool.{cases_lt, false≢true, ltb-true}
use Rattle.std.proofs.lemmas.Option.{slice_get_past, slice_get_read}
use Rattle.std.specs.Map.{keys_of}
use Rattle.toml.specs.Data.{get_item}
use Rattle.toml.specs.View.{items_view, members_view, view}
use Rattle.toml.specs.declared.value.Value.{Value}
use Rattle.host_doc.specs.OtherKeys.{is_among}
use Rattle.host_doc.specs.declared.fault.Key.{Key}
use Rattle.advice.specs.Keys.{first_other}
use denote.Ref.{Bor}

-- the value of a number, as the list has it and as the definition reads it
pub get_item-items : (number : ℕ) (values : List Value)
    → option_map view (slice_get values number) ≡ get_item number (items_view values)
get_item-items number [] = refl
get_item-items zero (value ∷ values) = refl
get_item-items (suc number) (value ∷ values) = get_item-items number values

-- what a look-up lends, as data
pub item_found : (found : Option (Bor Value)) (values : List Value) (n : ℕ)
    → is_some found ≡ ltb n (length values) → IfSome found (λ x. x.now ≡ get_or values n x.now)
    → (n < length values → IsSome found)
    → option_map (λ value. view value.now) found ≡ get_item n (items_view values)
item_found None values n few at some = elim (cases_lt n (length values)) [
  | inl less ↦ absurd (false≢true (some less))
  | inr more ↦ sym (ap (option_map view) (slice_get_past values n more)) ∙ get_item-items n values
]
item_found (Some x) values n few at some =
    sym (ap (option_map view) (slice_get_read values (length values) n x.now refl (ltb-true _ _ (sym few)) at))
    ∙ get_item-items n values

-- the first of these words that is none of the keys
abbrev pub first_word : List Key → List (String Global) → Option (List ℕ)
first_word keys [] = None
first_word keys (word ∷ words) =
    if is_among keys (string_bytes word) then first_word keys words else Some (string_bytes word)

-- it is the table's first other key
pub first_word-keys : (keys : List Key) (entries : List (String Global × Value))
    → first_word keys (keys_of entries) ≡ first_other keys (members_view entries)
first_word-keys keys [] = refl
first_word-keys keys (entry ∷ entries) =
    ap (λ (rest : Option (List ℕ)). if is_among keys (string_bytes entry.0) then rest else Some (string_bytes entry.0))
    (first_word-keys keys entries)
