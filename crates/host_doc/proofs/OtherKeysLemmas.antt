-- The keys of a table, as the map lists them and as the definition reads them.
use Rattle.std.proofs.Common.{◌≡◌, Bool, not, ◌||◌, List, [], ◌∷◌, String, Global, refl, ap, string_bytes}
use Rattle.std.specs.List.{list_any}
use Rattle.std.specs.Map.{keys_of}
use Rattle.toml.specs.View.{members_view}
use Rattle.toml.specs.declared.value.Value.{Value}
use Rattle.host_doc.specs.OtherKeys.{has_other_key, is_among}
use Rattle.host_doc.specs.declared.fault.Key.{Key}

-- the key isn't one of these
abbrev pub is_other : List Key → String Global → Bool
is_other keys word = not (is_among keys (string_bytes word))

-- some listed key is another one exactly where the definition finds one
pub any-is_other : (keys : List Key) (es : List (String Global × Value))
    → list_any (is_other keys) (keys_of es) ≡ has_other_key keys (members_view es)
any-is_other keys [] = refl
any-is_other keys (e ∷ es) = ap (λ (rest : Bool). is_other keys e.0 || rest) (any-is_other keys es)
