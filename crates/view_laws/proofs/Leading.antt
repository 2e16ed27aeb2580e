-- Lines that lead from one prefix to another, with the segments that they show.
use Rattle.std.proofs.Common.{◌≡◌, ℕ, List, [], ◌∷◌, ◌++◌, map, Option, Some, None, refl, sym, ap, ◌∙◌, subst, append_assoc}
use Rattle.view_doc.specs.Grammar.{Front, IsLed, ends_behind, front_behind, front_of, names_behind, place_after_line}
use Rattle.view_doc.specs.Lines.{Told}
use Rattle.view_doc.specs.Views.{slots_from, slots_in}
use Rattle.view_doc.specs.declared.place.Place.{Place}

-- a prefix by its parts
abbrev pub front_at : Place → List (List ℕ) → List ℕ → Front
front_at place names ends = record { place = place; names = names; ends = ends }

-- the lines lead from one prefix to the other, and have these segments
pub record Leads (front : Front) (tolds : List Told) (last : Front) (slots : List Told) : Type 0 where
  pub led : IsLed front tolds last
  pub shown : slots_from (Some front.place) tolds ≡ slots

-- no line leads to where it is
pub stays : (front : Front) → Leads front [] front []
stays front = record { led = refl; shown = refl }

-- a line before lines that lead somewhere
pub goes : (front : Front) (told : Told) (tolds : List Told) (place : Place) (names : List (List ℕ))
    (ends : List ℕ) (last : Front) (slots : List Told)
    → place_after_line front.place told ≡ Some place → names_behind front.names told ≡ Some names
    → ends_behind front.ends told ≡ Some ends → Leads (front_at place names ends) tolds last slots
    → Leads front (told ∷ tolds) last (slots_in front.place told ++ slots)
goes front told tolds place names ends last slots on_place on_names on_ends rest =
    let next : front_behind front told ≡ Some (front_at place names ends) =
    ap (λ (p : Option Place). front_of p (names_behind front.names told) (ends_behind front.ends told))
    on_place
    ∙ (ap (λ (n : Option (List (List ℕ))). front_of (Some place) n (ends_behind front.ends told)) on_names
    ∙ ap (λ (e : Option (List ℕ)). front_of (Some place) (Some names) e) on_ends) in
    record {
      led = (front_at place names ends, next, rest.led);
      shown = ap (λ (p : Option Place). slots_in front.place told ++ slots_from p tolds) on_place
          ∙ ap (λ ss. slots_in front.place told ++ ss) rest.shown;
    }

-- one line alone
pub goes_once : (front : Front) (told : Told) (place : Place) (names : List (List ℕ)) (ends : List ℕ)
    → place_after_line front.place told ≡ Some place → names_behind front.names told ≡ Some names
    → ends_behind front.ends told ≡ Some ends → slots_in front.place told ≡ []
    → Leads front (told ∷ []) (front_at place names ends) []
goes_once front told place names ends on_place on_names on_ends none =
    let last = front_at place names ends in
    subst (λ ss. Leads front (told ∷ []) last (ss ++ [])) none
    (goes front told [] place names ends last [] on_place on_names on_ends (stays last))

-- a prefix that was reached has the place
on_place : (place : Option Place) (names : Option (List (List ℕ))) (ends : Option (List ℕ)) (next : Front)
    → front_of place names ends ≡ Some next → place ≡ Some next.place
on_place (Some p) (Some n) (Some e) next is = cc
on_place (Some p) (Some n) None next is = absurd (cc)
on_place (Some p) None (Some e) next is = absurd (cc)
on_place (Some p) None None next is = absurd (cc)
on_place None (Some n) (Some e) next is = absurd (cc)
on_place None (Some n) None next is = absurd (cc)
on_place None None (Some e) next is = absurd (cc)
on_place None None None next is = absurd (cc)

-- lines after lines
pub goes_on_by : (front : Front) (some more : List Told) (middle last : Front) (slots others : List Told)
    → Leads front some middle slots → Leads middle more last others
    → Leads front (some ++ more) last (slots ++ others)
goes_on_by front some more middle last slots others first second = record {
  led = led_by front some first.led;
  shown = slots_by front some first.led ∙ (ap (λ ss. ss ++ slots_from (Some middle.place) more) first.shown
      ∙ ap (λ ss. slots ++ ss) second.shown);
}
  where
    led_by : (f : Front) (tolds : List Told) → IsLed f tolds middle → IsLed f (tolds ++ more) last
    led_by f [] led = subst (λ (g : Front). IsLed g more last) (sym led) second.led
    led_by f (told ∷ tolds) led = (led.0, led.1, led_by led.0 tolds led.2)

    slots_by : (f : Front) (tolds : List Told) → IsLed f tolds middle
        → slots_from (Some f.place) (tolds ++ more)
        ≡ slots_from (Some f.place) tolds ++ slots_from (Some middle.place) more
    slots_by f [] led = ap (λ (g : Front). slots_from (Some g.place) more) led
    slots_by f (told ∷ tolds) led =
        let place = on_place (place_after_line f.place told) (names_behind f.names told) (ends_behind f.ends told)
        led.0 led.1 in
        ap (λ (p : Option Place). slots_in f.place told ++ slots_from p (tolds ++ more)) place
        ∙ (ap (λ ss. slots_in f.place told ++ ss) (slots_by led.0 tolds led.2)
        ∙ (sym (append_assoc (slots_in f.place told) (slots_from (Some led.0.place) tolds)
        (slots_from (Some middle.place) more))
        ∙ ap (λ (p : Option Place). (slots_in f.place told ++ slots_from p tolds)
        ++ slots_from (Some middle.place) more) (sym place)))

-- what tells nothing is nothing
pub none_mapped : {X Y : Type 0} (f : X → Y) (xs : List X) → map f xs ≡ [] → xs ≡ []
none_mapped f [] is = refl
none_mapped f (x ∷ xs) is = absurd (cc)
