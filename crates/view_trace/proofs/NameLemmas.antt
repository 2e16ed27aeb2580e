-- Names, and one more of them.
use Rattle.std.proofs.Common.{◌≡◌, ℕ, ◌<◌, List, [], ◌∷◌, ◌++◌, length, sym, ap, ◌∙◌, inl, inr, Option, Some, None, length-append, arith}
use Rattle.std.proofs.lemmas.Bool.{cases_eq}
use Rattle.std.proofs.lemmas.Grind.{common_steps}
use Rattle.tab_core.specs.Name.{IsName}
use Rattle.vcpu_names.specs.Names.{AreNames, IsUnknown, name_at}
use Rattle.view_doc.proofs.NameLemmas.{name_last}
use Rattle.host_trace.specs.TraceLines.{IsNameOf}
use Rattle.view_trace.specs.Drawable.{AreApart}

-- a name keeps its number
pub name_stays : (names : List (List ℕ)) (name : List ℕ) (v : ℕ) → v < length names
    → name_at (names ++ name ∷ []) v ≡ name_at names v
name_stays names name v low = grind (arith, common_steps)

-- the number of the last
last_low : (names : List (List ℕ)) (name : List ℕ) (v : ℕ) → v < length (names ++ name ∷ [])
    → (v ≡ length names → ⊥) → v < length names
last_low names name v low other = omega (arith, low, other, length-append names (name ∷ []))

-- each is another, with one more that none has
pub apart_more : (names : List (List ℕ)) (name : List ℕ) → AreApart names → IsUnknown names name
    → AreApart (names ++ name ∷ [])
apart_more names name apart unknown v w low high same =
    elim (cases_eq v (length names)) [
      | inl first ↦ elim (cases_eq w (length names)) [
        | inl second ↦ first ∙ sym second
        | inr other ↦
            let below : w < length names = last_low names name w high other in
            let is : name_at names w ≡ name =
            sym (name_stays names name w below) ∙ sym same ∙ ap (name_at (names ++ name ∷ [])) first
            ∙ name_last names name in
            absurd (unknown w below is)
      ]
      | inr one ↦ elim (cases_eq w (length names)) [
        | inl second ↦
            let below : v < length names = last_low names name v low one in
            let is : name_at names v ≡ name =
            sym (name_stays names name v below) ∙ same ∙ ap (name_at (names ++ name ∷ [])) second
            ∙ name_last names name in
            absurd (unknown v below is)
        | inr other ↦
            let below : v < length names = last_low names name v low one in
            let under : w < length names = last_low names name w high other in
            apart v w below under
            (sym (name_stays names name v below) ∙ same ∙ name_stays names name w under)
      ]
    ]

-- each has the form of a name, with one more that has it
pub good_more : (names : List (List ℕ)) (name : List ℕ) → AreNames names → IsName name
    → AreNames (names ++ name ∷ [])
good_more names name good is v low =
    elim (cases_eq v (length names)) [
      | inl last ↦ rw (ap (name_at (names ++ name ∷ [])) last ∙ name_last names name) is
      | inr other ↦
          let below : v < length names = last_low names name v low other in
          rw (name_stays names name v below) (good v below)
    ]

-- a vCPU that is named is named among more names
pub named_more : (names : List (List ℕ)) (name held : List ℕ) (vcpu : Option ℕ) (v : ℕ) → vcpu ≡ Some v
    → IsNameOf names held vcpu → IsNameOf (names ++ name ∷ []) held vcpu
named_more names name held None v is at = absurd (cc)
named_more names name held (Some w) v is at =
    let low : w < length names = at.0 in
    (omega (arith, low, length-append names (name ∷ [])), name_stays names name w low ∙ at.1)
