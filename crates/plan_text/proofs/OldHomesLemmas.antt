-- The homes that lines give, one line after the other.
use Rattle.std.proofs.Common.{◌≡◌, ℕ, ◌+◌, ◌<◌, List, [], ◌∷◌, ◌++◌, Option, None, get_or, length, take, refl, sym, ap, ◌∙◌, arith}
use Rattle.std.proofs.lemmas.List.{ext_get_or, take_more}
use Rattle.tab_words.specs.Texts.{Line}
use Rattle.vcpu_names.specs.Names.{name_at}
use Rattle.plan_text.specs.OldHomes.{AreHomesNamed, AreOldHomes, home_behind, home_named}
use Rattle.plan_text.specs.OldText.{NamedHome}
use Rattle.plan_text.proofs.OldReadingLemmas.{one_old_text}

-- after one line more it is that line's home, if it has the name
named_last : (name : List ℕ) (vcpus : List NamedHome) (vcpu : NamedHome) (home : Option ℕ)
    → home_named name (vcpus ++ vcpu ∷ []) home ≡ home_behind name vcpu (home_named name vcpus home)
named_last name [] vcpu home = refl
named_last name (first ∷ vcpus) vcpu home = named_last name vcpus vcpu (home_behind name first home)

-- one line more
pub one_line_more : (names : List (List ℕ)) (vcpus : List NamedHome) (at : ℕ) (vcpu : NamedHome)
    (homes after : List (Option ℕ)) → AreHomesNamed names (take at vcpus) homes → at < length vcpus
    → vcpu ≡ get_or vcpus at vcpu → length after ≡ length homes
    → ((v : ℕ) (none : Option ℕ) → v < length names
    → get_or after v none ≡ home_behind (name_at names v) vcpu (get_or homes v none))
    → AreHomesNamed names (take (at + 1) vcpus) after
one_line_more names vcpus at vcpu homes after are low is many each =
    let more : take (at + 1) vcpus ≡ take at vcpus ++ vcpu ∷ [] =
    take_more vcpus at vcpu low ∙ ap (λ v. take at vcpus ++ v ∷ []) (sym is) in
    rw more (record {
      as_many = many ∙ are.as_many;
      each = λ v none low'. each v none low'
          ∙ (ap (home_behind (name_at names v) vcpu) (are.each v none low')
          ∙ sym (named_last (name_at names v) (take at vcpus) vcpu None));
    })

-- a text gives a host's vCPUs one list of homes
pub one_old_homes : (names : List (List ℕ)) (lines : List Line) (a b : List (Option ℕ))
    → AreOldHomes names lines a → AreOldHomes names lines b → a ≡ b
one_old_homes names lines a b of_a of_b =
    let same = one_old_text of_a.vcpus of_b.vcpus lines of_a.text of_b.text in
    let as_many = of_a.named.as_many in
    ext_get_or None a b (of_a.named.as_many ∙ sym of_b.named.as_many) (λ v low.
    let inside : v < length names = omega arith in
    of_a.named.each v None inside ∙ (ap (λ vcpus. home_named (name_at names v) vcpus None) same
    ∙ sym (of_b.named.each v None inside)))
