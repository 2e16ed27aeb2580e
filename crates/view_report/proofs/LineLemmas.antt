-- What a line of a report says, word by word.
use Rattle.std.proofs.Common.{◌≡◌, ℕ, List, [], ◌∷◌, codes, drop, get_or, ap, sym, ◌∙◌}
use Rattle.tab_core.specs.Name.{IsName}
use Rattle.tab_words.specs.Texts.{Line}
use Rattle.view_report.specs.Inside.NoLines.{NoBegun, NoChange, NoCoreRan, NoOutcome, NoStart, NoVcpuRan}
use Rattle.view_report.specs.Lines.{SaysNoLine}
use Rattle.view_report.specs.declared.said.Became.TheVariants as became
use Rattle.view_report.specs.declared.said.Said.TheVariants.{Begun, Changed, Planned, Vcpu, Core, Done}

-- the words after the first of equal lines are equal
pub after_one : (a b : List ℕ) (rest more : Line) → a ∷ rest ≡ b ∷ more → rest ≡ more
after_one a b rest more is = ap (λ (l : Line). drop 1 l) is

-- those after the first two are
pub after_two : (a b c d : List ℕ) (rest more : Line) → a ∷ c ∷ rest ≡ b ∷ d ∷ more → rest ≡ more
after_two a b c d rest more is = ap (λ (l : Line). drop 2 l) is

-- what is left after three times two words
pub after_six : (a b c d e f u v w x y z : List ℕ) (all one two three rest : Line) → all ≡ a ∷ b ∷ one
    → one ≡ c ∷ d ∷ two → two ≡ e ∷ f ∷ three → all ≡ u ∷ v ∷ w ∷ x ∷ y ∷ z ∷ rest → three ≡ rest
after_six a b c d e f u v w x y z all one two three rest p q r is =
    let first : one ≡ w ∷ x ∷ y ∷ z ∷ rest = after_two a u b v one (w ∷ x ∷ y ∷ z ∷ rest) (sym p ∙ is) in
    let second : two ≡ y ∷ z ∷ rest = after_two c w d x two (y ∷ z ∷ rest) (sym q ∙ first) in
    after_two e y f z three rest (sym r ∙ second)

-- words of which the first isn't `planned`, and the fourth no name, don't say what became of a change
pub no_outcome : (words one two rest : Line) (a b c : List ℕ) → words ≡ a ∷ one → one ≡ b ∷ two → two ≡ c ∷ rest
    → (a ≡ codes "planned" → ⊥) → ((name : List ℕ) (more : Line) → IsName name → rest ≡ name ∷ more → ⊥)
    → NoOutcome words
no_outcome words one two rest a b c p q r other none became.Planned good is =
    other (ap (λ (l : Line). get_or l 0 []) (sym p ∙ is))
no_outcome words one two rest a b c p q r other none (became.NoPeriod name) good is = none name.now [] good
    (after_one _ _ _ _ (sym r ∙ after_one _ _ _ _ (sym q ∙ after_one _ _ _ _ (sym p ∙ is))))
no_outcome words one two rest a b c p q r other none (became.NoRoom name) good is = none name.now [] good
    (after_one _ _ _ _ (sym r ∙ after_one _ _ _ _ (sym q ∙ after_one _ _ _ _ (sym p ∙ is))))

-- words that are no line of any kind say nothing
pub none_said : (words : Line) → NoVcpuRan words → NoCoreRan words → NoStart words → NoChange words → NoBegun words
    → (words ≡ codes "done" ∷ [] → ⊥) → SaysNoLine words
none_said words vcpu core start change begun over (Begun rounds cores events) says =
    begun rounds cores events says.good says.written
none_said words vcpu core start change begun over (Changed number made) says =
    change number made says.good says.written
none_said words vcpu core start change begun over (Planned made) says = start made says.good says.written
none_said words vcpu core start change begun over (Vcpu ran) says = vcpu ran says.good says.written
none_said words vcpu core start change begun over (Core number ran) says = core number ran says.good says.written
none_said words vcpu core start change begun over Done says = over says.written
