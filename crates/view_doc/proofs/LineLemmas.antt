-- What a line says, by its first words.
use Rattle.std.proofs.Common.{◌≡◌, ℕ, ◌<◌, ◌≤◌, ◌^◌, false, List, MatchOption, Option, Some, None, [], ◌∷◌, codes, decimal, length, drop, get_or, ap, sym, subst, ◌∙◌, refl, arith}
use Rattle.std.proofs.lemmas.Bool.{false≢true}
use Rattle.std.proofs.lemmas.Fmt.{decimal_is_IsNumeral, decimal_nonempty}
use Rattle.std.proofs.lemmas.Slice.Eq.{bytes_eq-Decides}
use Rattle.std.specs.Char.{digit_value}
use Rattle.std.specs.Str.{bytes_eq}
use Rattle.std.specs.Str.Parse.{AllDigits}
use Rattle.tab_core.specs.Name.{IsName}
use Rattle.tab_core.specs.declared.TheConstants.{MAX_CORES, MAX_VCPUS}
use Rattle.tab_words.proofs.NumberLemmas.{digit_below}
use Rattle.tab_words.specs.Texts.{Line}
use Rattle.view_doc.specs.Inside.Statements.{SaysNoPlain, told_by}
use Rattle.view_doc.specs.Lines.{Holder, IsGood, IsGoodHolder, IsPlain, Says, Told, head, task, core, segment, end, cut, entry, stint, posted, report, item, done, how_of_holder, word_of_holder}
use Rattle.view_doc.specs.declared.statement.Statement.{Statement}

-- what a reader of these words answers: nothing, where there is nothing to answer, or what they say
abbrev pub IsAnswer : Type 0 → Line → Option Statement → Type 0
IsAnswer none words answer = MatchOption answer none (λ s. (all : Line) → Says words (told_by all s))

-- where there is nothing of one form, and no other form may be, nothing is said
pub nothing_said : (none : Type 0) (words : Line) (answer : Option Statement)
    → (none → SaysNoPlain words) → IsAnswer none words answer → IsAnswer (SaysNoPlain words) words answer
nothing_said none words None says is = says is
nothing_said none words (Some s) says is = is

-- the first words of equal lines are equal
first_same : (a b : List ℕ) (rest more : Line) → a ∷ rest ≡ b ∷ more → a ≡ b
first_same a b rest more is = ap (λ (l : Line). get_or l 0 []) is

-- the words after the first of equal lines are equal
rest_same : (a b : List ℕ) (rest more : Line) → a ∷ rest ≡ b ∷ more → rest ≡ more
rest_same a b rest more is = ap (λ (l : Line). drop 1 l) is

-- lines whose first words differ are two
pub other_first : (a b : List ℕ) (rest more : Line) → bytes_eq a b ≡ false → a ∷ rest ≡ b ∷ more → ⊥
other_first a b rest more differ is =
    false≢true (sym differ ∙ (bytes_eq-Decides a b).1 (first_same a b rest more is))

-- a word that begins with no digit is no number
pub no_digit : (word : List ℕ) (n : ℕ) → n < 2 ^ 64 → (digit_value (get_or word 0 0) < 10 → ⊥)
    → word ≡ decimal n → ⊥
no_digit word n low none is =
    let all : AllDigits 10 (decimal n) = (decimal_is_IsNumeral n low).0.1 in
    none (subst (λ (w : List ℕ). digit_value (get_or w 0 0) < 10) (sym is)
    (digit_below 10 (decimal n) 0 (decimal_nonempty n low) all))

-- ---- after `core`

pub core_told : (rest : Line) (told : Told) → IsPlain told → Says (codes "core" ∷ rest) told
    → ((d : ℕ) → IsGood (core d) → rest ≡ decimal d ∷ [] → ⊥)
    → ((d r n : ℕ) → IsGood (entry d r n)
    → rest ≡ decimal d ∷ codes "round" ∷ decimal r ∷ codes "count" ∷ decimal n ∷ [] → ⊥)
    → ((d f t u v : ℕ) (held : Holder) → IsGood (stint d f t u v held)
    → rest ≡ decimal d ∷ decimal f ∷ decimal t ∷ codes "used" ∷ decimal u ∷ codes "seen" ∷ decimal v
    ∷ word_of_holder held ∷ how_of_holder held ∷ [] → ⊥) → ⊥
core_told rest (core d) plain says no_core no_entry no_stint =
    no_core d says.good (rest_same _ _ _ _ says.written)
core_told rest (entry d r n) plain says no_core no_entry no_stint =
    no_entry d r n says.good (rest_same _ _ _ _ says.written)
core_told rest (stint d f t u v held) plain says no_core no_entry no_stint =
    no_stint d f t u v held says.good (rest_same _ _ _ _ says.written)
core_told rest (segment to held) plain says no_core no_entry no_stint =
    no_digit (codes "core") to (let low = says.good.0 in omega arith) (λ low. absurd (omega arith))
    (first_same _ _ _ _ says.written)
core_told rest (report words) plain says no_core no_entry no_stint = absurd plain
core_told rest (item words) plain says no_core no_entry no_stint = absurd plain
core_told rest (head m k) plain says no_core no_entry no_stint =
    other_first (codes "core") (codes "plan") _ _ refl says.written
core_told rest (task name t n h) plain says no_core no_entry no_stint =
    other_first (codes "core") (codes "vcpu") _ _ refl says.written
core_told rest end plain says no_core no_entry no_stint =
    other_first (codes "core") (codes "end") _ _ refl says.written
core_told rest cut plain says no_core no_entry no_stint =
    other_first (codes "core") (codes "%%") _ _ refl says.written
core_told rest (posted n) plain says no_core no_entry no_stint =
    other_first (codes "core") (codes "posted") _ _ refl says.written
core_told rest done plain says no_core no_entry no_stint =
    other_first (codes "core") (codes "done") _ _ refl says.written

-- no core's number is there
pub no_core : (rest : Line) → ((n : ℕ) (more : Line) → n < MAX_CORES → rest ≡ decimal n ∷ more → ⊥)
    → SaysNoPlain (codes "core" ∷ rest)
no_core rest none told plain says = core_told rest told plain says
    (λ d good is. none d [] good is)
    (λ d r n good is. none d (codes "round" ∷ decimal r ∷ codes "count" ∷ decimal n ∷ []) good.0 is)
    (λ d f t u v held good is. none d (decimal f ∷ decimal t ∷ codes "used" ∷ decimal u ∷ codes "seen"
    ∷ decimal v ∷ word_of_holder held ∷ how_of_holder held ∷ []) good.0 is)

-- after a core's number and `round` there is no entry
abbrev pub NoEntry : Line → Type 0
NoEntry rest = (r n : ℕ) → r < 2 ^ 32 → n < 2 ^ 32
    → rest ≡ decimal r ∷ codes "count" ∷ decimal n ∷ [] → ⊥

pub no_entry : (c : ℕ) (rest : Line) → NoEntry rest
    → SaysNoPlain (codes "core" ∷ decimal c ∷ codes "round" ∷ rest)
no_entry c rest none told plain says = core_told (decimal c ∷ codes "round" ∷ rest) told plain says
    (λ d good is. let same = ap length is in omega arith)
    (λ d r n good is. none r n good.1 good.2 (rest_same _ _ _ _ (rest_same _ _ _ _ is)))
    (λ d f t u v held good is. no_digit (codes "round") f (let low = good.1 in omega arith)
    (λ low. absurd (omega arith)) (first_same _ _ _ _ (rest_same _ _ _ _ is)))

-- after a core's number and a first tick there is no stint
abbrev pub NoStint : Line → Type 0
NoStint rest = (t u v : ℕ) (held : Holder) → t < 2 ^ 32 → u < 2 ^ 32 → v < 2 ^ 32 → IsGoodHolder held
    → rest ≡ decimal t ∷ codes "used" ∷ decimal u ∷ codes "seen" ∷ decimal v
    ∷ word_of_holder held ∷ how_of_holder held ∷ [] → ⊥

pub no_stint : (c from : ℕ) (rest : Line) → from < 2 ^ 32 → NoStint rest
    → SaysNoPlain (codes "core" ∷ decimal c ∷ decimal from ∷ rest)
no_stint c from rest low none told plain says = core_told (decimal c ∷ decimal from ∷ rest) told plain says
    (λ d good is. let same = ap length is in omega arith)
    (λ d r n good is. no_digit (codes "round") from (omega arith) (λ low. absurd (omega arith))
    (sym (first_same _ _ _ _ (rest_same _ _ _ _ is))))
    (λ d f t u v held good is. none t u v held good.2 good.3 good.4 good.5
    (rest_same _ _ _ _ (rest_same _ _ _ _ is)))

-- ---- after the other first words

-- after `vcpu` there is no vCPU's line
abbrev pub NoTask : Line → Type 0
NoTask rest = (name : List ℕ) (t n h : ℕ) → IsName name → t < 2 ^ 32 → n < 2 ^ 32 → h < MAX_CORES
    → rest ≡ name ∷ codes "period" ∷ decimal t ∷ codes "cost" ∷ decimal n
    ∷ codes "home" ∷ decimal h ∷ [] → ⊥

pub no_task : (rest : Line) → NoTask rest → SaysNoPlain (codes "vcpu" ∷ rest)
no_task rest none (task name t n h) plain says =
    none name t n h says.good.0 says.good.1 says.good.2 says.good.3 (rest_same _ _ _ _ says.written)
no_task rest none (core d) plain says = other_first (codes "vcpu") (codes "core") _ _ refl says.written
no_task rest none (entry d r n) plain says = other_first (codes "vcpu") (codes "core") _ _ refl says.written
no_task rest none (stint d f t u v held) plain says =
    other_first (codes "vcpu") (codes "core") _ _ refl says.written
no_task rest none (segment to held) plain says =
    no_digit (codes "vcpu") to (let low = says.good.0 in omega arith) (λ low. absurd (omega arith))
    (first_same _ _ _ _ says.written)
no_task rest none (report words) plain says = absurd plain
no_task rest none (item words) plain says = absurd plain
no_task rest none (head m k) plain says = other_first (codes "vcpu") (codes "plan") _ _ refl says.written
no_task rest none end plain says = other_first (codes "vcpu") (codes "end") _ _ refl says.written
no_task rest none cut plain says = other_first (codes "vcpu") (codes "%%") _ _ refl says.written
no_task rest none (posted n) plain says = other_first (codes "vcpu") (codes "posted") _ _ refl says.written
no_task rest none done plain says = other_first (codes "vcpu") (codes "done") _ _ refl says.written

-- after `plan` there is no head
abbrev pub NoHead : Line → Type 0
NoHead rest = (m k : ℕ) → 1 ≤ m → m ≤ MAX_CORES → k ≤ MAX_VCPUS
    → rest ≡ codes "cores" ∷ decimal m ∷ codes "vcpus" ∷ decimal k ∷ [] → ⊥

pub no_head : (rest : Line) → NoHead rest → SaysNoPlain (codes "plan" ∷ rest)
no_head rest none (head m k) plain says =
    none m k says.good.0 says.good.1 says.good.2 (rest_same _ _ _ _ says.written)
no_head rest none (core d) plain says = other_first (codes "plan") (codes "core") _ _ refl says.written
no_head rest none (entry d r n) plain says = other_first (codes "plan") (codes "core") _ _ refl says.written
no_head rest none (stint d f t u v held) plain says =
    other_first (codes "plan") (codes "core") _ _ refl says.written
no_head rest none (segment to held) plain says =
    no_digit (codes "plan") to (let low = says.good.0 in omega arith) (λ low. absurd (omega arith))
    (first_same _ _ _ _ says.written)
no_head rest none (report words) plain says = absurd plain
no_head rest none (item words) plain says = absurd plain
no_head rest none (task name t n h) plain says =
    other_first (codes "plan") (codes "vcpu") _ _ refl says.written
no_head rest none end plain says = other_first (codes "plan") (codes "end") _ _ refl says.written
no_head rest none cut plain says = other_first (codes "plan") (codes "%%") _ _ refl says.written
no_head rest none (posted n) plain says = other_first (codes "plan") (codes "posted") _ _ refl says.written
no_head rest none done plain says = other_first (codes "plan") (codes "done") _ _ refl says.written

-- after `posted` there is no end of a replay
abbrev pub NoPosted : Line → Type 0
NoPosted rest = (n : ℕ) → n < 2 ^ 32 → rest ≡ decimal n ∷ [] → ⊥

pub no_posted : (rest : Line) → NoPosted rest → SaysNoPlain (codes "posted" ∷ rest)
no_posted rest none (posted n) plain says = none n says.good (rest_same _ _ _ _ says.written)
no_posted rest none (core d) plain says = other_first (codes "posted") (codes "core") _ _ refl says.written
no_posted rest none (entry d r n) plain says =
    other_first (codes "posted") (codes "core") _ _ refl says.written
no_posted rest none (stint d f t u v held) plain says =
    other_first (codes "posted") (codes "core") _ _ refl says.written
no_posted rest none (segment to held) plain says =
    no_digit (codes "posted") to (let low = says.good.0 in omega arith) (λ low. absurd (omega arith))
    (first_same _ _ _ _ says.written)
no_posted rest none (report words) plain says = absurd plain
no_posted rest none (item words) plain says = absurd plain
no_posted rest none (head m k) plain says = other_first (codes "posted") (codes "plan") _ _ refl says.written
no_posted rest none (task name t n h) plain says =
    other_first (codes "posted") (codes "vcpu") _ _ refl says.written
no_posted rest none end plain says = other_first (codes "posted") (codes "end") _ _ refl says.written
no_posted rest none cut plain says = other_first (codes "posted") (codes "%%") _ _ refl says.written
no_posted rest none done plain says = other_first (codes "posted") (codes "done") _ _ refl says.written

-- what is left after six words
pub behind_six : (a b c d e f : List ℕ) (u v w x y z : List ℕ) (all one two three four five six rest : Line)
    → all ≡ a ∷ one → one ≡ b ∷ two → two ≡ c ∷ three → three ≡ d ∷ four → four ≡ e ∷ five → five ≡ f ∷ six
    → all ≡ u ∷ v ∷ w ∷ x ∷ y ∷ z ∷ rest → six ≡ rest
behind_six a b c d e f u v w x y z all one two three four five six rest p q r s t h is = cc
