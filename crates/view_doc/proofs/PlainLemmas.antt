-- A line of a number, one space and a name, and whoever the name is.
use Rattle.std.proofs.Common.{arith, ◌≡◌, ◌≢◌, ℕ, ◌+◌, ◌-◌, ◌<◌, ◌^◌, ◌&&◌, true, nat_le, not, List, [], ◌∷◌, ◌++◌, length, take, drop, codes, decimal, get_or, suc, refl, sym, ap, ◌∙◌, subst}
use Rattle.std.proofs.lemmas.Bool.{and_parts}
use Rattle.std.proofs.lemmas.Bool.Decides.{nat_tests}
use Rattle.std.proofs.lemmas.Fmt.{decimal_nonempty}
use Rattle.std.proofs.lemmas.List.{take_rest}
use Rattle.std.proofs.lemmas.List.Sums.{AllPass-from_list_all}
use Rattle.std.specs.List.{All, list_all}
use Rattle.tab_core.specs.Name.{IsName, is_byte_of_name, is_lone_dash}
use Rattle.tab_core.specs.declared.TheConstants.{MAX_NAME}
use Rattle.tab_words.specs.Words.{words_of}
use Rattle.tab_words.proofs.CutLemmas.{cut, front_lacks}
use Rattle.tab_words.proofs.WordLemmas.{words_of-last, words_of-word}
use Rattle.vcpu_names.specs.Names.{name_at}
use Rattle.view_doc.specs.Inside.Reading.{IsPlainOwner}
use Rattle.view_doc.specs.declared.view.Use.TheVariants.{Idle, Slot}
use Rattle.view_doc.proofs.NameLemmas.{known_at}

-- what such a line says, once its first space is found
pub plain_parts : (line front rest : List ℕ) (end number : ℕ) → end < length line → get_or line end 0 ≡ 32
    → ((k : ℕ) → k < end → get_or line k 0 ≢ 32) → front ≡ take end line
    → rest ≡ take (length line - (end + 1)) (drop (end + 1) line) → number < 2 ^ 32 → front ≡ decimal number
    → words_of line ≡ decimal number ∷ words_of rest
plain_parts line front rest end number low at before first behind small is =
    let some : 0 < length (decimal number) = decimal_nonempty number (omega (arith, small)) in
    let spelled : take end line ≡ decimal number = sym first ∙ is in
    let lacks : All (λ byte. byte ≢ 32) (decimal number) =
    subst (λ bytes. All (λ byte. byte ≢ 32) bytes) spelled (front_lacks line end 32 (omega (arith, low)) before) in
    let next : suc end ≡ end + 1 = omega arith in
    let whole : line ≡ decimal number ++ 32 ∷ drop (end + 1) line =
    cut line end 32 low at ∙ ap (λ n. take end line ++ 32 ∷ drop n line) next
    ∙ ap (λ bytes. bytes ++ 32 ∷ drop (end + 1) line) spelled in
    ap words_of whole ∙ words_of-word (decimal number) (drop (end + 1) line) some lacks
    ∙ ap (λ bytes. decimal number ∷ words_of bytes) (sym (behind ∙ take_rest line (end + 1)))

-- a name has no spaces
lacks_space : (name : List ℕ) → list_all is_byte_of_name name ≡ true → All (λ byte. byte ≢ 32) name
lacks_space name all k d low is =
    let good = AllPass-from_list_all is_byte_of_name name all k d low in
    absurd (let no : is_byte_of_name 32 ≡ true = ap is_byte_of_name (sym is) ∙ good in cc)

-- a name is one word
name_alone : (name : List ℕ) → IsName name → words_of name ≡ name ∷ []
name_alone name good =
    let parts =
    and_parts ((nat_le 1 (length name) && nat_le (length name) MAX_NAME) && not (is_lone_dash name))
    (list_all is_byte_of_name name) good in
    let sized = and_parts (nat_le 1 (length name) && nat_le (length name) MAX_NAME)
    (not (is_lone_dash name)) parts.0 in
    let long = and_parts (nat_le 1 (length name)) (nat_le (length name) MAX_NAME) sized.0 in
    words_of-last name (grind (arith, nat_tests, long.0)) (lacks_space name parts.1)

-- the word for nobody is one word
dash_alone : words_of (codes "-") ≡ codes "-" ∷ []
unfolding words_of
dash_alone = refl

-- it names nobody
pub dash_plain : (names : List (List ℕ)) (word : List ℕ) → word ≡ codes "-" → IsPlainOwner names word Idle
dash_plain names word is = rw is (record { alone = dash_alone; good = tt; known = λ end. refl })

-- a name that a vCPU has names it
pub named_plain : (names : List (List ℕ)) (word : List ℕ) (vcpu : ℕ) → vcpu < length names
    → name_at names vcpu ≡ word → IsName word → IsPlainOwner names word (Slot vcpu)
named_plain names word vcpu low is good = record {
  alone = name_alone word good ∙ ap (λ w. w ∷ []) (sym is);
  good = rw is good;
  known = λ end. rw (is, known_at names word vcpu low is) refl;
}
