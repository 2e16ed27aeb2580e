-- The sections of joined texts.
use Rattle.std.proofs.Common.{◌-◌, ◌≡◌, ◌≢◌, ℕ, suc, ◌∙◌, ap, sym, ◌||◌, cond, Bool, true, false, List, [], ◌∷◌, ◌++◌, append_assoc, append-nil, codes, flat_map, length, map, take, Option, Some, None, refl, arith, length-append, get_or}
use Rattle.std.specs.List.{All}
use Rattle.std.specs.Option.{option_map}
use Rattle.std.specs.Str.{bytes_eq}
use Rattle.std.proofs.lemmas.List.Elements.{All-cons, All-take}
use Rattle.std.proofs.Math.Seq.{get_or-append_seam}
use Rattle.std.proofs.lemmas.Slice.Eq.{bytes_eq-Decides}
use Rattle.tab_words.specs.Lines.{lines_of, without_feed}
use Rattle.tab_words.specs.Sections.{is_separator, sections_of}
use Rattle.tab_words.proofs.LineLemmas.{raw_lines_of-line, without_feed-feed}
use Rattle.tab_words.specs.Inside.Fronts.{sections_after}
use Rattle.tab_words.proofs.SectionLemmas.{behind-behind, sections_of-behind, sections_of-nil, sections_of-row, sections_of-separator}
use Rattle.section_join.specs.Mended.{ends_in_return, first_cut, is_cut, joined_text, mended, mended_line, without_return}
use Rattle.section_join.proofs.RowLemmas.{EachLacks, Lacks, lines_lack}

-- a mended line has no line feed but at its end
still_lacks : (line : List ℕ) → Lacks line → Lacks (without_return line)
still_lacks line lacks =
    elim (ends_in_return line) as (λ b. Lacks (cond b (take (length line - 1) line) line)) [
      | true ↦ All-take (λ byte. byte ≢ 10) (length line - 1) line lacks
      | false ↦ lacks
    ]

-- a mended line is no separator, unless it was a cut
no_separator : (text : List ℕ) → bytes_eq text (codes "%%") ≡ false → is_separator (text ++ 10 ∷ []) ≡ false
no_separator text unlike = both _ _ (λ is. first is) (λ is. second is)
  where
    both : (a b : Bool) → (a ≡ true → ⊥) → (b ≡ true → ⊥) → (a || b) ≡ false
    both true b f g = absurd (f refl)
    both false true f g = absurd (g refl)
    both false false f g = refl

    first : bytes_eq (text ++ 10 ∷ []) (codes "%%\n") ≡ true → ⊥
    first is =
        let whole : text ++ 10 ∷ [] ≡ (37 ∷ 37 ∷ []) ++ 10 ∷ [] =
        (bytes_eq-Decides (text ++ 10 ∷ []) (codes "%%\n")).0 is in
        let same : text ≡ codes "%%" =
        sym (without_feed-feed text) ∙ ap without_feed whole ∙ without_feed-feed (37 ∷ 37 ∷ []) in
        let yes : bytes_eq text (codes "%%") ≡ true = (bytes_eq-Decides text (codes "%%")).1 same in
        let bad : false ≡ true = sym unlike ∙ yes in cc

    second : bytes_eq (text ++ 10 ∷ []) (codes "%%") ≡ true → ⊥
    second is =
        let whole : text ++ 10 ∷ [] ≡ 37 ∷ 37 ∷ [] = (bytes_eq-Decides (text ++ 10 ∷ []) (codes "%%")).0 is in
        let size : length text ≡ 1 = omega (arith, ap length whole, length-append text (10 ∷ [])) in
        let last : 37 ≡ 10 = sym (ap (λ l. get_or l (length text) 0) whole ∙ ap (λ k. get_or (37 ∷ 37 ∷ []) k 0) size)
        ∙ get_or-append_seam text 10 [] 0 in
        omega (arith, last)

-- of lines without a cut the first is none, and the others have none
first_none : (line : List ℕ) (lines : List (List ℕ)) → first_cut (line ∷ lines) ≡ None
    → (is_cut line ≡ false) × (first_cut lines ≡ None)
first_none line lines none = split (is_cut line) (first_cut lines) none
  where
    split : (b : Bool) (rest : Option ℕ) → cond b (Some 1) (option_map suc rest) ≡ None → (b ≡ false) × (rest ≡ None)
    split true rest is = absurd cc
    split false None is = (refl, refl)
    split false (Some k) is = absurd cc

-- mended lines are before the first section of what follows
lines_extend : (lines : List (List ℕ)) (rest : List ℕ) → EachLacks lines → first_cut lines ≡ None
    → sections_of (flat_map mended_line lines ++ rest) ≡ sections_after (flat_map mended_line lines) (sections_of rest)
lines_extend [] rest lack none = sections_of-behind rest
lines_extend (line ∷ lines) rest lack none =
    let text = without_return line in
    let back = flat_map mended_line lines in
    let parts = first_none line lines none in
    let whole : (flat_map mended_line (line ∷ lines)) ++ rest ≡ text ++ 10 ∷ (back ++ rest) =
    append_assoc (text ++ 10 ∷ []) back rest ∙ append_assoc text (10 ∷ []) (back ++ rest) in
    let rows = raw_lines_of-line text (back ++ rest) (still_lacks line lack.0) in
    ap sections_of whole
    ∙ sections_of-row (text ++ 10 ∷ (back ++ rest)) (text ++ 10 ∷ []) (back ++ rest) rows (no_separator text parts.0)
    ∙ ap (sections_after (text ++ 10 ∷ [])) (lines_extend lines rest lack.1 parts.1)
    ∙ behind-behind (text ++ 10 ∷ []) back (sections_of rest)

-- a mended text alone is one section
one_section : (text : List ℕ) → first_cut (lines_of text) ≡ None → sections_of (mended text) ≡ mended text ∷ []
unfolding mended
one_section text none =
    let lines = lines_of text in
    let front = flat_map mended_line lines in
    ap sections_of (sym (append-nil front))
    ∙ lines_extend lines [] (lines_lack text) none
    ∙ ap (sections_after front) sections_of-nil
    ∙ ap (λ first. first ∷ []) (append-nil front)

-- with a separator and more after it, it is the first section
first_section : (text rest : List ℕ) → first_cut (lines_of text) ≡ None
    → sections_of (mended text ++ (37 ∷ 37 ∷ 10 ∷ rest)) ≡ mended text ∷ sections_of rest
unfolding mended
first_section text rest none =
    let lines = lines_of text in
    let front = flat_map mended_line lines in
    let percent : Lacks (37 ∷ 37 ∷ []) =
    All-cons (λ b. b ≢ 10) 37 (37 ∷ []) (λ e. absurd (omega (arith, e)))
    (All-cons (λ b. b ≢ 10) 37 [] (λ e. absurd (omega (arith, e))) (λ k d low is. absurd (omega (arith, low)))) in
    let rows = raw_lines_of-line (37 ∷ 37 ∷ []) rest percent in
    lines_extend lines (37 ∷ 37 ∷ 10 ∷ rest) (lines_lack text) none
    ∙ ap (sections_after front) (sections_of-separator (37 ∷ 37 ∷ 10 ∷ rest) (37 ∷ 37 ∷ 10 ∷ []) rest rows refl)
    ∙ ap (λ first. first ∷ sections_of rest) (append-nil front)

-- the law
pub sections_of-joined : (text : List ℕ) (texts : List (List ℕ))
    → All (λ t. first_cut (lines_of t) ≡ None) (text ∷ texts)
    → sections_of (joined_text (text ∷ texts)) ≡ map mended (text ∷ texts)
sections_of-joined text [] none = one_section text (none 0 [] (omega arith))
sections_of-joined text (next ∷ texts) none =
    first_section text (joined_text (next ∷ texts)) (none 0 [] (omega arith))
    ∙ ap (λ back. mended text ∷ back)
    (sections_of-joined next texts (λ k d low. none (suc k) d (omega (arith, low))))
