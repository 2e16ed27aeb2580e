-- The parts of a stint's line.
use Rattle.std.proofs.Common.{◌≡◌, ℕ, List, [], ◌∷◌, ◌++◌, codes, decimal, Option, ap, append_assoc, sym, ◌∙◌}
use Rattle.tab_core.specs.declared.stint.Stint.{Stint}
use Rattle.tab_words.specs.Texts.{line_of}
use Rattle.table_form.specs.Running.Choice.{runs_other}
use Rattle.vcpu_names.specs.Names.{owner_word}
use Rattle.stint_text.specs.StintLine.{how_word, owned_line}
use Rattle.line_bytes.specs.Tails.{tail_text}

-- the parts of a line in one row
in_a_row : (c s u e f core from end used seen name how : List ℕ)
    → ((((c ++ (core ++ s)) ++ (from ++ (s ++ end))) ++ (u ++ (used ++ (e ++ seen)))) ++ (s ++ (name ++ s)))
    ++ (how ++ f)
    ≡ c ++ (core ++ (s ++ (from ++ (s ++ (end ++ (u ++ (used ++ (e ++ (seen ++ (s ++ (name ++ (s ++ (how ++ f)))))))))))))
in_a_row c s u e f core from end used seen name how = simp append_assoc

-- a line in one row, with what ends it after its last word
end_in_a_row : (c s u e f core from end used seen name how : List ℕ)
    → (c ++ (core ++ (s ++ (from ++ (s ++ (end ++ (u ++ (used ++ (e ++ (seen ++ (s ++ (name ++ (s ++ how))))))))))))) ++ f
    ≡ c ++ (core ++ (s ++ (from ++ (s ++ (end ++ (u ++ (used ++ (e ++ (seen ++ (s ++ (name ++ (s ++ (how ++ f)))))))))))))
end_in_a_row c s u e f core from end used seen name how = simp append_assoc

-- the words of a line of this form, as they are put
words_in_parts : (core from end used seen name how : List ℕ)
    → ((((codes "core " ++ (core ++ 32 ∷ [])) ++ (from ++ 32 ∷ end))
    ++ (codes " used " ++ (used ++ (codes " seen " ++ seen)))) ++ (32 ∷ (name ++ 32 ∷ []))) ++ (how ++ codes "\n")
    ≡ line_of (codes "core" ∷ core ∷ from ∷ end ∷ codes "used" ∷ used ∷ codes "seen" ∷ seen ∷ name ∷ how ∷ [])
unfolding line_of
words_in_parts core from end used seen name how =
    in_a_row (codes "core ") (32 ∷ []) (codes " used ") (codes " seen ") (codes "\n") core from end used seen name how
    ∙ sym (end_in_a_row (codes "core ") (32 ∷ []) (codes " used ") (codes " seen ") (codes "\n") core from end used
    seen name how)

-- in their order they are the line
pub line_in_parts : (names : List (List ℕ)) (core : ℕ) (owner : Option ℕ) (s : Stint) (tail : List ℕ)
    → tail ≡ tail_text names 32 s.ran
    → ((((codes "core " ++ (decimal core ++ 32 ∷ []))
    ++ (decimal s.from ++ 32 ∷ decimal s.end))
    ++ (codes " used " ++ (decimal s.used ++ (codes " seen " ++ decimal s.seen))))
    ++ tail) ++ (how_word (runs_other owner s.ran) s.ran ++ codes "\n")
    ≡ owned_line names core owner s
unfolding owned_line
line_in_parts names core owner s tail is =
    ap (λ t. ((((codes "core " ++ (decimal core ++ 32 ∷ [])) ++ (decimal s.from ++ 32 ∷ decimal s.end))
    ++ (codes " used " ++ (decimal s.used ++ (codes " seen " ++ decimal s.seen)))) ++ t)
    ++ (how_word (runs_other owner s.ran) s.ran ++ codes "\n")) is
    ∙ words_in_parts (decimal core) (decimal s.from) (decimal s.end) (decimal s.used) (decimal s.seen)
    (owner_word names s.ran) (how_word (runs_other owner s.ran) s.ran)
