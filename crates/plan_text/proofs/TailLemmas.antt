-- The lines of segments, as they are put together from the tails of owners.
use Rattle.std.proofs.Common.{◌≡◌, ℕ, ◌≤◌, List, ◌∷◌, ◌++◌, codes, decimal, get_or, Option, ap, subst, sym, ◌∙◌, append_assoc}
use Rattle.tab_core.specs.declared.TheConstants.{MAX_VCPUS}
use Rattle.tab_words.specs.Texts.{line_of}
use Rattle.vcpu_names.specs.Names.{owner_word}
use Rattle.table_form.specs.Tables.Segments.{SegmentView}
use Rattle.line_bytes.specs.Tails.{AreTails, tail_bytes, tail_place, tail_text}
use Rattle.line_bytes.specs.declared.tail.Tail.{Tail}
use Rattle.plan_text.specs.PlanText.{segment_line}

-- a segment's line is its end and its owner's tail
pub line_parts : (names : List (List ℕ)) (s : SegmentView)
    → decimal s.end ++ tail_text names 10 s.owner ≡ segment_line names s
unfolding segment_line line_of
line_parts names s = sym (append_assoc (decimal s.end) (32 ∷ owner_word names s.owner) (codes "\n"))

-- what is at an owner's place is its tail
pub tail_found : (names : List (List ℕ)) (tails : List Tail) (owner : Option ℕ) (place : ℕ) (d : Tail)
    → AreTails names 10 MAX_VCPUS tails → place ≡ tail_place owner → place ≤ MAX_VCPUS
    → tail_bytes (get_or tails place d) ≡ tail_text names 10 owner
tail_found names tails owner place d are at small =
    let low : tail_place owner ≤ MAX_VCPUS = subst (λ n. n ≤ MAX_VCPUS) at small in
    ap (λ n. tail_bytes (get_or tails n d)) at ∙ are owner d low
