-- The first field of a line, and what follows it.
use Rattle.std.proofs.Common.{arith, ◌≡◌, ◌≢◌, ℕ, ◌+◌, ◌-◌, ◌<◌, List, [], ◌∷◌, length, take, drop, get_or, suc, refl, sym, ap, ◌∙◌, false, Option, Some, None}
use Rattle.std.proofs.lemmas.Bool.Decides.{nat_tests}
use Rattle.std.proofs.lemmas.List.{take_rest}
use Rattle.std.proofs.lemmas.List.Splits.{length-slice_split, slice_split_at, slice_split_none}
use Rattle.std.specs.Bool.{◌==◌}
use Rattle.std.specs.List.{All, slice_split}
use Rattle.std.specs.Option.{option_to_list}
use Rattle.tab_words.proofs.CutLemmas.{cut, front_lacks, lacks}
use Rattle.host_trace.specs.TraceLines.{Fields, field_list, fields_of}

-- a field has no place where the definition would cut it
none_splits : (field : List ℕ) → All (λ byte. byte ≢ 44) field → All (λ byte. (byte == 44) ≡ false) field
none_splits field all k d low = let other = all k d low in grind (arith, nat_tests)

-- the first field ends at the first comma
pub field_first : (line first rest : List ℕ) (end : ℕ) → end < length line → get_or line end 0 ≡ 44
    → ((k : ℕ) → k < end → get_or line k 0 ≢ 44) → first ≡ take end line
    → rest ≡ take (length line - (end + 1)) (drop (end + 1) line) → fields_of line ≡ first ∷ fields_of rest
unfolding fields_of
field_first line first rest end low at before is behind =
    let front = take end line in
    let next : suc end ≡ end + 1 = omega arith in
    let back : rest ≡ drop (suc end) line = behind ∙ take_rest line (end + 1) ∙ ap (λ n. drop n line) (sym next) in
    let lacks_comma : All (λ byte. byte ≢ 44) front = front_lacks line end 44 (omega arith) before in
    ap fields_of (cut line end 44 low at)
    ∙ slice_split_at (λ byte. byte == 44) front 44 (drop (suc end) line) (none_splits front lacks_comma) refl
    ∙ rw (is, back) refl

-- without a comma all is one field
pub field_last : (line : List ℕ) → ((k : ℕ) → k < length line → get_or line k 0 ≢ 44) → fields_of line ≡ line ∷ []
unfolding fields_of
field_last line none = slice_split_none (λ byte. byte == 44) line (none_splits line (lacks line 44 none))

-- there is always a field
some_field : (line : List ℕ) → fields_of line ≡ [] → ⊥
unfolding fields_of
some_field line none =
    let count = length-slice_split (λ byte. byte == 44) line in
    let zero_long : length (slice_split (λ byte. byte == 44) line) ≡ 0 = ap length none in
    absurd (omega arith)

-- a line of three fields or four has no more
no_more : (cpu : Option (List ℕ)) (a b c d x y z : List ℕ) (rest : List (List ℕ))
    → a ∷ b ∷ c ∷ d ∷ rest ≡ x ∷ y ∷ z ∷ option_to_list cpu → (rest ≡ [] → ⊥) → ⊥
no_more None a b c d x y z rest is some = cc
no_more (Some word) a b c d x y z rest is some = some cc

pub five_fields : (line time name state cpu behind_time behind_name behind_state behind_cpu : List ℕ)
    (fields : Fields) → fields_of line ≡ time ∷ fields_of behind_time
    → fields_of behind_time ≡ name ∷ fields_of behind_name → fields_of behind_name ≡ state ∷ fields_of behind_state
    → fields_of behind_state ≡ cpu ∷ fields_of behind_cpu → fields_of line ≡ field_list fields → ⊥
five_fields line time name state cpu behind_time behind_name behind_state behind_cpu fields one two three four is =
    let whole : time ∷ name ∷ state ∷ cpu ∷ fields_of behind_cpu ≡ field_list fields =
    sym (one ∙ ap (λ l. time ∷ l) (two ∙ ap (λ l. name ∷ l) (three ∙ ap (λ l. state ∷ l) four))) ∙ is in
    no_more fields.cpu time name state cpu fields.time fields.name fields.state (fields_of behind_cpu) whole
    (some_field behind_cpu)
