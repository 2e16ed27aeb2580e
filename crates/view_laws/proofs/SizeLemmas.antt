-- How long lines are that aren't a report's.
use Rattle.std.proofs.Common.{ℕ, ◌+◌, ◌*◌, ◌<◌, ◌≤◌, ◌&&◌, ◌^◌, nat_le, not, List, [], ◌∷◌, codes, decimal, length, length-append, map, arith}
use Rattle.std.proofs.lemmas.Bool.{and_parts, leb-true}
use Rattle.std.proofs.lemmas.Fmt.{length-decimal-le}
use Rattle.std.proofs.lemmas.List.Elements.{All-head, All-tail}
use Rattle.std.specs.List.{All, AllByRecursion, join_with_byte, list_all}
use Rattle.tab_core.specs.Name.{IsName, is_byte_of_name, is_lone_dash}
use Rattle.tab_core.specs.declared.TheConstants.{MAX_NAME}
use Rattle.tab_words.specs.Texts.{line_of, text_of}
use Rattle.view_doc.specs.Lines.{Holder, nobody, in_slot, in_unused, IsGood, IsGoodHolder, IsGoodOwner, IsPlain, Told, head, task, core, segment, end, cut, entry, stint, posted, report, item, done, how_of_holder, word_of_holder, told_words}

-- ---- words

-- at most 32 bytes
abbrev IsShort : List ℕ → Type 0
IsShort word = length word ≤ 32

-- words with one byte between each two
joined_size : (words : List (List ℕ)) → AllByRecursion IsShort words
    → length (join_with_byte 32 words) ≤ 33 * length words
joined_size [] all = omega arith
joined_size (word ∷ []) all = let first = all.0 in omega arith
joined_size (word ∷ next ∷ words) all =
    let first = all.0 in
    let rest = joined_size (next ∷ words) all.1 in
    let sum = length-append word (32 ∷ join_with_byte 32 (next ∷ words)) in
    omega arith

line_size : (words : List (List ℕ)) → AllByRecursion IsShort words
    → length (line_of words) ≤ 33 * length words + 1
unfolding line_of
line_size words all =
    let words_size = joined_size words all in
    let sum = length-append (join_with_byte 32 words) (codes "\n") in
    omega arith

number_size : (n : ℕ) → n < 2 ^ 32 → IsShort (decimal n)
number_size n low = let size = length-decimal-le 10 n (omega arith) (omega arith) (omega arith) in omega arith

name_size : (name : List ℕ) → IsName name → IsShort name
name_size name good =
    let parts = and_parts ((nat_le 1 (length name) && nat_le (length name) MAX_NAME) && not
    (is_lone_dash name))
    (list_all is_byte_of_name name) good in
    let sized = and_parts (nat_le 1 (length name) && nat_le (length name) MAX_NAME)
    (not (is_lone_dash name)) parts.0 in
    let long = and_parts (nat_le 1 (length name)) (nat_le (length name) MAX_NAME) sized.0 in
    leb-true (length name) MAX_NAME long.1

holder_size : (held : Holder) → IsGoodHolder held → IsShort (word_of_holder held)
holder_size nobody good = omega arith
holder_size (in_slot name) good = name_size name good
holder_size (in_unused name) good = name_size name good

owner_size : (held : Holder) → IsGoodOwner held → IsShort (word_of_holder held)
owner_size nobody good = omega arith
owner_size (in_slot name) good = name_size name good
owner_size (in_unused name) good = absurd good

how_size : (held : Holder) → IsShort (how_of_holder held)
how_size nobody = omega arith
how_size (in_slot name) = omega arith
how_size (in_unused name) = omega arith

-- ---- lines

-- such a line has ten words at most
told_size : (told : Told) → IsPlain told → IsGood told → length (line_of (told_words told)) ≤ 331
told_size (head m k) plain good =
    let cores = good.1 in
    let vcpus = good.2 in
    let size = line_size (told_words (head m k)) (
      omega arith,
      (
        omega arith,
        (
          number_size m (omega arith),
          (omega arith, (number_size k (omega arith), tt)),
        ),
      ),
    ) in
    omega arith
told_size (task name t n h) plain good =
    let home = good.3 in
    let size = line_size (told_words (task name t n h)) (
      omega arith,
      (
        name_size name good.0,
        (
          omega arith,
          (
            number_size t good.1,
            (
              omega arith,
              (
                number_size n good.2,
                (
                  omega arith,
                  (number_size h (omega arith), tt),
                ),
              ),
            ),
          ),
        ),
      ),
    ) in
    omega arith
told_size (core c) plain good =
    let size = line_size (told_words (core c)) (omega arith, (number_size c (omega arith), tt)) in omega arith
told_size (segment to held) plain good =
    let size = line_size (told_words (segment to held))
    (number_size to good.0, (owner_size held good.1, tt)) in
    omega arith
told_size end plain good = let size = line_size (told_words end) (omega arith, tt) in omega arith
told_size cut plain good = let size = line_size (told_words cut) (omega arith, tt) in omega arith
told_size (entry c r n) plain good =
    let low = good.0 in
    let size = line_size (told_words (entry c r n)) (
      omega arith,
      (
        number_size c (omega arith),
        (
          omega arith,
          (number_size r good.1, (omega arith, (number_size n good.2, tt))),
        ),
      ),
    ) in
    omega arith
told_size (stint c f t u v held) plain good =
    let low = good.0 in
    let size = line_size (told_words (stint c f t u v held)) (
      omega arith,
      (
        number_size c (omega arith),
        (
          number_size f good.1,
          (
            number_size t good.2,
            (
              omega arith,
              (
                number_size u good.3,
                (
                  omega arith,
                  (number_size v good.4, (holder_size held good.5, (how_size held, tt))),
                ),
              ),
            ),
          ),
        ),
      ),
    ) in
    omega arith
told_size (posted n) plain good =
    let size = line_size (told_words (posted n)) (omega arith, (number_size n good, tt)) in omega arith
told_size (report words) plain good = absurd plain
told_size (item words) plain good = absurd plain
told_size done plain good = let size = line_size (told_words done) (omega arith, tt) in omega arith

-- a text of such lines is short
pub text_size : (tolds : List Told) → All IsPlain tolds → All IsGood tolds
    → length (text_of (map told_words tolds)) ≤ 331 * length tolds
text_size [] plain good = omega arith
text_size (told ∷ tolds) plain good =
    let first = told_size told (All-head IsPlain told tolds plain) (All-head IsGood told tolds good) in
    let rest = text_size tolds (All-tail IsPlain told tolds plain) (All-tail IsGood told tolds good) in
    let sum = length-append (line_of (told_words told)) (text_of (map told_words tolds)) in
    omega arith
