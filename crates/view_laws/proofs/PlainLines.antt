-- Lines as they are written and read again, among them those of stints.
use Rattle.std.proofs.Common.{◌≡◌, ℕ, Bool, true, false, List, [], ◌∷◌, codes, decimal, map, Option, Some, None, refl, sym, ap, ◌∙◌, arith}
use Rattle.std.proofs.lemmas.List.Elements.{All-head, All-tail}
use Rattle.std.specs.List.{All, list_all}
use Rattle.tab_core.specs.declared.stint.Stint.{Stint}
use Rattle.tab_words.specs.Texts.{line_of}
use Rattle.tab_words.proofs.TextLemmas.{decimal_word, is_line, is_word}
use Rattle.table_form.specs.Running.Choice.{is_shared}
use Rattle.table_form.specs.Running.Courses.{CourseView}
use Rattle.vcpu_names.specs.Names as names
use Rattle.plan_text.proofs.MeaningLemmas.{name_word}
use Rattle.stint_text.specs.StintLine.{owned_line, stint_line}
use Rattle.stint_text.specs.StintLine as written
use Rattle.view_doc.specs.Lines.{Holder, nobody, in_slot, in_unused, IsGood, IsGoodHolder, IsGoodOwner, IsPlain, Told, head, task, core, segment, end, cut, entry, stint, posted, report, item, done, how_of_holder, word_of_holder, told_words}
use Rattle.view_laws.specs.ShownRuns.{ran_holder, stint_told}

-- ---- stints

-- whoever ran has the same words in both
same_owner : (ns : List (List ℕ)) (shared : Bool) (ran : Option ℕ)
    → word_of_holder (ran_holder ns shared ran) ≡ names.owner_word ns ran
same_owner ns shared None = refl
same_owner ns true (Some v) = refl
same_owner ns false (Some v) = refl

same_how : (ns : List (List ℕ)) (shared : Bool) (ran : Option ℕ)
    → how_of_holder (ran_holder ns shared ran) ≡ written.how_word shared ran
same_how ns shared None = refl
same_how ns true (Some v) = refl
same_how ns false (Some v) = refl

-- the line of a stint is that of what it tells
pub stint_written : (ns : List (List ℕ)) (course : CourseView) (c : ℕ) (s : Stint)
    → stint_line ns course c s ≡ line_of (told_words (stint_told ns course c s))
unfolding owned_line
stint_written ns course c s =
    let shared = is_shared course c s in
    let front = λ (owner how : List ℕ). line_of (codes "core" ∷ decimal c ∷ decimal s.from ∷ decimal s.end
    ∷ codes "used" ∷ decimal s.used ∷ codes "seen" ∷ decimal s.seen ∷ owner ∷ how ∷ []) in
    sym (ap (λ (w : List ℕ). front w (how_of_holder (ran_holder ns shared s.ran))) (same_owner ns shared s.ran)
    ∙ ap (front (names.owner_word ns s.ran)) (same_how ns shared s.ran))

-- ---- words

-- whoever has ticks has a word
holder_word : (held : Holder) → IsGoodHolder held → is_word (word_of_holder held) ≡ true
holder_word nobody good = refl
holder_word (in_slot name) good = name_word name good
holder_word (in_unused name) good = name_word name good

owner_is_word : (held : Holder) → IsGoodOwner held → is_word (word_of_holder held) ≡ true
owner_is_word nobody good = refl
owner_is_word (in_slot name) good = name_word name good
owner_is_word (in_unused name) good = absurd good

how_is_word : (held : Holder) → is_word (how_of_holder held) ≡ true
how_is_word nobody = refl
how_is_word (in_slot name) = refl
how_is_word (in_unused name) = refl

-- a line that isn't a report's can be read
pub plain_line : (told : Told) → IsPlain told → IsGood told → is_line (told_words told) ≡ true
plain_line (head m k) plain good =
    let cores = good.1 in
    let vcpus = good.2 in
    rw (decimal_word m (omega arith), decimal_word k (omega arith)) refl
plain_line (task name t n h) plain good =
    let period = good.1 in
    let cost = good.2 in
    let home = good.3 in
    rw (
      name_word name good.0,
      decimal_word t (omega arith),
      decimal_word n (omega arith),
      decimal_word h (omega arith),
    ) refl
plain_line (core c) plain good = rw (decimal_word c (omega arith)) refl
plain_line (segment to held) plain good =
    let small = good.0 in
    rw (decimal_word to (omega arith), owner_is_word held good.1) refl
plain_line end plain good = refl
plain_line cut plain good = refl
plain_line (entry c r n) plain good =
    let core = good.0 in
    let round = good.1 in
    let count = good.2 in
    rw (decimal_word c (omega arith), decimal_word r (omega arith), decimal_word n (omega arith)) refl
plain_line (stint c f t u v held) plain good =
    let core = good.0 in
    let from = good.1 in
    let to = good.2 in
    let used = good.3 in
    let seen = good.4 in
    rw (
      decimal_word c (omega arith),
      decimal_word f (omega arith),
      decimal_word t (omega arith),
      decimal_word u (omega arith),
      decimal_word v (omega arith),
      holder_word held good.5,
      how_is_word held,
    ) refl
plain_line (posted n) plain good = rw (decimal_word n (omega arith)) refl
plain_line (report words) plain good = absurd plain
plain_line (item words) plain good = absurd plain
plain_line done plain good = refl

-- lines that aren't a report's can all be read
pub plain_lines : (tolds : List Told) → All IsPlain tolds → All IsGood tolds
    → list_all is_line (map told_words tolds) ≡ true
plain_lines [] kinds good = refl
plain_lines (told ∷ tolds) kinds good =
    rw (plain_line told (All-head IsPlain told tolds kinds) (All-head IsGood told tolds good))
    (plain_lines tolds (All-tail IsPlain told tolds kinds) (All-tail IsGood told tolds good))
