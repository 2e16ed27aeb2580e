-- A text says one thing, and a text that is read has no bad line.
use Rattle.std.proofs.Common.{◌≡◌, ℕ, ◌<◌, ◌^◌, Bool, true, false, if◌then◌else◌, List, [], ◌∷◌, ◌++◌, codes, decimal, get_or, map, append-nil, Some, None, refl, sym, ap, ◌∙◌, subst, inl, inr, arith}
use Rattle.std.proofs.lemmas.Bool.{false≢true}
use Rattle.std.proofs.lemmas.Fmt.{decimal_injective}
use Rattle.std.proofs.lemmas.List.Elements.{All-head, All-tail}
use Rattle.std.proofs.lemmas.Slice.Eq.{bytes_eq-Decides}
use Rattle.std.specs.Char.{digit_value}
use Rattle.std.specs.List.{All}
use Rattle.std.specs.Str.{bytes_eq}
use Rattle.tab_core.specs.Name.{IsName}
use Rattle.tab_words.specs.Texts.{Line}
use Rattle.view_doc.specs.Grammar.{Front, IsLed, front_behind, may_end, start}
use Rattle.view_doc.specs.Items.{FitsForm, IsItem, report_form, round_form, vcpu_form, core_form, planned_form, refused_form}
use Rattle.view_doc.specs.Lines.{Holder, nobody, in_slot, in_unused, IsGood, IsGoodHolder, IsGoodOwner, Told, head, task, core, segment, end, cut, entry, stint, posted, report, item, done, how_of_holder, word_of_holder, told_words}
use Rattle.view_doc.specs.Texts.{IsFirstBad, IsText, ViewGoesWrong}
use Rattle.view_doc.proofs.LineLemmas.{no_digit}

-- ---- of what kind a line is

-- the word at a place
abbrev word : ℕ → Line → List ℕ
word k line = get_or line k []

abbrev is_word : ℕ → Line → List ℕ → Bool
is_word k line other = bytes_eq (word k line) other

-- the kind of a line after `vcpu`, and of one after `core`
abbrev vcpu_kind : Line → ℕ
vcpu_kind line = if is_word 2 line (codes "offered") then 7 else 8

abbrev core_kind : Line → ℕ
core_kind line =
    if bytes_eq (word 2 line) [] then 9
    else (if is_word 2 line (codes "round") then 10 else (if is_word 2 line (codes "slots") then 7 else 11))

-- the kind of a line
abbrev kind_of : Line → ℕ
kind_of line =
    if is_word 0 line (codes "core") then core_kind line
    else (if is_word 0 line (codes "vcpu") then vcpu_kind line
    else (if is_word 0 line (codes "plan") then 1
    else (if is_word 0 line (codes "posted") then 2
    else (if is_word 0 line (codes "end") then 3
    else (if is_word 0 line (codes "%%") then 4
    else (if is_word 0 line (codes "done") then 5
    else (if is_word 0 line (codes "run") then 6
    else (if is_word 0 line (codes "round") then 7
    else (if is_word 0 line (codes "change") then 7 else 12)))))))))

-- the kind of what is said
abbrev kind : Told → ℕ
kind (head m k) = 1
kind (posted n) = 2
kind end = 3
kind cut = 4
kind done = 5
kind (report words) = 6
kind (item words) = 7
kind (task name t n h) = 8
kind (core c) = 9
kind (entry c r n) = 10
kind (stint c f t u v held) = 11
kind (segment to held) = 12

-- a number is no such word
other_word : (n : ℕ) (other : List ℕ) → n < 2 ^ 64 → (digit_value (get_or other 0 0) < 10 → ⊥)
    → bytes_eq (decimal n) other ≡ false
other_word n other low none = differs (bytes_eq (decimal n) other) refl
  where
    differs : (same : Bool) → bytes_eq (decimal n) other ≡ same → bytes_eq (decimal n) other ≡ false
    differs false is = is
    differs true is = absurd (no_digit other n low none (sym ((bytes_eq-Decides (decimal n) other).0 is)))

-- the words of a report have their kinds
report_kind : (words : Line) → FitsForm words report_form → kind_of words ≡ 6
report_kind [] fits = absurd fits
report_kind (w ∷ words) fits = subst (λ (x : List ℕ). kind_of (x ∷ words) ≡ 6) (sym fits.0) refl

round_kind : (words : Line) → FitsForm words round_form → kind_of words ≡ 7
round_kind [] fits = absurd fits
round_kind (w ∷ words) fits = subst (λ (x : List ℕ). kind_of (x ∷ words) ≡ 7) (sym fits.0) refl

planned_kind : (words : Line) → FitsForm words planned_form → kind_of words ≡ 7
planned_kind [] fits = absurd fits
planned_kind (w ∷ words) fits = subst (λ (x : List ℕ). kind_of (x ∷ words) ≡ 7) (sym fits.0) refl

refused_kind : (words : Line) → FitsForm words refused_form → kind_of words ≡ 7
refused_kind [] fits = absurd fits
refused_kind (w ∷ words) fits = subst (λ (x : List ℕ). kind_of (x ∷ words) ≡ 7) (sym fits.0) refl

vcpu_item_kind : (words : Line) → FitsForm words vcpu_form → kind_of words ≡ 7
vcpu_item_kind [] fits = absurd fits
vcpu_item_kind (w ∷ []) fits = absurd fits.1
vcpu_item_kind (w ∷ x ∷ []) fits = absurd fits.1.1
vcpu_item_kind (w ∷ x ∷ y ∷ words) fits =
    subst (λ (v : List ℕ). kind_of (v ∷ x ∷ y ∷ words) ≡ 7) (sym fits.0)
    (subst (λ (v : List ℕ). kind_of (codes "vcpu" ∷ x ∷ v ∷ words) ≡ 7) (sym fits.1.1.0) refl)

core_item_kind : (words : Line) → FitsForm words core_form → kind_of words ≡ 7
core_item_kind [] fits = absurd fits
core_item_kind (w ∷ []) fits = absurd fits.1
core_item_kind (w ∷ x ∷ []) fits = absurd fits.1.1
core_item_kind (w ∷ x ∷ y ∷ words) fits =
    subst (λ (v : List ℕ). kind_of (v ∷ x ∷ y ∷ words) ≡ 7) (sym fits.0)
    (subst (λ (v : List ℕ). kind_of (codes "core" ∷ x ∷ v ∷ words) ≡ 7) (sym fits.1.1.0) refl)

item_kind : (words : Line) → IsItem words → kind_of words ≡ 7
item_kind words (inl fits) = round_kind words fits
item_kind words (inr (inl fits)) = vcpu_item_kind words fits
item_kind words (inr (inr (inl fits))) = core_item_kind words fits
item_kind words (inr (inr (inr (inl fits)))) = planned_kind words fits
item_kind words (inr (inr (inr (inr fits)))) = refused_kind words fits

-- what is said is said by words of its kind
kind_told : (told : Told) → IsGood told → kind_of (told_words told) ≡ kind told
kind_told (head m k) good = refl
kind_told (posted n) good = refl
kind_told end good = refl
kind_told cut good = refl
kind_told done good = refl
kind_told (report words) good = report_kind words good
kind_told (item words) good = item_kind words good
kind_told (task name t n h) good = refl
kind_told (core c) good = refl
kind_told (entry c r n) good = refl
kind_told (stint c f t u v held) good =
    let low : f < 2 ^ 64 = let small = good.1 in omega arith in
    rw (
      other_word f [] low (λ bad. absurd (omega arith)),
      other_word f (codes "round") low (λ bad. absurd (omega arith)),
      other_word f (codes "slots") low (λ bad. absurd (omega arith)),
    ) refl
kind_told (segment to held) good =
    let low : to < 2 ^ 64 = let small = good.0 in omega arith in
    rw (
      other_word to (codes "core") low (λ bad. absurd (omega arith)),
      other_word to (codes "vcpu") low (λ bad. absurd (omega arith)),
      other_word to (codes "plan") low (λ bad. absurd (omega arith)),
      other_word to (codes "posted") low (λ bad. absurd (omega arith)),
      other_word to (codes "end") low (λ bad. absurd (omega arith)),
      other_word to (codes "%%") low (λ bad. absurd (omega arith)),
      other_word to (codes "done") low (λ bad. absurd (omega arith)),
      other_word to (codes "run") low (λ bad. absurd (omega arith)),
      other_word to (codes "round") low (λ bad. absurd (omega arith)),
      other_word to (codes "change") low (λ bad. absurd (omega arith)),
    ) refl

-- ---- what a line tells

-- the words of two lines that are one are the same
same_word : (k : ℕ) (line other : Line) → line ≡ other → word k line ≡ word k other
same_word k line other is = ap (λ (l : Line). get_or l k []) is

-- numbers that are written alike are one
same_number : (m n : ℕ) → m < 2 ^ 32 → n < 2 ^ 32 → decimal m ≡ decimal n → m ≡ n
same_number m n low less is = decimal_injective m n (omega arith) (omega arith) is

-- `-` is no name
no_name : (name : List ℕ) → IsName name → codes "-" ≡ name → ⊥
no_name name good is = absurd (let bad : IsName (codes "-") = subst IsName (sym is) good in cc)

same_owner : (a b : Holder) → IsGoodOwner a → IsGoodOwner b → word_of_holder a ≡ word_of_holder b → a ≡ b
same_owner nobody nobody good fine is = refl
same_owner nobody (in_slot name) good fine is = absurd (no_name name fine is)
same_owner nobody (in_unused name) good fine is = absurd fine
same_owner (in_slot name) nobody good fine is = absurd (no_name name good (sym is))
same_owner (in_slot name) (in_slot other) good fine is = ap in_slot is
same_owner (in_slot name) (in_unused other) good fine is = absurd fine
same_owner (in_unused name) b good fine is = absurd good

-- `slot` and `shared` differ
no_slot : codes "slot" ≡ codes "shared" → ⊥
no_slot is = false≢true ((bytes_eq-Decides (codes "slot") (codes "shared")).1 is)

same_holder : (a b : Holder) → IsGoodHolder a → IsGoodHolder b → word_of_holder a ≡ word_of_holder b
    → how_of_holder a ≡ how_of_holder b → a ≡ b
same_holder nobody nobody good fine is how = refl
same_holder nobody (in_slot name) good fine is how = absurd (no_name name fine is)
same_holder nobody (in_unused name) good fine is how = absurd (no_name name fine is)
same_holder (in_slot name) nobody good fine is how = absurd (no_name name good (sym is))
same_holder (in_unused name) nobody good fine is how = absurd (no_name name good (sym is))
same_holder (in_slot name) (in_slot other) good fine is how = ap in_slot is
same_holder (in_unused name) (in_unused other) good fine is how = ap in_unused is
same_holder (in_slot name) (in_unused other) good fine is how = absurd (no_slot how)
same_holder (in_unused name) (in_slot other) good fine is how = absurd (no_slot (sym how))

-- two things of one kind that are said by the same words are one
same_kind : (a b : Told) → IsGood a → IsGood b → kind a ≡ kind b → told_words a ≡ told_words b → a ≡ b
same_kind (head m k) (head n l) good fine same is =
    let a = same_number m n (let h = good in omega arith) (let h = fine in omega arith) (same_word 2 _ _ is) in
    let b = same_number k l (let h = good in omega arith) (let h = fine in omega arith) (same_word 4 _ _ is) in
    ap (λ (x : ℕ). head x k) a ∙ ap (λ (x : ℕ). head n x) b
same_kind (posted n) (posted m) good fine same is = ap posted (same_number n m good fine (same_word 1 _ _ is))
same_kind end end good fine same is = refl
same_kind cut cut good fine same is = refl
same_kind done done good fine same is = refl
same_kind (report words) (report others) good fine same is = ap report is
same_kind (item words) (item others) good fine same is = ap item is
same_kind (task name t n h) (task other u m g) good fine same is =
    let a = same_word 1 _ _ is in
    let b = same_number t u good.1 fine.1 (same_word 3 _ _ is) in
    let c = same_number n m good.2 fine.2 (same_word 5 _ _ is) in
    let d = same_number h g (let low = good.3 in omega arith) (let low = fine.3 in omega arith) (same_word 7 _ _ is) in
    ap (λ (x : List ℕ). task x t n h) a ∙ (ap (λ (x : ℕ). task other x n h) b
    ∙ (ap (λ (x : ℕ). task other u x h) c ∙ ap (λ (x : ℕ). task other u m x) d))
same_kind (core c) (core d) good fine same is =
    ap core (same_number c d (omega (arith, good)) (omega (arith, fine)) (same_word 1 _ _ is))
same_kind (entry c r n) (entry d q m) good fine same is =
    let a = same_number c d (let low = good.0 in omega arith) (let low = fine.0 in omega arith) (same_word 1 _ _ is) in
    let b = same_number r q good.1 fine.1 (same_word 3 _ _ is) in
    let e = same_number n m good.2 fine.2 (same_word 5 _ _ is) in
    ap (λ (x : ℕ). entry x r n) a ∙ (ap (λ (x : ℕ). entry d x n) b ∙ ap (λ (x : ℕ). entry d q x) e)
same_kind (stint c f t u v held) (stint d g w x y holder) good fine same is =
    let a = same_number c d (let low = good.0 in omega arith) (let low = fine.0 in omega arith) (same_word 1 _ _ is) in
    let b = same_number f g good.1 fine.1 (same_word 2 _ _ is) in
    let e = same_number t w good.2 fine.2 (same_word 3 _ _ is) in
    let h = same_number u x good.3 fine.3 (same_word 5 _ _ is) in
    let i = same_number v y good.4 fine.4 (same_word 7 _ _ is) in
    let j = same_holder held holder good.5 fine.5 (same_word 8 _ _ is) (same_word 9 _ _ is) in
    ap (λ (z : ℕ). stint z f t u v held) a ∙ (ap (λ (z : ℕ). stint d z t u v held) b
    ∙ (ap (λ (z : ℕ). stint d g z u v held) e ∙ (ap (λ (z : ℕ). stint d g w z v held) h
    ∙ (ap (λ (z : ℕ). stint d g w x z held) i ∙ ap (λ (z : Holder). stint d g w x y z) j))))
same_kind (segment to held) (segment other holder) good fine same is =
    let a = same_number to other good.0 fine.0 (same_word 0 _ _ is) in
    let b = same_owner held holder good.1 fine.1 (same_word 1 _ _ is) in
    ap (λ (x : ℕ). segment x held) a ∙ ap (λ (x : Holder). segment other x) b
same_kind a b good fine same is = absurd (omega (arith, same))

-- the words say one thing
pub one_told : (a b : Told) → IsGood a → IsGood b → told_words a ≡ told_words b → a ≡ b
one_told a b good fine is =
    same_kind a b good fine (sym (kind_told a good) ∙ (ap kind_of is ∙ kind_told b fine)) is

-- ---- what a text tells

-- the lines of what is said are the same, as far as the shorter list goes
pub front_told : (some all : List Told) (back : List Line) → All IsGood some → All IsGood all
    → map told_words some ++ back ≡ map told_words all
    → (rest : List Told) × (all ≡ some ++ rest) × (back ≡ map told_words rest)
front_told [] all back good fine is = (all, refl, is)
front_told (t ∷ some) [] back good fine is = absurd (cc)
front_told (t ∷ some) (u ∷ all) back good fine is =
    let words : told_words t ≡ told_words u = ap (λ (l : List Line). get_or l 0 []) is in
    let rest : map told_words some ++ back ≡ map told_words all = cc in
    let first = one_told t u (All-head IsGood t some good) (All-head IsGood u all fine) words in
    let more = front_told some all back (All-tail IsGood t some good) (All-tail IsGood u all fine) rest in
    (more.0, ap (λ (x : Told). x ∷ all) (sym first) ∙ ap (λ ts. t ∷ ts) more.1, more.2)

-- what is said leaves one prefix
pub one_front : (front : Front) (tolds : List Told) (last other : Front) → IsLed front tolds last
    → IsLed front tolds other → last ≡ other
one_front front [] last other led is = sym led ∙ is
one_front front (told ∷ tolds) last other led is =
    let next : led.0 ≡ is.0 = let a = led.1 in let b = is.1 in cc in
    one_front is.0 tolds last other (subst (λ (f : Front). IsLed f tolds last) next led.2) is.2

-- what is said after a prefix is said from where that is
led_behind : (front : Front) (some rest : List Told) (middle last : Front) → IsLed front some middle
    → IsLed front (some ++ rest) last → IsLed middle rest last
led_behind front [] rest middle last led is = subst (λ (f : Front). IsLed f rest last) led is
led_behind front (told ∷ some) rest middle last led is =
    let next : led.0 ≡ is.0 = let a = led.1 in let b = is.1 in cc in
    led_behind is.0 some rest middle last (subst (λ (f : Front). IsLed f some middle) next led.2) is.2

nothing_behind : (some rest : List Told) → rest ≡ [] → some ++ rest ≡ some
nothing_behind some rest none = ap (λ ts. some ++ ts) none ∙ append-nil some

-- a text says one thing
pub one_text : (bytes : List ℕ) (tolds others : List Told) (front last : Front) → IsText bytes tolds front
    → IsText bytes others last → (tolds ≡ others) × (front ≡ last)
one_text bytes tolds others front last text other =
    let lines : map told_words tolds ++ [] ≡ map told_words others =
    append-nil (map told_words tolds) ∙ (sym text.told.written ∙ other.told.written) in
    let parts = front_told tolds others [] text.told.good other.told.good lines in
    let none : parts.0 ≡ [] = no_told parts.0 parts.2 in
    let same : tolds ≡ others = sym (parts.1 ∙ nothing_behind tolds parts.0 none) in
    (same, one_front start others front last (subst (λ ts. IsLed start ts front) same text.led) other.led)
  where
    no_told : (rest : List Told) → [] ≡ map told_words rest → rest ≡ []
    no_told [] is = refl
    no_told (t ∷ rest) is = absurd (cc)

-- a text goes on after its prefix
goes_right : (front last : Front) (rest : List Told) (back : List Line) → All IsGood rest
    → back ≡ map told_words rest → IsLed front rest last → may_end last.place ≡ true → ViewGoesWrong front back → ⊥
goes_right front last [] [] good is led whole wrong =
    false≢true (sym wrong ∙ subst (λ (f : Front). may_end f.place ≡ true) (sym led) whole)
goes_right front last [] (line ∷ back) good is led whole wrong = absurd (cc)
goes_right front last (t ∷ rest) [] good is led whole wrong = absurd (cc)
goes_right front last (t ∷ rest) (line ∷ back) good is led whole (inl nothing) =
    nothing t (record {
      written = ap (λ (l : List Line). get_or l 0 []) is;
      good = All-head IsGood t rest good;
    })
goes_right front last (t ∷ rest) (line ∷ back) good is led whole (inr misplaced) =
    let words : line ≡ told_words t = ap (λ (l : List Line). get_or l 0 []) is in
    let same : misplaced.told ≡ t = one_told misplaced.told t misplaced.says.good (All-head IsGood t rest good)
    (sym misplaced.says.written ∙ words) in
    let none : front_behind front t ≡ None =
    subst (λ (u : Told). front_behind front u ≡ None) same misplaced.wrong in
    let some = led.1 in
    absurd (let no : None ≡ Some led.0 = sym none ∙ some in cc)

-- a text that goes on after its prefix has no bad line
pub no_bad_line : (bytes : List ℕ) (tolds : List Told) (front : Front) (bad : ℕ) → IsText bytes tolds front
    → IsFirstBad bytes bad → ⊥
no_bad_line bytes tolds front bad text is =
    let lines : map told_words is.tolds ++ is.back ≡ map told_words tolds =
    ap (λ ls. ls ++ is.back) (sym is.told.written) ∙ (sym is.whole ∙ text.told.written) in
    let parts = front_told is.tolds tolds is.back is.told.good text.told.good lines in
    let led : IsLed start (is.tolds ++ parts.0) front = subst (λ ts. IsLed start ts front) parts.1 text.led in
    let good : All IsGood (is.tolds ++ parts.0) = subst (All IsGood) parts.1 text.told.good in
    goes_right is.front front parts.0 is.back (good_behind is.tolds parts.0 good) parts.2
    (led_behind start is.tolds parts.0 is.front front is.led led) text.whole is.wrong
  where
    good_behind : (some rest : List Told) → All IsGood (some ++ rest) → All IsGood rest
    good_behind [] rest good = good
    good_behind (t ∷ some) rest good = good_behind some rest (All-tail IsGood t (some ++ rest) good)
