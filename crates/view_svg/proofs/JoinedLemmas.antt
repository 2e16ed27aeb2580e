-- How a loop over the bars makes their boxes and seams.
use Rattle.std.proofs.Common.{refl, ap, sym, ◌∙◌, ◌≡◌, ℕ, ◌+◌, ◌<◌, Bool, true, false, not, List, [], ◌∷◌, ◌++◌, length, get_or, drop, append_assoc}
use Rattle.std.proofs.lemmas.Bool.{and_parts, eqb-true, not-true}
use Rattle.std.proofs.lemmas.List.{at_drop_more}
use Rattle.std.specs.Prelude.{◌==◌, ◌&&◌, ◌%◌, if◌then◌else◌}
use Rattle.tab_core.specs.declared.TheConstants.{ROUND}
use Rattle.view_lanes.specs.declared.frame.Bar.{Bar}
use Rattle.view_lanes.specs.declared.frame.Frame.{Frame}
use Rattle.view_svg.specs.Joined.{boxes_of, boxes_with, is_one_box, seams_after}

-- ---- bars of one box

-- they are of one key, not shared, and the second begins where the first ends
pub record AreOneBox (bar next : Bar) : Type 0 where
  pub plain : bar.shared ≡ false
  pub next_plain : next.shared ≡ false
  pub key : bar.key ≡ next.key
  pub at : bar.end ≡ next.from

pub one_box : (f : Frame) (bar next : Bar) → is_one_box f bar next ≡ true → AreOneBox bar next
one_box f bar next is =
    let round = not (f.has_rounds && (next.from % ROUND == 0)) in
    let last = (bar.end == next.from) && round in
    let slots = (and_parts f.is_run (not bar.shared && (not next.shared && ((bar.key == next.key) && last))) is).1 in
    let first = and_parts (not bar.shared) (not next.shared && ((bar.key == next.key) && last)) slots in
    let second = and_parts (not next.shared) ((bar.key == next.key) && last) first.1 in
    let key = and_parts (bar.key == next.key) last second.1 in
    let at = and_parts (bar.end == next.from) round key.1 in
    record {
      plain = not-true bar.shared first.0;
      next_plain = not-true next.shared second.0;
      key = eqb-true bar.key next.key key.0;
      at = eqb-true bar.end next.from at.0;
    }

-- a bar is in one box with a box that begins with another bar if it is with that bar
same_box : (f : Frame) (bar next box : Bar) → is_one_box f next box ≡ true
    → is_one_box f bar (record box { from = next.from }) ≡ is_one_box f bar next
same_box f bar next box is =
    let one = one_box f next box is in
    let way : box.shared ≡ next.shared = one.next_plain ∙ sym one.plain in
    rw (← one.key, way) refl

-- ---- boxes

-- the boxes of two bars, whether or not the second is in one with what is after it
with_next_by : (f : Frame) (bar next box : Bar) (boxes : List Bar) (joins : Bool) → is_one_box f next box ≡ joins
    → boxes_with f bar (if joins then (record box { from = next.from }) ∷ boxes else next ∷ (box ∷ boxes))
    ≡ (if is_one_box f bar next
    then (if joins then (record box { from = bar.from }) ∷ boxes else (record next { from = bar.from }) ∷ (box ∷ boxes))
    else bar ∷ (if joins then (record box { from = next.from }) ∷ boxes else next ∷ (box ∷ boxes)))
with_next_by f bar next box boxes true is = rw (same_box f bar next box is) refl
with_next_by f bar next box boxes false is = refl

-- two bars of one box are as one that begins where the first does, and another bar is a box of its own
with_next : (f : Frame) (bar next : Bar) (boxes : List Bar)
    → boxes_with f bar (boxes_with f next boxes)
    ≡ (if is_one_box f bar next then boxes_with f (record next { from = bar.from }) boxes
    else bar ∷ boxes_with f next boxes)
with_next f bar next [] = refl
with_next f bar next (box ∷ boxes) = with_next_by f bar next box boxes (is_one_box f next box) refl

-- a loop that has made boxes goes on with a bar that is in the last
pub box_grows : (f : Frame) (made bars all : List Bar) (last d : Bar) (i : ℕ) → i < length bars
    → is_one_box f last (get_or bars i d) ≡ true → made ++ boxes_of f (last ∷ drop i bars) ≡ all
    → made ++ boxes_of f ((record (get_or bars i d) { from = last.from }) ∷ drop (i + 1) bars) ≡ all
box_grows f made bars all last d i low is so =
    let grown : boxes_of f (last ∷ (get_or bars i d ∷ drop (i + 1) bars))
    ≡ boxes_of f ((record (get_or bars i d) { from = last.from }) ∷ drop (i + 1) bars) =
    with_next f last (get_or bars i d) (boxes_of f (drop (i + 1) bars)) ∙ rw is refl in
    sym (at_drop_more (λ (left : List Bar). made ++ boxes_of f (last ∷ left)) bars i d low
    ∙ ap (λ (boxes : List Bar). made ++ boxes) grown) ∙ so

-- a loop that has made boxes goes on with a bar that isn't in the last
pub box_ends : (f : Frame) (made bars all : List Bar) (last d : Bar) (i : ℕ) → i < length bars
    → is_one_box f last (get_or bars i d) ≡ false → made ++ boxes_of f (last ∷ drop i bars) ≡ all
    → (made ++ last ∷ []) ++ boxes_of f (get_or bars i d ∷ drop (i + 1) bars) ≡ all
box_ends f made bars all last d i low is so =
    let apart : boxes_of f (last ∷ (get_or bars i d ∷ drop (i + 1) bars))
    ≡ last ∷ boxes_of f (get_or bars i d ∷ drop (i + 1) bars) =
    with_next f last (get_or bars i d) (boxes_of f (drop (i + 1) bars)) ∙ rw is refl in
    append_assoc made (last ∷ []) (boxes_of f (get_or bars i d ∷ drop (i + 1) bars))
    ∙ sym (at_drop_more (λ (left : List Bar). made ++ boxes_of f (last ∷ left)) bars i d low
    ∙ ap (λ (boxes : List Bar). made ++ boxes) apart) ∙ so

-- ---- seams

-- a loop that has found seams goes on with a bar that is in one box with the one before
pub seam_found : (f : Frame) (found bars all : List Bar) (last d : Bar) (i : ℕ) → i < length bars
    → is_one_box f last (get_or bars i d) ≡ true → found ++ seams_after f last (drop i bars) ≡ all
    → (found ++ get_or bars i d ∷ []) ++ seams_after f (get_or bars i d) (drop (i + 1) bars) ≡ all
seam_found f found bars all last d i low is so =
    let step : seams_after f last (get_or bars i d ∷ drop (i + 1) bars)
    ≡ get_or bars i d ∷ seams_after f (get_or bars i d) (drop (i + 1) bars) = rw is refl in
    append_assoc found (get_or bars i d ∷ []) (seams_after f (get_or bars i d) (drop (i + 1) bars))
    ∙ sym (at_drop_more (λ (left : List Bar). found ++ seams_after f last left) bars i d low
    ∙ ap (λ (seams : List Bar). found ++ seams) step) ∙ so

-- a loop that has found seams goes on with a bar that isn't
pub no_seam : (f : Frame) (found bars all : List Bar) (last d : Bar) (i : ℕ) → i < length bars
    → is_one_box f last (get_or bars i d) ≡ false → found ++ seams_after f last (drop i bars) ≡ all
    → found ++ seams_after f (get_or bars i d) (drop (i + 1) bars) ≡ all
no_seam f found bars all last d i low is so =
    let step : seams_after f last (get_or bars i d ∷ drop (i + 1) bars)
    ≡ seams_after f (get_or bars i d) (drop (i + 1) bars) = rw is refl in
    sym (at_drop_more (λ (left : List Bar). found ++ seams_after f last left) bars i d low
    ∙ ap (λ (seams : List Bar). found ++ seams) step) ∙ so
