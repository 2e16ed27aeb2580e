-- Each bar is in exactly one box, and boxes come one after the other and have the ticks of the bars.
use Rattle.std.proofs.Common.{arith, refl, ap, sym, ◌∙◌, ◌≡◌, ◌≢◌, ℕ, ◌<◌, ◌≤◌, inl, inr, Bool, true, false, List, [], ◌∷◌, ◌++◌, length}
use Rattle.std.proofs.lemmas.Bool.{and_left, and_right, cases_eq, eq-eqb, le-leb, lt-leb, ne_eqb}
use Rattle.std.proofs.lemmas.Bool.Decides.{nat_tests}
use Rattle.std.specs.List.{list_any}
use Rattle.std.specs.Prelude.{◌==◌, ◌&&◌, ◌||◌, nat_le, nat_lt, filter, if◌then◌else◌}
use Rattle.view_lanes.specs.declared.frame.Bar.{Bar}
use Rattle.view_lanes.specs.declared.frame.Frame.{Frame}
use Rattle.view_svg.proofs.JoinedLemmas.{AreOneBox, one_box}
use Rattle.view_svg.specs.Boxed.{AreInTurn, has_tick, is_in_box}
use Rattle.view_svg.specs.Joined.{boxes_of, boxes_with, is_one_box, seams_after, seams_of}
use Rattle.view_svg.specs.Lanes.{is_bar_of}

-- what holds of both choices holds of what a test chooses
chosen : (test : Bool) (P : List Bar → Type 0) (one other : List Bar) → (test ≡ true → P one)
    → (test ≡ false → P other) → P (if test then one else other)
chosen true P one other if_so if_not = if_so refl
chosen false P one other if_so if_not = if_not refl

-- ---- without a run, and without a seam

alone_with : (f : Frame) (bar : Bar) (boxes : List Bar) → f.is_run ≡ false → boxes_with f bar boxes ≡ bar ∷ boxes
alone_with f bar [] plan = refl
alone_with f bar (box ∷ boxes) plan = rw plan refl

-- without a run each bar is a box of its own
pub all_alone : (f : Frame) (bars : List Bar) → f.is_run ≡ false → boxes_of f bars ≡ bars
all_alone f [] plan = refl
all_alone f (bar ∷ bars) plan =
    alone_with f bar (boxes_of f bars) plan ∙ ap (λ (rest : List Bar). bar ∷ rest) (all_alone f bars plan)

-- where a bar begins makes nothing of what is after it a seam
seams_alike : (f : Frame) (box : Bar) (boxes : List Bar) (from : ℕ)
    → seams_after f (record box { from = from }) boxes ≡ seams_after f box boxes
seams_alike f box [] from = refl
seams_alike f box (next ∷ boxes) from = refl

seamless_with : (f : Frame) (bar : Bar) (boxes : List Bar) → seams_of f boxes ≡ []
    → seams_of f (boxes_with f bar boxes) ≡ []
seamless_with f bar [] none = refl
seamless_with f bar (box ∷ boxes) none =
    chosen (is_one_box f bar box) (λ made. seams_of f made ≡ []) _ _
    (λ joins. seams_alike f box boxes bar.from ∙ none)
    (λ parted. rw parted none)

-- no box is in one with the one before it
pub seamless : (f : Frame) (bars : List Bar) → seams_of f (boxes_of f bars) ≡ []
seamless f [] = refl
seamless f (bar ∷ bars) = seamless_with f bar (boxes_of f bars) (seamless f bars)

-- ---- boxes come one after the other

in_turn_with : (f : Frame) (key tick : ℕ) (bar : Bar) (boxes : List Bar) → AreInTurn key tick (bar ∷ boxes)
    → AreInTurn key tick (boxes_with f bar boxes)
in_turn_with f key tick bar [] turn = turn
in_turn_with f key tick bar (box ∷ boxes) turn =
    chosen (is_one_box f bar box) (AreInTurn key tick) _ _
    (λ joins.
    let one = one_box f bar box joins in (
      (λ (is : box.key ≡ key).
          let first = turn.0 (one.key ∙ is) in
          let second = first.2.0 is in (
            first.0,
            (let end = first.1 in let from = second.0 in let last = second.1 in omega (arith, end, from, last)),
            second.2,
          )),
      (λ (other : box.key ≢ key). (turn.1 (λ is. other (sym one.key ∙ is))).1 other),
    ))
    (λ parted. turn)

-- boxes come one after the other where bars do
pub boxes_in_turn : (f : Frame) (key tick : ℕ) (bars : List Bar) → AreInTurn key tick bars
    → AreInTurn key tick (boxes_of f bars)
boxes_in_turn f key tick [] turn = tt
boxes_in_turn f key tick (bar ∷ bars) turn =
    in_turn_with f key tick bar (boxes_of f bars) (
      (λ is. let first = turn.0 is in (first.0, first.1, boxes_in_turn f key bar.end bars first.2)),
      (λ other. boxes_in_turn f key tick bars (turn.1 other)),
    )

-- ---- each bar is in exactly one box

-- a bar is in a box that reaches over it
is_held : (bar box : Bar) → is_bar_of bar.key bar.shared box ≡ true → box.from ≤ bar.from → bar.end ≤ box.end
    → is_in_box bar box ≡ true
is_held bar box alike from end = rw (alike, le-leb box.from bar.from from, le-leb bar.end box.end end) refl

-- a bar of this key and way of running is so
is_so : (key : ℕ) (shared : Bool) (bar : Bar) → bar.key ≡ key → bar.shared ≡ shared
    → is_bar_of key shared bar ≡ true
is_so key true bar is way = rw (eq-eqb bar.key key is, way) refl
is_so key false bar is way = rw (eq-eqb bar.key key is, way) refl

-- a bar is not in a box of another key
not_other : (bar box : Bar) → box.key ≢ bar.key → is_in_box bar box ≡ false
not_other bar box other = rw (ne_eqb box.key bar.key other) refl

-- a bar is not in a box that begins after it does
not_later : (bar box : Bar) → bar.from < box.from → is_in_box bar box ≡ false
not_later bar box late =
    and_right (is_bar_of bar.key bar.shared box) (nat_le box.from bar.from && nat_le bar.end box.end)
    (and_left (nat_le box.from bar.from) (nat_le bar.end box.end) (lt-leb box.from bar.from late))

-- a bar is not in a box that ends before it does
not_before : (bar box : Bar) → box.end < bar.end → is_in_box bar box ≡ false
not_before bar box early =
    and_right (is_bar_of bar.key bar.shared box) (nat_le box.from bar.from && nat_le bar.end box.end)
    (and_right (nat_le box.from bar.from) (nat_le bar.end box.end) (lt-leb bar.end box.end early))

-- a bar that begins before a tick is in no box from that tick on
none_later : (tick : ℕ) (bar : Bar) (boxes : List Bar) → bar.from < tick → AreInTurn bar.key tick boxes
    → filter (is_in_box bar) boxes ≡ []
none_later tick bar [] early turn = refl
none_later tick bar (box ∷ boxes) early turn = elim (cases_eq box.key bar.key) [
  | inl is ↦
      let next = turn.0 is in
      let low = next.0 in
      let some = next.1 in
      rw (not_later bar box (omega (arith, low, early)))
      (none_later box.end bar boxes (omega (arith, low, early, some)) next.2)
  | inr other ↦ rw (not_other bar box other) (none_later tick bar boxes early (turn.1 other))
]

-- a bar is in one of the boxes of itself and of what is after it
one_with : (f : Frame) (bar : Bar) (boxes : List Bar) → bar.from < bar.end → AreInTurn bar.key bar.end boxes
    → length (filter (is_in_box bar) (boxes_with f bar boxes)) ≡ 1
one_with f bar [] some turn = rw (is_held bar bar (is_so bar.key bar.shared bar refl refl) (omega arith) (omega arith)) refl
one_with f bar (box ∷ boxes) some turn =
    chosen (is_one_box f bar box) (λ made. length (filter (is_in_box bar) made) ≡ 1) _ _
    (λ joins.
    let one = one_box f bar box joins in
    let next = turn.0 (sym one.key) in
    let from = next.0 in
    let end = next.1 in
    let joined : Bar = record box { from = bar.from } in
    let alike = is_so bar.key bar.shared joined (sym one.key) (one.next_plain ∙ sym one.plain) in
    rw (
      is_held bar joined alike (omega arith) (omega (arith, from, end)),
      none_later box.end bar boxes (omega (arith, some, from, end)) next.2,
    ) refl)
    (λ parted.
    rw (
      is_held bar bar (is_so bar.key bar.shared bar refl refl) (omega arith) (omega arith),
      none_later bar.end bar (box ∷ boxes) some turn,
    ) refl)

-- where a box begins says nothing of its key and way of running
alike_from : (key from : ℕ) (shared : Bool) (box : Bar)
    → is_bar_of key shared (record box { from = from }) ≡ is_bar_of key shared box
alike_from key from true box = refl
alike_from key from false box = refl

-- a bar is in a box that begins with another bar if it is in that box and begins after both
held_longer : (bar box : Bar) (from : ℕ) → from ≤ bar.from → box.from ≤ bar.from
    → is_in_box bar (record box { from = from }) ≡ is_in_box bar box
held_longer bar box from low begins =
    rw (alike_from bar.key from bar.shared box, le-leb from bar.from low, le-leb box.from bar.from begins) refl

-- how many are kept doesn't depend on which is
kept_length : (keeps : Bool) (one other : Bar) (boxes : List Bar)
    → length (if keeps then one ∷ boxes else boxes) ≡ length (if keeps then other ∷ boxes else boxes)
kept_length true one other boxes = refl
kept_length false one other boxes = refl

-- a bar before it that ends in time makes no difference
same_with : (f : Frame) (bar first : Bar) (boxes : List Bar) → first.key ≡ bar.key → bar.from < bar.end
    → first.from ≤ first.end → first.end ≤ bar.from
    → length (filter (is_in_box bar) (boxes_with f first boxes)) ≡ length (filter (is_in_box bar) boxes)
same_with f bar first [] is some was before = rw (not_before bar first (omega (arith, some, before))) refl
same_with f bar first (box ∷ boxes) is some was before =
    chosen (is_one_box f first box)
    (λ made. length (filter (is_in_box bar) made) ≡ length (filter (is_in_box bar) (box ∷ boxes))) _ _
    (λ joins.
    let at = (one_box f first box joins).at in
    rw (held_longer bar box first.from (omega (arith, was, before)) (omega (arith, at, before)))
    (kept_length (is_in_box bar box) (record box { from = first.from }) box (filter (is_in_box bar) boxes)))
    (λ parted. rw (not_before bar first (omega (arith, some, before))) refl)

-- a bar of another key before it makes no difference
other_with : (f : Frame) (bar first : Bar) (boxes : List Bar) → first.key ≢ bar.key
    → length (filter (is_in_box bar) (boxes_with f first boxes)) ≡ length (filter (is_in_box bar) boxes)
other_with f bar first [] other = rw (not_other bar first other) refl
other_with f bar first (box ∷ boxes) other =
    chosen (is_one_box f first box)
    (λ made. length (filter (is_in_box bar) made) ≡ length (filter (is_in_box bar) (box ∷ boxes))) _ _
    (λ joins.
    let key = (one_box f first box joins).key in
    let differs : box.key ≢ bar.key = λ is. other (key ∙ is) in
    rw (not_other bar (record box { from = first.from }) differs, not_other bar box differs) refl)
    (λ parted. rw (not_other bar first other) refl)

-- bars of a key that are after others begin no earlier
begins_later : (tick : ℕ) (before after : List Bar) (bar : Bar) → AreInTurn bar.key tick (before ++ bar ∷ after)
    → tick ≤ bar.from
begins_later tick [] after bar turn = (turn.0 refl).0
begins_later tick (first ∷ before) after bar turn = elim (cases_eq first.key bar.key) [
  | inl is ↦
      let next = turn.0 is in
      let later = begins_later first.end before after bar next.2 in
      let from = next.0 in
      let end = next.1 in
      omega (arith, later, from, end)
  | inr other ↦ begins_later tick before after bar (turn.1 other)
]

-- each bar that has ticks is in exactly one box
pub in_one_box : (f : Frame) (tick : ℕ) (before after : List Bar) (bar : Bar) → bar.from < bar.end
    → AreInTurn bar.key tick (before ++ bar ∷ after)
    → length (filter (is_in_box bar) (boxes_of f (before ++ bar ∷ after))) ≡ 1
in_one_box f tick [] after bar some turn =
    one_with f bar (boxes_of f after) some (boxes_in_turn f bar.key bar.end after (turn.0 refl).2)
in_one_box f tick (first ∷ before) after bar some turn = elim (cases_eq first.key bar.key) [
  | inl is ↦
      let next = turn.0 is in
      same_with f bar first (boxes_of f (before ++ bar ∷ after)) is some next.1
      (begins_later first.end before after bar next.2)
      ∙ in_one_box f first.end before after bar some next.2
  | inr other ↦
      other_with f bar first (boxes_of f (before ++ bar ∷ after)) other
      ∙ in_one_box f tick before after bar some (turn.1 other)
]

-- ---- boxes have the ticks of the bars

or_or : (one two three : Bool) → ((one || two) || three) ≡ (one || (two || three))
or_or true two three = refl
or_or false two three = refl

-- a stretch that another goes on has the ticks of both
both_have : (alike : Bool) (first middle last tick : ℕ) → first ≤ middle → middle ≤ last
    → (alike && (nat_le first tick && nat_lt tick last))
    ≡ ((alike && (nat_le first tick && nat_lt tick middle)) || (alike && (nat_le middle tick && nat_lt tick last)))
both_have false first middle last tick low high = refl
both_have true first middle last tick low high = grind (arith, nat_tests)

-- the box of two bars has the ticks of both
joined_have : (bar box : Bar) (key tick : ℕ) (shared : Bool) → AreOneBox bar box → bar.from ≤ bar.end
    → box.from ≤ box.end
    → has_tick key shared tick (record box { from = bar.from })
    ≡ (has_tick key shared tick bar || has_tick key shared tick box)
joined_have bar box key tick true one low high =
    rw (one.key, one.plain, one.next_plain, one.at)
    (both_have ((box.key == key) && false) bar.from box.from box.end tick (let at = one.at in omega (arith, low, at)) high)
joined_have bar box key tick false one low high =
    rw (one.key, one.plain, one.next_plain, one.at)
    (both_have ((box.key == key) && true) bar.from box.from box.end tick (let at = one.at in omega (arith, low, at)) high)

-- a bar of another key has no tick of this one
no_tick : (key tick : ℕ) (shared : Bool) (bar : Bar) → bar.key ≢ key → has_tick key shared tick bar ≡ false
no_tick key tick shared bar other = rw (ne_eqb bar.key key other) refl

ticks_with : (f : Frame) (start : ℕ) (bar : Bar) (boxes : List Bar) (key tick : ℕ) (shared : Bool)
    → AreInTurn key start boxes → (bar.key ≡ key → bar.from ≤ bar.end)
    → list_any (has_tick key shared tick) (boxes_with f bar boxes)
    ≡ (has_tick key shared tick bar || list_any (has_tick key shared tick) boxes)
ticks_with f start bar [] key tick shared turn low = refl
ticks_with f start bar (box ∷ boxes) key tick shared turn low =
    chosen (is_one_box f bar box) (λ made. list_any (has_tick key shared tick) made
    ≡ (has_tick key shared tick bar || list_any (has_tick key shared tick) (box ∷ boxes))) _ _
    (λ joins.
    let one = one_box f bar box joins in
    elim (cases_eq bar.key key) [
      | inl is ↦
          rw (joined_have bar box key tick shared one (low is) (turn.0 (sym one.key ∙ is)).1)
          (or_or (has_tick key shared tick bar) (has_tick key shared tick box) (list_any (has_tick key shared tick) boxes))
      | inr other ↦
          let differs : box.key ≢ key = λ is. other (one.key ∙ is) in
          rw (
            no_tick key tick shared (record box { from = bar.from }) differs,
            no_tick key tick shared bar other,
            no_tick key tick shared box differs,
          ) refl
    ])
    (λ parted. refl)

-- a tick is in a box of a key if it is in a bar of it
pub same_ticks : (f : Frame) (key start : ℕ) (bars : List Bar) → AreInTurn key start bars
    → (tick : ℕ) (shared : Bool)
    → list_any (has_tick key shared tick) (boxes_of f bars) ≡ list_any (has_tick key shared tick) bars
same_ticks f key start [] turn tick shared = refl
same_ticks f key start (bar ∷ bars) turn tick shared = elim (cases_eq bar.key key) [
  | inl is ↦
      let next = turn.0 is in
      ticks_with f bar.end bar (boxes_of f bars) key tick shared (boxes_in_turn f key bar.end bars next.2) (λ same. next.1)
      ∙ ap (λ (rest : Bool). has_tick key shared tick bar || rest) (same_ticks f key bar.end bars next.2 tick shared)
  | inr other ↦
      ticks_with f start bar (boxes_of f bars) key tick shared (boxes_in_turn f key start bars (turn.1 other))
      (λ same. absurd (other same))
      ∙ ap (λ (rest : Bool). has_tick key shared tick bar || rest)
      (same_ticks f key start bars (turn.1 other) tick shared)
]
