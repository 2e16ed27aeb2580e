-- The last segments of a list of segments.
use Rattle.std.proofs.Common.{◌≡◌, ℕ, ◌+◌, ◌-◌, ◌<◌, ◌≤◌, Bool, List, [], ◌∷◌, ◌++◌, length, map, get_or, set, refl, ap, subst, sym, ◌∙◌, arith, append_assoc, length-append}
use Rattle.std.proofs.Math.Seq.{get_or-append_seam, set-append_seam}
use Rattle.std.proofs.lemmas.List.{map-append}
use Rattle.std.specs.Prelude.{IsTrue}
use Rattle.tab_core.specs.declared.piece.Piece.{Piece}
use Rattle.table_form.specs.Tables.Segments.{AreMaximal, SegmentView, segment_view}
use Rattle.table_form.specs.declared.segment.Segment.{Segment}
use Rattle.coalesce.specs.Joining.{CanSwap}
use Rattle.coalesce.specs.Inside.Passing.{CanSwapLast, EndBelow}
use Rattle.table_form.proofs.AppendingLemmas.{in_parts, last_one, set_last}

-- segments that end with two
pub record LastTwo (ss : List Segment) (xs : List SegmentView) (u t : SegmentView) : Type 0 where
  pub front : List Segment
  pub a : Segment
  pub b : Segment
  pub is : ss ≡ front ++ a ∷ b ∷ []
  pub first : map segment_view front ≡ xs
  pub second : segment_view a ≡ u
  pub last : segment_view b ≡ t

-- an equation on the last two views as one on the segments, so that writes by index can be read off
pub last_two : (ss : List Segment) (xs : List SegmentView) (u t : SegmentView)
    → map segment_view ss ≡ xs ++ u ∷ t ∷ []
    → LastTwo ss xs u t
last_two ss xs u t e = let parts = in_parts ss xs
    (u ∷ t ∷ []) e in of_parts parts.front parts.bs parts.is parts.first parts.second
  where
    of_parts : (fs bs : List Segment) → ss ≡ fs ++ bs → map segment_view fs ≡ xs
        → map segment_view bs ≡ u ∷ t ∷ []
        → LastTwo ss xs u t
    of_parts fs [] is first second = absurd cc
    of_parts fs (a ∷ []) is first second = absurd cc
    of_parts fs (a ∷ b ∷ []) is first second =
        record { front = fs; a = a; b = b; is = is; first = first; second = cc; last = cc }
    of_parts fs (a ∷ b ∷ c ∷ bs) is first second = absurd cc

-- the last one, by its place
pub last_at : (ss : List Segment) (xs : List SegmentView) (t : SegmentView) (i : ℕ) (d : Segment)
    → map segment_view ss ≡ xs ++ t ∷ [] → i + 1 ≡ length ss → segment_view (get_or ss i d) ≡ t
last_at ss xs t i d e last =
    let one = last_one ss xs t e in
    let at : i ≡ length one.front =
    omega (arith, ap length one.is, length-append one.front (one.b ∷ []), last) in
    ap segment_view (ap (λ n. get_or ss n d) at ∙ ap (λ ts. get_or ts (length one.front) d) one.is
    ∙ get_or-append_seam one.front one.b [] d) ∙ one.last

-- the last but one
pub last_but_one_at : (ss : List Segment) (xs : List SegmentView) (u t : SegmentView) (i : ℕ) (d : Segment)
    → map segment_view ss ≡ xs ++ u ∷ t ∷ [] → i + 2 ≡ length ss → segment_view (get_or ss i d) ≡ u
last_but_one_at ss xs u t i d e last =
    let two = last_two ss xs u t e in
    let at : i ≡ length two.front = omega (
      arith,
      ap length two.is,
      length-append two.front
          (two.a ∷ two.b ∷ []),
      last,
    ) in
    ap segment_view (ap (λ n. get_or ss n d) at ∙ ap (λ ts. get_or ts (length two.front) d) two.is
    ∙ get_or-append_seam two.front two.a (two.b ∷ []) d) ∙ two.second

-- the last two are a last one after another last one
pub of_last_two : (xs : List SegmentView) (u t : SegmentView) → xs ++ u ∷ t ∷ [] ≡ (xs ++ u ∷ []) ++ t ∷ []
of_last_two xs u t = sym (append_assoc xs (u ∷ []) (t ∷ []))

-- writes to the last two places change their views alone
pub set_last_two : (ss : List Segment) (xs : List SegmentView) (u t : SegmentView) (i j : ℕ) (p q : Segment)
    → map segment_view ss ≡ xs ++ u ∷ t ∷ [] → i + 2 ≡ length ss → j + 1 ≡ length ss
    → map segment_view (set (set ss i p) j q) ≡ xs ++ segment_view p ∷ segment_view q ∷ []
set_last_two ss xs u t i j p q e last last' =
    let two = last_two ss xs u t e in
    let at : i ≡ length two.front = omega (
      arith,
      ap length two.is,
      length-append two.front
          (two.a ∷ two.b ∷ []),
      last,
    ) in
    let first : set ss i p ≡ two.front ++ p ∷ two.b ∷ [] = ap (λ n. set ss n p) at ∙ ap
    (λ ts. set ts (length two.front) p) two.is ∙ set-append_seam two.front two.a (two.b ∷ []) p in
    let shown : map segment_view (set ss i p) ≡ (xs ++ segment_view p ∷ []) ++ segment_view two.b ∷ []
    = ap (map segment_view) first ∙ map-append segment_view two.front (p ∷ two.b ∷ []) ∙ ap
    (λ us. us ++ segment_view p ∷ segment_view two.b ∷ []) two.first ∙ of_last_two xs (segment_view p)
    (segment_view two.b) in
    let size : j + 1 ≡ length (set ss i p) = omega
    (arith, ap length first, length-append two.front (p ∷ two.b ∷ []), at) in
    set_last (set ss i p) (xs ++ segment_view p ∷ []) (segment_view two.b) j q shown size ∙ sym
    (of_last_two xs (segment_view p) (segment_view q))

-- two or more have a last one and one before it
pub two_ends : (ss : List Segment) → 2 ≤ length ss
    → (xs : List SegmentView) × (u : SegmentView) × (t : SegmentView) ×
    (map segment_view ss ≡ xs ++ u ∷ t ∷ [])
two_ends [] le = absurd (omega arith)
two_ends (a ∷ []) le = absurd (omega arith)
two_ends (a ∷ b ∷ []) le = ([], segment_view a, segment_view b, refl)
two_ends (a ∷ b ∷ c ∷ ss) le =
    let rest = two_ends (b ∷ c ∷ ss) (omega arith) in
    (segment_view a ∷ rest.0, rest.1, rest.2, ap (λ ts. segment_view a ∷ ts) rest.3)

-- two lists of two ends are one
pub record SameEnds (xs ys : List SegmentView) (u t v w : SegmentView) : Type 0 where
  pub before : xs ≡ ys
  pub first : u ≡ v
  pub second : t ≡ w

-- what one call names as the last two is what another does
pub same_ends : (xs ys : List SegmentView) (u t v w : SegmentView) → xs ++ u ∷ t ∷ [] ≡ ys ++ v ∷ w ∷ []
    → SameEnds xs ys u t v w
same_ends [] [] u t v w e = record { before = refl; first = cc; second = cc }
same_ends [] (y ∷ []) u t v w e = absurd cc
same_ends [] (y ∷ z ∷ []) u t v w e = absurd cc
same_ends [] (y ∷ z ∷ a ∷ ys) u t v w e = absurd cc
same_ends (x ∷ []) [] u t v w e = absurd cc
same_ends (x ∷ z ∷ []) [] u t v w e = absurd cc
same_ends (x ∷ z ∷ a ∷ xs) [] u t v w e = absurd cc
same_ends (x ∷ xs) (y ∷ ys) u t v w e =
    let here : x ≡ y = cc in
    let rest = same_ends xs ys u t v w (let there : xs ++ u ∷ t ∷ [] ≡ ys ++ v ∷ w ∷ [] = cc in there) in
    let more = rest.before in
    record { before = cc; first = rest.first; second = rest.second }

-- in segments that end below a tick each ends below it
pub ends_before : (start : ℕ) (xs : List SegmentView) (t : SegmentView) (ts : List SegmentView) (end : ℕ)
    → AreMaximal start
    (xs ++ t ∷ ts) end → (start < t.end) × AreMaximal t.end ts end
ends_before start [] t ts end m = (m.0, m.2)
ends_before start (x ∷ xs) t ts end m = let rest = ends_before x.end xs t ts end m.2 in
    (omega (arith, m.0, rest.0), rest.1)

-- the last two segments end below the tick
pub two_rise : (ss : List Segment) (tick i j : ℕ) (d e : Segment) → EndBelow (map segment_view ss) tick
    → i + 2 ≡ length ss → j + 1 ≡ length ss
    → ((get_or ss i d).end < (get_or ss j e).end) × ((get_or ss j e).end < tick)
two_rise ss tick i j d e below at at' =
    let two = two_ends ss (omega arith) in
    let last = two_ends_shape two.0 two.1 two.2 two.3 in
    let u = last_but_one_at ss two.0 two.1 two.2 i d two.3 at in
    let t = last_at ss (two.0 ++ two.1 ∷ []) two.2 j e last at' in
    let rest = ends_before 0 two.0 two.1 (two.2 ∷ []) below.reached
    (subst (λ ts. AreMaximal 0 ts below.reached) two.3 below.maximal) in
    let u_end = ap (λ (s : SegmentView). s.end) u in
    let t_end = ap (λ (s : SegmentView). s.end) t in
    (omega (arith, rest.1.0), omega (arith, rest.1.2, below.below))
  where
    two_ends_shape : (xs : List SegmentView) (u t : SegmentView) → map segment_view ss ≡ xs ++ u ∷ t ∷ []
        → map segment_view ss ≡
        (xs ++ u ∷ []) ++ t ∷ []
    two_ends_shape xs u t is = is ∙ of_last_two xs u t

-- the last two may be swapped with the next where these two may
pub last_two_can : (pieces : List Piece) (sliver : ℕ) (ss : List Segment) (next : SegmentView) (a b : Segment)
    (test : Bool) → 2 ≤ length ss
    → a ≡ get_or ss (length ss - 2) a → b ≡ get_or ss (length ss - 1) b
    → (IsTrue test → CanSwap pieces sliver (segment_view a) (segment_view b) next) ×
    (CanSwap pieces sliver (segment_view a) (segment_view b) next → IsTrue test)
    → (IsTrue test → CanSwapLast pieces sliver (map segment_view ss) next) ×
    (CanSwapLast pieces sliver (map segment_view ss) next → IsTrue test)
last_two_can pieces sliver ss next a b test le at_a at_b tells = (if_true, if_can)
  where
    here : (xs : List SegmentView) (u t : SegmentView) → map segment_view ss ≡ xs ++ u ∷ t ∷ []
        → (segment_view a ≡ u) ×
        (segment_view b ≡ t)
    here xs u t is = (
      ap segment_view at_a ∙ last_but_one_at ss xs u t (length ss - 2) a is (omega arith),
      ap segment_view at_b ∙ last_at ss (xs ++ u ∷ []) t (length ss - 1) b (is ∙ of_last_two xs u t)
          (omega arith),
    )

    if_true : IsTrue test → CanSwapLast pieces sliver (map segment_view ss) next
    if_true holds =
        let two = two_ends ss le in
        let is = here two.0 two.1 two.2 two.3 in
        record {
          before = two.0;
          x = two.1;
          y = two.2;
          is = two.3;
          can = subst (λ x. CanSwap pieces sliver x two.2 next) is.0
              (subst (λ y. CanSwap pieces sliver (segment_view a) y next) is.1 (tells.0 holds));
        }

    if_can : CanSwapLast pieces sliver (map segment_view ss) next → IsTrue test
    if_can last =
        let is = here last.before last.x last.y last.is in
        tells.1 (subst (λ x. CanSwap pieces sliver x (segment_view b) next) (sym is.0)
        (subst (λ y. CanSwap pieces sliver last.x y next) (sym is.1) last.can))

-- the last two take the places of a swap
pub swap_ends : (ss : List Segment) (end i j : ℕ) (p q a b : Segment) (before : List SegmentView)
    (x y : SegmentView)
    → map segment_view ss ≡ before ++ x ∷ y ∷ []
    → i + 2 ≡ length ss → j + 1 ≡ length ss → a ≡ get_or ss i a → b ≡ get_or ss j b
    → segment_view p ≡ record { owner = a.owner; end = a.end + (end - b.end) }
    → segment_view q ≡ record { owner = b.owner; end = end }
    → map segment_view (set (set ss i p) j q) ≡ before ++ record {
      owner = x.owner;
      end = x.end +
          (end - y.end);
    } ∷ record { owner = y.owner; end = end } ∷ []
swap_ends ss end i j p q a b before x y is last last' at_a at_b of_p of_q =
    let same_x : segment_view a ≡ x = ap segment_view at_a ∙ last_but_one_at ss before x y i a is last in
    let same_y : segment_view b ≡ y = ap segment_view at_b ∙ last_at ss (before ++ x ∷ []) y j b
    (is ∙ of_last_two before x y) last' in
    let first : SegmentView → SegmentView → SegmentView =
    λ u t. record { owner = u.owner; end = u.end + (end - t.end) } in
    let second : SegmentView → SegmentView = λ t. record { owner = t.owner; end = end } in
    set_last_two ss before x y i j p q is last last'
    ∙ ap (λ s. before ++ s ∷ segment_view q ∷ [])
    (of_p ∙ ap (λ u. first u (segment_view b)) same_x ∙ ap (first x) same_y)
    ∙ ap (λ s. before ++ first x y ∷ s ∷ []) (of_q ∙ ap second same_y)
