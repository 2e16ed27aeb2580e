-- Two rounds that are walked from segment to segment.
use Rattle.std.specs.Prelude.{if◌then◌else◌}
use Rattle.std.proofs.Common.{◌≡◌, ℕ, zero, suc, ◌+◌, ◌-◌, ◌*◌, ◌%◌, ◌<◌, ◌≤◌, ◌∙◌, ap, sym, min, max, ◌&&◌, ◌||◌, nat_le, nat_lt, Bool, true, false, List, [], ◌∷◌, drop, length, get_or, refl, arith, subst, ◌⊎◌, inl, inr}
use Rattle.std.proofs.lemmas.Bool.Decides.{nat_tests}
use Rattle.std.proofs.lemmas.List.{get_or-drop, length-drop}
use Rattle.tab_core.proofs.Lists.{drop_next}
use Rattle.std.specs.List.{list_any}
use Rattle.tab_core.specs.declared.TheConstants.{ROUND}
use Rattle.view_doc.specs.declared.view.Stretch.{Stretch}
use Rattle.view_table.specs.Inside.Walks.{AreByBegin, IsWalked, SegmentsRise, gives, is_slot_in_round, last_mark, next_end, next_mark, next_wait}
use Rattle.view_table.specs.Waits.{EndsAt, is_served, is_slot_of, longest, wait_of, waited}
use Rattle.view_table.proofs.LongestLemmas.{waited_is}
use Rattle.view_table.proofs.WaitLemmas.{longest-zero, served_over, waited-zero, waited_over}

-- no segment begins before this tick of the round
abbrev pub AllBegin : ℕ → List Stretch → Type 0
AllBegin from [] = Unit
AllBegin from (s ∷ ss) = (from ≤ s.from) × AllBegin from ss

-- where the test is the same of each, some pass or none
any_same : (p q : Stretch → Bool) → ((s : Stretch) → p s ≡ q s) → (ss : List Stretch)
    → list_any p ss ≡ list_any q ss
any_same p q same [] = refl
any_same p q same (s ∷ ss) = ap (λ b. b || list_any p ss) (same s) ∙ ap (λ b. q s || b) (any_same p q same ss)

-- before they begin none of them gives a tick
none_gives : (v base x from : ℕ) (ss : List Stretch) → AllBegin from ss → x < base + from
    → list_any (gives v base x) ss ≡ false
none_gives v base x from [] all low = refl
none_gives v base x from (s ∷ ss) all low =
    ap (λ b. b || list_any (gives v base x) ss) (not_yet (is_slot_of v s.by) s.from s.end (omega (arith, all.0)))
    ∙ none_gives v base x from ss all.1 low
  where
    not_yet : (own : Bool) (begin end : ℕ) → x < base + begin
        → (own && (nat_le (base + begin) x && nat_lt x (base + end))) ≡ false
    not_yet true begin end early = grind (arith, nat_tests)
    not_yet false begin end early = refl

-- what one segment from b to c does, where the slots so far reach to `end`
past_one : (served : ℕ → Bool) (end b c wait : ℕ) → wait ≡ longest served end → waited served end ≡ 0 → b < c
    → ((x : ℕ) → end ≤ x → x < b → served x ≡ false)
    → ((x : ℕ) → end ≤ x → b ≤ x → x < c → served x ≡ true)
    → (max wait (b - end) ≡ longest served (max end c)) × (waited served (max end c) ≡ 0)
past_one served end b c wait most met some none all = elim (order end b) [
  | inl gap ↦
      let over = waited_over served end (b - end) met (λ x low high. none x low (omega (arith, high))) in
      let on = served_over served b (c - b) (λ x low high. all x (omega (arith, low, gap)) low (omega (arith, high))) in
      let at_b = ap (longest served) (reach end b gap) in
      let place : b + (c - b) ≡ max end c = omega (arith, gap, some) in (
        omega (arith, most, over.1, at_b, on.1, ap (longest served) place),
        sym (ap (waited served) place) ∙ on.0 (omega (arith, some)),
      )
  | inr past ↦
      let on = served_over served end (c - end) (λ x low high. all x low (omega (arith, low, past)) (omega (arith, high))) in
      let place : end + (c - end) ≡ max end c = omega arith in (
        omega (arith, most, past, on.1, ap (longest served) place),
        sym (ap (waited served) place) ∙ still (c - end) on.0,
      )
]
  where
    order : (a b : ℕ) → (a ≤ b) ⊎ (b < a)
    order a b = grind arith

    reach : (a b : ℕ) → a ≤ b → a + (b - a) ≡ b
    reach a b le = omega (arith, le)

    still : (k : ℕ) → (0 < k → waited served (end + k) ≡ 0) → waited served (end + k) ≡ 0
    still zero more = ap (waited served) {x = end + 0} {y = end} (omega arith) ∙ met
    still (suc k) more = more (omega arith)

-- a slot with a place of the round
due_parts : (own : Bool) (from end : ℕ) → (own && nat_lt from (min end ROUND)) ≡ true
    → (own ≡ true) × (from < min end ROUND)
due_parts true from end due = (refl, grind (arith, nat_tests))
due_parts false from end due = absurd cc

-- a slot gives its ticks
gives_it : (own more : Bool) (base from end x : ℕ) → own ≡ true → base + from ≤ x → x < base + min end ROUND
    → ((own && (nat_le (base + from) x && nat_lt x (base + end))) || more) ≡ true
gives_it true more base from end x is low high =
    let both : (nat_le (base + from) x && nat_lt x (base + end)) ≡ true = grind (arith, nat_tests) in
    ap (λ b. b || more) both
gives_it false more base from end x is low high = absurd cc

-- a slot gives none of the ticks of the round after its end, or where it isn't due
gives_no_more : (own more : Bool) (base from end x : ℕ) → base + min end ROUND ≤ x → x < base + ROUND
    → ((own && (nat_le (base + from) x && nat_lt x (base + end))) || more) ≡ more
gives_no_more true more base from end x low high =
    let no : (nat_le (base + from) x && nat_lt x (base + end)) ≡ false = grind (arith, nat_tests) in
    ap (λ b. b || more) no
gives_no_more false more base from end x low high = refl

gives_none : (own more : Bool) (base from end x : ℕ) → (own && nat_lt from (min end ROUND)) ≡ false
    → x < base + ROUND → ((own && (nat_le (base + from) x && nat_lt x (base + end))) || more) ≡ more
gives_none true more base from end x due high =
    let late : min end ROUND ≤ from = grind (arith, nat_tests) in
    let no : (nat_le (base + from) x && nat_lt x (base + end)) ≡ false = grind (arith, nat_tests) in
    ap (λ b. b || more) no
gives_none false more base from end x due high = refl

-- a wait that is longer than those before ends where the next slot begins
marked_one : (served : ℕ → Bool) (end b wait mark : ℕ) → wait ≤ waited served mark → waited served end ≡ 0
    → ((x : ℕ) → end ≤ x → x < b → served x ≡ false)
    → max wait (b - end) ≤ waited served (if nat_lt wait (b - end) then b else mark)
marked_one served end b wait mark marked met none = elim (order wait (b - end)) [
  | inl more ↦
      let over = waited_over served end (b - end) met (λ x low high. none x low (omega (arith, high))) in
      let place : end + (b - end) ≡ b = omega (arith, more) in
      let at_b : waited served b ≡ b - end = sym (ap (waited served) place) ∙ over.0 in
      let test : nat_lt wait (b - end) ≡ true = grind (arith, nat_tests) in
      rw test (omega (arith, at_b, more))
  | inr less ↦
      let test : nat_lt wait (b - end) ≡ false = grind (arith, nat_tests) in
      rw test (omega (arith, marked, less))
]
  where
    order : (a b : ℕ) → (a < b) ⊎ (b ≤ a)
    order a b = grind arith

-- a wait that is longer than those before ends no later than the rounds
mark_early : (test : Bool) (b mark most : ℕ) → b ≤ most → mark ≤ most → (if test then b else mark) ≤ most
mark_early true b mark most low early = low
mark_early false b mark most low early = early

-- a slot of the vCPU is walked
walk_due : (served : ℕ → Bool) (s : Stretch) (rest : List Stretch) (v base end wait mark : ℕ)
    → is_slot_in_round v s ≡ true → AllBegin s.from rest → IsWalked served (s ∷ rest) v base end wait mark
    → IsWalked served rest v base (max end (base + min s.end ROUND)) (max wait (base + s.from - end))
    (if nat_lt wait (base + s.from - end) then base + s.from else mark)
walk_due served s rest v base end wait mark due all walked =
    let parts = due_parts (is_slot_of v s.by) s.from s.end due in
    let more = λ (x : ℕ). list_any (gives v base x) rest in
    let before : (x : ℕ) → end ≤ x → x < base + s.from → served x ≡ false =
    λ x low high. walked.behind x low (omega (arith, high, parts.1))
    ∙ none_gives v base x s.from (s ∷ rest) (omega arith, all) high in
    let past = past_one served end (base + s.from) (base + min s.end ROUND) wait walked.most walked.met
    (omega (arith, parts.1))
    before
    (λ x low there high. walked.behind x low (omega (arith, high))
    ∙ gives_it (is_slot_of v s.by) (more x) base s.from s.end x parts.0 there high) in
    record {
      within = omega (arith, walked.within);
      most = past.0;
      met = past.1;
      marked = marked_one served end (base + s.from) wait mark walked.marked walked.met before;
      early = mark_early (nat_lt wait (base + s.from - end)) (base + s.from) mark (base + ROUND)
          (omega (arith, parts.1)) walked.early;
      behind = λ x low high. walked.behind x (omega (arith, low)) high
          ∙ gives_no_more (is_slot_of v s.by) (more x) base s.from s.end x (omega (arith, low)) high;
    }

-- another segment changes nothing for the vCPU
walk_other : (served : ℕ → Bool) (s : Stretch) (rest : List Stretch) (v base end wait mark : ℕ)
    → is_slot_in_round v s ≡ false → IsWalked served (s ∷ rest) v base end wait mark
    → IsWalked served rest v base end wait mark
walk_other served s rest v base end wait mark due walked = record {
  within = walked.within;
  most = walked.most;
  met = walked.met;
  marked = walked.marked;
  early = walked.early;
  behind = λ x low high. walked.behind x low high
      ∙ gives_none (is_slot_of v s.by) (list_any (gives v base x) rest) base s.from s.end x due high;
}

bool_cases : (b : Bool) → (b ≡ true) ⊎ (b ≡ false)
bool_cases true = inl refl
bool_cases false = inr refl

-- one segment is walked
walk_one : (served : ℕ → Bool) (s : Stretch) (rest : List Stretch) (v base end wait mark : ℕ)
    → AllBegin s.from rest → IsWalked served (s ∷ rest) v base end wait mark
    → IsWalked served rest v base (next_end v base s end) (next_wait v base s end wait)
    (next_mark v base s end wait mark)
walk_one served s rest v base end wait mark all walked = elim (bool_cases (is_slot_in_round v s)) [
  | inl due ↦ rw due (walk_due served s rest v base end wait mark due all walked)
  | inr due ↦ rw due (walk_other served s rest v base end wait mark due walked)
]

-- what is after a segment of a list in order
all_begin : (from : ℕ) (ss : List Stretch) (d : Stretch)
    → ((k : ℕ) → k < length ss → from ≤ (get_or ss k d).from) → AllBegin from ss
all_begin from [] d each = tt
all_begin from (s ∷ ss) d each =
    (each 0 (omega arith), all_begin from ss d (λ k low. each (suc k) (omega (arith, low))))

-- one more segment of a list in order
pub walk_step : (served : ℕ → Bool) (order : List Stretch) (i : ℕ) (s : Stretch) (v base end wait mark : ℕ)
    (next waits marks : ℕ) → SegmentsRise order → i < length order → s ≡ get_or order i s
    → next ≡ next_end v base s end → waits ≡ next_wait v base s end wait
    → marks ≡ next_mark v base s end wait mark → IsWalked served (drop i order) v base end wait mark
    → IsWalked served (drop (i + 1) order) v base next waits marks
walk_step served order i s v base end wait mark next waits marks rise low here ends longer places walked =
    let at_s : IsWalked served (s ∷ drop (i + 1) order) v base end wait mark =
    subst (λ ss. IsWalked served ss v base end wait mark) (drop_next order i s low here) walked in
    let all : AllBegin s.from (drop (i + 1) order) = all_begin s.from (drop (i + 1) order) s behind in
    rw (ends, longer, places) (walk_one served s (drop (i + 1) order) v base end wait mark all at_s)
  where
    behind : (k : ℕ) → k < length (drop (i + 1) order) → s.from ≤ (get_or (drop (i + 1) order) k s).from
    behind k within =
        let long : length (drop (i + 1) order) ≡ length order - (i + 1) = length-drop (i + 1) order in
        let rises = rise i (i + 1 + k) s (omega arith) (omega (arith, long, within)) in
        rw (get_or-drop (i + 1) order k s)
        (subst (λ (t : Stretch). t.from ≤ (get_or order (i + 1 + k) s).from) (sym here) rises)

-- before the first segment nothing was waited for
pub walk_begin : (slots order : List Stretch) (v : ℕ) → AreByBegin slots order
    → IsWalked (is_served slots v) order v 0 0 0 0
walk_begin slots order v are = record {
  within = omega arith;
  most = sym (longest-zero _);
  met = waited-zero _;
  marked = omega arith;
  early = omega arith;
  behind = λ x low high.
      let place : x % ROUND ≡ x = omega (arith, high) in
      sym (are.same v (x % ROUND)) ∙ any_same _ _ (λ s. first (is_slot_of v s.by) s.from s.end x place) order;
}
  where
    first : (own : Bool) (from till x : ℕ) → x % ROUND ≡ x
        → (own && (nat_le from (x % ROUND) && nat_lt (x % ROUND) till))
        ≡ (own && (nat_le (0 + from) x && nat_lt x (0 + till)))
    first own from till x place =
        let begins : 0 + from ≡ from = omega arith in
        let ends : 0 + till ≡ till = omega arith in
        rw (place, begins, ends) refl

-- the second round begins after the first
pub walk_again : (slots order : List Stretch) (v end wait mark : ℕ) → AreByBegin slots order
    → IsWalked (is_served slots v) [] v 0 end wait mark
    → IsWalked (is_served slots v) order v ROUND end wait mark
walk_again slots order v end wait mark are walked = record {
  within = omega (arith, walked.within);
  most = walked.most;
  met = walked.met;
  marked = walked.marked;
  early = omega (arith, walked.early);
  behind = λ x low high. elim (order_of ROUND x) [
    | inl second ↦
        sym (are.same v (x % ROUND))
        ∙ any_same _ _ (λ s. moved (is_slot_of v s.by) s.from s.end x second high) order
    | inr first ↦ walked.behind x low (omega (arith, first)) ∙ sym (any_none order x first)
  ];
}
  where
    order_of : (a b : ℕ) → (a ≤ b) ⊎ (b < a)
    order_of a b = grind arith

    moved : (own : Bool) (from till x : ℕ) → ROUND ≤ x → x < ROUND + ROUND
        → (own && (nat_le from (x % ROUND) && nat_lt (x % ROUND) till))
        ≡ (own && (nat_le (ROUND + from) x && nat_lt x (ROUND + till)))
    moved false from till x second high = refl
    moved true from till x second high =
        let place : x % ROUND ≡ x - ROUND = omega (arith, second, high) in
        rw place (grind (arith, nat_tests))

    all_zero : (ss : List Stretch) → AllBegin 0 ss
    all_zero [] = tt
    all_zero (s ∷ ss) = (omega arith, all_zero ss)

    any_none : (ss : List Stretch) (x : ℕ) → x < ROUND → list_any (gives v ROUND x) ss ≡ false
    any_none ss x early = none_gives v ROUND x 0 ss (all_zero ss) (omega (arith, early))

-- what is left of the second round is waited
pub walk_end : (slots : List Stretch) (v end wait mark : ℕ)
    → IsWalked (is_served slots v) [] v ROUND end wait mark → max wait (2 * ROUND - end) ≡ wait_of slots v
unfolding wait_of
walk_end slots v end wait mark walked =
    let over = waited_over (is_served slots v) end (2 * ROUND - end) walked.met
    (λ x low high. walked.behind x low (omega (arith, high, walked.within))) in
    let place : end + (2 * ROUND - end) ≡ 2 * ROUND = omega (arith, walked.within) in
    omega (arith, walked.most, over.1, ap (longest (is_served slots v)) place)

-- such a wait ends at the mark
pub walk_marked : (slots : List Stretch) (v end wait mark : ℕ)
    → IsWalked (is_served slots v) [] v ROUND end wait mark
    → EndsAt slots v (wait_of slots v) (last_mark end wait mark)
walk_marked slots v end wait mark walked =
    let longest_is = walk_end slots v end wait mark walked in
    let marked = marked_one (is_served slots v) end (2 * ROUND) wait mark walked.marked walked.met
    (λ x low high. walked.behind x low (omega (arith, high))) in
    let is = waited_is (is_served slots v) (last_mark end wait mark) in record {
      within = mark_early (nat_lt wait (2 * ROUND - end)) (2 * ROUND) mark (2 * ROUND) (omega arith)
          (omega (arith, walked.early));
      since = omega (arith, longest_is, marked, is.0);
      unserved = λ x low high. is.1 x (omega (arith, longest_is, marked, low, is.0)) high;
    }
