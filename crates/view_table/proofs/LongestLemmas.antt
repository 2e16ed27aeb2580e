-- What the longest wait of two rounds is in the endless repetition.
use Rattle.std.proofs.Common.{◌≡◌, ℕ, zero, suc, ◌+◌, ◌-◌, ◌*◌, ◌/◌, ◌%◌, ◌<◌, ◌≤◌, ◌∙◌, ap, sym, max, Bool, true, false, List, refl, arith, ◌⊎◌, inl, inr}
use Rattle.std.specs.List.{list_any}
use Rattle.tab_core.specs.declared.TheConstants.{ROUND}
use Rattle.view_doc.specs.declared.view.Stretch.{Stretch}
use Rattle.view_table.specs.Waits.{IsLongestWait, IsSlotWait, is_served, longest, serves, wait_of, waited}

bool_cases : (b : Bool) → (b ≡ true) ⊎ (b ≡ false)
bool_cases true = inl refl
bool_cases false = inr refl

-- the next step of either
waited-suc-served : (f : ℕ → Bool) (n : ℕ) → f n ≡ true → waited f (suc n) ≡ 0
unfolding waited
waited-suc-served f n is = rw is refl

waited-suc-not : (f : ℕ → Bool) (n : ℕ) → f n ≡ false → waited f (suc n) ≡ suc (waited f n)
unfolding waited
waited-suc-not f n is = rw is refl

waited-none : (f : ℕ → Bool) → waited f 0 ≡ 0
unfolding waited
waited-none f = refl

longest-suc : (f : ℕ → Bool) (n : ℕ) → longest f (suc n) ≡ max (longest f n) (waited f (suc n))
unfolding longest
longest-suc f n = refl

longest-none : (f : ℕ → Bool) → longest f 0 ≡ 0
unfolding longest
longest-none f = refl

-- ticks without a slot right before a tick are waited there
waited_reaches : (f : ℕ → Bool) (n first : ℕ) → ((x : ℕ) → first ≤ x → x < n → f x ≡ false)
    → n - first ≤ waited f n
waited_reaches f zero first none = omega arith
waited_reaches f (suc n) first none = elim (order first n) [
  | inl low ↦
      let before = waited_reaches f n first (λ x a b. none x a (omega arith)) in
      let now = waited-suc-not f n (none n low (omega arith)) in
      omega (arith, before, now)
  | inr past ↦ omega arith
]
  where
    order : (a b : ℕ) → (a ≤ b) ⊎ (b < a)
    order a b = grind arith

-- no run of ticks without a slot below a tick is longer than the longest
longest_reaches : (f : ℕ → Bool) (n first last : ℕ) → first ≤ last → last < n
    → ((x : ℕ) → first ≤ x → x ≤ last → f x ≡ false) → suc last - first ≤ longest f n
longest_reaches f zero first last order low none = omega arith
longest_reaches f (suc n) first last order low none = elim (split last n low) [
  | inl before ↦ omega (arith, longest_reaches f n first last order before none, longest-suc f n)
  | inr at ↦
      let reached = waited_reaches f (suc n) first (λ x a b. none x a (omega (arith, at))) in
      omega (arith, reached, longest-suc f n, at)
]
  where
    split : (last n : ℕ) → last < suc n → (last < n) ⊎ (last ≡ n)
    split last n low = grind arith

-- what is waited at a tick has no slot
pub waited_is : (f : ℕ → Bool) (n : ℕ) → (waited f n ≤ n) × ((x : ℕ) → n - waited f n ≤ x → x < n → f x ≡ false)
waited_is f zero = (omega (arith, waited-none f), λ x a b. absurd (omega (arith, b)))
waited_is f (suc n) = elim (bool_cases (f n)) [
  | inl served ↦
      let now = waited-suc-served f n served in
      (omega (arith, now), λ x a b. absurd (omega (arith, now, a, b)))
  | inr unserved ↦
      let now = waited-suc-not f n unserved in
      let before = waited_is f n in (
        omega (arith, now, before.0),
        λ x a b. elim (split x n b) [
          | inl low ↦ before.1 x (omega (arith, now, a, before.0)) low
          | inr at ↦ ap f at ∙ unserved
        ],
      )
]
  where
    split : (x n : ℕ) → x < suc n → (x < n) ⊎ (x ≡ n)
    split x n low = grind arith

-- a run of ticks below n that is as long as the longest
abbrev IsReached : (ℕ → Bool) → ℕ → ℕ → Type 0
IsReached f n ticks = (ticks ≡ 0) ⊎ ((first : ℕ) × (last : ℕ) × (first ≤ last) × (last < n)
    × ((x : ℕ) → first ≤ x → x ≤ last → f x ≡ false) × (suc last - first ≡ ticks))

longest_is : (f : ℕ → Bool) (n : ℕ) → IsReached f n (longest f n)
longest_is f zero = inl (longest-none f)
longest_is f (suc n) = elim (order (longest f n) (waited f (suc n))) [
  | inl more ↦
      let w = waited_is f (suc n) in
      inr (
        suc n - waited f (suc n),
        n,
        omega (arith, more),
        omega arith,
        λ x a b. w.1 x a (omega (arith, b)),
        omega (arith, more, w.0, longest-suc f n),
      )
  | inr less ↦
      let same : longest f (suc n) ≡ longest f n = omega (arith, less, longest-suc f n) in
      elim (longest_is f n) [
        | inl none ↦ inl (same ∙ none)
        | inr run ↦ inr (run.0, run.1, run.2, omega (arith, run.3), run.4, run.5 ∙ sym same)
      ]
]
  where
    order : (a b : ℕ) → (a < b) ⊎ (b ≤ a)
    order a b = grind arith

-- ---- the repetition

-- a place of a round that comes again
again : (q p : ℕ) → p < ROUND → (ROUND * q + p) % ROUND ≡ p
again q p low = omega arith

-- what is served depends on the place alone
same_place : (slots : List Stretch) (v x y : ℕ) → x % ROUND ≡ y % ROUND → is_served slots v x ≡ is_served slots v y
same_place slots v x y same = ap (λ place. list_any (serves v place) slots) same

-- in each round's length a served place comes
comes : (first place : ℕ) → place < ROUND
    → (x : ℕ) × (first ≤ x) × (x < first + ROUND) × (x % ROUND ≡ place)
comes first place low = elim (order (first % ROUND) place) [
  | inl here ↦
      (ROUND * (first / ROUND) + place, omega arith, omega (arith, here), again (first / ROUND) place low)
  | inr past ↦
      let more : ROUND * (first / ROUND) + (ROUND + place) ≡ ROUND * (first / ROUND + 1) + place = omega arith in (
        ROUND * (first / ROUND + 1) + place,
        omega (arith, low),
        omega (arith, past),
        again (first / ROUND + 1) place low,
      )
]
  where
    order : (a b : ℕ) → (a ≤ b) ⊎ (b < a)
    order a b = grind arith

-- a wait is shorter than a round
short : (slots : List Stretch) (v place first last : ℕ) → place < ROUND → is_served slots v place ≡ true
    → IsSlotWait slots v first last → last < first + ROUND
short slots v place first last low served wait = elim (order last (first + ROUND)) [
  | inl less ↦ less
  | inr more ↦
      let x = comes first place low in
      let place_is : place % ROUND ≡ place = omega (arith, low) in
      let yes : is_served slots v x.0 ≡ true = same_place slots v x.0 place (x.3 ∙ sym place_is) ∙ served in
      let never : false ≡ true = sym (wait.unserved x.0 x.1 (omega (arith, x.2, more))) ∙ yes in
      absurd cc
]
  where
    order : (a b : ℕ) → (a < b) ⊎ (b ≤ a)
    order a b = grind arith

-- a wait is the same in the first two rounds
moved : (slots : List Stretch) (v first last x : ℕ) → IsSlotWait slots v first last → first % ROUND ≤ x
    → x ≤ first % ROUND + (last - first) → is_served slots v x ≡ false
moved slots v first last x wait low high =
    let y : ℕ = ROUND * (first / ROUND) + x in
    let same : y % ROUND ≡ x % ROUND = omega arith in
    sym (same_place slots v y x same)
    ∙ wait.unserved y (omega (arith, low)) (omega (arith, high, wait.order))

-- the law
pub is_longest : (slots : List Stretch) (v place : ℕ) → place < ROUND → is_served slots v place ≡ true
    → IsLongestWait slots v (wait_of slots v)
unfolding wait_of
is_longest slots v place low served = record {
  most = λ first last wait.
      let less = short slots v place first last low served wait in
      let begin = first % ROUND in
      let all = longest_reaches (is_served slots v) (2 * ROUND) begin (begin + (last - first)) (omega arith)
      (omega (arith, less)) (λ x a b. moved slots v first last x wait a b) in
      omega (arith, all, wait.order);
  reached = elim (longest_is (is_served slots v) (2 * ROUND)) [
    | inl none ↦ inl none
    | inr run ↦ inr (run.0, run.1, record { order = run.2; unserved = run.4 }, run.5)
  ];
}
