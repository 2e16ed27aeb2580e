-- What is counted of two stretches tells of both together.
use Rattle.std.proofs.Common.{◌≡◌, ℕ, zero, suc, ◌+◌, ◌-◌, ◌<◌, ◌≤◌, inl, inr, Bool, true, false, cond, max, refl, ap, sym, subst, ◌∙◌, arith}
use Rattle.std.specs.Prelude.{◌==◌, if◌then◌else◌}
use Rattle.std.proofs.lemmas.Bool.{cases_lt, cases_eq}
use Rattle.std.proofs.lemmas.Bool.Decides.{nat_tests}
use Rattle.run_counts.specs.declared.stretch.Stretch.{Stretch}
use Rattle.run_counts.specs.Inside.Tells.{AllWait, Tells, passing}
use Rattle.run_counts.specs.Stretches.{joined}

-- a test at two names of one tick
same_test : (f : ℕ → Bool) (x y : ℕ) (b : Bool) → x ≡ y → f x ≡ b → f y ≡ b
same_test f x y b e h = ap f (sym e) ∙ h

-- a tick that waits doesn't not wait
both : (f : ℕ → Bool) (x : ℕ) → f x ≡ true → f x ≡ false → ⊥
both f x h g = absurd cc

-- how many ticks pass in two stretches
passing_join : (test : ℕ → Bool) (from m n : ℕ)
    → passing test from (m + n) ≡ passing test from m + passing test (from + m) n
unfolding passing
passing_join test from m zero = (let e : m + 0 ≡ m = omega arith in rw e (omega arith))
passing_join test from m (suc n) =
    let e : m + suc n ≡ suc (m + n) = omega arith in
    let at : from + (m + n) ≡ from + m + n = omega arith in
    let last : one (test (from + (m + n))) ≡ one (test (from + m + n)) = ap (λ (x : ℕ). one (test x)) at in
    rw e (omega (arith, passing_join test from m n, last))
  where
    one : Bool → ℕ
    one b = cond b 1 0

-- the two cases of a test of equality
record Chosen (a b x y : ℕ) : Type 0 where
  same : a ≡ b → (if a == b then x else y) ≡ x
  other : (a ≡ b → ⊥) → (if a == b then x else y) ≡ y

-- they are so
chosen : (a b x y : ℕ) → Chosen a b x y
chosen a b x y = record {
  same = λ e. (let t : (a == b) ≡ true = grind (arith, nat_tests, e) in rw t refl);
  other = λ ne. (let f : (a == b) ≡ false = grind (arith, nat_tests, ne) in rw f refl);
}

-- two runs of waiting ticks that follow one another
all_join : (waits : ℕ → Bool) (from m n : ℕ) → AllWait waits from m → AllWait waits (from + m) n
    → AllWait waits from (m + n)
all_join waits from m n first second t lt = elim (cases_lt t m) [
  | inl low ↦ first t low
  | inr high ↦ same_test waits (from + m + (t - m)) (from + t) true (omega arith)
      (second (t - m) (omega arith))
]

-- a part of a run
all_part : (waits : ℕ → Bool) (from n t k : ℕ) → t + k ≤ n → AllWait waits from n → AllWait waits (from + t) k
all_part waits from n t k within all u lt =
    same_test waits (from + (t + u)) (from + t + u) true (omega arith) (all (t + u) (omega arith))

-- a run, its begin named otherwise
pub all_at : (waits : ℕ → Bool) (a b n : ℕ) → a ≡ b → AllWait waits a n → AllWait waits b n
all_at waits a b n e all t lt = same_test waits (a + t) (b + t) true (omega (arith, e)) (all t lt)

-- a run that ends a stretch is no longer than its tail
pub at_end : (waits offered : ℕ → Bool) (from : ℕ) (w : Stretch) (t n : ℕ) → Tells waits offered from w
    → t + n ≡ w.ticks → AllWait waits (from + t) n → n ≤ w.tail
at_end waits offered from w t n tells at all = elim (cases_lt w.tail n) [
  | inr le ↦ le
  | inl more ↦ (let p = n - (w.tail + 1) in
      let is : waits (from + t + p) ≡ true = all p (omega arith) in
      let isnt : waits (from + (t + p)) ≡ false = tells.tail_begins (t + p) (omega (arith, at)) in
      absurd (both waits (from + t + p) is (same_test waits (from + (t + p)) (from + t + p) false
      (omega arith) isnt)))
]

-- a run that begins a stretch is no longer than its lead
pub at_begin : (waits offered : ℕ → Bool) (from : ℕ) (w : Stretch) (n : ℕ) → Tells waits offered from w
    → n ≤ w.ticks → AllWait waits from n → n ≤ w.lead
at_begin waits offered from w n tells within all = elim (cases_lt w.lead n) [
  | inr le ↦ le
  | inl more ↦ absurd (both waits (from + w.lead) (all w.lead more) (tells.lead_ends (omega arith)))
]

module _ (waits offered : ℕ → Bool) (from : ℕ) (a b : Stretch) (first : Tells waits offered from a)
    (next : Tells waits offered (from + a.ticks) b) where
  -- the two cases of the lead
  lead_of : Chosen a.lead a.ticks (a.ticks + b.lead) a.lead
  lead_of = chosen a.lead a.ticks (a.ticks + b.lead) a.lead

  -- the two cases of the tail
  tail_of : Chosen b.tail b.ticks (a.tail + b.ticks) b.tail
  tail_of = chosen b.tail b.ticks (a.tail + b.ticks) b.tail

  -- the lead of both
  lead : ℕ
  lead = if a.lead == a.ticks then a.ticks + b.lead else a.lead

  -- the tail of both
  tail : ℕ
  tail = if b.tail == b.ticks then a.tail + b.ticks else b.tail

  -- no longer than both
  lead_small : lead ≤ a.ticks + b.ticks
  unfolding lead
  lead_small = elim (cases_eq a.lead a.ticks) [
    | inl whole ↦ omega (arith, lead_of.same whole, next.small.lead)
    | inr part ↦ omega (arith, lead_of.other part, first.small.lead)
  ]

  -- no longer either
  tail_small : tail ≤ a.ticks + b.ticks
  unfolding tail
  tail_small = elim (cases_eq b.tail b.ticks) [
    | inl whole ↦ omega (arith, tail_of.same whole, first.small.tail)
    | inr part ↦ omega (arith, tail_of.other part, next.small.tail)
  ]

  -- the lead waits
  lead_waits : AllWait waits from lead
  unfolding lead
  lead_waits = elim (cases_eq a.lead a.ticks) [
    | inl whole ↦ subst (AllWait waits from) (sym (lead_of.same whole))
        (all_join waits from a.ticks b.lead (subst (AllWait waits from) whole first.lead) next.lead)
    | inr part ↦ subst (AllWait waits from) (sym (lead_of.other part)) first.lead
  ]

  -- the lead is followed by a tick that doesn't wait
  lead_ends : lead < a.ticks + b.ticks → waits (from + lead) ≡ false
  unfolding lead
  lead_ends lt = elim (cases_eq a.lead a.ticks) [
    | inl whole ↦ (let is = lead_of.same whole in
        same_test waits (from + a.ticks + b.lead) (from + lead) false (omega (arith, is))
        (next.lead_ends (omega (arith, is, lt))))
    | inr part ↦ (let is = lead_of.other part in
        same_test waits (from + a.lead) (from + lead) false (omega (arith, is))
        (first.lead_ends (omega (arith, first.small.lead, part))))
  ]

  -- the tail waits
  tail_waits : (t : ℕ) → a.ticks + b.ticks ≤ t + tail → t < a.ticks + b.ticks → waits (from + t) ≡ true
  unfolding tail
  tail_waits t low lt = elim (cases_lt t a.ticks) [
    | inl early ↦ elim (cases_eq b.tail b.ticks) [
      | inl whole ↦ first.tail t (omega (arith, tail_of.same whole, low)) early
      | inr part ↦ absurd (omega (arith, tail_of.other part, low, next.small.tail))
    ]
    | inr late ↦ same_test waits (from + a.ticks + (t - a.ticks)) (from + t) true (omega arith)
        (next.tail (t - a.ticks) (elim (cases_eq b.tail b.ticks) [
          | inl whole ↦ omega (arith, whole)
          | inr part ↦ omega (arith, tail_of.other part, low)
        ]) (omega arith))
  ]

  -- the tail comes after a tick that doesn't wait
  tail_begins : (t : ℕ) → t + tail + 1 ≡ a.ticks + b.ticks → waits (from + t) ≡ false
  unfolding tail
  tail_begins t at = elim (cases_eq b.tail b.ticks) [
    | inl whole ↦ first.tail_begins t (omega (arith, tail_of.same whole, at))
    | inr part ↦ (let is = tail_of.other part in
        same_test waits (from + a.ticks + (t - a.ticks)) (from + t) false
        (omega (arith, is, at, next.small.tail, part))
        (next.tail_begins (t - a.ticks) (omega (arith, is, at, next.small.tail, part))))
  ]

  -- no run is longer than the greatest of the two and the one across the seam
  longest : (t n : ℕ) → t + n ≤ a.ticks + b.ticks → AllWait waits (from + t) n
      → n ≤ max (max a.most b.most) (a.tail + b.lead)
  longest t n within all = elim (cases_lt a.ticks (t + n)) [
    | inr early ↦ (let le = first.longest t n early all in omega arith)
    | inl crosses ↦ elim (cases_lt t a.ticks) [
      | inr late ↦ (let le = next.longest (t - a.ticks) n (omega arith)
          (all_at waits (from + t) (from + a.ticks + (t - a.ticks)) n (omega arith) all) in omega arith)
      | inl begins ↦ (let m = a.ticks - t in
          let left = at_end waits offered from a t m first (omega arith) (λ u lt. all u (omega arith)) in
          let right = at_begin waits offered (from + a.ticks) b (n - m) next (omega arith)
          (all_at waits (from + t + m) (from + a.ticks) (n - m) (omega arith)
          (all_part waits (from + t) n m (n - m) (omega arith) all)) in
          omega (arith, left, right))
    ]
  ]

  -- where the greatest number of waiting ticks is
  record Place (most : ℕ) : Type 0 where
    place : ℕ
    inside : place + most ≤ a.ticks + b.ticks
    reached : AllWait waits (from + place) most

  -- in the first stretch
  at_first : Place a.most
  at_first = record { place = first.place; inside = omega (arith, first.inside); reached = first.reached }

  -- in the next
  at_next : Place b.most
  at_next = record {
    place = a.ticks + next.place;
    inside = omega (arith, next.inside);
    reached = all_at waits (from + a.ticks + next.place) (from + (a.ticks + next.place)) b.most
        (omega arith) next.reached;
  }

  -- across the seam
  at_seam : Place (a.tail + b.lead)
  at_seam = record {
    place = a.ticks - a.tail;
    inside = omega (arith, first.small.tail, next.small.lead);
    reached = all_join waits (from + (a.ticks - a.tail)) a.tail b.lead
        (λ t lt. same_test waits (from + (a.ticks - a.tail + t)) (from + (a.ticks - a.tail) + t)
        true (omega arith)
        (first.tail (a.ticks - a.tail + t) (omega (arith, first.small.tail))
        (omega (arith, first.small.tail))))
        (all_at waits (from + a.ticks) (from + (a.ticks - a.tail) + a.tail) b.lead
        (omega (arith, first.small.tail)) next.lead);
  }

  -- the greatest of the three
  at_most : (x y z : ℕ) → Place x → Place y → Place z → Place (max (max x y) z)
  at_most x y z p q r = elim (cases_lt (max x y) z) [
    | inl last ↦ subst Place (let e : z ≡ max (max x y) z = omega arith in e) r
    | inr le ↦ elim (cases_lt x y) [
      | inl second ↦ subst Place (let e : y ≡ max (max x y) z = omega arith in e) q
      | inr le' ↦ subst Place (let e : x ≡ max (max x y) z = omega arith in e) p
    ]
  ]

  -- all together
  tells_join : Tells waits offered from (joined a b)
  unfolding lead tail
  tells_join = record {
    small = record {
      offered = omega (arith, first.small.offered, next.small.offered);
      lead = lead_small;
      tail = tail_small;
    };
    count = (let sum = passing_join offered from a.ticks b.ticks in omega (
      arith,
      first.count,
      next.count,
      sum,
    ));
    lead = lead_waits;
    lead_ends = lead_ends;
    tail = tail_waits;
    tail_begins = tail_begins;
    longest = longest;
    place = most.place;
    inside = most.inside;
    reached = most.reached;
  }
    where
      most : Place (max (max a.most b.most) (a.tail + b.lead))
      most = at_most a.most b.most (a.tail + b.lead) at_first at_next at_seam

-- a stretch and then the next tell of both
pub tells_both : (waits offered : ℕ → Bool) (from : ℕ) (a b : Stretch) → Tells waits offered from a
    → Tells waits offered (from + a.ticks) b → Tells waits offered from (joined a b)
tells_both waits offered from a b first next = tells_join waits offered from a b first next
