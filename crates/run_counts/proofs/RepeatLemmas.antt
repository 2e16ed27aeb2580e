-- A stretch so many times in a row, counted in one step.
use Rattle.std.proofs.Common.{◌≡◌, ℕ, zero, suc, ◌+◌, ◌*◌, ◌<◌, ◌≤◌, Bool, true, max, refl, ap, sym, ◌∙◌, arith}
use Rattle.std.proofs.Math.Nat.{mul-suc}
use Rattle.std.proofs.lemmas.Bool.Decides.{nat_tests}
use Rattle.table_form.specs.Promises.Offered.{some_row_has}
use Rattle.table_form.specs.Tables.Plans.{PlanView}
use Rattle.run_counts.specs.declared.stretch.Stretch.{Stretch}
use Rattle.run_counts.specs.Inside.Repeats.{IsSoundStretch, repeated}
use Rattle.run_counts.specs.Inside.Tells.{IsToldRound, Tells, waits_in}
use Rattle.run_counts.specs.Stretches.{IsSmall, joined}
use Rattle.run_counts.proofs.JoinLemmas.{all_at, at_begin, at_end}

-- the parts of what tells the truth agree
tells_sound : (waits offered : ℕ → Bool) (from : ℕ) (w : Stretch) → Tells waits offered from w → IsSoundStretch w
tells_sound waits offered from w tells = record {
  small = tells.small;
  most = omega (arith, tells.inside);
  lead_most = tells.longest 0 w.lead (omega (arith, tells.small.lead))
      (all_at waits from (from + 0) w.lead (omega arith) tells.lead);
  lead_whole = λ whole. (let le : w.ticks ≤ w.tail = at_end waits offered from w 0 w.ticks tells (omega arith)
      (λ t lt. same_tick t (tells.lead t (omega (arith, whole)))) in
      omega (arith, tells.small.tail));
  tail_whole = λ whole. (let le : w.ticks ≤ w.lead = at_begin waits offered from w w.ticks tells (omega arith)
      (λ t lt. tells.tail t (omega (arith, whole)) lt) in
      omega (arith, tells.small.lead));
}
  where
    same_tick : (t : ℕ) → waits (from + t) ≡ true → waits (from + 0 + t) ≡ true
    same_tick t h = ap waits (let e : from + 0 + t ≡ from + t = omega arith in e) ∙ h

-- the parts of what is counted of a round agree
pub round_sound : (plan : PlanView) (v : ℕ) (w : Stretch) → IsToldRound plan v w → IsSoundStretch w
round_sound plan v w told = tells_sound (waits_in plan v) (some_row_has plan.rows v) 0 w told.tells

-- two stretches with the same parts
same_parts : (a b : Stretch) → a.ticks ≡ b.ticks → a.offered ≡ b.offered → a.lead ≡ b.lead → a.tail ≡ b.tail
    → a.most ≡ b.most → a ≡ b
same_parts a b ticks offered lead tail most =
    let all : record { ticks = a.ticks; offered = a.offered; lead = a.lead; tail = a.tail; most = a.most } ≡ b =
    rw (ticks, offered, lead, tail, most) refl in
    all

-- two small stretches make a small one
small_joined : (a b : Stretch) → IsSmall a → IsSmall b → IsSmall (joined a b)
small_joined a b first next = record {
  offered = omega arith;
  lead = grind (arith, nat_tests);
  tail = grind (arith, nat_tests);
}

-- a small stretch repeated is a small one
pub small_repeated : (s : Stretch) (n : ℕ) → IsSmall s → IsSmall (repeated s n)
unfolding repeated
small_repeated s zero small = record { offered = omega arith; lead = omega arith; tail = omega arith }
small_repeated s (suc n) small = small_joined (repeated s n) s (small_repeated s n small) small

-- how many ticks it has
pub ticks_repeated : (s : Stretch) (n : ℕ) → (repeated s n).ticks ≡ s.ticks * n
unfolding repeated
ticks_repeated s zero = omega arith
ticks_repeated s (suc n) = omega (arith, ticks_repeated s n, mul-suc s.ticks n)

-- how many ticks of a repeated stretch are offered
offered_repeated : (s : Stretch) (n : ℕ) → (repeated s n).offered ≡ s.offered * n
unfolding repeated
offered_repeated s zero = omega arith
offered_repeated s (suc n) = omega (arith, offered_repeated s n, mul-suc s.offered n)

-- where the stretch waits throughout
module _ (s : Stretch) (sound : IsSoundStretch s) (whole : s.lead ≡ s.ticks) where
  -- its repetition does from the begin on
  lead_whole : (n : ℕ) → (repeated s n).lead ≡ s.ticks * n
  unfolding repeated
  lead_whole zero = omega arith
  lead_whole (suc n) =
      let is = lead_whole n in
      let ticks = ticks_repeated s n in
      let more = mul-suc s.ticks n in
      grind (arith, nat_tests)

  -- the repetition of a stretch that waits throughout waits up to the end
  tail_whole : (n : ℕ) → (repeated s n).tail ≡ s.ticks * n
  unfolding repeated
  tail_whole zero = omega arith
  tail_whole (suc n) =
      let is = tail_whole n in
      let last = sound.lead_whole whole in
      let more = mul-suc s.ticks n in
      grind (arith, nat_tests)

  -- the longest wait of a stretch that waits throughout is all of it
  most_whole : (n : ℕ) → (repeated s n).most ≡ s.ticks * n
  unfolding repeated
  most_whole zero = omega arith
  most_whole (suc n) = omega (arith, sound.most, whole, most_whole n, tail_whole n, mul-suc s.ticks n)

-- where it doesn't wait throughout
module _ (s : Stretch) (sound : IsSoundStretch s) (part : s.lead ≡ s.ticks → ⊥) where
  -- the lead is that of the first
  lead_part : (n : ℕ) → (repeated s (suc n)).lead ≡ s.lead
  unfolding repeated
  lead_part zero = grind (arith, nat_tests)
  lead_part (suc n) =
      let is = lead_part n in
      let ticks = ticks_repeated s (suc n) in
      let more = mul-suc s.ticks n in
      grind (arith, nat_tests)

  -- the tail of a repeated stretch is that of the last
  tail_part : (n : ℕ) → (repeated s (suc n)).tail ≡ s.tail
  unfolding repeated
  tail_part n =
      let last : (s.tail ≡ s.ticks → ⊥) = (λ h. part (sound.tail_whole h)) in
      grind (arith, nat_tests)

  -- no wait of it alone is longer than its longest
  most_once : (repeated s 1).most ≡ s.most
  unfolding repeated
  most_once = omega (arith, sound.lead_most)

  -- the longest wait of several may be that across a seam
  most_part : (n : ℕ) → (repeated s (suc (suc n))).most ≡ max s.most (s.tail + s.lead)
  unfolding repeated
  most_part zero = omega (arith, most_once, tail_part 0)
  most_part (suc n) = omega (arith, most_part n, tail_part (suc n))

-- a stretch that waits throughout, so many times
pub repeated_whole : (s : Stretch) (n : ℕ) → IsSoundStretch s → s.lead ≡ s.ticks
    → record {
      ticks = s.ticks * n;
      offered = s.offered * n;
      lead = s.ticks * n;
      tail = s.ticks * n;
      most = s.ticks * n;
    } ≡ repeated s n
repeated_whole s n sound whole = same_parts _ _ (sym (ticks_repeated s n)) (sym (offered_repeated s n))
    (sym (lead_whole s sound whole n)) (sym (tail_whole s sound whole n)) (sym (most_whole s sound whole n))

-- one that doesn't, once
pub repeated_once : (s : Stretch) → IsSoundStretch s → (s.lead ≡ s.ticks → ⊥) → s ≡ repeated s 1
repeated_once s sound part = same_parts s (repeated s 1) (omega (arith, ticks_repeated s 1))
    (omega (arith, offered_repeated s 1))
    (sym (lead_part s sound part 0)) (sym (tail_part s sound part 0)) (sym (most_once s sound part))

-- a stretch that doesn't wait throughout, several times
pub repeated_part : (s : Stretch) (n : ℕ) → IsSoundStretch s → (s.lead ≡ s.ticks → ⊥) → 1 < n
    → record {
      ticks = s.ticks * n;
      offered = s.offered * n;
      lead = s.lead;
      tail = s.tail;
      most = max s.most (s.tail + s.lead);
    } ≡ repeated s n
repeated_part s zero sound part more = absurd (omega arith)
repeated_part s (suc zero) sound part more = absurd (omega arith)
repeated_part s (suc (suc n)) sound part more = same_parts _ _ (sym (ticks_repeated s (suc (suc n))))
    (sym (offered_repeated s (suc (suc n)))) (sym (lead_part s sound part (suc n)))
    (sym (tail_part s sound part (suc n))) (sym (most_part s sound part n))
