-- The marks of periods.
use Rattle.std.proofs.Common.{◌≡◌, ℕ, zero, suc, ◌+◌, ◌-◌, ◌*◌, ◌/◌, ◌<◌, ◌≤◌, List, [], ◌∷◌, ◌++◌, Some, length, length-append, Contains, get_or, ap, refl, sym, subst, ◌∙◌, arith, ⊎_elim, inl, inr}
use Rattle.std.proofs.lemmas.List.{get_or_append_left}
use Rattle.std.proofs.lemmas.List.Elements.{Contains-get_or}
use Rattle.std.proofs.lemmas.Option.{slice_get-get_or, get_or_from_slice_get}
use Rattle.std.proofs.lemmas.Grind.{same_number_lists}
use Rattle.std.proofs.Math.Seq.{get_or-append_seam}
use Rattle.std.proofs.lemmas.Bool.{cases_lt, cases_eq}
use Rattle.std.proofs.Math.Nat.{mul-le-mul_right, le-div_iff_mul-le, div-mul-le_self}
use Rattle.tab_core.specs.declared.TheConstants.{ROUND}
use Rattle.flow_net.specs.Allotments.{AreMarks}
use Rattle.flow_net.specs.Inside.Marking.{AreAmong, IsNextMark, AreMarksTo}

-- the first multiple after a tick
pub next_multiple : (tick t : ℕ) → 0 < t → (tick < (tick / t + 1) * t) × ((k : ℕ) → tick < k * t
    → (tick / t + 1) * t ≤ k * t)
next_multiple tick t some = (
  ⊎_elim (λ (lt : tick < (tick / t + 1) * t). lt)
      (λ (ge : (tick / t + 1) * t
      ≤ tick). absurd (omega (
        arith,
        (le-div_iff_mul-le {k = t} {x = tick / t + 1} {y =
            tick} some).1 ge,
      )))
      (cases_lt tick ((tick / t + 1) * t)),
  λ k lt. ⊎_elim
      (λ (le : k < tick / t
      + 1). absurd (omega (
        arith,
        lt,
        div-mul-le_self tick t,
        mul-le-mul_right t (let q : k
            ≤ tick / t = omega arith in q),
      )))
      (λ (ge : tick / t + 1 ≤ k). mul-le-mul_right t ge)
      (cases_lt k (tick / t + 1)),
)

-- before any period the next mark is the round
pub mark_start : (periods : List ℕ) (tick : ℕ) → tick < ROUND → IsNextMark periods tick 0 ROUND
mark_start periods tick h = record {
  after = h;
  within = omega arith;
  each =
      λ lt. absurd (omega (arith, lt));
  inside = λ v k lt. absurd (omega (arith, lt));
}

-- a period with a nearer multiple
pub mark_less : (periods : List ℕ) (tick n mark mark' : ℕ) → IsNextMark periods tick n mark
    → n < length periods → 0 < get_or periods n 0
    → (tick / get_or periods n 0 + 1) * get_or periods n 0 < mark
    → mark' ≡ (tick / get_or periods n 0 + 1) * get_or periods n 0
    → IsNextMark periods tick (n + 1) mark'
mark_less periods tick n mark mark' old h some less is =
    let next = next_multiple tick (get_or periods n 0) some in
    record {
      after = rw is next.0;
      within = omega (arith, is, less, old.within);
      each = λ lt. record { vcpu = n; listed = h; times = tick / get_or periods n 0 + 1; is = is };
      inside = λ v k lt above. elim (cases_eq v n) [
        | inl e ↦ rw is (rw e (next.1 k (rw e at above)))
        | inr ne ↦ omega (arith, is, less, old.inside v k (omega (arith, lt, ne)) above)
      ];
    }

-- a period whose next multiple is no nearer
pub mark_same : (periods : List ℕ) (tick n mark : ℕ) → IsNextMark periods tick n mark → 0 < get_or periods n 0
    → mark ≤ (tick / get_or periods n 0 + 1) * get_or periods n 0 → IsNextMark periods tick (n + 1) mark
mark_same periods tick n mark old some least =
    let next = next_multiple tick (get_or periods n 0) some in
    record {
      after = old.after;
      within = old.within;
      each = old.each;
      inside = λ v k lt above. elim (cases_eq v n) [
        | inl e ↦ (let up : tick < k * get_or periods n 0 = rw e at above in
            let le : mark ≤ k * get_or periods n 0 = omega (arith, least, next.1 k up) in rw e le)
        | inr ne ↦ old.inside v k (omega (arith, lt, ne)) above
      ];
    }

-- the first mark is 0
pub marks_start : (periods : List ℕ) → AreMarksTo periods (0 ∷ []) 0
marks_start periods = record {
  some = omega arith;
  first = refl;
  last = refl;
  within = omega arith;
  rise = λ i h. absurd (omega (arith, h));
  each = λ i a b. absurd (omega (arith, a, b));
  inside = λ i v k h. absurd (omega (arith, h));
}

-- one mark more
pub marks_more : (periods marks : List ℕ) (tick mark : ℕ) → AreMarksTo periods marks tick
    → IsNextMark periods tick (length periods) mark
    → AreMarksTo periods (marks ++ mark ∷ []) mark
marks_more periods marks tick mark old next =
    let n = length-append marks (mark ∷ []) in
    let len : length (marks ++ mark ∷ []) ≡ length marks + 1 = n in
    let left = λ (i : ℕ) (h : i < length marks). get_or_append_left marks (mark ∷ []) 0 i h in
    let new : get_or (marks ++ mark ∷ []) (length marks) 0 ≡ mark = get_or-append_seam marks mark [] 0 in
    let at_last : (i : ℕ) → i ≡ length marks
    → get_or (marks ++ mark ∷ []) i 0 ≡ mark = λ i e. ap (λ j. get_or (marks ++ mark ∷ []) j 0) e ∙ new in
    let before : (i : ℕ) → i + 1 ≡ length marks → get_or (marks ++ mark ∷ []) i 0 ≡ tick
    = λ i e. left i (omega (arith, e))
    ∙ ap (λ j. get_or marks j 0) (let q : i ≡ length marks - 1 = omega (arith, e) in q) ∙ old.last in
    record {
      some = omega (arith, len);
      first = left 0 old.some ∙ old.first;
      last = at_last (length (marks ++ mark ∷ []) - 1) (omega (arith, len));
      within = next.within;
      rise = λ i h. elim (cases_eq (i + 1) (length marks)) [
        | inl e ↦ omega (arith, before i e, at_last (i + 1) e, next.after)
        | inr ne ↦ omega (
          arith,
          left i (omega (arith, h, len, ne)),
          left (i
              + 1) (omega (arith, h, len, ne)),
          old.rise i (omega (arith, h, len, ne)),
        )
      ];
      each = λ i a b lt. elim (cases_eq i (length marks)) [
        | inl e ↦ rw (at_last i e) (next.each (omega (arith, lt, at_last i e)))
        | inr ne ↦ rw (left i (omega (arith, b, len, ne)))
            (old.each i a (omega (arith, b, len, ne)) (omega (arith, lt, left i (omega (arith, b, len, ne)))))
      ];
      inside = λ i v k h h' above. elim (cases_eq (i + 1) (length marks)) [
        | inl e ↦ rw (at_last (i + 1) e) (next.inside v k h' (omega (arith, above, before i e)))
        | inr ne ↦ rw (left (i + 1) (omega (arith, h, len, ne)))
            (old.inside i v k (omega (arith, h, len, ne)) h'
            (omega (arith, above, left i (omega (arith, h, len, ne)))))
      ];
    }

-- numbers that rise
rising : (f : ℕ → ℕ) (n i d : ℕ) → ((j : ℕ) → j + 1 < n → f j < f (j + 1)) → i + d < n → f i ≤ f (i + d)
rising f n i zero rise h = let e : i + 0 ≡ i = omega arith in rw e (omega arith)
rising f n i (suc d) rise h =
    let e : i + suc d ≡ i + d + 1 = omega arith in
    rw e (omega (arith, rising f n i d rise (omega arith), rise (i + d) (omega arith)))

-- a mark before the last one is below the round
below_last : (periods marks : List ℕ) (tick : ℕ) → AreMarksTo periods marks tick → (i : ℕ)
    → i + 1 < length marks → get_or marks i 0 < ROUND
below_last periods marks tick m i h =
    let d = length marks - 1 - (i + 1) in
    let e : i + 1 + d ≡ length marks - 1 = omega (arith, h) in
    let up = rising (λ j. get_or marks j 0) (length marks) (i + 1) d m.rise (omega (arith, e, m.some)) in
    let up' = rw e at up in
    omega (arith, m.rise i h, up', m.last, m.within)

-- at the round the marks are whole
pub marks_end : (periods marks : List ℕ) (tick : ℕ) → AreMarksTo periods marks tick → ROUND ≤ tick
    → AreMarks periods marks
marks_end periods marks tick m end =
    let whole : tick ≡ ROUND = omega (arith, m.within, end) in
    let two : 1 < length marks = ⊎_elim (λ (lt : 1 < length marks). lt)
    (λ (ge : length marks ≤ 1). let one : length marks - 1 ≡ 0 = omega (arith, ge) in
    let zero : get_or marks (length marks - 1) 0 ≡ get_or marks 0 0 = ap (λ j. get_or marks j 0) one in
    absurd (omega (arith, zero, m.first, m.last, whole)))
    (cases_lt 1 (length marks)) in
    record {
      some = two;
      first = m.first;
      last = m.last ∙ whole;
      rise = m.rise;
      each = λ i a b. m.each i a (omega (arith, b)) (omega (arith, below_last periods marks tick m i b));
      inside = m.inside;
    }

-- an inner mark of one list is a mark of the other: the next one isn't beyond it
next_le : (periods marks other : List ℕ) (i : ℕ) → AreMarks periods marks → AreMarks periods other
    → i + 1 < length marks → i + 1 < length other → get_or marks i 0 ≡ get_or other i 0
    → get_or other (i + 1) 0 ≤ get_or marks (i + 1) 0
next_le periods marks other i of of' lt lt' same = elim (cases_lt (i + 1 + 1) (length marks)) [
  | inl inner ↦
      let m = of.each (i + 1) (omega arith) inner in
      let above : get_or other i 0
      < m.times * get_or periods m.vcpu 0 = omega (arith, of.rise i lt, same, m.is) in
      omega (arith, of'.inside i m.vcpu m.times lt' m.listed above, m.is)
  | inr end ↦
      let last : get_or marks (i + 1) 0 ≡ ROUND
      = (let e : i + 1 ≡ length marks - 1 = omega arith in ap (λ j. get_or marks j 0) e) ∙ of.last in
      omega (arith, in_round periods other of' (i + 1) lt', last)
]
  where
    in_round : (ps ms : List ℕ) → AreMarks ps ms → (j : ℕ) → j < length ms → get_or ms j 0 ≤ ROUND
    in_round ps ms m j h =
        let d = length ms - 1 - j in
        let e : j + d ≡ length ms - 1 = omega arith in
        let up = rising (λ k. get_or ms k 0) (length ms) j d m.rise (omega (arith, e)) in
        let up' = rw e at up in
        omega (arith, up', m.last)

-- two lists of marks agree as far as the shorter one goes
agree : (periods marks other : List ℕ) → AreMarks periods marks → AreMarks periods other → (i : ℕ)
    → i < length marks → i < length other → get_or marks i 0 ≡ get_or other i 0
agree periods marks other of of' zero lt lt' = of.first ∙ sym of'.first
agree periods marks other of of' (suc i) lt lt' =
    let e : suc i ≡ i + 1 = omega arith in
    let before = agree periods marks other of of' i (omega arith) (omega arith) in
    rw e (omega (
      arith,
      next_le periods marks other i of of' (omega arith) (omega arith) before,
      next_le periods other marks i of' of (omega arith) (omega arith) (sym before),
    ))

-- none is longer: at its end the other one has reached the round
no_longer : (periods marks other : List ℕ) → AreMarks periods marks → AreMarks periods other
    → length marks ≤ length other
no_longer periods marks other of of' = elim (cases_lt (length other) (length marks)) [
  | inl less ↦
      (let i = length other - 1 in
      let same = agree periods marks other of of' i (omega (arith, of'.some)) (omega (arith, of'.some)) in
      let d = length marks - 1 - (i + 1) in
      let e : i + 1 + d ≡ length marks - 1 = omega (arith, of'.some) in
      let up = rising (λ k. get_or marks k 0) (length marks) (i + 1) d of.rise (omega (arith, e)) in
      let up' = rw e at up in
      absurd (omega (arith, same, of'.last, of.rise i (omega (arith, of'.some)), up', of.last)))
  | inr le ↦ le
]

-- periods have one list of marks
pub marks_unique : (periods marks other : List ℕ) → AreMarks periods marks → AreMarks periods other
    → marks ≡ other
marks_unique periods marks other of of' =
    let size : length marks ≡ length other = omega
    (arith, no_longer periods marks other of of', no_longer periods other marks of' of) in
    same_number_lists marks other size
    (λ k lt. agree periods marks other of of' k lt (omega (arith, lt, size)))

-- a number of a list has a place in the other
pub few_at : (ns others : List ℕ) → AreAmong ns others → (v : ℕ) → v < length ns
    → (w : ℕ) × (w < length others) × (get_or ns v 0 ≡ get_or others w 0)
few_at ns others among v h =
    let found = among (get_or ns v 0) (Contains-get_or ns v 0 h) in
    let same : get_or others found.0 0 ≡ get_or others found.0 (get_or ns v 0)
    = get_or_from_slice_get others found.0 (get_or others found.0 (get_or ns v 0)) 0
    (slice_get-get_or others found.0 (get_or ns v 0) found.1) in
    (found.0, found.1, sym (same ∙ found.2))

-- where each place of a list has its number in the other
pub all_listed : (ns others : List ℕ) → ((v : ℕ) → v < length ns → Contains others (get_or ns v 0))
    → AreAmong ns others
all_listed ns others each n found =
    let same : get_or ns found.0 0 ≡ n
    = get_or_from_slice_get ns found.0 n 0 (slice_get-get_or ns found.0 n found.1 ∙ ap Some found.2) in
    subst (λ x. Contains others x) same (each found.0 found.1)

-- the marks of the same periods, each once, are those of all
pub marks_among : (periods few marks : List ℕ) → AreAmong periods few → AreAmong few periods
    → AreMarks few marks → AreMarks periods marks
marks_among periods few marks all no_more m = record {
  some = m.some;
  first = m.first;
  last = m.last;
  rise = m.rise;
  each = λ i a b.
      let e = m.each i a b in
      let s = few_at few periods no_more e.vcpu e.listed in
      record { vcpu = s.0; listed = s.1; times = e.times; is = e.is ∙ ap (λ p. e.times * p) s.2 };
  inside = λ i v k h lt above.
      let s = few_at periods few all v lt in
      rw s.2 (m.inside i s.0 k h s.1 (rw s.2 at above));
}
