-- After a multiple of all periods the simulation repeats itself.
use Rattle.std.proofs.Common.{◌≡◌, ℕ, zero, suc, ◌+◌, ◌-◌, ◌*◌, ◌/◌, ◌<◌, ◌≤◌, ◌⊎◌, ◌&&◌, true, false, ltb, List, length, get_or, replicate, refl, ap, subst, sym, ◌∙◌, inl, inr, arith, get_or-set_same, get_or-set_other}
use Rattle.std.proofs.Math.Nat.{div-eq_of_lt, mul-div_left, mul-le-mul_left}
use Rattle.std.proofs.lemmas.Bool.{cases_Bool, cases_eq, cases_lt, false≢true, le-leb, le-ltb, lt-leb, lt-ltb}
use Rattle.std.proofs.lemmas.List.{get_or_default, get_or-replicate}
use Rattle.tab_core.specs.declared.TheConstants.{MAX_VCPUS, ROUND}
use Rattle.tab_core.specs.declared.piece.Piece.{Piece}
use Rattle.tab_core.proofs.Periods.{period_facts}
use Rattle.table_form.specs.Planning.Jobs.{job_of, jobs_of, subtask_of}
use Rattle.table_form.specs.Planning.Windows.{DistinctVcpus}
use Rattle.edf_table.specs.Inside.Progress.{AreJobsCounted, IsCommonMultiple, IsDueFirst, IsMostUrgent, MetBefore, ServedBelow, due_at, had, is_ready, window_no}
use Rattle.edf_table.proofs.Calm.{NoneReady}
use Rattle.edf_table.proofs.Counts.{had_le_had, nothing_early}
use Rattle.edf_table.proofs.Few.{few_pieces}
use Rattle.edf_table.proofs.Kept.{some_piece}
use Rattle.edf_table.proofs.Misses.{ends_in_round}
use Rattle.edf_table.proofs.Pieces.{job_among, jobs_of_distinct}
use Rattle.edf_table.proofs.Steps.{counted_idle, counted_run, counted_start, idle_cell_any, met_more_any, one_more}
use Rattle.edf_table.proofs.Turns.{begun, not_later, ready_parts, some_period, urgent_new}

-- the period of each piece divides the round
pub round_common : (ps : List Piece) → IsCommonMultiple ps (length ps) ROUND
round_common ps i d lt =
    let p = get_or ps i d in
    let facts = period_facts p.period p.listed in
    omega (arith, facts.whole)

-- a shift of whole periods moves on the number of the window that began last
window_shift : (p : Piece) (s x : ℕ) → s / p.period * p.period ≡ s → p.from ≤ x
    → window_no p (s + x) ≡ s / p.period + window_no p x
window_shift p s x whole from =
    let m = s / p.period in
    let w = window_no p x in
    let here : (m + w) * p.period ≡ m * p.period + w * p.period = omega arith in
    let low = not_later p (s + x) (m + w) (omega (arith, begun p x from)) in
    elim (cases_lt (m + w) (window_no p (s + x))) [
      | inl above ↦
          (let more = mul-le-mul_left {m = m + w + 1} {n = window_no p (s + x)} p.period (omega arith) in
          let next : (m + w + 1) * p.period ≡ m * p.period + w * p.period + p.period = omega arith in
          let past : (w + 1) * p.period + p.from ≤ x = omega (arith, begun p (s + x) (omega arith)) in
          let late = not_later p x (w + 1) past in
          absurd (omega arith))
      | inr same ↦ omega arith
    ]

-- a piece that was given the cost of the shift too is ready as before
ready_shift : (p : Piece) (g s x : ℕ) → s / p.period * p.period ≡ s
    → is_ready p (s / p.period * p.cost + g) (s + x) ≡ is_ready p g x
ready_shift p g s x whole = elim (cases_lt x p.from) [
  | inl early ↦ not_yet early ∙ sym (ap (λ b. b && ltb g ((window_no p x + 1) * p.cost)) (lt-leb p.from x early))
  | inr from ↦
      ap (λ b. b && ltb (m * p.cost + g) ((window_no p (s + x) + 1) * p.cost))
      (le-leb p.from (s + x) (omega arith))
      ∙ ap (λ n. ltb (m * p.cost + g) ((n + 1) * p.cost)) (window_shift p s x whole from)
      ∙ same from
      ∙ sym (ap (λ b. b && ltb g ((window_no p x + 1) * p.cost)) (le-leb p.from x from))
]
  where
    m : ℕ
    m = s / p.period

    same : p.from ≤ x → ltb (m * p.cost + g) ((m + window_no p x + 1) * p.cost)
        ≡ ltb g ((window_no p x + 1) * p.cost)
    same from =
        let w = window_no p x in
        let split : (m + w + 1) * p.cost ≡ m * p.cost + (w + 1) * p.cost = omega arith in
        elim (cases_lt g ((w + 1) * p.cost)) [
          | inl short ↦ lt-ltb _ _ (omega arith) ∙ sym (lt-ltb _ _ short)
          | inr enough ↦ le-ltb _ _ (omega arith) ∙ sym (le-ltb _ _ enough)
        ]

    not_yet : x < p.from → is_ready p (m * p.cost + g) (s + x) ≡ false
    not_yet early = elim (cases_lt (s + x) p.from) [
      | inl before ↦ ap (λ b. b && ltb (m * p.cost + g) ((window_no p (s + x) + 1) * p.cost))
          (lt-leb p.from (s + x) before)
      | inr after ↦
          (let w = window_no p (s + x) in
          let low = begun p (s + x) after in
          let below : w + 1 ≤ m = (elim (cases_lt w m) [
            | inl lt ↦ omega arith
            | inr ge ↦ (let more = mul-le-mul_left {m = m} {n = w} p.period ge in absurd (omega arith))
          ]) in
          let cost = mul-le-mul_left {m = w + 1} {n = m} p.cost below in
          ap (λ b. b && ltb (m * p.cost + g) ((w + 1) * p.cost)) (le-leb p.from (s + x) after)
          ∙ le-ltb _ _ (omega arith))
    ]

-- a piece after the shift is due later by the shift
due_shift : (p : Piece) (s x : ℕ) → s / p.period * p.period ≡ s → p.from ≤ x
    → due_at p (s + x) ≡ s + due_at p x
due_shift p s x whole from =
    let m = s / p.period in
    let w = window_no p x in
    let split : (m + w) * p.period ≡ m * p.period + w * p.period = omega arith in
    ap (λ n. n * p.period + p.to) (window_shift p s x whole from) ∙ omega arith

-- the second counts are the first ones and the cost of a shift
abbrev pub IsShifted : List Piece → List ℕ → List ℕ → ℕ → Type 0
IsShifted ps gs hs s = (i : ℕ) (d : Piece) → i < length ps
    → get_or hs i 0 ≡ s / (get_or ps i d).period * (get_or ps i d).cost + get_or gs i 0

-- after the shift the same pieces are ready
pub ready_alike : (ps : List Piece) (gs hs : List ℕ) (s x i : ℕ) (d : Piece) → IsCommonMultiple ps (length ps) s
    → IsShifted ps gs hs s → i < length ps
    → is_ready (get_or ps i d) (get_or hs i 0) (s + x) ≡ is_ready (get_or ps i d) (get_or gs i 0) x
ready_alike ps gs hs s x i d common shifted i-in =
    ap (λ g. is_ready (get_or ps i d) g (s + x)) (shifted i d i-in)
    ∙ ready_shift (get_or ps i d) (get_or gs i 0) s x (common i d i-in)

-- after the shift the same piece is the most urgent
pub urgent_alike : (ps : List Piece) (gs hs : List ℕ) (s x i : ℕ) → IsCommonMultiple ps (length ps) s
    → IsShifted ps gs hs s → IsMostUrgent ps gs x (length ps) i
    → IsMostUrgent ps hs (s + x) (length ps) i
urgent_alike ps gs hs s x i common shifted urgent = record {
  in_range = urgent.in_range;
  ready = λ d. ready_alike ps gs hs s x i d common shifted urgent.in_range ∙ urgent.ready d;
  first = λ k d k-in ready.
      (let before : is_ready (get_or ps k d) (get_or gs k 0) x ≡ true =
      sym (ready_alike ps gs hs s x k d common shifted k-in) ∙ ready in
      let due_i = due_shift (get_or ps i d) s x (common i d urgent.in_range)
      (ready_parts (get_or ps i d) (get_or gs i 0) x (urgent.ready d)).0 in
      let due_k = due_shift (get_or ps k d) s x (common k d k-in)
      (ready_parts (get_or ps k d) (get_or gs k 0) x before).0 in
      elim (urgent.first k d k-in before) [
        | inl earlier ↦ inl (omega arith)
        | inr with' ↦ inr (omega (arith, with'.0), with'.1)
      ]);
}

-- no window that ends at the shifted tick was missed, where none that ends at the tick does
served_alike : (ps : List Piece) (gs hs : List ℕ) (s x : ℕ) → IsCommonMultiple ps (length ps) s
    → IsShifted ps gs hs s → AreJobsCounted ps gs x → MetBefore (jobs_of ps) (x + 1) → x ≤ ROUND
    → ServedBelow ps hs (s + x) (length ps)
served_alike ps gs hs s x common shifted counted met within i d i-in k at =
    let p = get_or ps i d in
    let m = s / p.period in
    let whole : m * p.period ≡ s = common i d i-in in
    let given = shifted i d i-in in
    elim (cases_lt k m) [
      | inl before ↦ (let cost = mul-le-mul_left {m = k + 1} {n = m} p.cost (omega arith) in omega arith)
      | inr from ↦
          (let n = k - m in
          let job = job_of (subtask_of p) n in
          let split : k * p.period ≡ m * p.period + n * p.period =
          ap (λ j. j * p.period) (k-is from) ∙ omega arith in
          let ends : n * p.period + p.to ≡ x = omega arith in
          let in_time = met job (job_among ps d i n i-in (ends_in_round p n x ends within)) (omega arith) in
          let now : p.cost ≤ had (jobs_of ps) job x =
          subst (λ t. p.cost ≤ had (jobs_of ps) job t) ends in_time in
          let has = counted.each i d i-in n in
          let some = p.costs in
          let enough : n * p.cost + p.cost ≤ get_or gs i 0 = omega arith in
          let cost : (k + 1) * p.cost ≡ m * p.cost + n * p.cost + p.cost =
          ap (λ j. (j + 1) * p.cost) (k-is from) ∙ omega arith in
          omega arith)
    ]
  where
    k-is : {m : ℕ} → m ≤ k → k ≡ m + (k - m)
    k-is le = omega arith

-- of two ready pieces the more urgent stays
urgent_stays : (ps : List Piece) (gs : List ℕ) (tick i b : ℕ) → IsMostUrgent ps gs tick i b
    → ((d : Piece) → IsDueFirst tick (get_or ps b d) (get_or ps i d)) → IsMostUrgent ps gs tick (i + 1) b
urgent_stays ps gs tick i b urgent before = record {
  in_range = urgent.in_range;
  ready = urgent.ready;
  first = λ k d lt ready. elim (cases_eq k i) [
    | inl same ↦ subst (λ m. IsDueFirst tick (get_or ps b d) (get_or ps m d)) (sym same) (before d)
    | inr ne ↦ urgent.first k d (omega arith) ready
  ];
}

-- a piece that isn't ready changes nothing
urgent_past : (ps : List Piece) (gs : List ℕ) (tick i b : ℕ)
    → ((d : Piece) → is_ready (get_or ps i d) (get_or gs i 0) tick ≡ false)
    → IsMostUrgent ps gs tick i b → IsMostUrgent ps gs tick (i + 1) b
urgent_past ps gs tick i b unready urgent = record {
  in_range = urgent.in_range;
  ready = urgent.ready;
  first = λ k d lt ready. elim (cases_eq k i) [
    | inl same ↦ absurd (false≢true (sym (unready d)
        ∙ subst (λ m. is_ready (get_or ps m d) (get_or gs m 0) tick ≡ true) same ready))
    | inr ne ↦ urgent.first k d (omega arith) ready
  ];
}

-- the first ready piece
urgent_alone : (ps : List Piece) (gs : List ℕ) (tick i : ℕ) → i < length ps
    → ((d : Piece) → is_ready (get_or ps i d) (get_or gs i 0) tick ≡ true)
    → ((k : ℕ) (d : Piece) → k < i → is_ready (get_or ps k d) (get_or gs k 0) tick ≡ false)
    → IsMostUrgent ps gs tick (i + 1) i
urgent_alone ps gs tick i i-in ready none = record {
  in_range = i-in;
  ready = ready;
  first = λ k d lt k-ready. elim (cases_eq k i) [
    | inl same ↦ subst (λ m. IsDueFirst tick (get_or ps i d) (get_or ps m d)) (sym same)
        (inr (refl, omega arith))
    | inr ne ↦ absurd (false≢true (sym (none k d (omega arith)) ∙ k-ready))
  ];
}

-- one of two pieces is due first
due_either : (tick : ℕ) (a b : Piece) → IsDueFirst tick a b ⊎ IsDueFirst tick b a
due_either tick a b = elim (cases_lt (due_at a tick) (due_at b tick)) [
  | inl earlier ↦ inl (inl earlier)
  | inr above ↦ elim (cases_lt (due_at b tick) (due_at a tick)) [
    | inl later ↦ inr (inl later)
    | inr same ↦ elim (cases_lt b.vcpu a.vcpu) [
      | inl lower ↦ inr (inr (omega arith, omega arith))
      | inr le ↦ inl (inr (omega arith, le))
    ]
  ]
]

-- some piece is the most urgent, or none is ready
abbrev Urgent : List Piece → List ℕ → ℕ → ℕ → Type 0
Urgent ps gs tick n = ((i : ℕ) × IsMostUrgent ps gs tick n i)
    ⊎ ((k : ℕ) (d : Piece) → k < n → is_ready (get_or ps k d) (get_or gs k 0) tick ≡ false)

pub some_urgent : (ps : List Piece) (gs : List ℕ) (tick n : ℕ) → n ≤ length ps → Urgent ps gs tick n
some_urgent ps gs tick zero le = inr (λ k d lt. absurd (omega arith))
some_urgent ps gs tick (suc n) le =
    let p = some_piece ps n (omega arith) in
    let at : (d : Piece) → get_or ps n p ≡ get_or ps n d = λ d. get_or_default ps n p d (omega arith) in
    let next : n + 1 ≡ suc n = omega arith in
    subst (Urgent ps gs tick) next
    (elim (cases_Bool (is_ready (get_or ps n p) (get_or gs n 0) tick)) [
      | inl ready ↦
          (let ready' : (d : Piece) → is_ready (get_or ps n d) (get_or gs n 0) tick ≡ true =
          λ d. subst (λ (q : Piece). is_ready q (get_or gs n 0) tick ≡ true) (at d) ready in
          elim (some_urgent ps gs tick n (omega arith)) [
            | inl best ↦
                (let b = best.0 in
                let of_b : (d : Piece) → get_or ps b p ≡ get_or ps b d =
                λ d. get_or_default ps b p d best.1.in_range in
                elim (due_either tick (get_or ps n p) (get_or ps b p)) [
                  | inl before ↦ inl (
                    n,
                    urgent_new ps gs tick n b (omega arith) ready' best.1
                        (λ d. subst (λ (q : Piece). IsDueFirst tick q (get_or ps b d)) (at d)
                        (subst (λ (q : Piece). IsDueFirst tick (get_or ps n p) q) (of_b d) before)),
                  )
                  | inr after ↦ inl (
                    b,
                    urgent_stays ps gs tick n b best.1
                        (λ d. subst (λ (q : Piece). IsDueFirst tick q (get_or ps n d)) (of_b d)
                        (subst (λ (q : Piece). IsDueFirst tick (get_or ps b p) q) (at d) after)),
                  )
                ])
            | inr none ↦ inl (n, urgent_alone ps gs tick n (omega arith) ready' none)
          ])
      | inr unready ↦
          (let unready' : (d : Piece) → is_ready (get_or ps n d) (get_or gs n 0) tick ≡ false =
          λ d. subst (λ (q : Piece). is_ready q (get_or gs n 0) tick ≡ false) (at d) unready in
          elim (some_urgent ps gs tick n (omega arith)) [
            | inl best ↦ inl (best.0, urgent_past ps gs tick n best.0 unready' best.1)
            | inr none ↦ inr (λ k d lt. elim (cases_eq k n) [
              | inl same ↦ subst (λ m. is_ready (get_or ps m d) (get_or gs m 0) tick ≡ false) (sym same)
                  (unready' d)
              | inr ne ↦ none k d (omega arith)
            ])
          ])
    ])

-- both simulations after so many ticks, the second begun after the shift
pub record Alike (ps : List Piece) (s x : ℕ) : Type 0 where
  pub first : List ℕ
  pub second : List ℕ
  pub counted : AreJobsCounted ps first x
  pub counted_again : AreJobsCounted ps second (s + x)
  pub shifted : IsShifted ps first second s
  pub met : MetBefore (jobs_of ps) (s + x)

-- one tick more of one piece, in both
shifted_run : (ps : List Piece) (gs hs : List ℕ) (s i : ℕ) → i < length gs → i < length hs
    → IsShifted ps gs hs s → IsShifted ps (one_more gs i) (one_more hs i) s
shifted_run ps gs hs s i in_gs in_hs shifted k d k-in = elim (cases_eq k i) [
  | inl same ↦
      (let P : ℕ → Type 0 = λ n. get_or (one_more hs i) n 0
      ≡ s / (get_or ps k d).period * (get_or ps k d).cost + get_or (one_more gs i) n 0 in
      let before : get_or hs i 0 ≡ s / (get_or ps k d).period * (get_or ps k d).cost + get_or gs i 0 =
      subst (λ n. get_or hs n 0 ≡ s / (get_or ps k d).period * (get_or ps k d).cost + get_or gs n 0) same
      (shifted k d k-in) in
      let here = get_or-set_same gs i (get_or gs i 0 + 1) 0 in_gs in
      let there = get_or-set_same hs i (get_or hs i 0 + 1) 0 in_hs in
      subst P (sym same) (omega arith))
  | inr ne ↦
      get_or-set_other hs i k (get_or hs i 0 + 1) 0 ne ∙ shifted k d k-in
      ∙ ap (λ g. s / (get_or ps k d).period * (get_or ps k d).cost + g)
      (sym (get_or-set_other gs i k (get_or gs i 0 + 1) 0 ne))
]

-- the shifted simulation meets what is due by the next tick
pub met_again : (ps : List Piece) (s x : ℕ) → IsCommonMultiple ps (length ps) s → MetBefore (jobs_of ps) (x + 1)
    → x ≤ ROUND → (now : Alike ps s x) → MetBefore (jobs_of ps) (s + x + 1)
met_again ps s x common met within now =
    met_more_any ps now.second (s + x) now.counted_again now.met
    (served_alike ps now.first now.second s x common now.shifted now.counted met within)

-- one tick more
alike_more : (ps : List Piece) (s x : ℕ) → DistinctVcpus ps → IsCommonMultiple ps (length ps) s
    → MetBefore (jobs_of ps) (x + 1) → s + x < ROUND → Alike ps s x → Alike ps s (x + 1)
alike_more ps s x apart common met lt now =
    let again = met_again ps s x common met (omega arith) now in
    let at : s + x + 1 ≡ s + (x + 1) = omega arith in
    elim (some_urgent ps now.first x (length ps) (omega arith)) [
      | inl best ↦
          (let i = best.0 in
          let urgent = urgent_alike ps now.first now.second s x i common now.shifted best.1 in
          record {
            first = one_more now.first i;
            second = one_more now.second i;
            counted = counted_run ps now.first x i apart now.counted met (omega arith) best.1;
            counted_again = subst (AreJobsCounted ps (one_more now.second i)) at
                (counted_run ps now.second (s + x) i apart now.counted_again again lt urgent);
            shifted = shifted_run ps now.first now.second s i
                (omega (arith, best.1.in_range, now.counted.enough))
                (omega (arith, best.1.in_range, now.counted_again.enough)) now.shifted;
            met = subst (MetBefore (jobs_of ps)) at again;
          })
      | inr none ↦
          (let unready : NoneReady ps now.second (s + x) =
          λ i d i-in. ready_alike ps now.first now.second s x i d common now.shifted i-in
          ∙ none i d i-in in
          record {
            first = now.first;
            second = now.second;
            counted = counted_idle ps now.first x now.counted
                (idle_cell_any ps now.first x now.counted met (omega arith) none);
            counted_again = subst (AreJobsCounted ps now.second) at
                (counted_idle ps now.second (s + x) now.counted_again
                (idle_cell_any ps now.second (s + x) now.counted_again again lt unready));
            shifted = now.shifted;
            met = subst (MetBefore (jobs_of ps)) at again;
          })
    ]

-- so many ticks more go to the same pieces after the shift
pub alike_along : (ps : List Piece) (s n : ℕ) → DistinctVcpus ps → IsCommonMultiple ps (length ps) s
    → MetBefore (jobs_of ps) (n + 1) → s + n ≤ ROUND → Alike ps s 0 → Alike ps s n
alike_along ps s zero apart common met le now = now
alike_along ps s (suc n) apart common met le now =
    let before = alike_along ps s n apart common (λ j a lt. met j a (omega arith)) (omega arith) now in
    let next : n + 1 ≡ suc n = omega arith in
    subst (Alike ps s) next
    (alike_more ps s n apart common (λ j a lt. met j a (omega arith)) (omega arith) before)

-- after a multiple of all periods each piece was given the cost of its windows
all_given : (ps : List Piece) (gs : List ℕ) (h i : ℕ) (d : Piece) → DistinctVcpus ps
    → IsCommonMultiple ps (length ps) h → 0 < h → h < ROUND → AreJobsCounted ps gs h → MetBefore (jobs_of ps) (h + 1)
    → i < length ps → get_or gs i 0 ≡ h / (get_or ps i d).period * (get_or ps i d).cost
all_given ps gs h i d apart common some lt counted met i-in =
    let p = get_or ps i d in
    let m = h / p.period in
    let whole : m * p.period ≡ h = common i d i-in in
    let positive : 0 < m = (elim (cases_lt 0 m) [
      | inl yes' ↦ yes'
      | inr no' ↦ (let zero-is : m ≡ 0 = omega arith in
          let none : m * p.period ≡ 0 * p.period = ap (λ n. n * p.period) zero-is in absurd (omega arith))
    ]) in
    let k = m - 1 in
    let count : m ≡ k + 1 = omega arith in
    let last : m * p.period ≡ k * p.period + p.period = ap (λ n. n * p.period) count ∙ omega arith in
    let cost : m * p.cost ≡ k * p.cost + p.cost = ap (λ n. n * p.cost) count ∙ omega arith in
    let within : m < ROUND / p.period = below_round p m (omega arith) in
    let js = jobs_of ps in
    let before = job_of (subtask_of p) k in
    let in_time = met before (job_among ps d i k i-in (omega arith)) (omega (arith, p.within)) in
    let kept = had_le_had js before (k * p.period + p.to) h (omega (arith, p.within)) in
    let has = counted.each i d i-in k in
    let some_cost = p.costs in
    let next = nothing_early js (job_of (subtask_of p) m) h (jobs_of_distinct ps apart)
    (job_among ps d i m i-in within) (omega arith) in
    let has_next = counted.each i d i-in m in
    omega arith
  where
    below_round : (p : Piece) (m : ℕ) → m * p.period < ROUND → m < ROUND / p.period
    below_round p m lt' = elim (cases_lt m (ROUND / p.period)) [
      | inl yes' ↦ yes'
      | inr no' ↦ (let facts = period_facts p.period p.listed in
          let more = mul-le-mul_left {m = ROUND / p.period} {n = m} p.period no' in
          absurd (omega (arith, facts.whole)))
    ]

-- a multiple of all periods and one more
common_more : (ps : List Piece) (s h i : ℕ) (d : Piece) → IsCommonMultiple ps (length ps) s
    → IsCommonMultiple ps (length ps) h → i < length ps
    → (s + h) / (get_or ps i d).period ≡ s / (get_or ps i d).period + h / (get_or ps i d).period
common_more ps s h i d common common' i-in =
    let p = get_or ps i d in
    let a = s / p.period in
    let b = h / p.period in
    let here : a * p.period ≡ s = common i d i-in in
    let there : b * p.period ≡ h = common' i d i-in in
    let both : (a + b) * p.period ≡ s + h = omega arith in
    ap (λ n. n / p.period) (sym both) ∙ mul-div_left (a + b) (some_period p)

-- what is known at a multiple of all periods: the simulation is as at the begin of the round
pub record Anew (ps : List Piece) (s : ℕ) : Type 0 where
  pub given : List ℕ
  pub common : IsCommonMultiple ps (length ps) s
  pub counted : AreJobsCounted ps given s
  pub shifted : IsShifted ps (replicate MAX_VCPUS 0) given s
  pub met : MetBefore (jobs_of ps) s

-- it does so at the begin
anew_start : (ps : List Piece) → DistinctVcpus ps → Anew ps 0
anew_start ps apart = record {
  given = replicate MAX_VCPUS 0;
  common = λ i d lt. omega arith;
  counted = counted_start ps MAX_VCPUS (few_pieces ps apart);
  shifted = λ i d lt.
      (let p = get_or ps i d in
      let none : 0 / p.period ≡ 0 = div-eq_of_lt (some_period p) in
      let cost : 0 / p.period * p.cost ≡ 0 * p.cost = ap (λ n. n * p.cost) none in
      omega arith);
  met = λ j a lt. absurd (omega arith);
}

-- the simulation does after the shift as at the begin
pub alike_start : (ps : List Piece) (s : ℕ) → DistinctVcpus ps → Anew ps s → Alike ps s 0
alike_start ps s apart anew =
    let at : s ≡ s + 0 = omega arith in
    record {
      first = replicate MAX_VCPUS 0;
      second = anew.given;
      counted = counted_start ps MAX_VCPUS (few_pieces ps apart);
      counted_again = subst (AreJobsCounted ps anew.given) at anew.counted;
      shifted = anew.shifted;
      met = subst (MetBefore (jobs_of ps)) at anew.met;
    }

-- the simulation begins anew at each further multiple
anew_more : (ps : List Piece) (s h : ℕ) → DistinctVcpus ps → IsCommonMultiple ps (length ps) h → 0 < h → h < ROUND
    → MetBefore (jobs_of ps) (h + 1) → s + h ≤ ROUND → Anew ps s → Anew ps (s + h)
anew_more ps s h apart common some lt met le anew =
    let after = alike_along ps s h apart anew.common met le (alike_start ps s apart anew) in
    let first : (i : ℕ) (d : Piece) → i < length ps
    → (s + h) / (get_or ps i d).period ≡ s / (get_or ps i d).period + h / (get_or ps i d).period =
    λ i d i-in. common_more ps s h i d anew.common common i-in in
    record {
      given = after.second;
      common = λ i d i-in.
          (let t = (get_or ps i d).period in
          let here = anew.common i d i-in in
          let there = common i d i-in in
          ap (λ n. n * t) (first i d i-in) ∙ (let split : (s / t + h / t) * t ≡ s / t * t + h / t * t =
          omega arith in omega arith));
      counted = after.counted_again;
      shifted = λ i d i-in.
          (let p = get_or ps i d in
          let zeros = get_or-replicate {A = ℕ} MAX_VCPUS i 0 0 (omega (arith, few_pieces ps apart)) in
          let given = after.shifted i d i-in in
          let all = all_given ps after.first h i d apart common some lt after.counted met i-in in
          let cost : (s + h) / p.period * p.cost ≡ s / p.period * p.cost + h / p.period * p.cost =
          ap (λ n. n * p.cost) (first i d i-in) ∙ omega arith in
          omega arith);
      met = after.met;
    }

-- at k multiples of a part of the round
pub anew_at : (ps : List Piece) (h k : ℕ) → DistinctVcpus ps → IsCommonMultiple ps (length ps) h → 0 < h → h < ROUND
    → MetBefore (jobs_of ps) (h + 1) → k * h ≤ ROUND → Anew ps (k * h)
anew_at ps h zero apart common some lt met le =
    let none : 0 ≡ 0 * h = omega arith in subst (Anew ps) none (anew_start ps apart)
anew_at ps h (suc k) apart common some lt met le =
    let next : k * h + h ≡ suc k * h = omega arith in
    subst (Anew ps) next
    (anew_more ps (k * h) h apart common some lt met (omega arith)
    (anew_at ps h k apart common some lt met (omega arith)))

-- where all is met to a multiple of all periods that divides the round, all is met in the round
pub all_met : (ps : List Piece) (h : ℕ) → DistinctVcpus ps → IsCommonMultiple ps (length ps) h → 0 < h
    → ROUND / h * h ≡ ROUND → MetBefore (jobs_of ps) (h + 1) → MetBefore (jobs_of ps) (ROUND + 1)
all_met ps h apart common some whole met = elim (cases_lt h ROUND) [
  | inr all ↦ (λ j a lt. met j a (omega arith))
  | inl part ↦
      (let k = ROUND / h in
      let last : k ≡ k - 1 + 1 = (elim (cases_lt 0 k) [
        | inl yes' ↦ omega arith
        | inr no' ↦ (let zero-is : k ≡ 0 = omega arith in
            let none : k * h ≡ 0 * h = ap (λ n. n * h) zero-is in absurd (omega arith))
      ]) in
      let s = (k - 1) * h in
      let split : k * h ≡ s + h = ap (λ n. n * h) last ∙ omega arith in
      let anew = anew_at ps h (k - 1) apart common some part met (omega arith) in
      let after = alike_along ps s h apart anew.common met (omega arith) (alike_start ps s apart anew) in
      let end : s + h + 1 ≡ ROUND + 1 = omega arith in
      subst (MetBefore (jobs_of ps)) end (met_again ps s h anew.common met (omega arith) after))
]
