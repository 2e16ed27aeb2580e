-- Where no window begins and none ends without its cost, the turn stays with one piece.
use Rattle.std.proofs.Common.{◌≡◌, ℕ, zero, suc, ◌+◌, ◌-◌, ◌*◌, ◌/◌, ◌<◌, ◌≤◌, ◌&&◌, true, false, leb, ltb, List, [], ◌∷◌, ◌++◌, length, get_or, set, replicate, map, Option, Some, None, refl, ap, subst, sym, ◌∙◌, inl, inr, arith, add-zero, add-suc, set-set, get_or-set_same, get_or-set_other, append_assoc}
use Rattle.std.proofs.Math.Nat.{div-eq_of_lt, mul-le-mul_left}
use Rattle.std.proofs.lemmas.Bool.{cases_Bool, cases_eq, cases_lt, false≢true, and_from, le-leb, lt-leb, lt-ltb}
use Rattle.std.proofs.lemmas.List.{set-get_or, map-append, replicate-append-replicate}
use Rattle.tab_core.specs.declared.TheConstants.{ROUND}
use Rattle.tab_core.specs.declared.piece.Piece.{Piece}
use Rattle.table_form.specs.Planning.EdfRow.{edf_cells, owner_of}
use Rattle.table_form.specs.Planning.Jobs.{Job, job_of, subtask_of, jobs_of}
use Rattle.edf_table.specs.Inside.Progress.{IsCalm, AreCalm, GoesTo, AreJobsCounted, MetBefore, IsMostUrgent, IsDueFirst, ServedBelow, cell, window_no, is_ready, due_at}
use Rattle.table_form.specs.Planning.Windows.{DistinctVcpus}
use Rattle.edf_table.proofs.Cells.{edf_cells-suc}
use Rattle.edf_table.proofs.Steps.{counted_idle, counted_run, idle_cell_any, met_more_any, one_more}
use Rattle.edf_table.proofs.Counts.{had_le_had}
use Rattle.edf_table.proofs.Pieces.{job_among}
use Rattle.edf_table.proofs.Turns.{begun, earlier_is_over, in_round, not_later, ready_parts, some_period, urgent_cell}

-- the window that began last stays so
calm_window_begun : (p : Piece) (tick until x : ℕ) → IsCalm p tick until → tick ≤ x → x < until
    → p.from ≤ tick → window_no p x ≡ window_no p tick
calm_window_begun p tick until x calm le lt from =
    let w = window_no p tick in
    let next : tick < (w + 1) * p.period + p.from = (elim (cases_lt tick ((w + 1) * p.period + p.from)) [
      | inl before ↦ before
      | inr past ↦ (let later = not_later p tick (w + 1) past in absurd (omega arith))
    ]) in
    let bound = calm (w + 1) next in
    let low = not_later p x w (omega (arith, begun p tick from)) in
    elim (cases_lt w (window_no p x)) [
      | inl above ↦
          (let more = mul-le-mul_left {m = w + 1} {n = window_no p x} p.period (omega arith) in
          absurd (omega (arith, begun p x (omega arith))))
      | inr same ↦ omega arith
    ]

-- before its first window a piece is at window 0
no_window_yet : (p : Piece) (tick : ℕ) → tick < p.from → window_no p tick ≡ 0
no_window_yet p tick lt = let none : tick - p.from ≡ 0 = omega arith in ap (λ n. n / p.period) none
    ∙ div-eq_of_lt (some_period p)

-- no first window begins in a calm stretch before which none did
calm_from : (p : Piece) (tick until x : ℕ) → IsCalm p tick until → x < until → tick < p.from → x < p.from
calm_from p tick until x calm lt early = let first = calm 0 (omega arith) in omega arith

-- in a calm stretch a piece stays at one window, begun or not
pub calm_window : (p : Piece) (tick until x : ℕ) → IsCalm p tick until → tick ≤ x → x < until
    → window_no p x ≡ window_no p tick
calm_window p tick until x calm le lt = elim (cases_lt tick p.from) [
  | inl early ↦ no_window_yet p x (calm_from p tick until x calm lt early) ∙ sym (no_window_yet p tick early)
  | inr from ↦ calm_window_begun p tick until x calm le lt from
]

-- whether the window has begun stays in a calm stretch
calm_begun : (p : Piece) (tick until x : ℕ) → IsCalm p tick until → tick ≤ x → x < until
    → leb p.from x ≡ leb p.from tick
calm_begun p tick until x calm le lt = elim (cases_lt tick p.from) [
  | inl early ↦ lt-leb p.from x (calm_from p tick until x calm lt early) ∙ sym (lt-leb p.from tick early)
  | inr from ↦ le-leb p.from x (omega arith) ∙ sym (le-leb p.from tick from)
]

-- whether the piece is ready stays in a calm stretch, of equal ticks given
calm_ready : (p : Piece) (given tick until x : ℕ) → IsCalm p tick until → tick ≤ x → x < until
    → is_ready p given x ≡ is_ready p given tick
calm_ready p given tick until x calm le lt =
    ap (λ b. b && ltb given ((window_no p x + 1) * p.cost)) (calm_begun p tick until x calm le lt)
    ∙ ap (λ n. leb p.from tick && ltb given ((n + 1) * p.cost)) (calm_window p tick until x calm le lt)

-- when the piece is due stays in a calm stretch
calm_due : (p : Piece) (tick until x : ℕ) → IsCalm p tick until → tick ≤ x → x < until
    → due_at p x ≡ due_at p tick
calm_due p tick until x calm le lt = ap (λ n. n * p.period + p.to) (calm_window p tick until x calm le lt)

-- each window that ends above the tick and below `until` has had its cost
abbrev pub ServedUntil : List Piece → List ℕ → ℕ → ℕ → Type 0
ServedUntil ps gs tick until = (i : ℕ) (d : Piece) → i < length ps →
    (k : ℕ) → tick < k * (get_or ps i d).period + (get_or ps i d).to
    → k * (get_or ps i d).period + (get_or ps i d).to < until
    → (k + 1) * (get_or ps i d).cost ≤ get_or gs i 0

-- nothing is missed between the ends of a calm stretch
served_at : (ps : List Piece) (gs : List ℕ) (tick until x : ℕ) → ServedUntil ps gs tick until
    → tick < x → x < until → ServedBelow ps gs x (length ps)
served_at ps gs tick until x served gt lt i d i-in k at = served i d i-in k (omega arith) (omega arith)

-- what was met in a calm stretch stays so from tick to tick
met_along : (ps : List Piece) (gs : List ℕ) (tick until x : ℕ) → ServedUntil ps gs tick until
    → tick ≤ x → x < until → AreJobsCounted ps gs x → MetBefore (jobs_of ps) (tick + 1)
    → MetBefore (jobs_of ps) x →
    MetBefore (jobs_of ps) (x + 1)
met_along ps gs tick until x served le lt counted start met = elim (cases_eq tick x) [
  | inl same ↦ subst (λ n. MetBefore (jobs_of ps) (n + 1)) same start
  | inr ne ↦ met_more_any ps gs x counted met (served_at ps gs tick until x served (omega arith) lt)
]

-- in a calm stretch a window that ends above its first tick is the one that began last
calm_ends_last : (p : Piece) (tick until k : ℕ) → IsCalm p tick until → tick < k * p.period + p.to
    → k * p.period + p.to < until → (p.from ≤ tick) × (k ≡ window_no p tick)
calm_ends_last p tick until k calm gt lt = elim (cases_lt tick (k * p.period + p.from)) [
  | inl later ↦ (let far = calm k later in absurd (omega (arith, p.begins)))
  | inr here ↦ (let from : p.from ≤ tick = omega arith in
      let low = not_later p tick k here in
      elim (cases_lt k (window_no p tick)) [
        | inl before ↦ (let over = earlier_is_over p tick k from before in absurd (omega arith))
        | inr last ↦ (from, omega arith)
      ])
]

-- a piece that isn't ready has had the cost of its window
unready_served : (p : Piece) (given tick : ℕ) → p.from ≤ tick → is_ready p given tick ≡ false
    → (window_no p tick + 1) * p.cost ≤ given
unready_served p given tick from unready = elim (cases_lt given ((window_no p tick + 1) * p.cost)) [
  | inl short ↦ absurd (false≢true (sym unready
      ∙ and_from (leb p.from tick) (ltb given ((window_no p tick + 1) * p.cost)) (le-leb _ _ from)
      (lt-ltb _ _ short)))
  | inr enough ↦ enough
]

-- no piece is ready
abbrev pub NoneReady : List Piece → List ℕ → ℕ → Type 0
NoneReady ps gs tick = (i : ℕ) (d : Piece) → i < length ps
    → is_ready (get_or ps i d) (get_or gs i 0) tick ≡ false

-- where none is, each window that ends in a calm stretch has had its cost
pub unready_until : (ps : List Piece) (gs : List ℕ) (tick until : ℕ) → AreCalm ps (length ps) tick until
    → NoneReady ps gs tick → ServedUntil ps gs tick until
unready_until ps gs tick until calm unready i d i-in k gt lt =
    let p = get_or ps i d in
    let last = calm_ends_last p tick until k (calm i d i-in) gt lt in
    subst (λ n. (n + 1) * p.cost ≤ get_or gs i 0) (sym last.1)
    (unready_served p (get_or gs i 0) tick last.0 (unready i d i-in))

-- each window that ends before the most urgent piece is due has had its cost
pub urgent_until : (ps : List Piece) (gs : List ℕ) (tick until i : ℕ) → AreCalm ps (length ps) tick until
    → IsMostUrgent ps gs tick (length ps) i → ((d : Piece) → until ≤ due_at (get_or ps i d) tick)
    → ServedUntil ps gs tick until
urgent_until ps gs tick until i calm urgent due j d j-in k gt lt =
    let p = get_or ps j d in
    let last = calm_ends_last p tick until k (calm j d j-in) gt lt in
    elim (cases_Bool (is_ready p (get_or gs j 0) tick)) [
      | inl ready ↦
          (let ends : k * p.period + p.to ≡ due_at p tick = ap (λ n. n * p.period + p.to) last.1 in
          let far = due d in
          elim (urgent.first j d j-in ready) [
            | inl earlier ↦ absurd (omega arith)
            | inr with' ↦ absurd (let same = with'.0 in omega arith)
          ])
      | inr unready ↦ subst (λ n. (n + 1) * p.cost ≤ get_or gs j 0) (sym last.1)
          (unready_served p (get_or gs j 0) tick last.0 unready)
    ]

-- a ready piece is due later, where all that is due by now is met
pub ready_due_later : (ps : List Piece) (gs : List ℕ) (tick i : ℕ) (d : Piece) → AreJobsCounted ps gs tick
    → MetBefore (jobs_of ps) (tick + 1) → tick < ROUND → i < length ps
    → is_ready (get_or ps i d) (get_or gs i 0) tick ≡ true → tick < due_at (get_or ps i d) tick
ready_due_later ps gs tick i d counted met lt i-in ready =
    let p = get_or ps i d in
    let w = window_no p tick in
    let job = job_of (subtask_of p) w in
    let parts = ready_parts p (get_or gs i 0) tick ready in
    elim (cases_lt tick (w * p.period + p.to)) [
      | inl later ↦ later
      | inr over ↦
          (let in_time = met job (job_among ps d i w i-in (in_round p tick parts.0 lt)) (omega arith) in
          let kept = had_le_had (jobs_of ps) job (w * p.period + p.to) tick over in
          let has = counted.each i d i-in w in
          let short = parts.1 in
          absurd (omega (arith, p.costs)))
    ]

-- what is met up to and at a tick is met up to it
met_less : (js : List Job) (tick : ℕ) → MetBefore js (tick + 1) → MetBefore js tick
met_less js tick met j a lt = met j a (omega arith)

-- piece i has n ticks more
abbrev pub more_given : List ℕ → ℕ → ℕ → List ℕ
more_given gs i n = set gs i (get_or gs i 0 + n)

-- a turn of no ticks gives nothing
more-zero : (gs : List ℕ) (i : ℕ) → more_given gs i 0 ≡ gs
more-zero gs i = ap (set gs i) (add-zero (get_or gs i 0)) ∙ set-get_or gs i 0

-- one tick more of a turn is one tick given
more-suc : (gs : List ℕ) (i n : ℕ) → i < length gs → one_more (more_given gs i n) i ≡ more_given gs i (suc n)
more-suc gs i n lt =
    set-set gs i (get_or gs i 0 + n) (get_or (more_given gs i n) i 0 + 1)
    ∙ ap (set gs i) (ap (λ g. g + 1) (get_or-set_same gs i (get_or gs i 0 + n) 0 lt) ∙ omega arith)

-- the piece still has to get more than m ticks of the window that began last
abbrev pub LacksMore : List Piece → List ℕ → ℕ → ℕ → ℕ → Type 0
LacksMore ps gs tick i m = (d : Piece)
    → get_or gs i 0 + m < (window_no (get_or ps i d) tick + 1) * (get_or ps i d).cost

-- the most urgent piece stays so while it still has to get ticks
still_urgent : (ps : List Piece) (gs : List ℕ) (tick until i n : ℕ) → length ps ≤ length gs
    → AreCalm ps (length ps) tick until → tick + n < until → IsMostUrgent ps gs tick (length ps) i →
    LacksMore ps gs tick i n → IsMostUrgent ps (more_given gs i n) (tick + n) (length ps) i
still_urgent ps gs tick until i n enough calm lt urgent lacks = record {
  in_range = urgent.in_range;
  ready = ready';
  first = first';
}
  where
    ready_now : (e : Piece) → is_ready (get_or ps i e) (get_or gs i 0 + n) tick ≡ true
    ready_now e =
        let p = get_or ps i e in
        let from = (ready_parts p (get_or gs i 0) tick (urgent.ready e)).0 in
        and_from (leb p.from tick) (ltb (get_or gs i 0 + n) ((window_no p tick + 1) * p.cost))
        (le-leb _ _ from) (lt-ltb _ _ (lacks e))

    ready' : (e : Piece) → is_ready (get_or ps i e) (get_or (more_given gs i n) i 0) (tick + n) ≡ true
    ready' e =
        rw (get_or-set_same gs i (get_or gs i 0 + n) 0 (omega (arith, urgent.in_range)))
        (calm_ready (get_or ps i e) (get_or gs i 0 + n) tick until (tick + n)
        (calm i e urgent.in_range) (omega arith) lt ∙ ready_now e)

    first' : (k : ℕ) (e : Piece) → k < length ps
        → is_ready (get_or ps k e) (get_or (more_given gs i n) k 0) (tick + n) ≡ true
        → IsDueFirst (tick + n) (get_or ps i e) (get_or ps k e)
    first' k e k-in ready = elim (cases_eq k i) [
      | inl same ↦ subst (λ m. IsDueFirst (tick + n) (get_or ps i e) (get_or ps m e)) (sym same)
          (inr (refl, omega arith))
      | inr ne ↦ (let before : is_ready (get_or ps k e) (get_or gs k 0) tick ≡ true =
          sym (calm_ready (get_or ps k e) (get_or gs k 0) tick until (tick + n) (calm k e k-in)
          (omega arith) lt)
          ∙ subst (λ g. is_ready (get_or ps k e) g (tick + n) ≡ true)
          (get_or-set_other gs i k (get_or gs i 0 + n) 0 ne) ready in
          let due_i = calm_due (get_or ps i e) tick until (tick + n) (calm i e urgent.in_range)
          (omega arith) lt in
          let due_k = calm_due (get_or ps k e) tick until (tick + n) (calm k e k-in) (omega arith) lt in
          elim (urgent.first k e k-in before) [
            | inl earlier ↦ inl (omega arith)
            | inr with' ↦ inr (omega (arith, with'.0), with'.1)
          ])
    ]

-- what is known of a core before a turn: from the tick up to `until` no window begins, and none ends
-- without its cost
pub record BeforeTurn (ps : List Piece) (gs : List ℕ) (tick until : ℕ) : Type 0 where
  pub apart : DistinctVcpus ps
  pub counted : AreJobsCounted ps gs tick
  pub met : MetBefore (jobs_of ps) (tick + 1)
  pub in_round : until ≤ ROUND
  pub calm : AreCalm ps (length ps) tick until
  pub served : ServedUntil ps gs tick until

-- a window that has had its cost still has it when a piece has more
served_more : (ps : List Piece) (gs : List ℕ) (tick until i n : ℕ) → i < length gs
    → ServedUntil ps gs tick until → ServedUntil ps (more_given gs i n) tick until
served_more ps gs tick until i n in_range served j d j-in k gt lt = elim (cases_eq j i) [
  | inl same ↦ (let before = served j d j-in k gt lt in
      let given : get_or (more_given gs i n) j 0 ≡ get_or gs j 0 + n =
      ap (λ m. get_or (more_given gs i n) m 0) same
      ∙ get_or-set_same gs i (get_or gs i 0 + n) 0 in_range
      ∙ ap (λ m. get_or gs m 0 + n) (sym same) in
      omega arith)
  | inr ne ↦ (let before = served j d j-in k gt lt in
      let given = get_or-set_other gs i j (get_or gs i 0 + n) 0 ne in omega arith)
]

-- after n ticks of one piece
pub run_along : (ps : List Piece) (gs : List ℕ) (tick until i n : ℕ) → BeforeTurn ps gs tick until
    → IsMostUrgent ps gs tick (length ps) i → tick + n ≤ until
    → ((m : ℕ) → m < n → LacksMore ps gs tick i m) →
    AreJobsCounted ps (more_given gs i n) (tick + n) × MetBefore (jobs_of ps) (tick + n)
run_along ps gs tick until i zero now urgent le lacks =
    rw (add-zero tick) (rw (more-zero gs i) (now.counted, met_less (jobs_of ps) tick now.met))
run_along ps gs tick until i (suc n) now urgent le lacks =
    let before = run_along ps gs tick until i n now urgent (omega arith) (λ m lt. lacks m (omega arith)) in
    let met = met_along ps (more_given gs i n) tick until (tick + n)
    (served_more ps gs tick until i n (omega (arith, now.counted.enough, urgent.in_range)) now.served)
    (omega arith)
    (omega arith) before.0 now.met before.1 in
    let here = still_urgent ps gs tick until i n now.counted.enough now.calm (omega arith) urgent
    (lacks n (omega arith)) in
    let after = counted_run ps (more_given gs i n) (tick + n) i now.apart before.0 met
    (omega (arith, now.in_round)) here in
    let e : tick + n + 1 ≡ tick + suc n = omega arith in
    let given = more-suc gs i n (omega (arith, now.counted.enough, urgent.in_range)) in (
      subst (λ hs. AreJobsCounted ps hs (tick + suc n)) given
          (subst (AreJobsCounted ps (one_more (more_given gs i n) i)) e after),
      subst (MetBefore (jobs_of ps)) e met,
    )

-- each of the ticks of a turn goes to its piece: what `run_turn` says of its owner
pub run_goes : (ps : List Piece) (gs : List ℕ) (tick until i n : ℕ) (d : Piece)
    → BeforeTurn ps gs tick until → IsMostUrgent ps gs tick (length ps) i → tick + n ≤ until
    → ((m : ℕ) → m < n → LacksMore ps gs tick i m) →
    GoesTo (jobs_of ps) tick (tick + n) (Some (get_or ps i d).vcpu)
run_goes ps gs tick until i n d now urgent le lacks x x-ge x-lt =
    let m = x - tick in
    let at : tick + m ≡ x = omega arith in
    let before = run_along ps gs tick until i m now urgent (omega arith) (λ k lt. lacks k (omega arith)) in
    let met = met_along ps (more_given gs i m) tick until (tick + m)
    (served_more ps gs tick until i m (omega (arith, now.counted.enough, urgent.in_range)) now.served)
    (omega arith)
    (omega arith) before.0 now.met before.1 in
    let here = still_urgent ps gs tick until i m now.counted.enough now.calm (omega arith) urgent
    (lacks m (omega arith)) in
    subst (λ y. owner_of (cell (jobs_of ps) y) ≡ Some (get_or ps i d).vcpu) at
    (ap owner_of (urgent_cell ps (more_given gs i m) (tick + m) i d now.apart before.0 met
    (omega (arith, now.in_round)) here))

-- a tick of the stretch is idle where no piece was ready at its begin
idle_at : (ps : List Piece) (gs : List ℕ) (tick until x : ℕ) → BeforeTurn ps gs tick until
    → NoneReady ps gs tick → tick ≤ x → x < until → AreJobsCounted ps gs x
    → MetBefore (jobs_of ps) (x + 1) → cell (jobs_of ps) x ≡ None
idle_at ps gs tick until x now unready ge lt counted met =
    idle_cell_any ps gs x counted met (omega (arith, now.in_round))
    (λ i d i-in. calm_ready (get_or ps i d) (get_or gs i 0) tick until x (now.calm i d i-in) ge lt
    ∙ unready i d i-in)

-- after n idle ticks
pub idle_along : (ps : List Piece) (gs : List ℕ) (tick until n : ℕ) → BeforeTurn ps gs tick until
    → NoneReady ps gs tick → tick + n ≤ until
    → AreJobsCounted ps gs (tick + n) × MetBefore (jobs_of ps) (tick + n)
idle_along ps gs tick until zero now unready le =
    rw (add-zero tick) (now.counted, met_less (jobs_of ps) tick now.met)
idle_along ps gs tick until (suc n) now unready le =
    let before = idle_along ps gs tick until n now unready (omega arith) in
    let met = met_along ps gs tick until (tick + n) now.served (omega arith)
    (omega arith) before.0 now.met before.1 in
    let after = counted_idle ps gs (tick + n) before.0
    (idle_at ps gs tick until (tick + n) now unready (omega arith)
    (omega arith) before.0 met) in
    let e : tick + n + 1 ≡ tick + suc n = omega arith in
    (subst (AreJobsCounted ps gs) e after, subst (MetBefore (jobs_of ps)) e met)

-- all ticks of an idle turn are idle: what `run_turn` says without an owner
pub idle_goes : (ps : List Piece) (gs : List ℕ) (tick until : ℕ) → BeforeTurn ps gs tick until
    → NoneReady ps gs tick → GoesTo (jobs_of ps) tick until None
idle_goes ps gs tick until now unready x ge lt =
    let m = x - tick in
    let at : tick + m ≡ x = omega arith in
    let before = idle_along ps gs tick until m now unready (omega arith) in
    let met = met_along ps gs tick until (tick + m) now.served (omega arith)
    (omega arith) before.0 now.met before.1 in
    subst (λ y. owner_of (cell (jobs_of ps) y) ≡ None) at
    (ap owner_of (idle_at ps gs tick until (tick + m) now unready (omega arith) (omega arith) before.0 met))

-- a turn's cells follow those before it
cells_along : (js : List Job) (tick n : ℕ) (owner : Option ℕ) → GoesTo js tick (tick + n) owner
    → map owner_of (edf_cells js tick) ++ replicate n owner ≡ map owner_of (edf_cells js (tick + n))
cells_along js tick zero owner goes = rw (add-zero tick) (append_empty (map owner_of (edf_cells js tick)))
  where
    append_empty : (xs : List (Option ℕ)) → xs ++ [] ≡ xs
    append_empty [] = refl
    append_empty (x ∷ xs) = ap (λ ys. x ∷ ys) (append_empty xs)
cells_along js tick (suc n) owner goes =
    let before = cells_along js tick n owner (λ x ge lt. goes x ge (omega arith)) in
    let here = goes (tick + n) (omega arith) (omega arith) in
    let cells = map owner_of (edf_cells js tick) in
    let count : n + 1 ≡ suc n = omega arith in
    let more : replicate (suc n) owner ≡ replicate n owner ++ owner ∷ [] =
    sym (replicate-append-replicate n 1 owner ∙ ap (λ k. replicate k owner) count) in
    ap (λ ys. cells ++ ys) more ∙ sym (append_assoc cells (replicate n owner) (owner ∷ []))
    ∙ ap (λ ys. ys ++ owner ∷ []) before
    ∙ ap (λ o. map owner_of (edf_cells js (tick + n)) ++ o ∷ []) (sym here)
    ∙ sym (map-append owner_of (edf_cells js (tick + n)) (cell js (tick + n) ∷ []))
    ∙ ap (map owner_of) (sym (edf_cells-suc js (tick + n)) ∙ ap (edf_cells js) (sym (add-suc tick n)))

-- the row that the builder has after the turn is that of the definition
pub row_along : (js : List Job) (row next : List (Option ℕ)) (tick n : ℕ) (owner : Option ℕ)
    → row ≡ map owner_of (edf_cells js tick) → GoesTo js tick (tick + n) owner
    → next ≡ row ++ replicate n owner →
    next ≡ map owner_of (edf_cells js (tick + n))
row_along js row next tick n owner row_is goes pushed = pushed
    ∙ ap (λ ys. ys ++ replicate n owner) row_is ∙ cells_along js tick n owner goes
