-- What is kept of a piece's windows says when it is ready, when it is due and what it misses.
use Rattle.std.proofs.Common.{◌≡◌, ℕ, ◌+◌, ◌-◌, ◌*◌, ◌/◌, ◌<◌, ◌≤◌, ◌&&◌, true, ltb, min, List, [], ◌∷◌, length, get_or, ap, subst, sym, ◌∙◌, inl, inr, arith}
use Rattle.std.proofs.Math.Nat.{mul-div_cancel, mul-le-mul_left}
use Rattle.std.proofs.lemmas.Bool.{cases_eq, cases_lt, le-leb, le-ltb, lt-leb, ltb-true}
use Rattle.tab_core.specs.declared.TheConstants.{ROUND}
use Rattle.tab_core.specs.declared.piece.Piece.{Piece}
use Rattle.edf_table.specs.Inside.Progress.{AreCalm, ArePiecesKept, AreJobsCounted, IsPieceKept, IsMostUrgent, MetBefore, IsMissedAt, IsServedAt, due_at, due_of, goal_of, is_ready, window_no}
use Rattle.table_form.specs.Planning.Jobs.{jobs_of}
use Rattle.table_form.specs.Planning.Windows.{DistinctVcpus}
use Rattle.edf_table.proofs.Calm.{BeforeTurn, LacksMore, NoneReady, ready_due_later, unready_until, urgent_until}
use Rattle.edf_table.proofs.Turns.{begun, not_later, some_period}

-- where the next window is known by its number, so is what all before it cost
goal_counted : (p : Piece) (next n : ℕ) → next ≡ n * p.period + p.from → goal_of p next ≡ n * p.cost
unfolding goal_of
goal_counted p next n is =
    let at : next - p.from ≡ n * p.period = omega arith in
    ap (λ m. m * p.cost) (ap (λ m. m / p.period) at ∙ mul-div_cancel n (some_period p))

-- what the windows before the next one cost, and where the last of them ends, by the next one's
-- number
due_counted : (p : Piece) (next n : ℕ) → next ≡ n * p.period + p.from → 0 < n
    → due_of p next + p.period ≡ n * p.period + p.to
unfolding due_of
due_counted p next n is some =
    let more = mul-le-mul_left {m = 1} {n = n} p.period (omega arith) in omega arith

-- what is kept of a piece follows from the number of the next window
pub kept_counted : (p : Piece) (b e next n : ℕ) → next ≡ n * p.period + p.from → next < b + p.period
    → e ≤ next
    → IsPieceKept p b e next
kept_counted p b e next n is low ahead = record {
  count = n;
  next_is = is;
  goal_is = goal_counted p next n is;
  due_is = due_counted p next n is;
  begun = low;
  ahead = ahead;
}

-- what is kept is so for a later bound, and up to the next begin
pub kept_ahead : (p : Piece) (b c e f next : ℕ) → IsPieceKept p b e next → b ≤ c → f ≤ next → IsPieceKept p c f next
kept_ahead p b c e f next kept le le' =
    kept_counted p c f next kept.count kept.next_is (omega (arith, kept.begun)) le'

-- what is kept of a piece is so for a later bound, and up to the next begin
pub kept_later : (p : Piece) (b c e f next : ℕ) → IsPieceKept p b e next → b ≤ c → f ≤ e → IsPieceKept p c f next
kept_later p b c e f next kept le le' = kept_ahead p b c e f next kept le (omega (arith, kept.ahead))

-- what is kept of all pieces is so for a later bound
pub all_kept_later : (ps : List Piece) (ns : List ℕ) (n b c e f : ℕ) → ArePiecesKept ps ns n b e → b ≤ c
    → f ≤ e → ArePiecesKept ps ns n c f
all_kept_later ps ns n b c e f kept le le' i d i-in =
    kept_later (get_or ps i d) b c e f (get_or ns i 0) (kept i d i-in) le le'

-- before the round no window has begun
pub kept_first : (p : Piece) (next : ℕ) → next ≡ p.from → IsPieceKept p 0 0 next
kept_first p next is =
    kept_counted p 0 0 next 0 (omega arith) (omega (arith, p.begins, p.within)) (omega arith)

-- the next window begins
pub kept_next : (p : Piece) (next after : ℕ) → IsPieceKept p next next next → after ≡ next + p.period
    → IsPieceKept p (next + 1) after after
kept_next p next after kept is =
    let more : (kept.count + 1) * p.period ≡ kept.count * p.period + p.period = omega arith in
    kept_counted p (next + 1) after after (kept.count + 1) (omega (arith, kept.next_is)) (omega arith)
    (omega arith)

-- it costs the piece's cost more than those before it
pub goal_next : (p : Piece) (next after : ℕ) → IsPieceKept p next next next → after ≡ next + p.period
    → goal_of p after ≡ goal_of p next + p.cost
goal_next p next after kept is =
    let more : (kept.count + 1) * p.period ≡ kept.count * p.period + p.period = omega arith in
    let cost : (kept.count + 1) * p.cost ≡ kept.count * p.cost + p.cost = omega arith in
    let there = goal_counted p after (kept.count + 1) (omega (arith, kept.next_is)) in
    omega (arith, kept.goal_is)

-- the next window ends as the code says
pub due_next : (p : Piece) (next after : ℕ) → IsPieceKept p next next next → after ≡ next + p.period
    → due_of p after ≡ next - p.from + p.to
due_next p next after kept is =
    let more : (kept.count + 1) * p.period ≡ kept.count * p.period + p.period = omega arith in
    let there = due_counted p after (kept.count + 1) (omega (arith, kept.next_is)) (omega arith) in
    omega (arith, kept.next_is)

-- a count of at least one, as one more than another
before_last : (n t : ℕ) → 0 < n → n * t ≡ (n - 1) * t + t
before_last n t some = let e : n ≡ n - 1 + 1 = omega arith in ap (λ m. m * t) e ∙ omega arith

-- the window that began last is the last one counted
last_counted : (p : Piece) (tick : ℕ) (next : ℕ) (kept : IsPieceKept p (tick + 1) (tick + 1) next)
    → 0 < kept.count → (p.from ≤ tick) × (window_no p tick + 1 ≡ kept.count)
last_counted p tick next kept some =
    let n = kept.count in
    let split = before_last n p.period some in
    let here : (n - 1) * p.period + p.from ≤ tick = omega (arith, kept.next_is, kept.begun) in
    let from : p.from ≤ tick = omega arith in
    let low = not_later p tick (n - 1) here in
    elim (cases_lt (window_no p tick) n) [
      | inl below ↦ (from, omega arith)
      | inr above ↦ (let more = mul-le-mul_left {m = n} {n = window_no p tick} p.period above in
          absurd (omega (arith, begun p tick from, kept.next_is, kept.ahead)))
    ]

-- none is counted where none has begun
none_counted : (p : Piece) (tick : ℕ) (next : ℕ) (kept : IsPieceKept p (tick + 1) (tick + 1) next)
    → kept.count ≤ 0 → (tick < p.from) × (goal_of p next ≡ 0)
none_counted p tick next kept none =
    let zero : kept.count ≡ 0 = omega arith in
    let next : kept.count * p.period ≡ 0 * p.period = ap (λ m. m * p.period) zero in
    let goal : kept.count * p.cost ≡ 0 * p.cost = ap (λ m. m * p.cost) zero in
    (omega (arith, kept.next_is, kept.ahead), omega (arith, kept.goal_is))

-- a piece is ready where the windows that have begun cost more than it was given
pub kept_ready : (p : Piece) (given tick : ℕ) (next : ℕ) → IsPieceKept p (tick + 1) (tick + 1) next
    → ltb given (goal_of p next) ≡ is_ready p given tick
kept_ready p given tick next kept = elim (cases_lt 0 kept.count) [
  | inl some ↦
      (let last = last_counted p tick next kept some in
      let goal : (window_no p tick + 1) * p.cost ≡ goal_of p next =
      ap (λ m. m * p.cost) last.1 ∙ sym kept.goal_is in
      sym (ap (λ b. b && ltb given ((window_no p tick + 1) * p.cost)) (le-leb p.from tick last.0)
      ∙ ap (λ m. ltb given m) goal))
  | inr none ↦
      (let early = none_counted p tick next kept none in
      le-ltb given (goal_of p next) (omega (arith, early.1))
      ∙ sym (ap (λ b. b && ltb given ((window_no p tick + 1) * p.cost))
      (lt-leb p.from tick early.0)))
]

-- what the windows up to the one that began last cost
kept_goal : (p : Piece) (tick : ℕ) (next : ℕ) → IsPieceKept p (tick + 1) (tick + 1) next → 0 < goal_of p next
    → (window_no p tick + 1) * p.cost ≡ goal_of p next
kept_goal p tick next kept goal = elim (cases_lt 0 kept.count) [
  | inl some ↦
      ap (λ m. m * p.cost) (last_counted p tick next kept some).1 ∙ sym kept.goal_is
  | inr none ↦ (let early = none_counted p tick next kept none in absurd (omega (arith, early.1)))
]

-- a ready piece has windows that cost something
pub ready_goal : (p : Piece) (given tick : ℕ) (next : ℕ) → IsPieceKept p (tick + 1) (tick + 1) next
    → is_ready p given tick ≡ true → given < goal_of p next
ready_goal p given tick next kept ready =
    ltb-true given (goal_of p next) (kept_ready p given tick next kept ∙ ready)

-- a ready piece is due where the last of its windows ends
pub kept_due : (p : Piece) (tick : ℕ) (next : ℕ) → IsPieceKept p (tick + 1) (tick + 1) next → 0 < goal_of p next
    → due_of p next ≡ due_at p tick
kept_due p tick next kept goal = elim (cases_lt 0 kept.count) [
  | inl some ↦
      (let last = last_counted p tick next kept some in
      let due = kept.due_is some in
      let split : (window_no p tick + 1) * p.period ≡ kept.count * p.period =
      ap (λ m. m * p.period) last.1 in
      omega arith)
  | inr none ↦ (let early = none_counted p tick next kept none in absurd (omega (arith, early.1)))
]

-- no window begins between the tick and the next event
pub kept_calm : (ps : List Piece) (ns : List ℕ) (n tick event : ℕ)
    → ArePiecesKept ps ns n (tick + 1) event → AreCalm ps n tick event
kept_calm ps ns n tick event kept i d i-in k later =
    let p = get_or ps i d in
    let here = kept i d i-in in
    elim (cases_lt k here.count) [
      | inl before ↦ (let more = mul-le-mul_left {m = k + 1} {n = here.count} p.period (omega arith) in
          absurd (omega (arith, here.next_is, here.begun)))
      | inr from ↦ (let more = mul-le-mul_left {m = here.count} {n = k} p.period from in
          omega (arith, here.next_is, here.ahead))
    ]

-- a window that ends at the tick is the last one counted
last_ends : (p : Piece) (tick k : ℕ) (next : ℕ) (kept : IsPieceKept p tick tick next)
    → k * p.period + p.to ≡ tick → k + 1 ≡ kept.count
last_ends p tick k next kept at = elim (cases_lt k kept.count) [
  | inl counted ↦ elim (cases_lt (k + 1) kept.count) [
    | inl before ↦ (let more = mul-le-mul_left {m = k + 2} {n = kept.count} p.period (omega arith) in
        absurd (omega (arith, kept.next_is, kept.begun, p.within)))
    | inr last ↦ omega arith
  ]
  | inr beyond ↦ (let more = mul-le-mul_left {m = kept.count} {n = k} p.period beyond in
      absurd (omega (arith, kept.next_is, kept.ahead, p.begins)))
]

-- no window ends at this tick where the last one counted ends at another
pub kept_apart : (p : Piece) (given tick : ℕ) (next : ℕ) → IsPieceKept p tick tick next
    → (due_of p next ≡ tick → ⊥) → IsServedAt p given tick
kept_apart p given tick next kept apart k at =
    let last = last_ends p tick k next kept at in
    let due = kept.due_is (omega arith) in
    let split : (k + 1) * p.period ≡ kept.count * p.period = ap (λ m. m * p.period) last in
    absurd (apart (omega arith))

-- it is served where the ticks given reach what the windows cost
pub kept_served : (p : Piece) (given tick : ℕ) (next : ℕ) → IsPieceKept p tick tick next → goal_of p next ≤ given
    → IsServedAt p given tick
kept_served p given tick next kept enough k at =
    let last = last_ends p tick k next kept at in
    let goal : (k + 1) * p.cost ≡ goal_of p next = ap (λ m. m * p.cost) last ∙ sym kept.goal_is in
    omega arith

-- a piece is missed where its last window ends at the tick and the ticks given don't reach what its
-- windows cost
pub kept_missed : (p : Piece) (given tick : ℕ) (next : ℕ) → IsPieceKept p tick tick next → due_of p next ≡ tick
    → given < goal_of p next → IsMissedAt p given tick
kept_missed p given tick next kept now short = elim (cases_lt 0 kept.count) [
  | inl some ↦
      (let k = kept.count - 1 in
      let due = kept.due_is some in
      let split = before_last kept.count p.period some in
      let count : kept.count ≡ k + 1 = omega arith in
      let goal : goal_of p next ≡ (k + 1) * p.cost = kept.goal_is ∙ ap (λ m. m * p.cost) count in
      (k, omega arith, omega arith))
  | inr none ↦
      (let zero : kept.count ≡ 0 = omega arith in
      let goal : goal_of p next ≡ 0 * p.cost = kept.goal_is ∙ ap (λ m. m * p.cost) zero in
      absurd (omega arith))
]

-- where there is a place there is a piece
pub some_piece : (ps : List Piece) (i : ℕ) → i < length ps → Piece
some_piece [] i lt = absurd (omega arith)
some_piece (p ∷ ps) i lt = p

-- one piece more, whose window of the tick has begun if it has one
pub begun_more : (ps : List Piece) (ns ms : List ℕ) (i tick event next : ℕ)
    → ArePiecesKept ps ns i (tick + 1) event → next ≤ event
    → ((k : ℕ) → k < i → get_or ms k 0 ≡ get_or ns k 0)
    → ((d : Piece) → IsPieceKept (get_or ps i d) (tick + 1) next (get_or ms i 0))
    → ArePiecesKept ps ms (i + 1) (tick + 1) next
begun_more ps ns ms i tick event next kept le same here k d lt = elim (cases_eq k i) [
  | inl e ↦ subst (λ m. IsPieceKept (get_or ps m d) (tick + 1) next (get_or ms m 0)) (sym e) (here d)
  | inr ne ↦ subst (IsPieceKept (get_or ps k d) (tick + 1) next) (sym (same k (omega arith)))
      (kept_later (get_or ps k d) (tick + 1) (tick + 1) event next (get_or ns k 0)
      (kept k d (omega arith)) (omega arith) le)
]

-- what a core is known by before a turn without a ready piece
pub before_idle : (ps : List Piece) (ns : List ℕ) (gs : List ℕ) (tick event : ℕ)
    → DistinctVcpus ps → AreJobsCounted ps gs tick → MetBefore (jobs_of ps) (tick + 1) → event ≤ ROUND
    → ArePiecesKept ps ns (length ps) (tick + 1) event → NoneReady ps gs tick → BeforeTurn ps gs tick event
before_idle ps ns gs tick event apart counted met in_round kept unready =
    let calm = kept_calm ps ns (length ps) tick event kept in
    record {
      apart = apart;
      counted = counted;
      met = met;
      in_round = in_round;
      calm = calm;
      served = unready_until ps gs tick event calm unready;
    }

-- what is kept of the most urgent piece: its deadline, and what its windows cost
pub urgent_kept : (ps : List Piece) (ns gs : List ℕ) (tick event i : ℕ)
    → ArePiecesKept ps ns (length ps) (tick + 1) event → tick < event → IsMostUrgent ps gs tick (length ps) i
    → (d : Piece) → (due_of (get_or ps i d) (get_or ns i 0) ≡ due_at (get_or ps i d) tick)
    × ((window_no (get_or ps i d) tick + 1) * (get_or ps i d).cost ≡ goal_of (get_or ps i d) (get_or ns i 0))
urgent_kept ps ns gs tick event i kept lt urgent d =
    let p = get_or ps i d in
    let next = get_or ns i 0 in
    let here = kept_later p (tick + 1) (tick + 1) event (tick + 1) next (kept i d urgent.in_range)
    (omega arith) (omega arith) in
    let short = ready_goal p (get_or gs i 0) tick next here (urgent.ready d) in
    (kept_due p tick next here (omega arith), kept_goal p tick next here (omega arith))

-- what a core is known by before a turn of the most urgent piece, which lasts a tick at least
pub before_run : (ps : List Piece) (ns gs : List ℕ) (tick event end i : ℕ)
    → (d : Piece) → DistinctVcpus ps → AreJobsCounted ps gs tick → MetBefore (jobs_of ps) (tick + 1)
    → event ≤ ROUND → ArePiecesKept ps ns (length ps) (tick + 1) event → tick < event
    → IsMostUrgent ps gs tick (length ps) i
    → ((e : Piece) → end ≡ min event (due_of (get_or ps i e) (get_or ns i 0)))
    → BeforeTurn ps gs tick end × (tick < end)
before_run ps ns gs tick event end i d apart counted met in_round kept lt urgent is =
    let at = is d in
    let calm = kept_calm ps ns (length ps) tick end
    (all_kept_later ps ns (length ps) (tick + 1) (tick + 1) event end kept (omega arith) (omega arith)) in
    let due : (e : Piece) → due_of (get_or ps i e) (get_or ns i 0) ≡ due_at (get_or ps i e) tick =
    λ e. (urgent_kept ps ns gs tick event i kept lt urgent e).0 in
    let later = ready_due_later ps gs tick i d counted met (omega arith) urgent.in_range (urgent.ready d) in (
      record {
        apart = apart;
        counted = counted;
        met = met;
        in_round = omega arith;
        calm = calm;
        served = urgent_until ps gs tick end i calm urgent (λ e. omega (arith, due e, is e));
      },
      omega (arith, due d),
    )

-- the piece still had to get each of the ticks that it is given
pub lacks_all : (ps : List Piece) (ns gs : List ℕ) (tick event i n : ℕ)
    → ArePiecesKept ps ns (length ps) (tick + 1) event → tick < event → IsMostUrgent ps gs tick (length ps) i
    → ((d : Piece) → get_or gs i 0 + n ≤ goal_of (get_or ps i d) (get_or ns i 0))
    → (m : ℕ) → m < n → LacksMore ps gs tick i m
lacks_all ps ns gs tick event i n kept lt urgent most m m-lt d =
    let facts = urgent_kept ps ns gs tick event i kept lt urgent d in omega (arith, facts.1, most d)
