-- The pieces of a split vCPU beside those that are there.
use Rattle.std.proofs.Common.{◌≡◌, ℕ, ◌<◌, ◌⊎◌, true, cond, eqb, List, [], ◌∷◌, ◌++◌, length, set, slice_get, sum_by, Option, Some, refl, ap, subst, sym, ◌∙◌, inl, inr, arith}
use Rattle.std.specs.List.{All}
use Rattle.std.proofs.lemmas.Bool.{cases_eq, cases_lt, cases_order, eq-eqb, eqb-true, or_left, or_right}
use Rattle.std.proofs.lemmas.List.{get_or_past}
use Rattle.std.proofs.lemmas.List.Elements.{All-from_get_or, All-get_or, All-head, All-tail, All-weaker}
use Rattle.std.proofs.lemmas.List.Folds.{list_any-append}
use Rattle.std.proofs.lemmas.Option.{same_Some}
use Rattle.tab_core.specs.declared.periodic.Periodic.{Periodic}
use Rattle.tab_core.specs.declared.piece.Piece.{Piece}
use Rattle.tab_core.proofs.Lists.{set_here}
use Rattle.worst_fit.specs.Placement.{IsPlaced}
use Rattle.cd_split.specs.Cores.{LackVcpu, pieces_on}
use Rattle.table_form.specs.Planning.Drafts.{cost_on}
use Rattle.plan_make.specs.Inside.Allotted.{AreAllottedTo, IsOfAdmitted, WindowsApart, has_piece}
use Rattle.plan_make.specs.Inside.Splits.{AreShares}
use Rattle.plan_make.specs.SplitInTurn.{home_of, with_pieces}
use Rattle.table_form.proofs.Filters.{slice_get-filter}
use Rattle.plan_make.proofs.WithPieces.{costs-with_pieces, of_core, of_core-cons, pieces_on-with_pieces}
use Rattle.coalesce.proofs.Members.{slice_get-append_cases, slice_get-set_other}
use Rattle.plan_make.proofs.ListMembers.{all_at, all_from_places}
use Rattle.plan_make.proofs.SharesLemmas.{below_from_fit, cost_on_all, cost_on_none, costs_none, ends_before, some_piece}

-- the piece is one of the new ones, and is on the core
record IsNewOn (pieces : List Piece) (core : ℕ) (p : Piece) : Type 0 where
  pub on : p.core ≡ core
  pub place : ℕ
  pub at : slice_get pieces place ≡ Some p

-- a piece on a core was there before, or is new
old_or_new : (cores : List (List Piece)) (vcpu : ℕ) (task : Periodic) (pieces : List Piece)
    → AreShares cores vcpu task pieces → (core at : ℕ) (p : Piece) →
    slice_get (pieces_on (with_pieces cores pieces) core) at ≡ Some p
    → ((i : ℕ) × (slice_get (pieces_on cores core) i ≡ Some p)) ⊎ IsNewOn pieces core p
old_or_new cores vcpu task pieces shares core at p listed =
    let here =
    ap (λ ps. slice_get ps at)
    (sym (pieces_on-with_pieces cores pieces core (below_from_fit cores pieces shares.fit)))
    ∙ listed in
    elim (slice_get-append_cases (pieces_on cores core) (of_core core pieces) at p here) [
      | inl old ↦ inl (at, old)
      | inr new ↦ (let kept = slice_get-filter (λ (q : Piece). eqb q.core core) pieces new.0 p new.1 in
          inr (record { on = eqb-true p.core core kept.passes; place = kept.place; at = kept.at }))
    ]

-- two new pieces are on one core or have windows that don't meet, since they follow one another
new_windows : (cores : List (List Piece)) (vcpu : ℕ) (task : Periodic) (pieces : List Piece)
    → AreShares cores vcpu task pieces → (core other : ℕ) (p q : Piece) →
    IsNewOn pieces core p → IsNewOn pieces other q → (core ≡ other) ⊎ WindowsApart p q
new_windows cores vcpu task pieces shares core other p q a b = elim (cases_order a.place b.place) [
  | inl same ↦ (let one : p ≡ q = same_Some p q (sym a.at ∙ ap (slice_get pieces) same ∙ b.at) in inl
      (sym a.on ∙ ap (λ (r : Piece). r.core) one ∙ b.on))
  | inr (inl before) ↦
      inr (inl (ends_before pieces 0 task.period a.place b.place p q shares.windows before a.at
      b.at))
  | inr (inr after) ↦
      inr (inr (ends_before pieces 0 task.period b.place a.place q p shares.windows after b.at
      a.at))
]

-- a new piece is of the vCPU that is split, and has its period
vcpu_of_new : (cores : List (List Piece)) (vcpu : ℕ) (task : Periodic) (pieces : List Piece)
    → AreShares cores vcpu task pieces → (core : ℕ) (p : Piece) →
    IsNewOn pieces core p → (p.vcpu ≡ vcpu) × (p.period ≡ task.period)
vcpu_of_new cores vcpu task pieces shares core p new = all_at
    (λ (q : Piece). (q.vcpu ≡ vcpu) × (q.period ≡ task.period)) pieces new.place p shares.are_of new.at

-- the pieces on a core that is one of them are none of the vCPU
lack_on : (cores : List (List Piece)) (vcpu core i : ℕ) (p : Piece) → All (LackVcpu vcpu) cores
    → slice_get (pieces_on cores core) i ≡ Some p → p.vcpu ≡ vcpu → ⊥
lack_on cores vcpu core i p lack at = elim (cases_lt core (length cores)) [
  | inl lt ↦ all_at (λ (q : Piece). q.vcpu ≡ vcpu → ⊥) (pieces_on cores core) i p
      (All-get_or (LackVcpu vcpu) cores core [] lt lack) at
  | inr past ↦
      (let nothing = ap (λ ps. slice_get ps i) (sym (get_or_past cores core [] past)) ∙ at in absurd
      (cc))
]

-- the last of a vCPU's pieces is on their home
last_is_home : (ps : List Piece) (vcpu : ℕ) → 0 < length ps → All (λ p. p.vcpu ≡ vcpu) ps
    → has_piece vcpu (of_core (home_of ps) ps) ≡ true
last_is_home [] vcpu some all = absurd (omega arith)
last_is_home (p ∷ []) vcpu some all =
    rw (eq-eqb p.core p.core refl)
    (rw (eq-eqb p.vcpu vcpu (All-head (λ (q : Piece). q.vcpu ≡ vcpu) p [] all)) refl)
last_is_home (p ∷ q ∷ ps) vcpu some all =
    let core = home_of (q ∷ ps) in
    let rest = last_is_home (q ∷ ps) vcpu (omega arith)
    (All-tail (λ (r : Piece). r.vcpu ≡ vcpu) p (q ∷ ps) all) in
    let first : List Piece = cond (eqb p.core core) (p ∷ []) [] in
    ap (has_piece vcpu) (of_core-cons core p (q ∷ ps))
    ∙ list_any-append (λ (r : Piece). eqb r.vcpu vcpu) first (of_core core (q ∷ ps))
    ∙ or_right (has_piece vcpu first) (has_piece vcpu (of_core core (q ∷ ps))) rest

-- the new pieces make the vCPU one that has its pieces, with the last one's core as its home
pub allotted_next : (tasks : List (Option Periodic)) (homes : List (Option ℕ)) (cores : List (List Piece))
    (vcpu home : ℕ) (task : Periodic) (pieces : List Piece) →
    AreAllottedTo tasks homes cores → AreShares cores vcpu task pieces
    → slice_get tasks vcpu ≡ Some (Some task)
    → (IsPlaced homes vcpu → ⊥) → vcpu < length homes →
    home ≡ home_of pieces → AreAllottedTo tasks (set homes vcpu (Some home)) (with_pieces cores pieces)
allotted_next tasks homes cores vcpu home task pieces allotted shares has homeless known home_is = record {
  of_tasks = of_tasks;
  costs = costs;
  lack = lack;
  at_home = at_home;
  apart = apart;
}
  where
    none_yet : All (LackVcpu vcpu) cores
    none_yet = allotted.lack vcpu homeless

    of_tasks : (core at : ℕ) (p : Piece) → slice_get (pieces_on (with_pieces cores pieces) core) at ≡ Some p
        → IsOfAdmitted tasks p
    of_tasks core at p listed = elim (old_or_new cores vcpu task pieces shares core at p listed) [
      | inl old ↦ allotted.of_tasks core old.0 p old.1
      | inr new ↦ (let is = vcpu_of_new cores vcpu task pieces shares core p new in
          record { task = task; at = ap (slice_get tasks) is.0 ∙ has; period = is.1 })
    ]

    costs : (v h : ℕ) (t : Periodic) → slice_get (set homes vcpu (Some home)) v ≡ Some (Some h)
        → slice_get tasks v ≡ Some (Some t) → sum_by (cost_on v) (with_pieces cores pieces) ≡ t.cost
    costs v h t at at' = (
        let all = costs-with_pieces v cores pieces (below_from_fit cores pieces shares.fit) in
        elim (cases_eq v vcpu) [
          | inl same ↦
              (let t_is : task ≡ t = (let e = sym has ∙ ap (slice_get tasks) (sym same) ∙ at' in cc) in
              let before = costs_none v cores (subst (λ n. All (LackVcpu n) cores) (sym same) none_yet) in
              let new = cost_on_all v pieces (subst (λ n. All (λ p. p.vcpu ≡ n) pieces) (sym same)
              (All-weaker (λ (q : Piece). (q.vcpu ≡ vcpu) × (q.period ≡ task.period))
              (λ (q : Piece). q.vcpu ≡ vcpu) (λ q is. is.0) pieces shares.are_of)) in
              omega (arith, shares.cost, ap (λ (x : Periodic). x.cost) t_is))
          | inr ne ↦
              (let before = allotted.costs v h t
              (sym (slice_get-set_other homes vcpu v (Some home) ne) ∙ at) at' in
              let new =
              cost_on_none v pieces
              (All-weaker (λ (q : Piece). (q.vcpu ≡ vcpu) × (q.period ≡ task.period))
              (λ (q : Piece). q.vcpu ≡ v → ⊥) (λ q is e. ne (sym e ∙ is.0)) pieces shares.are_of) in
              omega arith)
        ])

    all_from_lists : (v : ℕ)
        → ((core i : ℕ) (p : Piece) → slice_get (pieces_on (with_pieces cores pieces) core) i
        ≡ Some p → p.vcpu ≡ v → ⊥)
        → All (LackVcpu v) (with_pieces cores pieces)
    all_from_lists v each = All-from_get_or (LackVcpu v) (with_pieces cores pieces) []
        (λ core lt. all_from_places (λ (p : Piece). p.vcpu ≡ v → ⊥)
        (pieces_on (with_pieces cores pieces) core)
        (each core))

    lack : (v : ℕ) → (IsPlaced (set homes vcpu (Some home)) v → ⊥)
        → All (LackVcpu v) (with_pieces cores pieces)
    lack v none = (
        let ne : v ≡ vcpu → ⊥ = λ same. none (
          home,
          ap (slice_get (set homes vcpu (Some home))) same
              ∙ set_here homes vcpu (Some home) known,
        ) in
        let before =
        allotted.lack v
        (λ placed. none (
          placed.0,
          slice_get-set_other homes vcpu v (Some home) ne
              ∙ placed.1,
        )) in
        all_from_lists v (λ core i p listed e. elim
        (old_or_new cores vcpu task pieces shares core i p listed) [
          | inl old ↦ lack_on cores v core old.0 p before old.1 e
          | inr new ↦ ne (sym e ∙ (vcpu_of_new cores vcpu task pieces shares core p new).0)
        ]))

    of_vcpu : All (λ (p : Piece). p.vcpu ≡ vcpu) pieces
    of_vcpu = All-weaker (λ (q : Piece). (q.vcpu ≡ vcpu) × (q.period ≡ task.period))
        (λ (q : Piece). q.vcpu ≡ vcpu)
        (λ q is. is.0) pieces shares.are_of

    at_home : (v h : ℕ) → slice_get (set homes vcpu (Some home)) v ≡ Some (Some h)
        → has_piece v (pieces_on (with_pieces cores pieces) h) ≡ true
    at_home v h at = (
        let on : pieces_on (with_pieces cores pieces) h ≡ pieces_on cores h ++ of_core h pieces
        = pieces_on-with_pieces cores pieces h (below_from_fit cores pieces shares.fit) in
        let either = ap (has_piece v) on ∙ list_any-append (λ (p : Piece). eqb p.vcpu v)
        (pieces_on cores h) (of_core h pieces) in
        elim (cases_eq v vcpu) [
          | inl same ↦ (let here : home ≡ h = (let e = sym (set_here homes vcpu (Some home) known)
              ∙ ap (slice_get (set homes vcpu (Some home))) (sym same) ∙ at in cc) in
              let some = some_piece cores vcpu task pieces shares.splits in
              let last =
              last_is_home pieces v some
              (subst (λ n. All (λ (p : Piece). p.vcpu ≡ n) pieces) (sym same) of_vcpu) in
              let new : has_piece v (of_core h pieces) ≡ true =
              subst (λ c. has_piece v (of_core c pieces) ≡ true) (sym home_is ∙ here) last
              in
              either ∙ or_right (has_piece v (pieces_on cores h)) (has_piece v (of_core h pieces)) new)
          | inr ne ↦
              (let before = allotted.at_home v h
              (sym (slice_get-set_other homes vcpu v (Some home) ne) ∙ at) in
              either ∙ or_left (has_piece v (pieces_on cores h)) (has_piece v (of_core h pieces)) before)
        ])

    apart : (core other i j : ℕ) (p q : Piece)
        → slice_get (pieces_on (with_pieces cores pieces) core) i ≡ Some p
        → slice_get (pieces_on (with_pieces cores pieces) other) j ≡ Some q
        → p.vcpu ≡ q.vcpu → (core ≡ other) ⊎ WindowsApart p q
    apart core other i j p q at at' one = elim (old_or_new cores vcpu task pieces shares core i p at) [
      | inl old ↦ elim (old_or_new cores vcpu task pieces shares other j q at') [
        | inl old' ↦ allotted.apart core other old.0 old'.0 p q old.1 old'.1 one
        | inr new' ↦
            absurd (lack_on cores vcpu core old.0 p none_yet old.1
            (one ∙ (vcpu_of_new cores vcpu task pieces shares other q new').0))
      ]
      | inr new ↦ elim (old_or_new cores vcpu task pieces shares other j q at') [
        | inl old' ↦
            absurd (lack_on cores vcpu other old'.0 q none_yet old'.1
            (sym one ∙ (vcpu_of_new cores vcpu task pieces shares core p new).0))
        | inr new' ↦ new_windows cores vcpu task pieces shares core other p q new new'
      ]
    ]
