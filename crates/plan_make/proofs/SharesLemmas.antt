-- The pieces of a vCPU that is split.
use Rattle.std.proofs.Common.{◌≡◌, ℕ, zero, suc, ◌-◌, ◌<◌, ◌≤◌, cond, eqb, List, [], ◌∷◌, ◌++◌, length, get_or, slice_get, take, sum_by, Some, refl, ap, sym, ◌∙◌, arith, subst, ◌+◌}
use Rattle.std.specs.List.{All}
use Rattle.std.proofs.lemmas.Bool.{eq-eqb, ne_eqb}
use Rattle.std.proofs.lemmas.List.{take_more, append-nil, get_or-take, length-take}
use Rattle.std.proofs.lemmas.List.Elements.{All-head, All-tail, All-take}
use Rattle.std.proofs.lemmas.List.Sums.{sum_by-cons, sum_by-le}
use Rattle.std.proofs.lemmas.Option.{same_Some, slice_get-get_or}
use Rattle.tab_core.specs.declared.periodic.Periodic.{Periodic}
use Rattle.tab_core.specs.declared.piece.Piece.{Piece}
use Rattle.cd_split.specs.Cores.{HaveRoomFor, LackVcpu, pieces_on}
use Rattle.cd_split.specs.Shares.{FitTheirCores, HaveAdjacentWindows, StandApart}
use Rattle.cd_split.specs.Splitting.{IsSplit}
use Rattle.table_form.specs.Planning.Drafts.{cost_on}
use Rattle.plan_make.specs.SplitInTurn.{home_of, with_pieces}
use Rattle.plan_make.proofs.ListMembers.{all_at}
use Rattle.plan_make.proofs.WithPieces.{StandBelow, length-with_pieces, of_core, pieces_on-with_pieces, with_piece, with_pieces_push}

-- each is on one of the cores
pub below_from_fit : (cores : List (List Piece)) (ps : List Piece) → FitTheirCores cores ps
    → StandBelow (length cores) ps
below_from_fit cores ps fit k d lt = (fit k d lt).0

-- a core has none of them if none is on it
pub of_core_none : (core : ℕ) (ps : List Piece) → All (λ p. p.core ≡ core → ⊥) ps → of_core core ps ≡ []
of_core_none core [] none = refl
of_core_none core (p ∷ ps) none =
    let P : Piece → Type 0 = λ q. q.core ≡ core → ⊥ in
    rw (ne_eqb p.core core (All-head P p ps none)) (of_core_none core ps (All-tail P p ps none))

-- those before a piece leave its core as it was
pub others_elsewhere : (ps : List Piece) (i : ℕ) (p : Piece) → slice_get ps i ≡ Some p → StandApart ps
    → of_core p.core (take i ps) ≡ []
others_elsewhere ps i p at apart = of_core_none p.core (take i ps) (λ k d lt same. (
    let before : k < i = omega (arith, length-take i ps) in
    let listed : k < length ps = omega (arith, length-take i ps) in
    let read = get_or-take i ps k d before in
    let place = apart k i (get_or ps k d) p (slice_get-get_or ps k d listed) at
    (ap (λ (q : Piece). q.core) (sym read) ∙ same) in
    absurd (omega arith)))

-- when its turn comes a piece finds its core as it was before the split, so it fits as splitting has
-- found
pub core_as_before : (cores : List (List Piece)) (ps : List Piece) (i : ℕ) (p : Piece)
    → slice_get ps i ≡ Some p
    → StandApart ps → StandBelow (length cores) ps →
    pieces_on (with_pieces cores (take i ps)) p.core ≡ pieces_on cores p.core
core_as_before cores ps i p at apart below =
    pieces_on-with_pieces cores (take i ps) p.core
    (All-take (λ (q : Piece). q.core < length cores) i ps below)
    ∙ ap (λ qs. pieces_on cores p.core ++ qs) (others_elsewhere ps i p at apart)
    ∙ append-nil (pieces_on cores p.core)

-- the last is on the home
pub home_of_last : (ps : List Piece) (d : Piece) → 0 < length ps
    → (get_or ps (length ps - 1) d).core ≡ home_of ps
home_of_last [] d lt = absurd (omega arith)
home_of_last (p ∷ []) d lt = refl
home_of_last (p ∷ q ∷ ps) d lt = ap (λ (r : Piece). r.core) (step (length ps))
    ∙ home_of_last (q ∷ ps) d (omega arith)
  where
    step : (n : ℕ) → get_or (p ∷ q ∷ ps) (suc (suc n) - 1) d ≡ get_or (q ∷ ps) (suc n - 1) d
    step n = ap (λ m. get_or (p ∷ q ∷ ps) m d) (let e : suc (suc n) - 1 ≡ suc n = omega arith in e)
        ∙ ap (λ m. get_or (q ∷ ps) m d) (let e : n ≡ suc n - 1 = omega arith in e)

-- a split gives a piece, so there is a last one to be the home
pub some_piece : (cores : List (List Piece)) (vcpu : ℕ) (task : Periodic) (ps : List Piece)
    → IsSplit cores vcpu task ps → 0 < length ps
some_piece cores vcpu task [] splits = elim splits [ ]
some_piece cores vcpu task (p ∷ ps) splits = omega arith

-- the home is one of the cores
pub home_below : (count : ℕ) (ps : List Piece) → 0 < length ps → StandBelow count ps → home_of ps < count
home_below count [] lt below = absurd (omega arith)
home_below count (p ∷ []) lt below = All-head (λ (q : Piece). q.core < count) p [] below
home_below count (p ∷ q ∷ ps) lt below =
    home_below count (q ∷ ps) (omega arith)
    (All-tail (λ (r : Piece). r.core < count) p (q ∷ ps) below)

-- the windows of earlier pieces end before those of later ones begin

-- pieces that follow one another begin after the first
begins_later : (ps : List Piece) (from to n : ℕ) (q : Piece) → HaveAdjacentWindows from to ps → slice_get ps n ≡ Some q
    → from ≤ q.from
begins_later [] from to n q follow at = absurd (cc)
begins_later (p ∷ ps) from to zero q follow at =
    let same = ap (λ (r : Piece). r.from) (same_Some p q at) in
    omega (arith, follow.0)
begins_later (p ∷ ps) from to (suc n) q follow at =
    let later = begins_later ps p.to to n q follow.1 at in
    omega (arith, follow.0, p.begins)

-- an earlier piece ends before a later one begins
pub ends_before : (ps : List Piece) (from to m n : ℕ) (p q : Piece) → HaveAdjacentWindows from to ps → m < n
    → slice_get ps m ≡ Some p → slice_get ps n ≡ Some q → p.to ≤ q.from
ends_before [] from to m n p q follow lt at at' = absurd (cc)
ends_before (r ∷ ps) from to m zero p q follow lt at at' = absurd (omega arith)
ends_before (r ∷ ps) from to zero (suc n) p q follow lt at at' =
    let same = ap (λ (s : Piece). s.to) (same_Some r p at) in
    let later = begins_later ps r.to to n q follow.1 at' in
    omega arith
ends_before (r ∷ ps) from to (suc m) (suc n) p q follow lt at at' =
    ends_before ps r.to to m n p q follow.1 (omega arith) at at'

-- what a vCPU gets of pieces

-- a vCPU without a piece gets nothing there
pub cost_on_none : (vcpu : ℕ) (ps : List Piece) → LackVcpu vcpu ps → cost_on vcpu ps ≡ 0
unfolding cost_on
cost_on_none vcpu ps lack =
    let none = sum_by-le (λ (p : Piece). cond (eqb p.vcpu vcpu) p.cost 0) 0 ps
    (λ k d lt. rw (ne_eqb (get_or ps k d).vcpu vcpu (lack k d lt)) (omega arith)) in
    omega arith

-- a vCPU without a piece gets nothing anywhere
pub costs_none : (vcpu : ℕ) (cores : List (List Piece)) → All (LackVcpu vcpu) cores
    → sum_by (cost_on vcpu) cores ≡ 0
costs_none vcpu cores lack =
    let none = sum_by-le (cost_on vcpu) 0 cores
    (λ k d lt. omega (arith, cost_on_none vcpu (get_or cores k d) (lack k d lt))) in
    omega arith

-- where all pieces are its own it gets their cost
pub cost_on_all : (vcpu : ℕ) (ps : List Piece) → All (λ p. p.vcpu ≡ vcpu) ps
    → cost_on vcpu ps ≡ sum_by (λ p. p.cost) ps
unfolding cost_on
cost_on_all vcpu [] all = refl
cost_on_all vcpu (p ∷ ps) all =
    let P : Piece → Type 0 = λ q. q.vcpu ≡ vcpu in
    let rest = cost_on_all vcpu ps (All-tail P p ps all) in
    let this : cond (eqb p.vcpu vcpu) p.cost 0 ≡ p.cost =
    rw (eq-eqb p.vcpu vcpu (All-head P p ps all)) refl in
    let first = sum_by-cons (λ (q : Piece). cond (eqb q.vcpu vcpu) q.cost 0) p ps in
    let first' = sum_by-cons (λ (q : Piece). q.cost) p ps in
    omega arith

-- one piece after the other is added; `now` is what the cores have then

-- reads the loop's piece at its place
next_at : (ps : List Piece) (i : ℕ) (p : Piece) → i < length ps → p ≡ get_or ps i p → slice_get ps i ≡ Some p
next_at ps i p lt is = slice_get-get_or ps i p lt ∙ ap Some (sym is)

-- the loop's step finds the piece's core as it was
next_as_before : (cores : List (List Piece)) (ps : List Piece) (i : ℕ) (p : Piece) (now : List (List Piece)) →
    now ≡ with_pieces cores (take i ps) → i < length ps → p ≡ get_or ps i p → StandApart ps
    → FitTheirCores cores ps →
    pieces_on now p.core ≡ pieces_on cores p.core
next_as_before cores ps i p now added lt is apart fit =
    ap (λ cs. pieces_on cs p.core) added
    ∙ core_as_before cores ps i p (next_at ps i p lt is) apart (below_from_fit cores ps fit)

-- the next one has room on its core
pub next_fits : (cores : List (List Piece)) (ps : List Piece) (i : ℕ) (p : Piece) (now : List (List Piece)) →
    now ≡ with_pieces cores (take i ps) → i < length ps → p ≡ get_or ps i p → StandApart ps
    → FitTheirCores cores ps →
    (p.core < length now) × HaveRoomFor (pieces_on now p.core) p
next_fits cores ps i p now added lt is apart fit =
    let At : Piece → Type 0 = λ q. (q.core < length cores) × HaveRoomFor (pieces_on cores q.core) q in
    let fits = all_at At ps i p fit (next_at ps i p lt is) in
    let count = ap length added ∙ length-with_pieces cores (take i ps) in
    let before = next_as_before cores ps i p now added lt is apart fit in
    (subst (λ n. p.core < n) (sym count) fits.0, subst (λ qs. HaveRoomFor qs p) (sym before) fits.1)

-- none of the next piece's vCPU is on its core
pub next_lacks : (cores : List (List Piece)) (ps : List Piece) (i : ℕ) (p : Piece) (now : List (List Piece)) →
    now ≡ with_pieces cores (take i ps) → i < length ps → p ≡ get_or ps i p → StandApart ps
    → FitTheirCores cores ps →
    All (λ q. LackVcpu q.vcpu (pieces_on cores q.core)) ps → LackVcpu p.vcpu (pieces_on now p.core)
next_lacks cores ps i p now added lt is apart fit lack =
    let before = next_as_before cores ps i p now added lt is apart fit in
    subst (LackVcpu p.vcpu) (sym before)
    (all_at (λ (q : Piece). LackVcpu q.vcpu (pieces_on cores q.core)) ps i p lack
    (next_at ps i p lt is))

-- the loop's step
pub one_more_added : (cores : List (List Piece)) (ps : List Piece) (i : ℕ) (p : Piece)
    (now end : List (List Piece)) →
    now ≡ with_pieces cores (take i ps) → i < length ps → p ≡ get_or ps i p → end ≡ with_piece now p →
    end ≡ with_pieces cores (take (i + 1) ps)
one_more_added cores ps i p now end added lt is more =
    more ∙ ap (λ cs. with_piece cs p) added ∙ sym (with_pieces_push cores (take i ps) p)
    ∙ ap (with_pieces cores) (ap (λ q. take i ps ++ q ∷ []) is ∙ sym (take_more ps i p lt))
