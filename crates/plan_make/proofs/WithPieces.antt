-- Cores with further pieces.
use Rattle.std.proofs.Common.{◌≡◌, ℕ, ◌+◌, ◌<◌, cond, eqb, List, [], ◌∷◌, ◌++◌, length, set, filter, sum_by, refl, ap, subst, sym, ◌∙◌, inl, inr, arith, length-set, get_or-set_same, get_or-set_other}
use Rattle.std.specs.List.{All}
use Rattle.std.proofs.lemmas.Bool.{cases_Bool, eqb-true, eqb-false}
use Rattle.std.proofs.lemmas.List.{append-nil, append_assoc}
use Rattle.std.proofs.lemmas.List.Elements.{All-head, All-tail}
use Rattle.std.proofs.lemmas.List.Sums.{sum_by-set}
use Rattle.tab_core.specs.declared.piece.Piece.{Piece}
use Rattle.cd_split.specs.Cores.{pieces_on}
use Rattle.table_form.specs.Planning.Drafts.{cost_on}
use Rattle.table_form.proofs.Supplies.{cost_on-append, cost_on-nil}
use Rattle.plan_make.specs.SplitInTurn.{with_pieces}

-- the cores with one further piece
abbrev pub with_piece : List (List Piece) → Piece → List (List Piece)
with_piece cores p = set cores p.core (pieces_on cores p.core ++ p ∷ [])

-- the core has its pieces and then the new one, if that is its own
pub pieces_on-with_piece : (cores : List (List Piece)) (p : Piece) (core : ℕ) → p.core < length cores →
    pieces_on (with_piece cores p) core ≡ pieces_on cores core ++ cond (eqb p.core core) (p ∷ []) []
pieces_on-with_piece cores p core there = elim (cases_Bool (eqb p.core core)) [
  | inl same ↦ (let e = eqb-true p.core core same in
      rw same (subst (λ c. pieces_on (with_piece cores p) c ≡ pieces_on cores c ++ p ∷ []) e
      (get_or-set_same cores p.core (pieces_on cores p.core ++ p ∷ []) [] there)))
  | inr other ↦ (let ne : core ≡ p.core → ⊥ = λ e. eqb-false p.core core other (sym e) in
      rw other (get_or-set_other cores p.core core (pieces_on cores p.core ++ p ∷ []) [] ne
      ∙ sym (append-nil (pieces_on cores core))))
]

-- further pieces leave the count of cores, which most bounds below are stated by
pub length-with_pieces : (cores : List (List Piece)) (ps : List Piece)
    → length (with_pieces cores ps) ≡ length cores
length-with_pieces cores [] = refl
length-with_pieces cores (p ∷ ps) = length-with_pieces (with_piece cores p) ps
    ∙ length-set cores p.core (pieces_on cores p.core ++ p ∷ [])

-- those of the pieces that are on the core
abbrev pub of_core : ℕ → List Piece → List Piece
of_core core ps = filter (λ q. eqb q.core core) ps

-- opens the filter by one piece, in the form in which `with_piece` adds it
pub of_core-cons : (core : ℕ) (p : Piece) (ps : List Piece)
    → of_core core (p ∷ ps) ≡ cond (eqb p.core core) (p ∷ []) [] ++ of_core core ps
of_core-cons core p ps = elim (cases_Bool (eqb p.core core))
    [ inl same ↦ rw same refl | inr other ↦ rw other refl ]

-- each of the pieces is on one of so many cores
abbrev pub StandBelow : ℕ → List Piece → Type 0
StandBelow count ps = All (λ p. p.core < count) ps

-- what a core has after a split: the split is known by its pieces alone, the demand is asked core by
-- core
pub pieces_on-with_pieces : (cores : List (List Piece)) (ps : List Piece) (core : ℕ)
    → StandBelow (length cores) ps →
    pieces_on (with_pieces cores ps) core ≡ pieces_on cores core ++ of_core core ps
pieces_on-with_pieces cores [] core below = sym (append-nil (pieces_on cores core))
pieces_on-with_pieces cores (p ∷ ps) core below =
    let here = All-head (λ (q : Piece). q.core < length cores) p ps below in
    let same = length-set cores p.core (pieces_on cores p.core ++ p ∷ []) in
    let rest = subst (λ n. StandBelow n ps) (sym same)
    (All-tail (λ (q : Piece). q.core < length cores) p ps below) in
    pieces_on-with_pieces (with_piece cores p) ps core rest
    ∙ ap (λ qs. qs ++ of_core core ps) (pieces_on-with_piece cores p core here)
    ∙ append_assoc (pieces_on cores core) (cond (eqb p.core core) (p ∷ []) []) (of_core core ps)
    ∙ ap (λ qs. pieces_on cores core ++ qs) (sym (of_core-cons core p ps))

-- the last of the pieces comes last
pub with_pieces_push : (cores : List (List Piece)) (ps : List Piece) (p : Piece)
    → with_pieces cores (ps ++ p ∷ []) ≡ with_piece (with_pieces cores ps) p
with_pieces_push cores [] p = refl
with_pieces_push cores (q ∷ ps) p = with_pieces_push (with_piece cores q) ps p

-- what the vCPU gets on all cores rises by what it gets of the new pieces
cost_on-first : (vcpu : ℕ) (p : Piece) (ps : List Piece)
    → cost_on vcpu (p ∷ ps) ≡ cost_on vcpu (p ∷ []) + cost_on vcpu ps
cost_on-first vcpu p ps = cost_on-append vcpu (p ∷ []) ps

-- one piece more costs its vCPU what the piece does
costs-with_piece : (vcpu : ℕ) (cores : List (List Piece)) (p : Piece) → p.core < length cores →
    sum_by (cost_on vcpu) (with_piece cores p) ≡ sum_by (cost_on vcpu) cores + cost_on vcpu (p ∷ [])
costs-with_piece vcpu cores p there =
    let change = sum_by-set (cost_on vcpu) cores p.core (pieces_on cores p.core ++ p ∷ []) [] there in
    let more = cost_on-append vcpu (pieces_on cores p.core) (p ∷ []) in
    omega arith

-- a split gives its vCPU exactly the cost of the pieces
pub costs-with_pieces : (vcpu : ℕ) (cores : List (List Piece)) (ps : List Piece)
    → StandBelow (length cores) ps →
    sum_by (cost_on vcpu) (with_pieces cores ps) ≡ sum_by (cost_on vcpu) cores + cost_on vcpu ps
costs-with_pieces vcpu cores [] below = omega (arith, cost_on-nil vcpu)
costs-with_pieces vcpu cores (p ∷ ps) below =
    let here = All-head (λ (q : Piece). q.core < length cores) p ps below in
    let same = length-set cores p.core (pieces_on cores p.core ++ p ∷ []) in
    let rest = subst (λ n. StandBelow n ps) (sym same)
    (All-tail (λ (q : Piece). q.core < length cores) p ps below) in
    let after = costs-with_pieces vcpu (with_piece cores p) ps rest in
    let first = costs-with_piece vcpu cores p here in
    let all = cost_on-first vcpu p ps in
    omega arith
