-- The pieces of all cores in one list, core by core.
use Rattle.std.proofs.Common.{◌≡◌, ℕ, zero, suc, ◌+◌, ◌-◌, ◌<◌, eqb, List, [], ◌∷◌, ◌++◌, length, slice_get, take, sum_by, Some, refl, ap, subst, sym, ◌∙◌, inl, inr, arith}
use Rattle.std.specs.List.{All}
use Rattle.plan_make.specs.Planned.{all_pieces}
use Rattle.std.proofs.lemmas.Bool.{cases_lt, eq-eqb, ne_eqb}
use Rattle.std.proofs.lemmas.List.{append-nil, append_assoc, take_more}
use Rattle.std.proofs.lemmas.List.Elements.{All-head, All-tail, filter-append}
use Rattle.std.proofs.lemmas.List.Sums.{sum_by-cons}
use Rattle.tab_core.specs.declared.piece.Piece.{Piece}
use Rattle.tab_core.proofs.Lists.{get_front, get_right}
use Rattle.table_form.specs.Planning.Drafts.{cost_on, pieces_at}
use Rattle.table_form.proofs.Supplies.{cost_on-append, cost_on-nil}
use Rattle.cd_split.specs.Cores.{pieces_on}

-- how many pieces there are on the cores before one
abbrev pub before : List (List Piece) → ℕ → ℕ
before [] core = 0
before (ps ∷ cores) zero = 0
before (ps ∷ cores) (suc core) = length ps + before cores core

-- where a piece of the list is: on which core, and at which place there
pub record IsStanding (cores : List (List Piece)) (i : ℕ) (p : Piece) : Type 0 where
  pub core : ℕ
  pub there : core < length cores
  pub place : ℕ
  pub at : slice_get (pieces_on cores core) place ≡ Some p
  pub number : i ≡ before cores core + place

-- each place of the flat list is a place on a core: what is known by core carries over to the draft
pub standing : (cores : List (List Piece)) (i : ℕ) (p : Piece) → slice_get (all_pieces cores) i ≡ Some p
    → IsStanding cores i p
standing [] i p at = absurd (cc)
standing (ps ∷ cores) i p at = elim (cases_lt i (length ps)) [
  | inl lt ↦ record {
    core = 0;
    there = omega arith;
    place = i;
    at = sym (get_front ps (all_pieces cores) i lt) ∙ at;
    number = omega arith;
  }
  | inr le ↦
      let j = i - length ps in
      let e : length ps + (i - length ps) ≡ i = omega arith in
      let later = standing cores j p (sym (get_right ps (all_pieces cores) j)
      ∙ ap (slice_get (ps ++ all_pieces cores)) e ∙ at) in
      let number = later.number in
      let there = later.there in
      record {
        core = suc later.core;
        there = omega arith;
        place = later.place;
        at = later.at;
        number = omega arith;
      }
]

-- two that are at one place are one
pub same_number : (cores : List (List Piece)) (i j : ℕ) (p q : Piece) (a : IsStanding cores i p)
    (b : IsStanding cores j q)
    → a.core ≡ b.core → a.place ≡ b.place → i ≡ j
same_number cores i j p q a b core place =
    let same = ap (before cores) core in
    omega (arith, a.number, b.number)

-- the pieces of one core among all

-- among a core's own pieces the filter for the core keeps all
kept_all : (core : ℕ) (ps : List Piece) → All (λ p. p.core ≡ core) ps → pieces_at ps core ≡ ps
kept_all core [] own = refl
kept_all core (p ∷ ps) own =
    let On : Piece → Type 0 = λ q. q.core ≡ core in
    rw (eq-eqb p.core core (All-head On p ps own))
    (ap (λ qs. p ∷ qs) (kept_all core ps (All-tail On p ps own)))

-- among another core's pieces the filter for the core keeps none
kept_none : (core other : ℕ) (ps : List Piece) → All (λ p. p.core ≡ other) ps → (other ≡ core → ⊥)
    → pieces_at ps core ≡ []
kept_none core other [] own ne = refl
kept_none core other (p ∷ ps) own ne =
    let On : Piece → Type 0 = λ q. q.core ≡ other in
    rw (ne_eqb p.core core (λ e. ne (sym (All-head On p ps own) ∙ e)))
    (kept_none core other ps (All-tail On p ps own) ne)

-- each list is of the core of its place, the first of which is `first`
abbrev AreOwnFrom : ℕ → List (List Piece) → Type 0
AreOwnFrom first cores = (k : ℕ) → All (λ p. p.core ≡ first + k) (pieces_on cores k)

-- the first list is of the first core
own_first : (first : ℕ) (ps : List Piece) (cores : List (List Piece)) → AreOwnFrom first (ps ∷ cores)
    → All (λ p. p.core ≡ first) ps
own_first first ps cores own = let e : first + 0 ≡ first = omega arith in subst
    (λ n. All (λ (p : Piece). p.core ≡ n) ps) e (own 0)

-- the lists after it are of the cores after
own_later : (first : ℕ) (ps : List Piece) (cores : List (List Piece)) → AreOwnFrom first (ps ∷ cores)
    → AreOwnFrom (first + 1) cores
own_later first ps cores own k =
    let e : first + suc k ≡ (first + 1) + k = omega arith in
    subst (λ n. All (λ (p : Piece). p.core ≡ n) (pieces_on cores k)) e (own (suc k))

-- a core that comes before all lists has no piece in them
none_before : (first core : ℕ) (cores : List (List Piece)) → AreOwnFrom first cores → core < first
    → pieces_at (all_pieces cores) core ≡ []
none_before first core [] own lt = refl
none_before first core (ps ∷ cores) own lt =
    let here = kept_none core first ps (own_first first ps cores own) (λ e. omega arith) in
    let rest = none_before (first + 1) core cores (own_later first ps cores own) (omega arith) in
    filter-append (λ (p : Piece). eqb p.core core) ps (all_pieces cores)
    ∙ ap (λ qs. qs ++ pieces_at (all_pieces cores) core) here ∙ rest

-- the filter for a core gives its list back, whatever the number of the first core
at_place : (first k : ℕ) (cores : List (List Piece)) → AreOwnFrom first cores
    → pieces_at (all_pieces cores) (first + k) ≡ pieces_on cores k
at_place first k [] own = refl
at_place first zero (ps ∷ cores) own =
    let e : first + 0 ≡ first = omega arith in
    let here = kept_all first ps (own_first first ps cores own) in
    let rest = none_before (first + 1) first cores (own_later first ps cores own) (omega arith) in
    ap (pieces_at (ps ++ all_pieces cores)) e
    ∙ filter-append (λ (p : Piece). eqb p.core first) ps (all_pieces cores)
    ∙ ap (λ qs. qs ++ pieces_at (all_pieces cores) first) here ∙ ap (λ qs. ps ++ qs) rest ∙ append-nil ps
at_place first (suc k) (ps ∷ cores) own =
    let e : first + suc k ≡ (first + 1) + k = omega arith in
    let here = kept_none ((first + 1) + k) first ps (own_first first ps cores own) (λ same. omega arith) in
    let rest = at_place (first + 1) k cores (own_later first ps cores own) in
    ap (pieces_at (ps ++ all_pieces cores)) e ∙ filter-append (λ (p : Piece). eqb p.core ((first + 1) + k)) ps
    (all_pieces cores)
    ∙ ap (λ qs. qs ++ pieces_at (all_pieces cores) ((first + 1) + k)) here ∙ rest

-- a draft reads its flat list by core: it finds what the layout had there
pub pieces_at_core : (cores : List (List Piece)) (core : ℕ)
    → ((k : ℕ) → All (λ p. p.core ≡ k) (pieces_on cores k))
    → pieces_at (all_pieces cores) core ≡ pieces_on cores core
pieces_at_core cores core own =
    let e : 0 + core ≡ core = omega arith in
    ap (pieces_at (all_pieces cores)) (sym e)
    ∙ at_place 0 core cores (λ k. (let same : k ≡ 0 + k = omega arith in subst
    (λ n. All (λ (p : Piece). p.core ≡ n) (pieces_on cores k)) same (own k)))

-- all pieces cost a vCPU what those of the cores do
pub cost_of_all : (vcpu : ℕ) (cores : List (List Piece))
    → cost_on vcpu (all_pieces cores) ≡ sum_by (cost_on vcpu) cores
cost_of_all vcpu [] = cost_on-nil vcpu
cost_of_all vcpu (ps ∷ cores) =
    let rest = cost_of_all vcpu cores in
    omega (arith, cost_on-append vcpu ps (all_pieces cores), sum_by-cons (cost_on vcpu) ps cores)

-- the pieces of one core more come after those of the others
pub all_pieces_push : (cores : List (List Piece)) (ps : List Piece)
    → all_pieces (cores ++ ps ∷ []) ≡ all_pieces cores ++ ps
all_pieces_push [] ps = append-nil ps
all_pieces_push (qs ∷ cores) ps =
    ap (λ rs. qs ++ rs) (all_pieces_push cores ps) ∙ sym (append_assoc qs (all_pieces cores) ps)

-- the loop's step: one core more
pub all_pieces_more : (cores : List (List Piece)) (n : ℕ) → n < length cores
    → all_pieces (take (n + 1) cores) ≡ all_pieces (take n cores) ++ pieces_on cores n
all_pieces_more cores n lt = ap all_pieces (take_more cores n [] lt)
    ∙ all_pieces_push (take n cores) (pieces_on cores n)
