-- What the pieces of a split keep, by induction over the definition.
use Rattle.std.proofs.Common.{◌≡◌, ◌≢◌, ℕ, zero, suc, ◌<◌, ◌==◌, not, true, List, [], ◌∷◌, Option, None, length, map, refl, ap, subst, sym, ◌∙◌, arith}
use Rattle.std.specs.List.{All, Contains, sum_by}
use Rattle.std.proofs.lemmas.Bool.Decides.{nat_tests}
use Rattle.std.proofs.lemmas.Option.{gets}
use Rattle.std.proofs.lemmas.List.Elements.{All-nil, All-cons, All-contains, All-contains_itself, All-filter, All-weaker, filter_passes}
use Rattle.std.proofs.lemmas.List.Sums.{sum_by-cons}
use Rattle.tab_core.specs.declared.over.Over.{Over}
use Rattle.tab_core.specs.declared.periodic.Periodic.{Periodic}
use Rattle.tab_core.specs.declared.piece.Piece.{Piece}
use Rattle.table_form.specs.Planning.Jobs.{Subtask}
use Rattle.table_form.specs.Planning.Demand.{Fits}
use Rattle.cd_split.specs.Cores.{pieces_on, HaveRoomFor}
use Rattle.cd_split.specs.Shares.{AreOf, FitTheirCores, HaveAdjacentWindows, StandApart}
use Rattle.cd_split.specs.Inside.Search.{IsPieceOf}
use Rattle.cd_split.specs.Splitting.{FitsWith, IsFirstCore, IsGreatestCut, IsSplit, Left, Splits, TakesCut, TakesRest, all_of, core_numbers, cut_of, left_after_cut, rest_of, subtask_on_core, unused_without}
use Rattle.cd_split.specs.Splitting.Splits.{AtHome, Cut, NoRoom}
use Rattle.cd_split.proofs.Trials.{jobs_of-push}

-- the unused cores after a cut were unused before it
pub still_unused : (core other : ℕ) (unused : List ℕ) → Contains (unused_without core unused) other
    → Contains unused other
still_unused core other unused there =
    All-contains (Contains unused) (unused_without core unused) other
    (All-filter (λ c. not (c == core)) (Contains unused) unused (All-contains_itself unused))
    there

-- the core of a cut is none of the unused cores after it, so no core is used twice
not_without : (core other : ℕ) (unused : List ℕ) → Contains (unused_without core unused) other → other ≢ core
not_without core other unused there e =
    let passes = All-contains (λ c. not (c == core) ≡ true) (unused_without core unused) other
    (filter_passes (λ c. not (c == core)) unused) there in
    grind (arith, nat_tests)

-- what fits as a subtask beside the pieces fits as a piece among them, as `add` asks it
pub room_for : (cores : List (List Piece)) (core : ℕ) (s : Subtask) (p : Piece) → IsPieceOf core s p
    → FitsWith (pieces_on cores core) s → HaveRoomFor (pieces_on cores p.core) p
room_for cores core s p is fits =
    let there : FitsWith (pieces_on cores p.core) s =
    subst (λ c. FitsWith (pieces_on cores c) s) (sym is.0) fits in
    subst Fits (sym (jobs_of-push (pieces_on cores p.core) p))
    (subst (FitsWith (pieces_on cores p.core)) (sym is.1) there)

-- what is left is split into these pieces
pub data SplitsInto (cores : List (List Piece)) : Left → List ℕ → List Piece → Type 0 where
  Home : (left : Left) (unused : List ℕ) (core : ℕ) (piece : Piece)
      → IsFirstCore cores unused (TakesRest cores left) core → IsPieceOf core (rest_of left) piece
      → SplitsInto cores left unused (piece ∷ [])
  Next : (left : Left) (unused : List ℕ) (core cost : ℕ) (piece : Piece) (pieces : List Piece)
      → IsFirstCore cores unused (TakesCut cores left) core → IsGreatestCut cores left core cost
      → IsPieceOf core (cut_of left cost) piece
      → SplitsInto cores (left_after_cut left cost) (unused_without core unused) pieces
      → SplitsInto cores left unused (piece ∷ pieces)

-- a piece of this subtask on this core
piece_of : (core : ℕ) (s : Subtask) (p : Piece) → ◌≡◌ {A = ℕ × Subtask} (core, s) (subtask_on_core p) → IsPieceOf core s p
piece_of core s p same = (ap (λ (t : ℕ × Subtask). t.0) (sym same), ap (λ (t : ℕ × Subtask). t.1) (sym same))

-- pieces that have these subtasks are so split
into_pieces : (cores : List (List Piece)) (left : Left) (unused : List ℕ) (subtasks : List (ℕ × Subtask))
    (refused : Option (ℕ × List Over)) (pieces : List Piece) → Splits cores left unused subtasks refused
    → subtasks ≡ map subtask_on_core pieces → refused ≡ None → SplitsInto cores left unused pieces
into_pieces cores left unused subtasks refused [] (AtHome l u core first) same none = absurd cc
into_pieces cores left unused subtasks refused (p ∷ []) (AtHome l u core first) same none =
    Home l u core p first (piece_of core (rest_of l) p (cc))
into_pieces cores left unused subtasks refused (p ∷ q ∷ ps) (AtHome l u core first) same none = absurd cc
into_pieces cores left unused subtasks refused [] (Cut l u core cost ss r home two first greatest next) same none =
    absurd cc
into_pieces cores left unused subtasks refused (p ∷ ps) (Cut l u core cost ss r home two first greatest next)
    same none = Next l u core cost p ps first greatest (piece_of core (cut_of l cost) p (cc))
    (into_pieces cores (left_after_cut l cost) (unused_without core u) ss r ps next (cc) none)
into_pieces cores left unused subtasks refused ps (NoRoom l u over home uncut overs) same none = absurd cc

-- the pieces of a whole vCPU are so split
pub split_into : (cores : List (List Piece)) (vcpu : ℕ) (task : Periodic) (pieces : List Piece)
    → IsSplit cores vcpu task pieces → SplitsInto cores (all_of vcpu task) (core_numbers cores) pieces
split_into cores vcpu task pieces splits = into_pieces cores (all_of vcpu task) (core_numbers cores)
    (map subtask_on_core pieces) None pieces splits refl refl

-- each piece is of the vCPU and has its period
pub splits_of : (cores : List (List Piece)) (left : Left) (unused : List ℕ) (pieces : List Piece)
    → SplitsInto cores left unused pieces
    → AreOf left.vcpu left.period pieces
splits_of cores left unused pieces (Home l u core piece first is) =
    All-cons (λ (p : Piece). (p.vcpu ≡ l.vcpu) × (p.period ≡ l.period)) piece []
    (ap (λ (s : Subtask). s.vcpu) is.1, ap (λ (s : Subtask). s.period) is.1)
    (All-nil (λ (p : Piece). (p.vcpu ≡ l.vcpu) × (p.period ≡ l.period)))
splits_of cores left unused pieces (Next l u core cost piece ps first greatest is next) =
    All-cons (λ (p : Piece). (p.vcpu ≡ l.vcpu) × (p.period ≡ l.period)) piece ps
    (ap (λ (s : Subtask). s.vcpu) is.1, ap (λ (s : Subtask). s.period) is.1)
    (splits_of cores (left_after_cut l cost) (unused_without core u) ps next)

-- each piece fits beside those of its core
pub splits_fit : (cores : List (List Piece)) (left : Left) (unused : List ℕ) (pieces : List Piece)
    → All (λ core. core < length cores) unused →
    SplitsInto cores left unused pieces → FitTheirCores cores pieces
splits_fit cores left unused pieces there (Home l u core piece first is) =
    All-cons (λ (p : Piece). (p.core < length cores) × HaveRoomFor (pieces_on cores p.core) p) piece [] (
      subst (λ c. c < length cores) (sym is.0)
          (All-contains (λ c. c < length cores) u core there first.unused_core),
      room_for cores core (rest_of l) piece is first.does,
    )
    (All-nil (λ (p : Piece). (p.core < length cores) × HaveRoomFor (pieces_on cores p.core) p))
splits_fit cores left unused pieces there (Next l u core cost piece ps first greatest is next) =
    All-cons (λ (p : Piece). (p.core < length cores) × HaveRoomFor (pieces_on cores p.core) p) piece ps (
      subst (λ c. c < length cores) (sym is.0)
          (All-contains (λ c. c < length cores) u core there first.unused_core),
      room_for cores core (cut_of l cost) piece is greatest.fits,
    )
    (splits_fit cores (left_after_cut l cost) (unused_without core u) ps
    (All-filter (λ c. not (c == core)) (λ c. c < length cores) u there) next)

-- each is on an unused core
splits_unused : (cores : List (List Piece)) (left : Left) (unused : List ℕ) (pieces : List Piece)
    → SplitsInto cores left unused pieces →
    All (λ p. Contains unused p.core) pieces
splits_unused cores left unused pieces (Home l u core piece first is) =
    All-cons (λ (p : Piece). Contains u p.core) piece []
    (subst (Contains u) (sym is.0) first.unused_core)
    (All-nil (λ (p : Piece). Contains u p.core))
splits_unused cores left unused pieces (Next l u core cost piece ps first greatest is next) =
    All-cons (λ (p : Piece). Contains u p.core) piece ps (subst (Contains u) (sym is.0) first.unused_core)
    (All-weaker (λ (p : Piece). Contains (unused_without core u) p.core) (λ (p : Piece). Contains u p.core)
    (λ p there. still_unused core p.core u there) ps
    (splits_unused cores (left_after_cut l cost) (unused_without core u) ps next))

-- one piece is on a core of its own
apart_one : (piece : Piece) → StandApart (piece ∷ [])
apart_one piece zero zero a b at at' same = refl
apart_one piece zero (suc j) a b at at' same = absurd (cc)
apart_one piece (suc i) j a b at at' same = absurd (cc)

-- pieces are on cores of their own with one more that is on none of theirs
apart_cons : (piece : Piece) (ps : List Piece) → All (λ p. p.core ≢ piece.core) ps → StandApart ps
    → StandApart (piece ∷ ps)
apart_cons piece ps others apart zero zero a b at at' same = refl
apart_cons piece ps others apart zero (suc j) a b at at' same = absurd (grind (arith, gets, others j b))
apart_cons piece ps others apart (suc i) zero a b at at' same = absurd (grind (arith, gets, others i a))
apart_cons piece ps others apart (suc i) (suc j) a b at at' same = ap (λ n. suc n) (apart i j a b at at' same)

-- no two are on one core
pub splits_apart : (cores : List (List Piece)) (left : Left) (unused : List ℕ) (pieces : List Piece)
    → SplitsInto cores left unused pieces → StandApart pieces
splits_apart cores left unused pieces (Home l u core piece first is) = apart_one piece
splits_apart cores left unused pieces (Next l u core cost piece ps first greatest is next) =
    apart_cons piece ps
    (All-weaker (λ (p : Piece). Contains (unused_without core u) p.core)
    (λ (p : Piece). p.core ≢ piece.core)
    (λ p there e. not_without core p.core u there (e ∙ is.0)) ps
    (splits_unused cores (left_after_cut l cost) (unused_without core u) ps next))
    (splits_apart cores (left_after_cut l cost) (unused_without core u) ps next)

-- the windows follow one another
pub splits_follow : (cores : List (List Piece)) (left : Left) (unused : List ℕ) (pieces : List Piece)
    → SplitsInto cores left unused pieces →
    HaveAdjacentWindows left.from left.period pieces
splits_follow cores left unused pieces (Home l u core piece first is) =
    (ap (λ (s : Subtask). s.from) is.1, ap (λ (s : Subtask). s.to) is.1)
splits_follow cores left unused pieces (Next l u core cost piece ps first greatest is next) = (
  ap (λ (s : Subtask). s.from) is.1,
  subst (λ n. HaveAdjacentWindows n l.period ps) (sym (ap (λ (s : Subtask). s.to) is.1))
      (splits_follow cores (left_after_cut l cost) (unused_without core u) ps next),
)

-- the costs are what is left
pub splits_cost : (cores : List (List Piece)) (left : Left) (unused : List ℕ) (pieces : List Piece)
    → SplitsInto cores left unused pieces →
    sum_by (λ p. p.cost) pieces ≡ left.rest
splits_cost cores left unused pieces (Home l u core piece first is) =
    sum_by-cons (λ (p : Piece). p.cost) piece []
    ∙ (let cost = ap (λ (s : Subtask). s.cost) is.1 in omega arith)
splits_cost cores left unused pieces (Next l u core cost piece ps first greatest is next) =
    let here = ap (λ (s : Subtask). s.cost) is.1 in
    let after = splits_cost cores (left_after_cut l cost) (unused_without core u) ps next in
    let below = greatest.part in
    sum_by-cons (λ (p : Piece). p.cost) piece ps ∙ omega arith
