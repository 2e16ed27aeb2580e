-- Splitting has one outcome: the cores and the greatest cuts are determined, so are the pieces or
-- what the refusal tells, and nothing is both split and refused.
use Rattle.std.proofs.Common.{◌≡◌, ◌⊎◌, ℕ, ◌<◌, ◌≤◌, List, [], ◌∷◌, Option, Some, None, length, map, refl, subst, sym, ap, ◌∙◌, inl, inr, arith}
use Rattle.std.specs.List.{AllZip}
use Rattle.std.proofs.lemmas.Bool.{cases_eq}
use Rattle.std.proofs.lemmas.Option.{same_Some}
use Rattle.tab_core.specs.declared.over.Over.{Over}
use Rattle.tab_core.specs.declared.periodic.Periodic.{Periodic}
use Rattle.tab_core.specs.declared.piece.Piece.{Piece}
use Rattle.table_form.specs.Planning.Jobs.{Job, Subtask}
use Rattle.table_form.specs.Planning.Demand.{IsFirstOverload, demand_in}
use Rattle.edf_table.specs.Overloads.{IsReportedOverload}
use Rattle.cd_split.specs.Shares.{IsSamePiece}
use Rattle.cd_split.specs.Splitting.{ComesFirst, IsFirstCore, IsGreatestCut, IsOverloadWith, IsSplit, IsSplitRefused, Left, NoneDoes, Splits, TakesCut, TakesRest, all_of, core_numbers, cut_of, left_after_cut, rest_of, subtask_on_core, unused_without}
use Rattle.cd_split.specs.Splitting.Splits.{AtHome, Cut, NoRoom}

-- two cores that come before each other are one
one_first : (cores : List (List Piece)) (c d : ℕ) → ComesFirst cores c d → ComesFirst cores d c → c ≡ d
one_first cores c d (inl a) (inl b) = absurd (omega arith)
one_first cores c d (inl a) (inr b) = absurd (omega (arith, b.0))
one_first cores c d (inr a) (inl b) = absurd (omega (arith, a.0))
one_first cores c d (inr a) (inr b) = absurd (omega (arith, a.1, b.1))

-- the first core that does is one
first_core_unique : (cores : List (List Piece)) (unused : List ℕ) (Does : ℕ → Type 0) (c d : ℕ)
    → IsFirstCore cores unused Does c → IsFirstCore cores unused Does d → c ≡ d
first_core_unique cores unused Does c d of_c of_d = elim (cases_eq c d) [
  | inl same ↦ same
  | inr ne ↦ one_first cores c d (of_c.first d of_d.unused_core of_d.does (λ e. ne (sym e)))
      (of_d.first c of_c.unused_core of_c.does ne)
]

-- each of two greatest cuts is at most the other
greatest_unique : (cores : List (List Piece)) (left : Left) (core x y : ℕ)
    → IsGreatestCut cores left core x → IsGreatestCut cores left core y → x ≡ y
greatest_unique cores left core x y of_x of_y =
    let low = of_x.greatest y of_y.part of_y.fits in
    let high = of_y.greatest x of_x.part of_x.fits in
    omega arith

-- what is left after two greatest cuts is the same
same_behind : (P : Left → List ℕ → Type 0) (left : Left) (unused : List ℕ) (c x d y : ℕ) → d ≡ c → y ≡ x
    → P (left_after_cut left y) (unused_without d unused) → P (left_after_cut left x) (unused_without c unused)
same_behind P left unused c x d y core cost h =
    subst (λ e. P (left_after_cut left x) (unused_without e unused)) core
    (subst (λ z. P (left_after_cut left z) (unused_without d unused)) cost h)

-- where there is a cut, splitting goes on
never_uncut : (cores : List (List Piece)) (left : Left) (unused : List ℕ) (core : ℕ) → 2 ≤ length unused
    → IsFirstCore cores unused (TakesCut cores left) core
    → (length unused < 2) ⊎ NoneDoes unused (TakesCut cores left) → ⊥
never_uncut cores left unused core two first (inl few) = omega arith
never_uncut cores left unused core two first (inr none) = none core first.unused_core first.does

-- jobs have one reported interval on a core
reported_unique : (core : ℕ) (jobs : List Job) (a b : Over) → IsReportedOverload core jobs a
    → IsReportedOverload core jobs b → a ≡ b
reported_unique core jobs a b of_a of_b =
    let to_low = of_a.first.least_end b.from b.to of_b.first.overloaded in
    let to_high = of_b.first.least_end a.from a.to of_a.first.overloaded in
    let to_is : a.to ≡ b.to = omega arith in
    let later = subst (λ t. IsFirstOverload jobs a.from t) to_is of_a.first in
    let from_low = of_b.first.greatest_begin a.from later.overloaded in
    let from_high = later.greatest_begin b.from of_b.first.overloaded in
    let from_is : a.from ≡ b.from = omega arith in
    let demand_is : a.demand ≡ b.demand = of_a.asked ∙ ap (λ f. demand_in jobs f a.to) from_is
    ∙ ap (demand_in jobs b.from) to_is ∙ sym of_b.asked in
    let core_is : a.core ≡ b.core = of_a.on ∙ sym of_b.on in
    let over : ℕ → ℕ → ℕ → ℕ → Over =
    λ core from to demand. record { core = core; from = from; to = to; demand = demand } in
    let same : over a.core a.from a.to a.demand ≡ over b.core b.from b.to b.demand = cc in
    same

-- unused cores and a subtask have one list of reported intervals
overloads_unique : (cores : List (List Piece)) (s : Subtask) (unused : List ℕ) (os ps : List Over)
    → AllZip (IsOverloadWith cores s) unused os → AllZip (IsOverloadWith cores s) unused ps → os ≡ ps
overloads_unique cores s [] [] [] a b = refl
overloads_unique cores s [] [] (p ∷ ps) a b = absurd b
overloads_unique cores s [] (o ∷ os) ps a b = absurd a
overloads_unique cores s (core ∷ unused) [] ps a b = absurd a
overloads_unique cores s (core ∷ unused) (o ∷ os) [] a b = absurd b
overloads_unique cores s (core ∷ unused) (o ∷ os) (p ∷ ps) a b =
    let here = reported_unique core _ o p a.0 b.0 in
    let later = overloads_unique cores s unused os ps a.1 b.1 in
    cc

-- what is left has one outcome
splits_unique : (cores : List (List Piece)) (left : Left) (unused : List ℕ) (ss ts : List (ℕ × Subtask))
    (e f : Option (ℕ × List Over)) → Splits cores left unused ss e → Splits cores left unused ts f
    → (ss ≡ ts) × (e ≡ f)
splits_unique cores left unused ss ts e f (AtHome l u c first) (AtHome l' u' d first') =
    let one : ℕ → List (ℕ × Subtask) = λ n. (n, rest_of l) ∷ [] in
    (ap one (first_core_unique cores u (TakesRest cores l) c d first first'), refl)
splits_unique cores left unused ss ts e f (AtHome l u c first)
    (Cut l' u' d y ts' f' home two first' greatest next) = absurd (home c first.unused_core first.does)
splits_unique cores left unused ss ts e f (AtHome l u c first) (NoRoom l' u' o home uncut overs) =
    absurd (home c first.unused_core first.does)
splits_unique cores left unused ss ts e f (Cut l u c x ss' e' home two first greatest next)
    (AtHome l' u' d first') = absurd (home d first'.unused_core first'.does)
splits_unique cores left unused ss ts e f (Cut l u c x ss' e' home two first greatest next)
    (Cut l' u' d y ts' f' home' two' first' greatest' next') =
    let core = first_core_unique cores u (TakesCut cores l) d c first' first in
    let cost = greatest_unique cores l c y x (subst (λ n. IsGreatestCut cores l n y) core greatest') greatest in
    let rest = splits_unique cores (left_after_cut l x) (unused_without c u) ss' ts' e' f' next
    (same_behind (λ m v. Splits cores m v ts' f') l u c x d y core cost next') in
    let one : ℕ → ℕ → List (ℕ × Subtask) → List (ℕ × Subtask) = λ n m us. (n, cut_of l m) ∷ us in
    (ap (λ n. one n x ss') (sym core) ∙ ap (λ n. one d n ss') (sym cost) ∙ ap (one d y) rest.0, rest.1)
splits_unique cores left unused ss ts e f (Cut l u c x ss' e' home two first greatest next)
    (NoRoom l' u' o home' uncut overs) = absurd (never_uncut cores l u c two first uncut)
splits_unique cores left unused ss ts e f (NoRoom l u o home uncut overs) (AtHome l' u' d first') =
    absurd (home d first'.unused_core first'.does)
splits_unique cores left unused ss ts e f (NoRoom l u o home uncut overs)
    (Cut l' u' d y ts' f' home' two first greatest next) = absurd (never_uncut cores l u d two first uncut)
splits_unique cores left unused ss ts e f (NoRoom l u o home uncut overs) (NoRoom l' u' o' home' uncut' overs') =
    let told : List Over → Option (ℕ × List Over) = λ os. Some (l.rest, os) in
    (refl, ap told (overloads_unique cores (rest_of l) u o o' overs overs'))

-- pieces of the same subtasks on the same cores say the same
same_pieces : (ps qs : List Piece) → map subtask_on_core qs ≡ map subtask_on_core ps → AllZip IsSamePiece qs ps
same_pieces [] [] same = tt
same_pieces [] (q ∷ qs) same = absurd cc
same_pieces (p ∷ ps) [] same = absurd cc
same_pieces (p ∷ ps) (q ∷ qs) same =
    let here : subtask_on_core q ≡ subtask_on_core p = cc in
    ((ap (λ (s : ℕ × Subtask). s.0) here, ap (λ (s : ℕ × Subtask). s.1) here), same_pieces ps qs (cc))

-- the pieces of a whole vCPU are one list
pub one_split : (cores : List (List Piece)) (vcpu : ℕ) (task : Periodic) (ps qs : List Piece)
    → IsSplit cores vcpu task ps → IsSplit cores vcpu task qs → AllZip IsSamePiece qs ps
one_split cores vcpu task ps qs of_ps of_qs = same_pieces ps qs (splits_unique cores (all_of vcpu task)
    (core_numbers cores) (map subtask_on_core qs) (map subtask_on_core ps) None None of_qs of_ps).0

-- a whole vCPU has one refusal
pub one_refusal : (cores : List (List Piece)) (vcpu : ℕ) (task : Periodic) (rest rest' : ℕ)
    (over over' : List Over) → IsSplitRefused cores vcpu task rest over
    → IsSplitRefused cores vcpu task rest' over' → (rest ≡ rest') × (over ≡ over')
one_refusal cores vcpu task rest rest' over over' a b =
    let same = same_Some {A = ℕ × List Over} (rest, over) (rest', over') (splits_unique cores (all_of vcpu task)
    (core_numbers cores) a.0 b.0 (Some (rest, over)) (Some (rest', over')) a.1 b.1).1 in
    (ap (λ (t : ℕ × List Over). t.0) same, ap (λ (t : ℕ × List Over). t.1) same)

-- a vCPU isn't both split and refused
pub split_or_refused : (cores : List (List Piece)) (vcpu : ℕ) (task : Periodic) (pieces : List Piece)
    (rest : ℕ) (over : List Over) → IsSplit cores vcpu task pieces
    → IsSplitRefused cores vcpu task rest over → ⊥
split_or_refused cores vcpu task pieces rest over splits refuses =
    let same = (splits_unique cores (all_of vcpu task) (core_numbers cores) (map subtask_on_core pieces) refuses.0
    None (Some (rest, over)) splits refuses.1).1 in
    cc
