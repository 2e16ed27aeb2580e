-- One piece more on a core.
use Rattle.std.proofs.Common.{◌≡◌, ◌↔◌, ℕ, List, [], ◌∷◌, ◌++◌, Option, None, Some, IfNone, IfSome, IsTrue, MatchOption, Bool, true, false, not, is_some, refl, subst, sym, ap, ◌∙◌, arith}
use Rattle.std.specs.List.{All}
use Rattle.std.proofs.lemmas.Grind.{common_steps}
use Rattle.std.proofs.lemmas.List.Elements.{All-head}
use Rattle.std.proofs.lemmas.Option.{gets}
use Rattle.std.proofs.lemmas.List.{append-nil, append_assoc}
use Rattle.tab_core.specs.declared.over.Over.{Over}
use Rattle.tab_core.specs.declared.piece.Piece.{Piece}
use Rattle.table_form.specs.Planning.Jobs.{Subtask, jobs_of, jobs_of_subtask, subtask_of}
use Rattle.table_form.specs.Planning.Demand.{Fits}
use Rattle.table_form.specs.Planning.Windows.{DistinctVcpus}
use Rattle.edf_table.proofs.Pieces.{jobs_of-nil}
use Rattle.edf_table.proofs.LoadLemmas.{demand_in-none}
use Rattle.edf_table.specs.Overloads.{IsReportedOf, IsReportedOverload, core_of}
use Rattle.cd_split.specs.Cores.{LackVcpu, ShareCore, pieces_on}
use Rattle.cd_split.specs.Inside.Search.{IsPieceOf}
use Rattle.cd_split.specs.Splitting.{FitsWith, IsOverloadWith}

-- its jobs come after those of the others
pub jobs_of-push : (ps : List Piece) (p : Piece)
    → jobs_of (ps ++ p ∷ []) ≡ jobs_of ps ++ jobs_of_subtask (subtask_of p)
unfolding jobs_of
jobs_of-push [] p = append-nil (jobs_of_subtask (subtask_of p))
jobs_of-push (q ∷ ps) p =
    ap (λ js. jobs_of_subtask (subtask_of q) ++ js) (jobs_of-push ps p)
    ∙ sym (append_assoc (jobs_of_subtask (subtask_of q)) (jobs_of ps) (jobs_of_subtask (subtask_of p)))

-- where a core has no piece yet
pub none_share : ShareCore []
none_share = record {
  distinct = λ i j a b at at' same. absurd (cc);
  fit = λ from to lt within. rw jobs_of-nil (rw (demand_in-none from to) (omega arith));
}

-- its vCPU is none of theirs
pub distinct_push : (ps : List Piece) (p : Piece) → DistinctVcpus ps → LackVcpu p.vcpu ps
    → DistinctVcpus (ps ++ p ∷ [])
distinct_push ps p distinct lack i j a b at at' same =
    grind (arith, common_steps, gets, distinct i j a b, lack i a, lack j b)

-- the piece is on the core of the others, so all with it do
pub core_of-push : (ps : List Piece) (p : Piece) → All (λ q. q.core ≡ p.core) ps
    → core_of (ps ++ p ∷ []) ≡ p.core
core_of-push [] p own = refl
core_of-push (q ∷ ps) p own = All-head (λ (r : Piece). r.core ≡ p.core) q ps own

-- what a core's pieces with one more come to, said of the piece beside the others
pub told_beside : (ps : List Piece) (p : Piece) (trial : List Piece) (found : Option Over)
    → trial ≡ ps ++ p ∷ [] → All (λ q. q.core ≡ p.core) ps → IfNone found (Fits (jobs_of trial)) →
    IfSome found (IsReportedOf trial)
    → MatchOption found (FitsWith ps (subtask_of p))
    (IsReportedOverload p.core (jobs_of ps ++ jobs_of_subtask (subtask_of p)))
told_beside ps p trial None is own fits over = subst Fits (ap jobs_of is ∙ jobs_of-push ps p) fits
told_beside ps p trial (Some o) is own fits over =
    subst (λ js. IsReportedOverload p.core js o) (ap jobs_of is ∙ jobs_of-push ps p)
    (subst (λ core. IsReportedOverload core (jobs_of trial) o) (ap core_of is ∙ core_of-push ps p own) over)

-- a subtask that is reported to overload an interval doesn't fit
pub not_both : (cores : List (List Piece)) (s : Subtask) (core : ℕ) (over : Over)
    → IsOverloadWith cores s core over → FitsWith (pieces_on cores core) s → ⊥
not_both cores s core over told fits =
    let overloaded = told.first.overloaded in
    let bound = fits over.from over.to overloaded.some_ticks overloaded.within in
    let much = overloaded.too_much in
    omega arith

-- the piece's subtask fits on the core exactly where no interval is reported
pub told_takes : (cores : List (List Piece)) (s : Subtask) (core : ℕ) (p : Piece) (found : Option Over)
    (takes : Bool) → IsPieceOf core s p → is_some found ≡ not takes →
    MatchOption found (FitsWith (pieces_on cores p.core) (subtask_of p))
    (IsOverloadWith cores (subtask_of p) p.core) → IsTrue takes ↔ FitsWith (pieces_on cores core) s
told_takes cores s core p None true is test told = (
  (λ yes. subst (FitsWith (pieces_on cores core)) is.1
      (subst (λ c. FitsWith (pieces_on cores c) (subtask_of p)) is.0 told)),
  (λ fits. refl),
)
told_takes cores s core p None false is test told = absurd (cc)
told_takes cores s core p (Some over) true is test told = absurd (cc)
told_takes cores s core p (Some over) false is test told = (
  (λ yes. absurd (cc)),
  (λ fits. absurd (not_both cores (subtask_of p) p.core over told
      (subst (FitsWith (pieces_on cores p.core)) (sym is.1)
      (subst (λ c. FitsWith (pieces_on cores c) s) (sym is.0) fits)))),
)
