-- What the pieces of the cores keep, where those of one core change.
use Rattle.std.proofs.Common.{◌≡◌, ℕ, ◌<◌, List, [], ◌∷◌, ◌++◌, length, set, Result, Ok, Err, OnOk, OnErr, refl, subst, sym, ◌∙◌, inl, inr, arith, length-set, get_or-set_same, get_or-set_other}
use Rattle.std.specs.List.{All}
use Rattle.std.proofs.lemmas.Bool.{cases_eq}
use Rattle.std.proofs.lemmas.List.Elements.{All-append, All-cons, All-nil}
use Rattle.tab_core.specs.declared.piece.Piece.{Piece}
use Rattle.cd_split.specs.Cores.{HaveRoomFor, KeepCores, LackVcpu, ShareCore, pieces_on}
use Rattle.cd_split.proofs.Trials.{distinct_push}

-- a core gets other pieces, which keep the same
keep_write : (cores : List (List Piece)) (core : ℕ) (ps : List Piece) → KeepCores cores
    → core < length cores → All (λ p. p.core ≡ core) ps → ShareCore ps → KeepCores (set cores core ps)
keep_write cores core ps kept lt own share = record {
  few = omega (arith, length-set cores core ps, kept.few);
  own = λ other. elim (cases_eq other core) [
    | inl same ↦ subst (λ c. All (λ (p : Piece). p.core ≡ c) (pieces_on (set cores core ps) c)) (sym same)
        (subst (All (λ (p : Piece). p.core ≡ core)) (sym (get_or-set_same cores core ps [] lt)) own)
    | inr ne ↦ subst (All (λ (p : Piece). p.core ≡ other)) (sym (get_or-set_other cores core other ps [] ne))
        (kept.own other)
  ];
  share = λ other. elim (cases_eq other core) [
    | inl same ↦ subst (λ c. ShareCore (pieces_on (set cores core ps) c)) (sym same)
        (subst ShareCore (sym (get_or-set_same cores core ps [] lt)) share)
    | inr ne ↦ subst ShareCore (sym (get_or-set_other cores core other ps [] ne)) (kept.share other)
  ];
}

-- one piece more on its core, or none where there is no memory for it
pub keep_push : {T E : Type 0} (result : Result T E) (cores : List (List Piece)) (piece : Piece)
    (before after : List Piece) → KeepCores cores → piece.core < length cores →
    before ≡ pieces_on cores piece.core → LackVcpu piece.vcpu before → HaveRoomFor before piece
    → OnOk result (after ≡ before ++ piece ∷ []) → OnErr result (after ≡ before) →
    KeepCores (set cores piece.core after)
keep_push (Ok value) cores piece before after kept lt is lack room ok err =
    let own = subst (All (λ (p : Piece). p.core ≡ piece.core)) (sym is) (kept.own piece.core) in
    let share = subst ShareCore (sym is) (kept.share piece.core) in
    subst (λ ps. KeepCores (set cores piece.core ps)) (sym ok)
    (keep_write cores piece.core (before ++ piece ∷ []) kept lt
    (All-append (λ (p : Piece). p.core ≡ piece.core) before (piece ∷ []) own
    (All-cons (λ (p : Piece). p.core ≡ piece.core) piece [] refl
    (All-nil (λ (p : Piece). p.core ≡ piece.core))))
    (record { distinct = distinct_push before piece share.distinct lack; fit = room }))
keep_push (Err fault) cores piece before after kept lt is lack room ok err =
    let same = err ∙ is in
    keep_write cores piece.core after kept lt
    (subst (All (λ (p : Piece). p.core ≡ piece.core)) (sym same) (kept.own piece.core))
    (subst ShareCore (sym same) (kept.share piece.core))
