-- The table of a core's pieces and the set of the vCPUs with a single piece, as they are built
-- piece by piece.
use Rattle.std.proofs.Common.{◌≡◌, ◌≢◌, ℕ, zero, suc, ◌+◌, ◌<◌, ◌≤◌, Bool, true, false, cond, eqb, ltb, List, [], ◌∷◌, ◌++◌, length, get_or, set, slice_get, take, filter, replicate, Option, Some, None, refl, ap, subst, sym, ◌∙◌, inl, inr, arith, length-set, get_or-set_same, add-one}
use Rattle.std.specs.List.{count_by}
use Rattle.std.specs.Prelude.{slice_set}
use Rattle.std.proofs.lemmas.Bool.{cases_eq, eq-eqb, eqb-true, lt-ltb, ltb-false, ltb-true, ne_eqb}
use Rattle.std.proofs.lemmas.List.{append-nil, get_or-set_other, length-replicate, take_all}
use Rattle.std.proofs.lemmas.List.Elements.{filter-append}
use Rattle.std.proofs.lemmas.List.Sums.{sum_by_push}
use Rattle.std.proofs.lemmas.Option.{same_Some, slice_get-get_or, slice_get_within}
use Rattle.tab_core.specs.VcpuSets.{has_vcpu}
use Rattle.tab_core.specs.declared.TheConstants.{MAX_VCPUS}
use Rattle.tab_core.specs.declared.piece.Piece.{Piece}
use Rattle.tab_core.proofs.Lists.{get_left, push_new, set_here}
use Rattle.table_form.specs.Planning.Drafts.{HaveOwnCores, pieces_at}
use Rattle.table_form.proofs.Filters.{slice_get-filter}
use Rattle.table_form.proofs.Sets.{nobody_has}
use Rattle.coalesce.specs.Joining.{has_single_piece}
use Rattle.coalesce.specs.Inside.Passing.{IsPieceTableOf}
use Rattle.coalesce.proofs.Members.{slice_get-append_cases, slice_get-set_other}

-- an empty table
empty_listed : (n v : ℕ) (p : Piece)
    → slice_get (replicate n (let none : Option Piece = None in none)) v ≡ Some
    (Some p) → ⊥
empty_listed zero v p at = absurd cc
empty_listed (suc n) zero p at = absurd cc
empty_listed (suc n) (suc v) p at = empty_listed n v p at

-- the table begins without a piece
pub empty_table : IsPieceTableOf [] (replicate MAX_VCPUS None)
empty_table = record {
  size = length-replicate MAX_VCPUS (let none : Option Piece = None in none);
  listed = λ v p at. absurd (empty_listed MAX_VCPUS v p at);
  complete = λ at p listed. absurd cc;
}

-- one piece more, of another vCPU
pub table_more : (pieces : List Piece) (table : List (Option Piece)) (p : Piece) →
    ((at : ℕ) (q : Piece) → slice_get pieces at ≡ Some q → q.vcpu ≢ p.vcpu)
    → IsPieceTableOf pieces table → IsPieceTableOf (pieces ++ p ∷ []) (set table p.vcpu (Some p))
table_more pieces table p others is =
    let here : slice_get (set table p.vcpu (Some p)) p.vcpu ≡ Some (Some p) =
    set_here table p.vcpu (Some p)
    (let size = is.size in let small = p.vcpu_small in omega arith) in
    record {
      size = omega (arith, is.size, length-set table p.vcpu (Some p));
      listed = λ v q at. elim (cases_eq v p.vcpu) [
        | inl same ↦
            let found : slice_get (set table p.vcpu (Some p)) p.vcpu ≡ Some (Some q) = subst
            (λ w. slice_get (set table p.vcpu (Some p)) w ≡ Some (Some q)) same at in
            let is_p : p ≡ q = inside p q (sym here ∙ found) in (
              ap (λ (r : Piece). r.vcpu) (sym is_p) ∙ sym same,
              length pieces,
              push_new pieces p
                  ∙ ap Some is_p,
            )
        | inr other ↦
            let before = is.listed v q (sym (slice_get-set_other table p.vcpu v (Some p) other) ∙ at) in
            (before.0, before.1, get_left pieces (p ∷ []) before.1 q before.2)
      ];
      complete = λ at q listed. elim (slice_get-append_cases pieces (p ∷ []) at q listed) [
        | inl old ↦ slice_get-set_other table p.vcpu q.vcpu (Some p) (others at q old) ∙ is.complete at q old
        | inr new ↦
            let is_p : p ≡ q = only p q new.0 new.1 in
            subst (λ (r : Piece). slice_get (set table p.vcpu (Some p)) r.vcpu ≡ Some (Some r)) is_p here
      ];
    }
  where
    inside : (p q : Piece) → ◌≡◌ {A = Option (Option Piece)} (Some (Some p)) (Some (Some q)) → p ≡ q
    inside p q e = cc

    only : (p q : Piece) (j : ℕ) → slice_get (p ∷ []) j ≡ Some q → p ≡ q
    only p q zero at = same_Some p q at
    only p q (suc j) at = absurd cc

-- the pieces up to the next one, as the loop counts them
take_suc : (pieces : List Piece) (i : ℕ) (d : Piece) → i < length pieces → take
    (suc i) pieces ≡ take i pieces ++ get_or pieces i d ∷ []
take_suc [] i d lt = absurd (omega arith)
take_suc (p ∷ ps) zero d lt = refl
take_suc (p ∷ ps) (suc i) d lt = ap (λ qs. p ∷ qs) (take_suc ps i d (omega arith))

-- the pieces up to the next one, in the form of the loop's index
take_one_more : (pieces : List Piece) (i : ℕ) (d : Piece) → i < length pieces → take
    (i + 1) pieces ≡ take i pieces ++ get_or pieces i d ∷ []
take_one_more pieces i d lt = ap (λ n. take n pieces) (add-one i) ∙ take_suc pieces i d lt

-- a piece among the first ones is at an earlier place, so it isn't the next one
before_is_earlier : (pieces : List Piece) (i j : ℕ) (p : Piece)
    → slice_get (take i pieces) j ≡ Some p → (j < i) ×
    (slice_get pieces j ≡ Some p)
before_is_earlier [] i j p at = absurd (none_taken i j at)
  where
    none_taken : (i j : ℕ) → slice_get (take i (let ps : List Piece = [] in ps)) j ≡ Some p → ⊥
    none_taken zero j at = absurd cc
    none_taken (suc i) j at = absurd cc
before_is_earlier (q ∷ qs) zero j p at = absurd cc
before_is_earlier (q ∷ qs) (suc i) zero p at = (omega arith, at)
before_is_earlier (q ∷ qs) (suc i) (suc j) p at =
    (let rest = before_is_earlier qs i j p at in (omega (arith, rest.0), rest.1))

-- the next of the pieces is on the core
pub next_here : (pieces : List Piece) (core i : ℕ) (p : Piece) (table : List (Option Piece))
    → HaveOwnCores pieces
    → i < length pieces → p ≡ get_or pieces i p → p.core ≡ core
    → IsPieceTableOf (pieces_at (take i pieces) core) table → IsPieceTableOf (pieces_at (take (i + 1) pieces) core)
    (set table p.vcpu (Some p))
next_here pieces core i p table own lt is here of =
    let test : Piece → Bool = λ q. eqb q.core core in
    let more : pieces_at (take (i + 1) pieces) core ≡ pieces_at (take i pieces) core ++ p ∷ []
    = ap (filter test) (take_one_more pieces i p lt ∙ ap (λ q. take i pieces ++ q ∷ []) (sym is))
    ∙ filter-append test
    (take i pieces) (p ∷ [])
    ∙ ap (λ qs. pieces_at (take i pieces) core ++ qs) (kept p (eq-eqb p.core core here)) in
    subst (λ ps. IsPieceTableOf ps (set table p.vcpu (Some p))) (sym more)
    (table_more (pieces_at (take i pieces) core) table p (λ at q found same. (
    let kept = slice_get-filter test (take i pieces) at q found in
    let early = before_is_earlier pieces i kept.place q kept.at in
    let one = own kept.place i q p early.1 (slice_get-get_or pieces i p lt ∙ ap Some (sym is)) same
    (eqb-true q.core core kept.passes ∙ sym here) in
    omega (arith, early.0, one))) of)
  where
    kept : (p : Piece) → eqb p.core core ≡ true → filter (λ (q : Piece). eqb q.core core) (p ∷ []) ≡ p ∷ []
    kept p pass = rw pass refl

-- or elsewhere
pub next_elsewhere : (pieces : List Piece) (core i : ℕ) (p : Piece) (table : List (Option Piece))
    → i < length pieces
    → p ≡ get_or pieces i p → p.core ≢ core
    → IsPieceTableOf (pieces_at (take i pieces) core) table
    → IsPieceTableOf (pieces_at (take (i + 1) pieces) core) table
next_elsewhere pieces core i p table lt is elsewhere of =
    let test : Piece → Bool = λ q. eqb q.core core in
    let same : pieces_at (take (i + 1) pieces) core ≡ pieces_at (take i pieces) core
    = ap (filter test) (take_one_more pieces i p lt ∙ ap (λ q. take i pieces ++ q ∷ []) (sym is))
    ∙ filter-append test
    (take i pieces) (p ∷ [])
    ∙ ap (λ qs. pieces_at (take i pieces) core ++ qs) (dropped p (ne_eqb p.core core elsewhere)) ∙ append-nil
    (pieces_at (take i pieces) core) in
    subst (λ ps. IsPieceTableOf ps table) (sym same) of
  where
    dropped : (p : Piece) → eqb p.core core ≡ false → filter (λ (q : Piece). eqb q.core core) (p ∷ []) ≡ []
    dropped p fail = rw fail refl

-- how many of the pieces are the vCPU's
pub count_of : ℕ → List Piece → ℕ
count_of v pieces = count_by (λ (p : Piece). eqb p.vcpu v) pieces

-- the next piece counts for its own vCPU
pub count_of-more : (v : ℕ) (pieces : List Piece) (i : ℕ) (p : Piece) → i < length pieces
    → p ≡ get_or pieces i p
    → count_of v (take (i + 1) pieces) ≡ count_of v (take i pieces) + cond (eqb p.vcpu v) 1 0
unfolding count_of
count_of-more v pieces i p lt is =
    ap (λ qs. count_by (λ (q : Piece). eqb q.vcpu v) qs)
    (take_one_more pieces i p lt ∙ ap (λ q. take i pieces ++ q ∷ []) (sym is))
    ∙ sum_by_push (λ (q : Piece). cond (eqb q.vcpu v) 1 0) (take i pieces) p

-- the vCPUs with a piece, and those with just one
pub record HaveSeen (pieces : List Piece) (seen single : List Bool) : Type 0 where
  pub seen_size : length seen ≡ MAX_VCPUS
  pub single_size : length single ≡ MAX_VCPUS
  pub seen_is : (v : ℕ) → has_vcpu seen v ≡ ltb 0 (count_of v pieces)
  pub single_is : (v : ℕ) → has_vcpu single v ≡ eqb (count_of v pieces) 1

-- before the first piece no vCPU has one
pub none_seen : HaveSeen [] (replicate MAX_VCPUS false) (replicate MAX_VCPUS false)
unfolding count_of
none_seen = record {
  seen_size = length-replicate MAX_VCPUS false;
  single_size = length-replicate MAX_VCPUS false;
  seen_is = λ v. nobody_has MAX_VCPUS v;
  single_is = λ v. nobody_has MAX_VCPUS v;
}

-- a vCPU that is put in or taken out, read back
member_same : (set : List Bool) (v : ℕ) (b : Bool) → v < length set → has_vcpu (slice_set set v b) v ≡ b
member_same set v b lt = get_or-set_same set v b false lt

-- a vCPU that isn't put in or taken out stays
member_other : (set : List Bool) (v w : ℕ) (b : Bool) → w ≢ v
    → has_vcpu (slice_set set v b) w ≡ has_vcpu set w
member_other set v w b other = get_or-set_other set v w b false other

-- another vCPU's counts stay
stays : (pieces : List Piece) (i : ℕ) (p : Piece) (v : ℕ) → i < length pieces
    → p ≡ get_or pieces i p → v ≢ p.vcpu
    → count_of v (take (i + 1) pieces) ≡ count_of v (take i pieces)
stays pieces i p v lt is other =
    omega (
      arith,
      count_of-more v pieces i p lt is,
      ap {B = ℕ} (λ b. cond b 1 0) (ne_eqb p.vcpu v (λ e. other (sym e))),
    )

-- the piece's own vCPU has one more
grows : (pieces : List Piece) (i : ℕ) (p : Piece) → i < length pieces → p ≡ get_or pieces i p
    → count_of p.vcpu
    (take (i + 1) pieces) ≡ count_of p.vcpu (take i pieces) + 1
grows pieces i p lt is =
    omega (
      arith,
      count_of-more p.vcpu pieces i p lt is,
      ap {B = ℕ} (λ b. cond b 1 0) (eq-eqb p.vcpu p.vcpu refl),
    )

-- a vCPU that has a piece has one more
pub seen_again : (pieces : List Piece) (i : ℕ) (p : Piece) (seen single : List Bool) → i < length pieces
    → p ≡ get_or pieces i p → has_vcpu seen p.vcpu ≡ true
    → HaveSeen (take i pieces) seen single
    → HaveSeen (take (i + 1) pieces) seen (slice_set single p.vcpu false)
seen_again pieces i p seen single lt is old have =
    let some : 0 < count_of p.vcpu (take i pieces) = ltb-true 0 (count_of p.vcpu (take i pieces))
    (sym (have.seen_is p.vcpu) ∙ old) in
    let small = p.vcpu_small in
    record {
      seen_size = have.seen_size;
      single_size = length-set single p.vcpu false ∙ have.single_size;
      seen_is = λ v. elim (cases_eq v p.vcpu) [
        | inl same ↦ ap (has_vcpu seen) same ∙ old ∙ sym
            (ap (λ w. ltb 0 (count_of w (take (i + 1) pieces))) same
            ∙ ap (ltb 0) (grows pieces i p lt is) ∙ lt-ltb 0
            (count_of p.vcpu (take i pieces) + 1) (omega arith))
        | inr other ↦ have.seen_is v ∙ ap (ltb 0) (sym (stays pieces i p v lt is other))
      ];
      single_is = λ v. elim (cases_eq v p.vcpu) [
        | inl same ↦ ap (has_vcpu (slice_set single p.vcpu false)) same ∙ member_same single p.vcpu false
            (omega (arith, have.single_size))
            ∙ sym (ap (λ w. eqb (count_of w (take (i + 1) pieces)) 1) same ∙ ap (λ n. eqb n 1)
            (grows pieces i p lt is) ∙ ne_eqb (count_of p.vcpu (take i pieces) + 1) 1
            (λ e. omega (arith, e, some)))
        | inr other ↦ member_other single p.vcpu v false other ∙ have.single_is v ∙ ap (λ n. eqb n 1)
            (sym (stays pieces i p v lt is other))
      ];
    }

-- a vCPU that has no piece yet gets its first
pub seen_first : (pieces : List Piece) (i : ℕ) (p : Piece) (seen single : List Bool) → i < length pieces
    → p ≡ get_or pieces i p → has_vcpu seen p.vcpu ≡ false
    → HaveSeen (take i pieces) seen single → HaveSeen (take (i + 1) pieces) (slice_set seen p.vcpu true)
    (slice_set single p.vcpu true)
seen_first pieces i p seen single lt is new have =
    let none : count_of p.vcpu (take i pieces) ≤ 0 = ltb-false 0 (count_of p.vcpu (take i pieces))
    (sym (have.seen_is p.vcpu) ∙ new) in
    let one : count_of p.vcpu (take (i + 1) pieces) ≡ 1 = omega (arith, grows pieces i p lt is, none) in
    let small = p.vcpu_small in
    record {
      seen_size = length-set seen p.vcpu true ∙ have.seen_size;
      single_size = length-set single p.vcpu true ∙ have.single_size;
      seen_is = λ v. elim (cases_eq v p.vcpu) [
        | inl same ↦ ap (has_vcpu (slice_set seen p.vcpu true)) same ∙ member_same seen p.vcpu true
            (omega (arith, have.seen_size))
            ∙ sym (ap (λ w. ltb 0 (count_of w (take (i + 1) pieces))) same ∙ ap (ltb 0) one)
        | inr other ↦ member_other seen p.vcpu v true other ∙ have.seen_is v ∙ ap (ltb 0)
            (sym (stays pieces i p v lt is other))
      ];
      single_is = λ v. elim (cases_eq v p.vcpu) [
        | inl same ↦ ap (has_vcpu (slice_set single p.vcpu true)) same ∙ member_same single p.vcpu true
            (omega (arith, have.single_size))
            ∙ sym (ap (λ w. eqb (count_of w (take (i + 1) pieces)) 1) same ∙ ap (λ n. eqb n 1) one)
        | inr other ↦ member_other single p.vcpu v true other ∙ have.single_is v ∙ ap (λ n. eqb n 1)
            (sym (stays pieces i p v lt is other))
      ];
    }

-- after the last piece the set is that of the vCPUs with a single piece
pub all_seen : (pieces : List Piece) (i : ℕ) (seen single : List Bool) → length pieces ≤ i → HaveSeen
    (take i pieces) seen single → (v : ℕ) → has_vcpu single v ≡ has_single_piece pieces v
unfolding count_of
all_seen pieces i seen single past have v = have.single_is v
    ∙ ap (λ ps. eqb (count_of v ps) 1) (take_all i pieces past)

-- the piece at this place or a later one is the vCPU's
pub record IsLater (pieces : List Piece) (n v : ℕ) : Type 0 where
  pub at : ℕ
  pub late : n ≤ at
  pub piece : Piece
  pub is : slice_get pieces at ≡ Some piece
  pub own : piece.vcpu ≡ v

-- what is left in a table is of the vCPUs of the pieces from this place on
pub record IsLeftOf (pieces : List Piece) (n : ℕ) (table : List (Option Piece)) : Type 0 where
  pub size : length table ≡ MAX_VCPUS
  pub later : (v : ℕ) (p : Piece) → slice_get table v ≡ Some (Some p) → IsLater pieces n v

-- at first those of a core's pieces
pub left_first : (pieces : List Piece) (core : ℕ) (table : List (Option Piece))
    → IsPieceTableOf (pieces_at pieces core) table → IsLeftOf pieces 0 table
left_first pieces core table is = record {
  size = is.size;
  later = λ v p at.
      let listed = is.listed v p at in
      let kept = slice_get-filter (λ (q : Piece). eqb q.core core) pieces listed.1 p listed.2 in
      record { at = kept.place; late = omega arith; piece = p; is = kept.at; own = listed.0 };
}

-- one piece's vCPU less
pub left_less : (pieces : List Piece) (n : ℕ) (p : Piece) (table : List (Option Piece)) → n < length pieces
    → p ≡ get_or pieces n p → IsLeftOf pieces n table
    → IsLeftOf pieces (n + 1) (set table p.vcpu None)
left_less pieces n p table lt is left = record {
  size = omega (arith, left.size, length-set table p.vcpu None);
  later = λ v q at. elim (cases_eq v p.vcpu) [
    | inl same ↦
        let here : slice_get (set table p.vcpu None) p.vcpu ≡ Some None = set_here table p.vcpu None
        (let size = left.size in let small = p.vcpu_small in omega arith) in
        absurd (clash q (sym here ∙ subst (λ w. slice_get (set table p.vcpu None) w ≡ Some (Some q)) same at))
    | inr other ↦
        let before = left.later v q (sym (slice_get-set_other table p.vcpu v None other) ∙ at) in
        elim (cases_eq before.at n) [
          | inl here ↦
              let read : slice_get pieces n ≡ Some p = slice_get-get_or pieces n p lt ∙ ap Some (sym is) in
              let found : slice_get pieces n ≡ Some before.piece =
              subst (λ k. slice_get pieces k ≡ Some before.piece) here before.is in
              let alike : p ≡ before.piece = same_Some p before.piece (sym read ∙ found) in
              absurd (other (sym before.own ∙ ap (λ (r : Piece). r.vcpu) (sym alike)))
          | inr past ↦ record {
            at = before.at;
            late = omega (arith, before.late, past);
            piece = before.piece;
            is = before.is;
            own = before.own;
          }
        ]
  ];
}
  where
    clash : (q : Piece) → ◌≡◌ {A = Option (Option Piece)} (Some None) (Some (Some q)) → ⊥
    clash q e = cc

-- after the last piece nothing is left
pub left_none : (pieces : List Piece) (n : ℕ) (table : List (Option Piece)) → length pieces ≤ n
    → IsLeftOf pieces n table → IsPieceTableOf [] table
left_none pieces n table all left = record {
  size = left.size;
  listed = λ v p at. absurd (let later = left.later v p at in
      let within = slice_get_within pieces later.at later.piece later.is in omega (arith, within, later.late));
  complete = λ at p listed. absurd cc;
}
