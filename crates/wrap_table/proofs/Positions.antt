-- Where ticks are laid that are one after the other.
use Rattle.std.proofs.Common.{◌≡◌, ℕ, zero, suc, ◌+◌, ◌-◌, ◌*◌, ◌<◌, ◌≤◌, ◌==◌, nat_lt, nat_le, cond, List, [], ◌∷◌, Option, Some, None, length, get_or, ap, refl, sym, ◌∙◌, arith, inl, inr}
use Rattle.std.proofs.lemmas.Bool.{cases_lt, cases_order, lt-ltb, le-ltb, le-leb, lt-leb, cond-true, cond-false, eq-eqb, ne_eqb}
use Rattle.std.proofs.lemmas.Option.{same_Some}
use Rattle.tab_core.specs.Sums.{total}
use Rattle.tab_core.proofs.Totals.{total-ext, total-front}
use Rattle.flow_net.proofs.Wrapped.{in_range, layout_serves, layout_apart}
use Rattle.wrap_table.specs.Inside.Laying.{offset}
use Rattle.wrap_table.specs.Wrapping.{owner_from}
use Rattle.table_form.specs.Tables.Serves.{is_cell_of}

-- where a later vCPU's ticks begin, by those of the first
pub offset-cons : (n : ℕ) (ns : List ℕ) (k : ℕ) → offset (n ∷ ns) (suc k) ≡ n + offset ns k
offset-cons n ns k = total-front (λ j. get_or (n ∷ ns) j 0) k

-- the position is one of the vCPU's
pub record IsPosition (ns : List ℕ) (k q : ℕ) : Type 0 where
  pub listed : k < length ns
  pub from : offset ns k ≤ q
  pub until : q < offset ns k + get_or ns k 0

-- a position within a vCPU's ticks is its own
pub owner_laid : (ns : List ℕ) (v k q : ℕ) → IsPosition ns k q → owner_from v ns q ≡ Some (v + k)
unfolding owner_from
owner_laid [] v k q laid = absurd (omega (arith, laid.listed))
owner_laid (n ∷ ns) v zero q laid =
    cond-true (nat_lt q n) (Some v) (owner_from (v + 1) ns (q - n)) (lt-ltb q n (omega (arith, laid.until)))
    ∙ ap (λ m. Some m) (omega arith)
owner_laid (n ∷ ns) v (suc k) q laid =
    let beyond : n ≤ q = omega (arith, laid.from, offset-cons n ns k) in
    let rest : IsPosition ns k (q - n) = record {
      listed = omega (arith, laid.listed);
      from = omega (arith, laid.from, offset-cons n ns k);
      until = omega (arith, laid.until, offset-cons n ns k, beyond);
    } in
    cond-false (nat_lt q n) (Some v) (owner_from (v + 1) ns (q - n)) (le-ltb q n beyond)
    ∙ owner_laid ns (v + 1) k (q - n) rest ∙ ap (λ m. Some m) (omega arith)

-- an owned position lies within its owner's ticks
pub laid_owner : (ns : List ℕ) (v q w : ℕ) → owner_from v ns q ≡ Some w
    → (k : ℕ) × (w ≡ v + k) × IsPosition ns k q
unfolding owner_from
laid_owner [] v q w e = absurd cc
laid_owner (n ∷ ns) v q w e = elim (cases_lt q n) [
  | inl here ↦ (let same : Some v
      ≡ Some w = sym (cond-true (nat_lt q n) (Some v) (owner_from (v + 1) ns (q - n)) (lt-ltb q n here))
      ∙ e in (
        0,
        omega (arith, same_Some v w same),
        record {
          listed = omega arith;
          from = omega arith;
          until =
              omega (arith, here);
        },
      ))
  | inr beyond ↦ (let rest : owner_from (v + 1) ns (q - n) ≡ Some w
      = sym (cond-false (nat_lt q n) (Some v) (owner_from (v + 1) ns (q - n)) (le-ltb q n beyond)) ∙ e in
      let s = laid_owner ns (v + 1) (q - n) w rest in
      let is = s.2 in (
        suc s.0,
        omega (arith, s.1),
        record {
          listed = omega (arith, is.listed);
          from = omega (arith, is.from, offset-cons n ns s.0, beyond);
          until = omega (arith, is.until, offset-cons n ns s.0, beyond);
        },
      ))
]

-- a cell of another, as a number
pub not_owned : (v : ℕ) (o : Option ℕ) → (o ≡ Some v → ⊥) → ◌≡◌ {A = ℕ} (cond (is_cell_of v o) 1 0) 0
not_owned v None ne = refl
not_owned v (Some w) ne = cond-false {A = ℕ} (v == w) 1 0 (ne_eqb v w (λ e. ne (ap (λ m. Some m) (sym e))))

-- a cell of a vCPU, as a number, counted from the first vCPU on
laid_here : (ns : List ℕ) (v q : ℕ) → owner_from 0 ns q ≡ Some v → IsPosition ns v q
laid_here ns v q e = let s = laid_owner ns 0 q v e in let same : v ≡ s.0 = omega (arith, s.1) in rw same s.2

-- whether a position is the vCPU's, as a number
pub owned_is : (ns : List ℕ) (v q : ℕ) → v < length ns
    → cond (is_cell_of v (owner_from 0 ns q)) 1 0 ≡ in_range (offset ns v) (get_or ns v 0) q
owned_is ns v q h =
    let o = offset ns v in
    let n = get_or ns v 0 in
    elim (cases_lt q o) [
      | inl before ↦ not_owned v (owner_from 0 ns q) (λ e. omega (arith, before, (laid_here ns v q e).from))
          ∙ sym (cond-false (nat_le o q) (cond (nat_lt q (o + n)) 1 0) 0 (lt-leb o q before))
      | inr after ↦ cases_after ns v q h after
    ]
  where
    cases_after : (ns : List ℕ) (v q : ℕ) → v < length ns → offset ns v ≤ q
        → cond (is_cell_of v (owner_from 0 ns q)) 1 0 ≡ in_range (offset ns v) (get_or ns v 0) q
    cases_after ns v q h after =
        let o = offset ns v in
        let n = get_or ns v 0 in
        let outer : in_range o n q
        ≡ cond (nat_lt q (o + n)) 1 0 =
        cond-true (nat_le o q) (cond (nat_lt q (o + n)) 1 0) 0 (le-leb o q after) in
        elim (cases_lt q (o + n)) [
          | inl inside ↦ ap (λ w. cond (is_cell_of v w) 1 0) (owner_laid ns 0 v q (record {
            listed =
                h;
            from = after;
            until = inside;
          }))
              ∙ cond-true {A = ℕ} (v == 0 + v) 1 0 (eq-eqb v (0 + v) (omega arith))
              ∙ sym (cond-true {A = ℕ} (nat_lt q (o + n)) 1 0 (lt-ltb q (o + n) inside)) ∙ sym outer
          | inr beyond ↦ not_owned v (owner_from 0 ns q)
              (λ e. omega (arith, beyond, (laid_here ns v q e).until))
              ∙ sym (cond-false {A = ℕ} (nat_lt q (o + n)) 1 0 (le-ltb q (o + n) beyond)) ∙ sym outer
        ]

-- over cores of one length, a vCPU has as many places as ticks
pub laid_count : (ns : List ℕ) (v l m : ℕ) → v < length ns → offset ns v + get_or ns v 0 ≤ m * l
    → total (λ c. total (λ t. cond (is_cell_of v (owner_from 0 ns (c * l + t))) 1 0) l) m ≡ get_or ns v 0
laid_count ns v l m h fits =
    total-ext _ _ m (λ c _. total-ext _ _ l (λ t _. owned_is ns v (c * l + t) h))
    ∙ layout_serves (offset ns v) (get_or ns v 0) l m fits

-- no two places of a vCPU are one
pub laid_apart : (ns : List ℕ) (v l c d t : ℕ) → get_or ns v 0 ≤ l → owner_from 0 ns (c * l + t) ≡ Some v
    → owner_from 0 ns (d * l + t) ≡ Some v → c ≡ d
laid_apart ns v l c d t short at_c at_d =
    let a = laid_here ns v (c * l + t) at_c in
    let b = laid_here ns v (d * l + t) at_d in
    elim (cases_order c d) [
      | inl same ↦ same
      | inr (inl less) ↦ absurd (layout_apart (offset ns v) (get_or ns v 0) l c d t short less a.from b.until)
      | inr (inr more) ↦ absurd (layout_apart (offset ns v) (get_or ns v 0) l d c t short more b.from a.until)
    ]

-- an owner is a vCPU with ticks
pub laid_some : (ns : List ℕ) (v q : ℕ) → owner_from 0 ns q ≡ Some v → (v < length ns) × (0 < get_or ns v 0)
laid_some ns v q e = let a = laid_here ns v q e in (a.listed, omega (arith, a.from, a.until))
