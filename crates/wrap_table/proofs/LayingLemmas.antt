-- Runs of positions and their owners, and how far an interval's ticks are laid.
use Rattle.std.proofs.Common.{◌≡◌, ℕ, zero, suc, ◌+◌, ◌-◌, ◌<◌, ◌≤◌, nat_lt, List, [], ◌∷◌, ◌++◌, Some, None, length, replicate, get_or, slice_get, ap, refl, sym, ◌∙◌, arith, zero-add, add-zero}
use Rattle.std.proofs.lemmas.Bool.{cond-false, le-ltb}
use Rattle.std.proofs.lemmas.List.{append_assoc, length-append}
use Rattle.tab_core.proofs.Totals.{total-step}
use Rattle.table_form.specs.Tables.Rows.{Row}
use Rattle.wrap_table.specs.Inside.Laying.{IsLaidTo, offset, owners}
use Rattle.wrap_table.specs.Wrapping.{owner_from}
use Rattle.wrap_table.proofs.Positions.{offset-cons, owner_laid}

-- there are as many owners as positions
pub length-owners : (ns : List ℕ) (q n : ℕ) → length (owners ns q n) ≡ n
length-owners ns q zero = refl
length-owners ns q (suc n) = ap suc (length-owners ns (q + 1) n)

-- a run and the one after it are one run
pub owners-add : (ns : List ℕ) (q a b : ℕ) → owners ns q (a + b) ≡ owners ns q a ++ owners ns (q + a) b
owners-add ns q zero b = rw (zero-add, add-zero) refl
owners-add ns q (suc a) b =
    let e : suc a + b ≡ suc (a + b) = omega arith in
    let next : q + 1 + a ≡ q + suc a = omega arith in
    rw e (ap (λ r. owner_from 0 ns q ∷ r)
    (owners-add ns (q + 1) a b ∙ ap (λ p. owners ns (q + 1) a ++ owners ns p b) next))

-- the owner of each position of a run
pub get-owners : (ns : List ℕ) (q n t : ℕ) → t < n
    → slice_get (owners ns q n) t ≡ Some (owner_from 0 ns (q + t))
get-owners ns q zero t lt = absurd (omega arith)
get-owners ns q (suc n) zero lt = ap (λ p. Some (owner_from 0 ns p)) (let e : q ≡ q + 0 = omega arith in e)
get-owners ns q (suc n) (suc t) lt =
    let next : q + 1 + t ≡ q + suc t = omega arith in
    get-owners ns (q + 1) n t (omega arith) ∙ ap (λ p. Some (owner_from 0 ns p)) next

-- a run within a vCPU's ticks is all its own
pub owners-run : (ns : List ℕ) (v q n : ℕ) → v < length ns → offset ns v ≤ q
    → q + n ≤ offset ns v + get_or ns v 0
    → owners ns q n ≡ replicate n (Some v)
owners-run ns v q zero h from until = refl
owners-run ns v q (suc n) h from until =
    let first : owner_from 0 ns q ≡ Some v
    = owner_laid ns 0 v q (record { listed = h; from = from; until = omega arith })
    ∙ ap (λ m. Some m) (let e : 0 + v ≡ v = omega arith in e) in
    ap (λ o. o ∷ owners ns (q + 1) n) first
    ∙ ap (λ r. Some v ∷ r) (owners-run ns v (q + 1) n h (omega arith) (omega arith))

-- after all ticks a position is nobody's
no_owner : (v : ℕ) (ns : List ℕ) (q : ℕ) → offset ns (length ns) ≤ q → owner_from v ns q ≡ None
unfolding owner_from
no_owner v [] q le = refl
no_owner v (n ∷ ns) q le =
    let all = offset-cons n ns (length ns) in
    cond-false (nat_lt q n) (Some v) (owner_from (v + 1) ns (q - n)) (le-ltb q n (omega (arith, le, all)))
    ∙ no_owner (v + 1) ns (q - n) (omega (arith, le, all))

-- a run after all ticks is nobody's
pub owners-idle : (ns : List ℕ) (q n : ℕ) → offset ns (length ns) ≤ q → owners ns q n ≡ replicate n None
owners-idle ns q zero le = refl
owners-idle ns q (suc n) le =
    ap (λ o. o ∷ owners ns (q + 1) n) (no_owner 0 ns q le)
    ∙ ap (λ r. None ∷ r) (owners-idle ns (q + 1) n (omega arith))

-- before the first position no tick is laid
pub laid_none : (ns : List ℕ) → IsLaidTo ns 0 (record { vcpu = 0; ticks = 0 })
laid_none ns = record {
  within = omega arith;
  here = λ _. refl;
  some = λ _. omega arith;
  behind = λ is. (let none : offset ns (length ns)
      ≡ offset ns 0 = ap (offset ns) (sym is) in omega (arith, none));
}

-- some more ticks of the vCPU are laid
pub laid_more : (ns : List ℕ) (q v begun n : ℕ) → IsLaidTo ns q (record { vcpu = v; ticks = begun })
    → v < length ns → begun + n ≤ get_or ns v 0
    → IsLaidTo ns (q + n) (record { vcpu = v; ticks = begun + n })
laid_more ns q v begun n at h le = record {
  within = at.within;
  here = λ _. (let is = at.here h in omega arith);
  some = λ _. le;
  behind = λ is. absurd (omega arith);
}

-- all of the vCPU's ticks are laid, and the next one's begin
pub laid_next : (ns : List ℕ) (q v begun n : ℕ) → IsLaidTo ns q (record { vcpu = v; ticks = begun })
    → v < length ns → begun + n ≡ get_or ns v 0
    → IsLaidTo ns (q + n) (record { vcpu = v + 1; ticks = 0 })
laid_next ns q v begun n at h is =
    let here = at.here h in
    let sum = total-step (λ j. get_or ns j 0) v in
    record {
      within = omega arith;
      here = λ _. omega (arith, sum);
      some = λ _. omega arith;
      behind = λ all. (let e : offset ns (length ns)
          ≡ offset ns (v + 1) = ap (offset ns) (sym all) in omega (arith, e, sum));
    }

-- the cells of a run are those of the vCPU whose ticks are laid there
pub run_is : (ns : List ℕ) (q v begun n : ℕ) → IsLaidTo ns q (record { vcpu = v; ticks = begun })
    → v < length ns → begun + n ≤ get_or ns v 0 → owners ns q n ≡ replicate n (Some v)
run_is ns q v begun n at h le =
    let here = at.here h in
    owners-run ns v q n h (omega arith) (omega arith)

-- a row with a run after the runs that it has
pub row_more : (ns : List ℕ) (row old : Row) (cells : Row) (from a b : ℕ) → row ≡ old ++ owners ns from a
    → owners ns (from + a) b ≡ cells → row ++ cells ≡ old ++ owners ns from (a + b)
row_more ns row old cells from a b is next =
    ap (λ r. r ++ cells) is
    ∙ append_assoc old (owners ns from a) cells
    ∙ ap (λ r. old ++ r) (ap (λ r. owners ns from a ++ r) (sym next) ∙ sym (owners-add ns from a b))

-- a row with runs of less than a core's span has room for some more
pub room_left : (ns : List ℕ) (row old : Row) (from span left count most : ℕ)
    → row ≡ old ++ owners ns from (span - left) → left ≤ span → count ≤ left → length old + span ≤ most
    → length row + count ≤ most
room_left ns row old from span left count most is within le room =
    let size = ap (λ r. length r) is in
    omega (arith, size, length-append old (owners ns from (span - left)), length-owners ns from (span - left))
