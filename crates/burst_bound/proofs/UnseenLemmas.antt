-- Where bisection by seen counts stops: the stints before haven't seen the event, and the others have.
use Rattle.std.proofs.Common.{◌≡◌, ℕ, suc, ◌≤◌, inl, inr, true, false, leb, List, length, Some, arith}
use Rattle.std.specs.Prelude.{slice_get}
use Rattle.std.proofs.lemmas.Bool.{cases_lt}
use Rattle.std.proofs.lemmas.Bool.Decides.{nat_tests}
use Rattle.std.proofs.lemmas.Option.{get_or_from_slice_get, slice_get_within}
use Rattle.std.specs.List.Sorted.{IsNonDecreasingBy, IsPartitionPoint}
use Rattle.tab_core.specs.declared.stint.Stint.{Stint}
use Rattle.tab_core.proofs.Lists.{element_at}
use Rattle.burst_bound.specs.Inside.Seeing.{AreInOrder, IsUnseenCount, SeesFrom}

-- the seen counts are in order, as bisection needs
pub seen_rise : (stints : List Stint) → AreInOrder stints → IsNonDecreasingBy (λ (s : Stint). s.seen) stints
seen_rise stints order i j d le lt =
    let a = element_at stints i (omega arith) in
    let b = element_at stints j lt in
    let one = get_or_from_slice_get stints i a.0 d a.1 in
    let two = get_or_from_slice_get stints j b.0 d b.1 in
    let rises = order.risen i j a.0 b.0 le a.1 b.1 in
    rw (one, two) rises

-- what bisection finds
pub parts_at : (event n : ℕ) (stints : List Stint) → n ≤ length stints
    → IsPartitionPoint (λ (s : Stint). leb s.seen event ≡ true) (λ (s : Stint). leb s.seen event ≡ false) stints n
    → IsUnseenCount event stints n
parts_at event n stints le at = record {
  within = le;
  unseen = λ k s lt is. (let test = at.0 k s (omega arith) lt in
      let same = get_or_from_slice_get stints k s s is in
      grind (arith, nat_tests));
  seen = λ k s low is. (let lt = slice_get_within stints k s is in
      let test = at.1 k s low lt in
      let same = get_or_from_slice_get stints k s s is in
      grind (arith, nat_tests));
}

-- where all have seen it, they have from 0 on
pub all_seen : (event : ℕ) (stints : List Stint) → IsUnseenCount event stints 0 → SeesFrom event 0 stints
all_seen event stints parts = λ k st at beyond. parts.seen k st (omega arith) at

-- from the end of the last that hasn't on they have
pub seen_behind : (event n : ℕ) (stints : List Stint) (last : Stint) → AreInOrder stints → IsUnseenCount event stints (suc n)
    → slice_get stints n ≡ Some last → SeesFrom event last.end stints
seen_behind event n stints last order parts at = λ k st is beyond. (elim (cases_lt k (suc n)) [
  | inl before ↦ absurd (omega (arith, order.ends k n st last (omega arith) is at))
  | inr behind ↦ parts.seen k st behind is
])

-- before the end of the last stint that hasn't seen the event, not all have
pub not_before : (event n x : ℕ) (stints : List Stint) (last : Stint) → IsUnseenCount event stints (suc n)
    → slice_get stints n ≡ Some last → SeesFrom event x stints → last.end ≤ x
not_before event n x stints last parts at sees = elim (cases_lt x last.end) [
  | inl before ↦ absurd (omega (arith, sees n last at before, parts.unseen n last (omega arith) at))
  | inr le ↦ le
]
