-- Contiguous stints cover each tick below the clock once, and grow at their end.
use Rattle.std.proofs.Common.{◌≡◌, ℕ, zero, suc, ◌<◌, ◌≤◌, inl, inr, List, [], ◌∷◌, ◌++◌, Some, refl, ap, sym, ◌∙◌, arith}
use Rattle.std.specs.Prelude.{slice_get}
use Rattle.std.proofs.lemmas.Bool.{cases_lt}
use Rattle.tab_core.specs.Timelines.{AreContiguous}
use Rattle.tab_core.specs.declared.stint.Stint.{Stint}

-- each tick between the begin and the end of contiguous stints lies in one of them
pub covering : (from to : ℕ) (ss : List Stint) (x : ℕ) → AreContiguous from ss to → from ≤ x → x < to
    → (k : ℕ) × (s : Stint) × (slice_get ss k ≡ Some s) × (s.from ≤ x) × (x < s.end)
covering from to [] x chain low lt = absurd (omega (arith, chain))
covering from to (s ∷ ss) x chain low lt = elim (cases_lt x s.end) [
  | inl here ↦ (0, s, refl, omega (arith, chain.0), here)
  | inr later ↦
      (let rest = covering s.end to ss x chain.1 later lt in
      (suc rest.0, rest.1, rest.2, rest.3, rest.4))
]

-- no stint of a chain begins before it
pub later_from : (from to : ℕ) (ss : List Stint) (k : ℕ) (s : Stint) → AreContiguous from ss to
    → ((j : ℕ) (t : Stint) → slice_get ss j ≡ Some t → t.from < t.end) → slice_get ss k ≡ Some s
    → from ≤ s.from
later_from from to [] k s chain ticks h = absurd cc
later_from from to (t ∷ ts) zero s chain ticks h =
    (let e : t ≡ s = cc in let q = ap (λ (y : Stint). y.from) e in omega (arith, chain.0))
later_from from to (t ∷ ts) (suc k) s chain ticks h =
    let rest = later_from t.end to ts k s chain.1 (λ j u g. ticks (suc j) u g) h in
    let some = ticks 0 t refl in
    omega (arith, chain.0)

-- two stints that cover one tick are the same
pub one_stint : (from to : ℕ) (ss : List Stint) (j k x : ℕ) (s t : Stint) → AreContiguous from ss to
    → ((i : ℕ) (u : Stint) → slice_get ss i ≡ Some u → u.from < u.end) → slice_get ss j ≡ Some s
    → slice_get ss k ≡ Some t →
    s.from ≤ x → x < s.end → t.from ≤ x → x < t.end → s ≡ t
one_stint from to [] j k x s t chain ticks h g a b a' b' = absurd cc
one_stint from to (u ∷ us) zero zero x s t chain ticks h g a b a' b' = cc
one_stint from to (u ∷ us) zero (suc k) x s t chain ticks h g a b a' b' =
    let e : u ≡ s = cc in
    let q = ap (λ (y : Stint). y.end) e in
    let late = later_from u.end to us k t chain.1 (λ i v r. ticks (suc i) v r) g in
    absurd (omega arith)
one_stint from to (u ∷ us) (suc j) zero x s t chain ticks h g a b a' b' =
    let e : u ≡ t = cc in
    let q = ap (λ (y : Stint). y.end) e in
    let late = later_from u.end to us j s chain.1 (λ i v r. ticks (suc i) v r) h in
    absurd (omega arith)
one_stint from to (u ∷ us) (suc j) (suc k) x s t chain ticks h g a b a' b' =
    one_stint u.end to us j k x s t chain.1 (λ i v r. ticks (suc i) v r) h g a b a' b'

-- contiguous stints and one more from where they end are contiguous
pub contiguous_push : (from to : ℕ) (ss : List Stint) (s : Stint) → AreContiguous from ss to → s.from ≡ to
    → AreContiguous from (ss ++ s ∷ []) s.end
contiguous_push from to [] s chain at = (at ∙ sym chain, refl)
contiguous_push from to (t ∷ ts) s chain at = (chain.0, contiguous_push t.end to ts s chain.1 at)
