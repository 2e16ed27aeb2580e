-- Tables have at most one first fault, and good ones have none.
use Rattle.std.proofs.Common.{◌≡◌, ℕ, ◌+◌, ◌*◌, ◌≤◌, List, Option, Some, ap, subst, sym, ◌∙◌, inl, inr, arith}
use Rattle.std.proofs.lemmas.Bool.{cases_lt}
use Rattle.std.proofs.lemmas.Option.{none-some, same_Some}
use Rattle.tab_core.specs.declared.periodic.Periodic.{Periodic}
use Rattle.table_form.specs.declared.segment.Segment.{Segment}
use Rattle.table_form.specs.Tables.Rows.{Row}
use Rattle.table_form.specs.Tables.Serves.{Apart, supply}
use Rattle.table_check.specs.Clashes.{IsClash, IsFirstClash}
use Rattle.table_check.specs.Faults.{AreGood, HasCheckFault}
use Rattle.table_check.specs.Shapes.{HaveGoodShapes, IsFirstBadShape, bad_at, rows_of}
use Rattle.table_check.specs.Shortages.{IsFirstShort, IsShort}
use Rattle.table_check.specs.declared.fault.CheckFault.{CheckFault}
use Rattle.table_check.specs.declared.fault.CheckFault.TheVariants.{BadShape, Twice, Short, NoMemory}

-- each of two least numbers is at most the other
both_low : (a b : ℕ) → a ≤ b → b ≤ a → a ≡ b
both_low a b le ge = omega arith

-- a bad shape excludes the faults that come after good ones
bad_not_good : (raw : List (List Segment)) (core place : ℕ) → IsFirstBadShape raw core place
    → HaveGoodShapes raw → ⊥
bad_not_good raw core place bad good = none-some place (sym (good core) ∙ bad.bad)

-- a clash excludes a shortage, which comes after apart rows
clash_not_apart : (rows : List Row) (v x c d : ℕ) → IsFirstClash rows v x c d → Apart rows → ⊥
clash_not_apart rows v x c d first apart =
    let same : c ≡ d = apart v x c d first.among.here first.among.there in
    let lower = first.among.lower in
    omega arith

-- a lowest core with a bad shape is no higher than another such
one_bad_core : (raw : List (List Segment)) (c p d q : ℕ) → IsFirstBadShape raw c p → IsFirstBadShape raw d q → c ≤ d
one_bad_core raw c p d q a b = elim (cases_lt d c) [
  | inl lt ↦ absurd (none-some q (sym (a.lowest d lt) ∙ b.bad))
  | inr le ↦ le
]

-- two lowest cores with a bad shape are one, and so are the places
one_bad : (raw : List (List Segment)) (c p d q : ℕ) → IsFirstBadShape raw c p → IsFirstBadShape raw d q
    → BadShape c p ≡ BadShape d q
one_bad raw c p d q a b =
    let core : c ≡ d = both_low c d (one_bad_core raw c p d q a b) (one_bad_core raw d q c p b a) in
    let place : p ≡ q = same_Some {A = ℕ} p q (sym a.bad ∙ ap (bad_at raw) core ∙ b.bad) in
    cc

-- the first clash is one: tick, then core, then other core, then the vCPU there
one_clash : (rows : List Row) (v x c d w y e f : ℕ) → IsFirstClash rows v x c d → IsFirstClash rows w y e f
    → Twice v x c d ≡ Twice w y e f
one_clash rows v x c d w y e f a b =
    let tick : x ≡ y = both_low x y (a.least_tick w y e f b.among) (b.least_tick v x c d a.among) in
    let of_a : IsClash rows v y c d = subst (λ n. IsClash rows v n c d) tick a.among in
    let of_b : IsClash rows w x e f = subst (λ n. IsClash rows w n e f) (sym tick) b.among in
    let core : c ≡ e = both_low c e (a.least_core w e f of_b) (b.least_core v c d of_a) in
    let to_a : IsClash rows v y e d = subst (λ n. IsClash rows v y n d) core of_a in
    let to_b : IsClash rows w x c f = subst (λ n. IsClash rows w x n f) (sym core) of_b in
    let other : d ≡ f = both_low d f (a.least_other w f to_b) (b.least_other v d to_a) in
    let vcpu : v ≡ w = same_Some {A = ℕ} v w (sym to_a.here ∙ b.among.here) in
    cc

-- of one vCPU's one period the numbers are the same
short_numbers : (tasks : List (Option Periodic)) (rows : List Row) (v k g c g' c' : ℕ)
    → IsShort tasks rows v k g c
    → IsShort tasks rows v k g' c' → (g ≡ g') × (c ≡ c')
short_numbers tasks rows v k g c g' c' a b =
    let task : a.task ≡ b.task = same_Some {A = Periodic} a.task b.task
    (same_Some {A = Option Periodic} (Some a.task) (Some b.task) (sym a.at ∙ b.at)) in (
      a.got_is ∙ ap (λ (t : Periodic). supply v rows (k * t.period) ((k + 1) * t.period)) task ∙ sym b.got_is,
      a.cost_is ∙ ap (λ (t : Periodic). t.cost) task ∙ sym b.cost_is,
    )

-- the first shortage is one: vCPU, then period
one_short : (tasks : List (Option Periodic)) (rows : List Row) (v k g c w j g' c' : ℕ)
    → IsFirstShort tasks rows v k g c → IsFirstShort tasks rows w j g' c'
    → Short v k g c ≡ Short w j g' c'
one_short tasks rows v k g c w j g' c' a b =
    let vcpu : v ≡ w = both_low v w (a.least_vcpu w j g' c' b.short) (b.least_vcpu v k g c a.short) in
    let of_a : IsShort tasks rows w k g c = subst (λ n. IsShort tasks rows n k g c) vcpu a.short in
    let of_b : IsShort tasks rows v j g' c' = subst (λ n. IsShort tasks rows n j g' c') (sym vcpu) b.short in
    let period : k ≡ j = both_low k j (a.least_period j g' c' of_b) (b.least_period k g c of_a) in
    let numbers = short_numbers tasks rows w j g c g' c' (subst (λ n. IsShort tasks rows w n g c) period of_a)
    b.short in
    let got = numbers.0 in
    let cost = numbers.1 in
    cc

-- two first faults are one
pub one_fault : (tasks : List (Option Periodic)) (raw : List (List Segment)) (fault other : CheckFault)
    → HasCheckFault tasks raw fault → HasCheckFault tasks raw other → fault ≡ other
one_fault tasks raw (BadShape c p) (BadShape d q) a b = one_bad raw c p d q a b
one_fault tasks raw (BadShape c p) (Twice w y e f) a b = absurd (bad_not_good raw c p a b.0)
one_fault tasks raw (BadShape c p) (Short w j g k) a b = absurd (bad_not_good raw c p a b.0)
one_fault tasks raw (BadShape c p) NoMemory a b = absurd b
one_fault tasks raw (Twice v x c d) (BadShape e q) a b = absurd (bad_not_good raw e q b a.0)
one_fault tasks raw (Twice v x c d) (Twice w y e f) a b = one_clash (rows_of raw) v x c d w y e f a.1 b.1
one_fault tasks raw (Twice v x c d) (Short w j g k) a b =
    absurd (clash_not_apart (rows_of raw) v x c d a.1 b.1)
one_fault tasks raw (Twice v x c d) NoMemory a b = absurd b
one_fault tasks raw (Short v k g c) (BadShape e q) a b = absurd (bad_not_good raw e q b a.0)
one_fault tasks raw (Short v k g c) (Twice w y e f) a b =
    absurd (clash_not_apart (rows_of raw) w y e f b.1 a.1)
one_fault tasks raw (Short v k g c) (Short w j g' c') a b =
    one_short tasks (rows_of raw) v k g c w j g' c' a.2 b.2
one_fault tasks raw (Short v k g c) NoMemory a b = absurd b
one_fault tasks raw NoMemory other a b = absurd a

-- good tables have no fault: `check` passes or refuses, never both
pub no_fault : (tasks : List (Option Periodic)) (rows : List (List Segment)) (off : CheckFault)
    → AreGood tasks rows → HasCheckFault tasks rows off → ⊥
no_fault tasks rows (BadShape core place) good h =
    none-some place (sym (good.shapes core) ∙ h.bad)
no_fault tasks rows (Twice vcpu tick core other) good h =
    let lower = h.1.among.lower in
    let same : core ≡ other = good.apart vcpu tick core other h.1.among.here h.1.among.there in
    absurd (omega arith)
no_fault tasks rows (Short vcpu period_no got cost) good h =
    let short = h.2.short in
    let enough = good.serves vcpu short.task short.at period_no short.in_round in
    let got_is = short.got_is in
    let cost_is = short.cost_is in
    let less = short.less in
    absurd (omega arith)
no_fault tasks rows NoMemory good h = h
