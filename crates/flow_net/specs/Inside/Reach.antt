-- What a search from a job that still needs ticks has reached.
-- Source: the augmenting paths of L. R. Ford, D. R. Fulkerson, "Maximal flow through a network",
-- Canadian Journal of Mathematics 8, 1956.
use Rattle.std.specs.Prelude.{◌≡◌, ℕ, ◌-◌, ◌<◌, ◌≤◌, Bool, true, false, cond}
use Rattle.flow_net.specs.Counts.{is_due}
use Rattle.tab_core.specs.Sums.{total}
use Rattle.flow_net.specs.Load.{Load, span, job, used}

-- The intervals that were reached, in order: `at x`, by a tick of vCPU `by x` that may move there from
-- interval `at (back x - 1)`, or that its job still needs where `back x` is 0. `scan v i` is how often
-- the edge from the vCPU's job to the interval was read, and `near` says which intervals were reached.
pub record Reached : Type 0 where
  pub near : ℕ → Bool
  pub scan : ℕ → ℕ → ℕ
  pub at : ℕ → ℕ
  pub by : ℕ → ℕ
  pub back : ℕ → ℕ
  pub tail : ℕ

-- how many edges were read forwards
abbrev pub scanned : Load → Reached → ℕ
scanned l q = total (used l q.scan) l.count

-- how many intervals were reached
abbrev pub near_count : Load → Reached → ℕ
near_count l q = total (λ i. cond (q.near i) 1 0) l.count

-- the search began at the job `rk` of vCPU `rv`
pub record IsSearch (l : Load) (f : ℕ → ℕ → ℕ) (rv rk : ℕ) (q : Reached) : Type 0 where
  pub interval : (x : ℕ) → x < q.tail → q.at x < l.count
  pub vcpu : (x : ℕ) → x < q.tail → q.by x < l.width
  pub marked : (x : ℕ) → x < q.tail → q.near (q.at x) ≡ true
  pub queued : (i : ℕ) → i < l.count → q.near i ≡ true → (x : ℕ) × (x < q.tail) × (q.at x ≡ i)
  pub back_le : (x : ℕ) → x < q.tail → q.back x ≤ x
  pub short : (x : ℕ) → x < q.tail → f (q.by x) (q.at x) < span l (q.at x)
  pub from_job : (x : ℕ) → x < q.tail → 0 < q.back x
      → job l (q.by x) (q.at x) ≡ job l (q.by x) (q.at (q.back x - 1))
  pub from_some : (x : ℕ) → x < q.tail → 0 < q.back x → 0 < f (q.by x) (q.at (q.back x - 1))
  pub root_vcpu : (x : ℕ) → x < q.tail → q.back x ≡ 0 → q.by x ≡ rv
  pub root_job : (x : ℕ) → x < q.tail → q.back x ≡ 0 → job l (q.by x) (q.at x) ≡ rk
  pub one_back : (x y : ℕ) → x < q.tail → y < q.tail → q.by x ≡ q.by y
      → job l (q.by x) (q.at x) ≡ job l (q.by y) (q.at y) → q.back x ≡ q.back y
  pub read : (x : ℕ) → x < q.tail → 0 < q.scan (q.by x) (q.at x)
  pub forth : (v i : ℕ) → v < l.width → i < l.count → 0 < q.scan v i → q.near i ≡ false → f v i ≡ span l i
  pub once : (v i : ℕ) → v < l.width → i < l.count → q.scan v i ≤ is_due l v
  pub size : near_count l q ≡ q.tail

-- whole jobs were read
abbrev pub IsJobwise : Load → Reached → Type 0
IsJobwise l q = (v i j : ℕ) → v < l.width → i < l.count → j < l.count → job l v i ≡ job l v j
    → q.scan v i ≡ q.scan v j

-- the edges of job `k` of vCPU `u` may be read, as it was reached from that interval
pub record CanReach (l : Load) (f : ℕ → ℕ → ℕ) (rv rk : ℕ) (q : Reached) (u k back : ℕ) : Type 0 where
  pub vcpu : u < l.width
  pub due : is_due l u ≡ 1
  pub back_le : back ≤ q.tail
  pub from_job : 0 < back → k ≡ job l u (q.at (back - 1))
  pub from_some : 0 < back → 0 < f u (q.at (back - 1))
  pub root_vcpu : back ≡ 0 → u ≡ rv
  pub root_job : back ≡ 0 → k ≡ rk
  pub same : (x : ℕ) → x < q.tail → q.by x ≡ u → job l u (q.at x) ≡ k → q.back x ≡ back

-- the links stay, and more may follow
pub record IsMore (q q' : Reached) : Type 0 where
  pub more : q.tail ≤ q'.tail
  pub at : (x : ℕ) → x < q.tail → q'.at x ≡ q.at x
  pub by : (x : ℕ) → x < q.tail → q'.by x ≡ q.by x
  pub back : (x : ℕ) → x < q.tail → q'.back x ≡ q.back x

-- each edge was read at least as often as before
abbrev pub ReadsMore : Load → Reached → Reached → Type 0
ReadsMore l q q' = (v i : ℕ) → v < l.width → i < l.count → q.scan v i ≤ q'.scan v i

-- the edges of a job up to an interval were read, and no others
pub record AreEdgesRead (l : Load) (q q' : Reached) (u from j : ℕ) : Type 0 where
  pub done : (i : ℕ) → from ≤ i → i < j → q'.scan u i ≡ 1
  pub others : (v i : ℕ) → (v ≡ u → from ≤ i → i < j → ⊥) → q'.scan v i ≡ q.scan v i

-- the intervals of the first links have no room, and their edges back were read
pub record IsReadUpTo (l : Load) (f : ℕ → ℕ → ℕ) (room : ℕ → ℕ) (q : Reached) (head : ℕ) : Type 0 where
  pub full : (x : ℕ) → x < head → room (q.at x) ≡ 0
  pub back : (x v : ℕ) → x < head → v < l.width → 0 < f v (q.at x) → 0 < q.scan v (q.at x)

-- an edge of the root's job was read, and that job still needs ticks
pub record IsRooted (l : Load) (lack : ℕ → ℕ → ℕ) (rv rk : ℕ) (q : Reached) : Type 0 where
  pub vcpu : rv < l.width
  pub interval : ℕ
  pub in_round : interval < l.count
  pub job_is : job l rv interval ≡ rk
  pub read : 0 < q.scan rv interval
  pub lacks : 0 < lack rv rk

-- the ticks on the links up to number `x` are as they were
pub record IsKeptTo (f g : ℕ → ℕ → ℕ) (q : Reached) (x : ℕ) : Type 0 where
  pub here : (z : ℕ) → z ≤ x → g (q.by z) (q.at z) ≡ f (q.by z) (q.at z)
  pub before : (z : ℕ) → z ≤ x → 0 < q.back z
      → g (q.by z) (q.at (q.back z - 1)) ≡ f (q.by z) (q.at (q.back z - 1))
