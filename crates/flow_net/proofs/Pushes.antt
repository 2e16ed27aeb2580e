-- Reading one edge forwards keeps what a search has reached.
use Rattle.std.proofs.Common.{◌≡◌, ℕ, ◌+◌, ◌-◌, ◌<◌, ◌≤◌, true, false, cond, ap, refl, sym, subst, ◌∙◌, arith, inl, inr}
use Rattle.std.proofs.lemmas.Bool.{cases_eq, false≢true}
use Rattle.flow_net.specs.Load.{Load, span, job, used}
use Rattle.flow_net.specs.Counts.{is_due}
use Rattle.flow_net.specs.Inside.Reach.{Reached, IsSearch, CanReach, IsMore, near_count, scanned}
use Rattle.tab_core.proofs.Totals.{total-ext, total-lt, total-const, total-le}
use Rattle.flow_net.proofs.Moves.{Raised, total-more, raised_used, raised_used_else}

-- an edge was read, and nothing was reached by it
pub record Passed (q q' : Reached) (u j : ℕ) : Type 0 where
  pub near : (i : ℕ) → q'.near i ≡ q.near i
  pub scan : Raised q.scan q'.scan u j
  pub tail : q'.tail ≡ q.tail
  pub at : (x : ℕ) → q'.at x ≡ q.at x
  pub by : (x : ℕ) → q'.by x ≡ q.by x
  pub back : (x : ℕ) → q'.back x ≡ q.back x

-- an edge was read, and the interval was reached by it
pub record Pushed (q q' : Reached) (u j from : ℕ) : Type 0 where
  pub near_here : q'.near j ≡ true
  pub near_else : (i : ℕ) → (i ≡ j → ⊥) → q'.near i ≡ q.near i
  pub scan : Raised q.scan q'.scan u j
  pub tail : q'.tail ≡ q.tail + 1
  pub at_here : q'.at q.tail ≡ j
  pub by_here : q'.by q.tail ≡ u
  pub back_here : q'.back q.tail ≡ from
  pub at : (x : ℕ) → (x ≡ q.tail → ⊥) → q'.at x ≡ q.at x
  pub by : (x : ℕ) → (x ≡ q.tail → ⊥) → q'.by x ≡ q.by x
  pub back : (x : ℕ) → (x ≡ q.tail → ⊥) → q'.back x ≡ q.back x

-- a read edge is read once more, and the others as before
scan_more : (q q' : Reached) (u j : ℕ) → Raised q.scan q'.scan u j → (v i : ℕ) → q.scan v i ≤ q'.scan v i
scan_more q q' u j r v i = elim (cases_eq v u) [
  | inl e ↦ elim (cases_eq i j) [
    | inl e' ↦ (let h : q'.scan v i ≡ q.scan v i + 1 = rw e (rw e' r.here) in omega (arith, h))
    | inr ne ↦ omega (arith, r.else v i (λ a b. ne b))
  ]
  | inr ne ↦ omega (arith, r.else v i (λ a b. ne a))
]

-- still read at most once
once_more : (l : Load) (q q' : Reached) (u j : ℕ) → Raised q.scan q'.scan u j → q.scan u j ≡ 0
    → is_due l u ≡ 1
    → ((v i : ℕ) → v < l.width → i < l.count → q.scan v i ≤ is_due l v)
    → (v i : ℕ) → v < l.width → i < l.count → q'.scan v i ≤ is_due l v
once_more l q q' u j r none due old v i a b = elim (cases_eq v u) [
  | inl e ↦ elim (cases_eq i j) [
    | inl e' ↦ (let h : q'.scan v i ≡ q.scan v i + 1 = rw e (rw e' r.here) in
        let h' : q.scan v i ≡ 0 = rw e (rw e' none) in
        let h'' : is_due l v ≡ 1 = rw e due in omega (arith, h, h', h''))
    | inr ne ↦ omega (arith, r.else v i (λ x y. ne y), old v i a b)
  ]
  | inr ne ↦ omega (arith, r.else v i (λ x y. ne x), old v i a b)
]

-- one more edge is read
pub scanned_more : (l : Load) (q q' : Reached) (u j : ℕ) → u < l.width → j < l.count
    → Raised q.scan q'.scan u j
    → scanned l q' ≡ scanned l q + 1
scanned_more l q q' u j h h' r =
    total-more (used l q.scan) (used l q'.scan) l.count j h' (raised_used l q.scan q'.scan u j h r)
    (λ i ne. raised_used_else l q.scan q'.scan u j i r ne)

-- there is room in the queue for an interval that wasn't reached
pub room_for : (l : Load) (q : Reached) (j : ℕ) → near_count l q ≡ q.tail → j < l.count
    → q.near j ≡ false → q.tail < l.count
room_for l q j size h far =
    let one = λ (i : ℕ). cond (q.near i) 1 0 in
    let le : (i : ℕ) → i < l.count
    → one i ≤ 1 = λ i a. elim (q.near i) as (λ b. cond b 1 0
    ≤ 1) [ true ↦ omega arith | false ↦ omega arith ] in
    let zero_here : one j ≡ 0 = rw far refl in
    let below = total-lt one (λ i. 1) l.count j le h (omega (arith, zero_here)) in
    omega (arith, below, size, total-const 1 l.count)

-- no more links than intervals
pub tail_le : (l : Load) (q : Reached) → near_count l q ≡ q.tail → q.tail ≤ l.count
tail_le l q size =
    let one = λ (i : ℕ). cond (q.near i) 1 0 in
    let le : (i : ℕ) → i < l.count
    → one i ≤ 1 = λ i a. elim (q.near i) as (λ b. cond b 1 0
    ≤ 1) [ true ↦ omega arith | false ↦ omega arith ] in
    let below = total-le one (λ i. 1) l.count le in
    omega (arith, below, size, total-const 1 l.count)

-- a search after an edge that reached nothing new
pub pass_search : (l : Load) (f : ℕ → ℕ → ℕ) (rv rk : ℕ) (q q' : Reached) (u j : ℕ)
    → IsSearch l f rv rk q → u < l.width → is_due l u ≡ 1
    → q.scan u j ≡ 0 → (q.near j ≡ false → f u j ≡ span l j) → Passed q q' u j → IsSearch l f rv rk q'
pass_search l f rv rk q q' u j s in_width due none full p =
    let old = λ (x : ℕ) (h : x < q'.tail). let r : x < q.tail = omega (arith, h, p.tail) in r in
    record {
      interval = λ x h. rw (p.at x) (s.interval x (old x h));
      vcpu = λ x h. rw (p.by x) (s.vcpu x (old x h));
      marked = λ x h. ap q'.near (p.at x) ∙ p.near (q.at x) ∙ s.marked x (old x h);
      queued = λ i h n. (let o = s.queued i h (sym (p.near i)
          ∙ n) in (o.0, omega (arith, o.1, p.tail), p.at o.0 ∙ o.2));
      back_le = λ x h. omega (arith, p.back x, s.back_le x (old x h));
      short = λ x h. rw (p.by x) (rw (p.at x) (s.short x (old x h)));
      from_job = λ x h b. rw (p.back x)
          (rw (p.by x) (rw (p.at x) (rw (p.at (q.back x - 1))
          (s.from_job x (old x h) (omega (arith, b, p.back x))))));
      from_some = λ x h b. rw (p.back x)
          (rw (p.by x) (rw (p.at (q.back x - 1)) (s.from_some x (old x h) (omega (arith, b, p.back x)))));
      root_vcpu = λ x h b. p.by x ∙ s.root_vcpu x (old x h) (sym (p.back x) ∙ b);
      root_job = λ x h b. rw (p.by x) (rw (p.at x) (s.root_job x (old x h) (sym (p.back x) ∙ b)));
      one_back = λ x y h h' e e'. p.back x ∙ s.one_back x y (old x h) (old y h') (sym (p.by x) ∙ e ∙ p.by y)
          (rw (p.by x) at (rw (p.by y) at (rw (p.at x) at (rw (p.at y) at e')))) ∙ sym (p.back y);
      read = λ x h. rw (p.by x) (rw (p.at x)
          (omega (arith, s.read x (old x h), scan_more q q' u j p.scan (q.by x) (q.at x))));
      forth = λ v i a b n far. elim (cases_eq v u) [
        | inl e ↦ elim (cases_eq i j) [
          | inl e' ↦ rw e (rw e' (full (rw e' at (sym (p.near i) ∙ far))))
          | inr ne ↦ s.forth v i a b (omega (arith, n, p.scan.else v i (λ x y. ne y))) (sym (p.near i) ∙ far)
        ]
        | inr ne ↦ s.forth v i a b (omega (arith, n, p.scan.else v i (λ x y. ne x))) (sym (p.near i) ∙ far)
      ];
      once = once_more l q q' u j p.scan none due s.once;
      size = total-ext (λ i. cond (q'.near i) 1 0) (λ i. cond (q.near i) 1 0) l.count
          (λ i h. ap (λ b. cond b 1 0) (p.near i)) ∙ s.size ∙ sym p.tail;
    }

-- the new link, and those before it
abbrev AtLinks : Reached → Reached → (ℕ → Type 0) → Type 0
AtLinks q q' P = (x : ℕ) → x < q'.tail → P x

-- a fact of each link, by the old ones and the new one
by_links : (q q' : Reached) (u j from : ℕ) → Pushed q q' u j from → (P : ℕ → Type 0) → P q.tail
    → ((x : ℕ) → x < q.tail → P x) → (x : ℕ) → x < q'.tail → P x
by_links q q' u j from p P new old x h = elim (cases_eq x q.tail) [
  | inl e ↦ subst P (sym e) new
  | inr ne ↦ old x (omega (arith, h, p.tail, ne))
]

-- a search after an edge that reached its interval
pub push_search : (l : Load) (f : ℕ → ℕ → ℕ) (rv rk : ℕ) (q q' : Reached) (u j k from : ℕ)
    → IsSearch l f rv rk q
    → CanReach l f rv rk q u k from → j < l.count → job l u j ≡ k → q.scan u j ≡ 0 → q.near j ≡ false
    → f u j < span l j
    → Pushed q q' u j from → IsSearch l f rv rk q'
push_search l f rv rk q q' u j k from s can in_round at_k none far short p =
    let ne = λ (x : ℕ) (h : x < q.tail). let r : x ≡ q.tail → ⊥ = λ e. omega arith in r in
    let at = λ (x : ℕ) (h : x < q.tail). p.at x (ne x h) in
    let by = λ (x : ℕ) (h : x < q.tail). p.by x (ne x h) in
    let back = λ (x : ℕ) (h : x < q.tail). p.back x (ne x h) in
    let near = λ (x : ℕ) (h : x < q.tail).
    let r : q.at x ≡ j → ⊥ = λ e. false≢true (sym far ∙ ap q.near (sym e) ∙ s.marked x h) in r in
    record {
      interval = by_links q q' u j from p (λ x. q'.at x
          < l.count) (rw p.at_here in_round) (λ x h. rw (at x h) (s.interval x h));
      vcpu = by_links q q' u j from p (λ x. q'.by x
          < l.width) (rw p.by_here can.vcpu) (λ x h. rw (by x h) (s.vcpu x h));
      marked = by_links q q' u j from p (λ x. q'.near (q'.at x) ≡ true) (rw p.at_here p.near_here)
          (λ x h. ap q'.near (at x h) ∙ p.near_else (q.at x) (near x h) ∙ s.marked x h);
      queued = λ i h n. elim (cases_eq i j) [
        | inl e ↦ (q.tail, omega (arith, p.tail), p.at_here ∙ sym e)
        | inr other ↦ (let o = s.queued i h (sym (p.near_else i other)
            ∙ n) in (o.0, omega (arith, o.1, p.tail), at o.0 o.1 ∙ o.2))
      ];
      back_le = by_links q q' u j from p (λ x. q'.back x
          ≤ x) (rw p.back_here can.back_le) (λ x h. omega (arith, back x h, s.back_le x h));
      short = by_links q q' u j from p (λ x. f (q'.by x) (q'.at x)
          < span l (q'.at x)) (rw p.by_here (rw p.at_here short))
          (λ x h. rw (by x h) (rw (at x h) (s.short x h)));
      from_job = by_links q q' u j from p (λ x. 0 < q'.back x
          → job l (q'.by x) (q'.at x) ≡ job l (q'.by x) (q'.at (q'.back x - 1)))
          (λ b. rw p.back_here (rw p.by_here (rw p.at_here (
          let b' : 0 < from = omega (arith, b, p.back_here) in
          at_k ∙ can.from_job b'
          ∙ ap (λ n. job l u n) (sym (at (from - 1) (omega (arith, b', can.back_le))))))))
          (λ x h b. let b' : 0 < q.back x = omega (arith, b, back x h) in
          rw (back x h) (rw (by x h) (rw (at x h)
          (rw (at (q.back x - 1) (omega (arith, h, b', s.back_le x h))) (s.from_job x h b')))));
      from_some = by_links q q' u j from p (λ x. 0 < q'.back x → 0 < f (q'.by x) (q'.at (q'.back x - 1)))
          (λ b. rw p.back_here (rw p.by_here (
          let b' : 0 < from = omega (arith, b, p.back_here) in
          rw (at (from - 1) (omega (arith, b', can.back_le))) (can.from_some b'))))
          (λ x h b. let b' : 0 < q.back x = omega (arith, b, back x h) in
          rw (back x h) (rw (by x h) (rw (at (q.back x - 1) (omega (arith, h, b', s.back_le x h)))
          (s.from_some x h b'))));
      root_vcpu = by_links q q' u j from p (λ x. q'.back x ≡ 0 → q'.by x ≡ rv)
          (λ b. p.by_here ∙ can.root_vcpu (sym p.back_here ∙ b)) (λ x h b. by x h
          ∙ s.root_vcpu x h (sym (back x h) ∙ b));
      root_job = by_links q q' u j from p (λ x. q'.back x ≡ 0 → job l (q'.by x) (q'.at x) ≡ rk)
          (λ b. rw p.by_here (rw p.at_here (at_k ∙ can.root_job (sym p.back_here ∙ b))))
          (λ x h b. rw (by x h) (rw (at x h) (s.root_job x h (sym (back x h) ∙ b))));
      one_back = λ x y hx hy. by_links q q' u j from p (λ x. (y : ℕ) → y < q'.tail → q'.by x ≡ q'.by y
          → job l (q'.by x) (q'.at x) ≡ job l (q'.by y) (q'.at y) → q'.back x ≡ q'.back y)
          (λ y hy. by_links q q' u j from p (λ y. q'.by q.tail ≡ q'.by y
          → job l (q'.by q.tail) (q'.at q.tail) ≡ job l (q'.by y) (q'.at y) → q'.back q.tail ≡ q'.back y)
          (λ e e'. refl)
          (λ y h e e'.
          let b : q.by y ≡ u = sym (by y h) ∙ sym e ∙ p.by_here in
          let same_job : job l u j
          ≡ job l (q.by y) (q.at y) =
          rw p.by_here at (rw p.at_here at (rw (by y h) at (rw (at y h) at e'))) in
          let turned : job l u (q.at y) ≡ k = ap (λ n. job l n (q.at y)) (sym b) ∙ sym same_job ∙ at_k in
          p.back_here ∙ sym (can.same y h b turned) ∙ sym (back y h)) y hy)
          (λ x h y hy. by_links q q' u j from p (λ y. q'.by x ≡ q'.by y
          → job l (q'.by x) (q'.at x) ≡ job l (q'.by y) (q'.at y) → q'.back x ≡ q'.back y)
          (λ e e'.
          let b : q.by x ≡ u = sym (by x h) ∙ e ∙ p.by_here in
          let same_job : job l (q.by x) (q.at x)
          ≡ job l u j = rw p.by_here at (rw p.at_here at (rw (by x h) at (rw (at x h) at e'))) in
          let turned : job l u (q.at x) ≡ k = ap (λ n. job l n (q.at x)) (sym b) ∙ same_job ∙ at_k in
          back x h ∙ can.same x h b turned ∙ sym p.back_here)
          (λ y h' e e'. back x h ∙ s.one_back x y h h' (sym (by x h) ∙ e ∙ by y h')
          (rw (by x h) at (rw (by y h') at (rw (at x h) at (rw (at y h') at e'))))
          ∙ sym (back y h')) y hy) x hx y hy;
      read = by_links q q' u j from p (λ x. 0 < q'.scan (q'.by x) (q'.at x))
          (rw p.by_here (rw p.at_here (omega (arith, p.scan.here))))
          (λ x h. rw (by x h) (rw (at x h)
          (omega (arith, s.read x h, scan_more q q' u j p.scan (q.by x) (q.at x)))));
      forth = λ v i a b n far'. elim (cases_eq i j) [
        | inl e ↦ absurd (false≢true (sym far' ∙ ap q'.near e ∙ p.near_here))
        | inr other ↦ s.forth v i a b (omega (arith, n, p.scan.else v i (λ x y. other y)))
            (sym (p.near_else i other) ∙ far')
      ];
      once = once_more l q q' u j p.scan none can.due s.once;
      size = total-more (λ i. cond (q.near i) 1 0) (λ i. cond (q'.near i) 1 0) l.count j in_round
          (ap (λ b. cond b 1 0) p.near_here ∙ ap (λ b. cond b 1 0 + 1) (sym far))
          (λ i other. ap (λ b. cond b 1 0) (p.near_else i other))
          ∙ ap (λ n. n + 1) s.size ∙ sym p.tail;
    }

-- the job may be read on after that
pub push_can : (l : Load) (f : ℕ → ℕ → ℕ) (rv rk : ℕ) (q q' : Reached) (u j k from : ℕ)
    → CanReach l f rv rk q u k from
    → Pushed q q' u j from → CanReach l f rv rk q' u k from
push_can l f rv rk q q' u j k from can p = record {
  vcpu = can.vcpu;
  due = can.due;
  back_le = omega (arith, can.back_le, p.tail);
  from_job = λ b. can.from_job b
      ∙ ap (λ n. job l u n) (sym (p.at (from - 1) (λ e. omega (arith, can.back_le, b, e))));
  from_some = λ b. rw (p.at (from - 1) (λ e. omega (arith, can.back_le, b, e))) (can.from_some b);
  root_vcpu = can.root_vcpu;
  root_job = can.root_job;
  same = by_links q q' u j from p (λ x. q'.by x ≡ u → job l u (q'.at x) ≡ k → q'.back x ≡ from)
      (λ e e'. p.back_here)
      (λ x h e e'. let ne : x ≡ q.tail → ⊥ = λ z. omega arith in
      p.back x ne ∙ can.same x h (sym (p.by x ne) ∙ e) (rw (p.at x ne) at e'));
}

-- the job may be read on after an edge that reached nothing new
pub pass_can : (l : Load) (f : ℕ → ℕ → ℕ) (rv rk : ℕ) (q q' : Reached) (u j k from : ℕ)
    → CanReach l f rv rk q u k from
    → Passed q q' u j → CanReach l f rv rk q' u k from
pass_can l f rv rk q q' u j k from can p = record {
  vcpu = can.vcpu;
  due = can.due;
  back_le = omega (arith, can.back_le, p.tail);
  from_job = λ b. can.from_job b ∙ ap (λ n. job l u n) (sym (p.at (from - 1)));
  from_some = λ b. rw (p.at (from - 1)) (can.from_some b);
  root_vcpu = can.root_vcpu;
  root_job = can.root_job;
  same = λ x h e e'. p.back x ∙ can.same x (omega (arith, h, p.tail)) (sym (p.by x) ∙ e) (rw (p.at x) at e');
}

-- links stay when one is pushed
pub push_more : (q q' : Reached) (u j from : ℕ) → Pushed q q' u j from → IsMore q q'
push_more q q' u j from p = record {
  more = omega (arith, p.tail);
  at = λ x h. p.at x (λ e. omega arith);
  by = λ x h. p.by x (λ e. omega arith);
  back = λ x h. p.back x (λ e. omega arith);
}

-- links stay when none is pushed
pub pass_more : (q q' : Reached) (u j : ℕ) → Passed q q' u j → IsMore q q'
pass_more q q' u j p = record {
  more = omega (arith, p.tail);
  at = λ x h. p.at x;
  by = λ x h. p.by x;
  back = λ x h. p.back x;
}
