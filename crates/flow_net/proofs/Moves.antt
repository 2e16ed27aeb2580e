-- One tick more or less, and what it does to a flow.
use Rattle.std.proofs.Common.{◌≡◌, ℕ, zero, suc, ◌+◌, ◌<◌, ◌≤◌, ◌==◌, cond, ap, refl, sym, ◌∙◌, arith, ⊎_elim, inl, inr}
use Rattle.std.proofs.lemmas.Bool.{cases_lt, cases_eq, eq-eqb, ne_eqb, cond-true, cond-false}
use Rattle.tab_core.specs.Sums.{total}
use Rattle.flow_net.specs.Load.{Load, IsFlow, span, job, given, used, hole_at}
use Rattle.tab_core.proofs.Totals.{total-ext}

-- one tick more of vCPU v at interval i
pub record Raised (f g : ℕ → ℕ → ℕ) (v i : ℕ) : Type 0 where
  pub here : g v i ≡ f v i + 1
  pub else : (w j : ℕ) → (w ≡ v → j ≡ i → ⊥) → g w j ≡ f w j

-- a sum grows by what one of its values grows
pub total-more : (f g : ℕ → ℕ) (n q : ℕ) → q < n → g q ≡ f q + 1 → ((k : ℕ) → (k ≡ q → ⊥) → g k ≡ f k)
    → total g n ≡ total f n + 1
total-more f g zero q h here else = absurd (omega arith)
total-more f g (suc n) q h here else =
    ⊎_elim
    (λ (lt : q < n). omega (arith, total-more f g n q lt here else, else n (λ e. omega arith)))
    (λ (ge : n ≤ q).
    let e : q ≡ n = omega arith in
    let here' : g n ≡ f n + 1 = rw e at here in
    omega (arith, here', total-ext g f n (λ k lt. else k (λ e'. omega arith))))
    (cases_lt q n)

-- a tick more in an interval is one more used there
pub raised_used : (l : Load) (f g : ℕ → ℕ → ℕ) (v i : ℕ) → v < l.width → Raised f g v i
    → used l g i ≡ used l f i + 1
raised_used l f g v i h r =
    total-more (λ w. f w i) (λ w. g w i) l.width v h r.here (λ w ne. r.else w i (λ e e'. ne e))

-- a tick more in an interval is none more used elsewhere
pub raised_used_else : (l : Load) (f g : ℕ → ℕ → ℕ) (v i j : ℕ) → Raised f g v i → (j ≡ i → ⊥)
    → used l g j ≡ used l f j
raised_used_else l f g v i j r ne =
    total-ext (λ w. g w j) (λ w. f w j) l.width (λ w h. r.else w j (λ e e'. ne e'))

-- the vCPU's job there gets one more
pub raised_given : (l : Load) (f g : ℕ → ℕ → ℕ) (v i : ℕ) → i < l.count → Raised f g v i
    → given l g v (job l v i) ≡ given l f v (job l v i) + 1
raised_given l f g v i h r =
    let k = job l v i in
    total-more (λ j. cond (job l v j == k) (f v j) 0) (λ j. cond (job l v j == k) (g v j) 0) l.count i h
    (cond-true (job l v i == k) (g v i) 0 (eq-eqb k k refl) ∙ r.here
    ∙ ap (λ n. n + 1) (sym (cond-true (job l v i == k) (f v i) 0 (eq-eqb k k refl))))
    (λ j ne. ap (λ n. cond (job l v j == k) n 0) (r.else v j (λ e e'. ne e')))

-- no other job gets more
pub raised_given_else : (l : Load) (f g : ℕ → ℕ → ℕ) (v i w k : ℕ) → Raised f g v i → (w ≡ v
    → k ≡ job l v i → ⊥)
    → given l g w k ≡ given l f w k
raised_given_else l f g v i w k r ne =
    total-ext (λ j. cond (job l w j == k) (g w j) 0) (λ j. cond (job l w j == k) (f w j) 0) l.count
    (λ j h. elim (cases_eq k (job l w j)) [
      | inl same ↦ ap (λ n. cond (job l w j == k) n 0) (r.else w j (λ e e'. ne e (same
          ∙ ap (λ n. job l w n) e' ∙ ap (λ n. job l n i) e)))
      | inr other ↦ cond-false (job l w j == k) (g w j) 0 (ne_eqb (job l w j) k (λ e. other (sym e)))
          ∙ sym (cond-false (job l w j == k) (f w j) 0 (ne_eqb (job l w j) k (λ e. other (sym e))))
    ])

-- the interval that is short
pub hole_here : (i j : ℕ) → i ≡ j → hole_at i j ≡ 1
hole_here i j e = cond-true (i == j) 1 0 (eq-eqb i j e)

-- an interval that isn't the short one has no hole
pub hole_else : (i j : ℕ) → (i ≡ j → ⊥) → hole_at i j ≡ 0
hole_else i j ne = cond-false (i == j) 1 0 (ne_eqb i j ne)

-- an interval's room is taken by a path that ends there
pub open_flow : (l : Load) (f lack : ℕ → ℕ → ℕ) (room room' : ℕ → ℕ) (i : ℕ) → IsFlow l f lack room l.count
    → i < l.count → room i ≡ room' i + 1 → ((j : ℕ) → (j ≡ i → ⊥) → room' j ≡ room j)
    → IsFlow l f lack room' i
open_flow l f lack room room' i ok h here else = record {
  short = ok.short;
  due = ok.due;
  fits = λ j lt. elim (cases_eq j i) [
    | inl e ↦ (let e' : room j ≡ room' j + 1 = rw e here in omega
        (arith, ok.fits j lt, e', hole_here i j (sym e), hole_else l.count j (λ z. omega arith)))
    | inr ne ↦ omega (
      arith,
      ok.fits j lt,
      else j ne,
      hole_else i j (λ z. ne (sym z)),
      hole_else l.count j
          (λ z. omega arith),
    )
  ];
}

-- the short interval gets a tick of a job that another interval of the job then still needs
pub shift_flow : (l : Load) (f g h lack : ℕ → ℕ → ℕ) (room : ℕ → ℕ) (v j p : ℕ) → IsFlow l f lack room j
    → v < l.width
    → j < l.count → p < l.count → f v j < span l j → job l v j ≡ job l v p → Raised f g v j → Raised h g v p
    → IsFlow l h lack room p
shift_flow l f g h lack room v j p ok in_width in_j in_p lt same up down =
    let below : (w i : ℕ) → h w i ≤ g w i
    = λ w i. elim (cases_eq w v) [
      | inl e ↦ elim (cases_eq i p) [
        | inl e' ↦ (let q : g w i ≡ h w i + 1 = rw e (rw e' down.here) in omega (arith, q))
        | inr ne ↦ omega (arith, down.else w i (λ a b. ne b))
      ]
      | inr ne ↦ omega (arith, down.else w i (λ a b. ne a))
    ] in
    let under : (w i : ℕ) → w < l.width → i < l.count → g w i ≤ span l i
    = λ w i a b. elim (cases_eq w v) [
      | inl e ↦ elim (cases_eq i j) [
        | inl e' ↦ (let q : g w i
            ≡ f w i + 1 = rw e (rw e' up.here) in let q' : f w i
            < span l i = rw e (rw e' lt) in omega (arith, q, q'))
        | inr ne ↦ omega (arith, up.else w i (λ x y. ne y), ok.short w i a b)
      ]
      | inr ne ↦ omega (arith, up.else w i (λ x y. ne x), ok.short w i a b)
    ] in
    record {
      short = λ w i a b. omega (arith, below w i, under w i a b);
      due = λ w k a b. elim (cases_eq w v) [
        | inl e ↦ elim (cases_eq k (job l v j)) [
          | inl e' ↦ (let q : given l g w k
              ≡ given l f w k + 1 = rw e (rw e' (raised_given l f g v j in_j up)) in
              let q' : given l g w k ≡ given l h w k + 1 = rw e (rw (e'
              ∙ same) (raised_given l h g v p in_p down)) in
              omega (arith, ok.due w k a b, q, q'))
          | inr ne ↦ omega (
            arith,
            ok.due w k a b,
            raised_given_else l f g v j w k up (λ x y. ne y),
            raised_given_else l h g v p w k down (λ x y. ne (y ∙ sym same)),
          )
        ]
        | inr ne ↦ omega (
          arith,
          ok.due w k a b,
          raised_given_else l f g v j w k up (λ x y. ne x),
          raised_given_else l h g v p w k down (λ x y. ne x),
        )
      ];
      fits = λ i a.
          let at_j : used l g i ≡ used l f i + hole_at j i
          = elim (cases_eq i j) [
            | inl e ↦ (let q : used l g i
                ≡ used l f i + 1 =
                rw e (raised_used l f g v j in_width up) in omega (arith, q, hole_here j i (sym e)))
            | inr ne ↦ omega (arith, raised_used_else l f g v j i up ne, hole_else j i (λ z. ne (sym z)))
          ] in
          let at_p : used l g i ≡ used l h i + hole_at p i
          = elim (cases_eq i p) [
            | inl e ↦ (let q : used l g i
                ≡ used l h i + 1 =
                rw e (raised_used l h g v p in_width down) in omega (arith, q, hole_here p i (sym e)))
            | inr ne ↦ omega (arith, raised_used_else l h g v p i down ne, hole_else p i (λ z. ne (sym z)))
          ] in
          omega (arith, ok.fits i a, at_j, at_p);
    }

-- the short interval gets a tick that its job still needs
pub close_flow : (l : Load) (f g lack lack' : ℕ → ℕ → ℕ) (room : ℕ → ℕ) (v j : ℕ)
    → IsFlow l f lack room j → v < l.width
    → j < l.count → f v j < span l j → Raised f g v j → Raised lack' lack v (job l v j)
    → IsFlow l g lack' room l.count
close_flow l f g lack lack' room v j ok in_width in_j lt up down =
    record {
      short = λ w i a b. elim (cases_eq w v) [
        | inl e ↦ elim (cases_eq i j) [
          | inl e' ↦ (let q : g w i
              ≡ f w i + 1 = rw e (rw e' up.here) in let q' : f w i
              < span l i = rw e (rw e' lt) in omega (arith, q, q'))
          | inr ne ↦ omega (arith, up.else w i (λ x y. ne y), ok.short w i a b)
        ]
        | inr ne ↦ omega (arith, up.else w i (λ x y. ne x), ok.short w i a b)
      ];
      due = λ w k a b. elim (cases_eq w v) [
        | inl e ↦ elim (cases_eq k (job l v j)) [
          | inl e' ↦ (let q : given l g w k
              ≡ given l f w k + 1 = rw e (rw e' (raised_given l f g v j in_j up)) in
              let q' : lack w k ≡ lack' w k + 1 = rw e (rw e' down.here) in
              omega (arith, ok.due w k a b, q, q'))
          | inr ne ↦ omega (
            arith,
            ok.due w k a b,
            raised_given_else l f g v j w k up (λ x y. ne y),
            down.else
                w k (λ x y. ne y),
          )
        ]
        | inr ne ↦ omega (
          arith,
          ok.due w k a b,
          raised_given_else l f g v j w k up (λ x y. ne x),
          down.else w
              k (λ x y. ne x),
        )
      ];
      fits = λ i a. elim (cases_eq i j) [
        | inl e ↦ (let q : used l g i ≡ used l f i + 1 = rw e (raised_used l f g v j in_width up) in
            omega (arith, ok.fits i a, q, hole_here j i (sym e), hole_else l.count i (λ z. omega arith)))
        | inr ne ↦ omega (
          arith,
          ok.fits i a,
          raised_used_else l f g v j i up ne,
          hole_else j i
              (λ z. ne (sym z)),
          hole_else l.count i (λ z. omega arith),
        )
      ];
    }
