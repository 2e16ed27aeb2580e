-- Reading all edges of a job.
use Rattle.std.proofs.Common.{◌≡◌, ℕ, ◌+◌, ◌<◌, ◌≤◌, refl, sym, ◌∙◌, arith, ◌⊎◌, inl, inr}
use Rattle.std.proofs.lemmas.Bool.{cases_lt, cases_eq}
use Rattle.flow_net.specs.Load.{Load, IsLoad, Window, job}
use Rattle.flow_net.specs.Inside.Reach.{Reached, IsMore, IsJobwise, AreEdgesRead, ReadsMore}
use Rattle.flow_net.proofs.Moves.{Raised}
use Rattle.flow_net.proofs.Spans.{window_job, before_window, after_window}

-- before the first edge of a job
pub reading_start : (l : Load) (q : Reached) (u from : ℕ) → AreEdgesRead l q q u from from
reading_start l q u from = record { done = λ i a b. absurd (omega arith); others = λ v i ne. refl }

-- one edge more of the job
pub reading_more : (l : Load) (q q' q'' : Reached) (u from j : ℕ) → AreEdgesRead l q q' u from j → from ≤ j
    → q.scan u j ≡ 0 → Raised q'.scan q''.scan u j → AreEdgesRead l q q'' u from (j + 1)
reading_more l q q' q'' u from j r le none up = record {
  done = λ i a b. elim (cases_eq i j) [
    | inl e ↦ rw e (omega (arith, up.here, none, r.others u j (λ x y z. omega arith)))
    | inr ne ↦ up.else u i (λ x y. ne y) ∙ r.done i a (omega (arith, b, ne))
  ];
  others = λ v i out. up.else v i (λ x y. out x (omega (arith, le, y)) (omega (arith, y)))
      ∙ r.others v i (λ x y z. out x y (omega (arith, z)));
}

-- the edge was not read before
pub reading_unread : (l : Load) (q q' : Reached) (u from j : ℕ) → AreEdgesRead l q q' u from j
    → q.scan u j ≡ 0 → q'.scan u j ≡ 0
reading_unread l q q' u from j r none = r.others u j (λ x y z. omega arith) ∙ none

-- inside or outside of a job's window
in_window : (l : Load) → IsLoad l → (u k from until i : ℕ) → Window l u k from until → i < l.count
    → ((from ≤ i) × (i < until) × (job l u i ≡ k)) ⊎ ((from ≤ i → i < until → ⊥) × (job l u i ≡ k → ⊥))
in_window l ok u k from until i w h = elim (cases_lt i from) [
  | inl before ↦ inr (λ a b. omega arith, before_window l ok u k from until i w before)
  | inr after ↦ elim (cases_lt i until) [
    | inl inside ↦ inl (after, inside, window_job l ok u k from until i w after inside)
    | inr beyond ↦ inr (λ a b. omega arith, after_window l ok u k from until i w beyond (omega arith))
  ]
]

-- after the last one whole jobs are read
pub reading_jobwise : (l : Load) → IsLoad l → (q q' : Reached) (u k from until : ℕ) → Window l u k from until
    → AreEdgesRead l q q' u from until → IsJobwise l q → IsJobwise l q'
reading_jobwise l ok q q' u k from until w r old v i j h a b e = elim (cases_eq v u) [
  | inl is_u ↦ (let e' : job l u i ≡ job l u j = rw is_u at e in
      elim (in_window l ok u k from until i w a) [
        | inl here ↦ elim (in_window l ok u k from until j w b) [
          | inl there ↦ rw is_u (r.done i here.0 here.1 ∙ sym (r.done j there.0 there.1))
          | inr there ↦ absurd (there.1 (sym e' ∙ here.2))
        ]
        | inr here ↦ elim (in_window l ok u k from until j w b) [
          | inl there ↦ absurd (here.1 (e' ∙ there.2))
          | inr there ↦ r.others v i (λ x y z. here.0 y z) ∙ old v i j h a b e
              ∙ sym (r.others v j (λ x y z. there.0 y z))
        ]
      ])
  | inr other ↦ r.others v i (λ x y z. other x) ∙ old v i j h a b e ∙ sym (r.others v j (λ x y z. other x))
]

-- a whole reading has read all edges of the job
pub reading_all : (l : Load) → IsLoad l → (q q' : Reached) (u k from until i : ℕ) → Window l u k from until
    → AreEdgesRead l q q' u from until → i < l.count → job l u i ≡ k → 0 < q'.scan u i
reading_all l ok q q' u k from until i w r h e = elim (in_window l ok u k from until i w h) [
  | inl here ↦ omega (arith, r.done i here.0 here.1)
  | inr there ↦ absurd (there.1 e)
]

-- a reading has read no edge less than before
pub reading_keeps : (l : Load) → IsLoad l → (q q' : Reached) (u k from until : ℕ) → Window l u k from until
    → AreEdgesRead l q q' u from until → ((i : ℕ) → i < l.count → job l u i ≡ k → q.scan u i ≡ 0)
    → ReadsMore l q q'
reading_keeps l ok q q' u k from until w r none v i h a = elim (cases_eq v u) [
  | inl e ↦ elim (in_window l ok u k from until i w a) [
    | inl here ↦ (let old : q.scan v i ≡ 0 = rw e (none i a here.2) in omega (arith, old))
    | inr there ↦ omega (arith, r.others v i (λ x y z. there.0 y z))
  ]
  | inr ne ↦ omega (arith, r.others v i (λ x y z. ne x))
]

-- links stay where nothing happens
pub more_refl : (q : Reached) → IsMore q q
more_refl q = record { more = omega arith; at = λ x h. refl; by = λ x h. refl; back = λ x h. refl }

-- links stay over two steps
pub more_trans : (q q' q'' : Reached) → IsMore q q' → IsMore q' q'' → IsMore q q''
more_trans q q' q'' a b = record {
  more = omega (arith, a.more, b.more);
  at = λ x h. b.at x (omega (arith, a.more)) ∙ a.at x h;
  by = λ x h. b.by x (omega (arith, a.more)) ∙ a.by x h;
  back = λ x h. b.back x (omega (arith, a.more)) ∙ a.back x h;
}
