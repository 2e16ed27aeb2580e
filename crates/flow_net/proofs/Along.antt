-- Moving one tick along the links of a search.
use Rattle.std.proofs.Common.{◌≡◌, ℕ, ◌-◌, ◌<◌, ◌≤◌, ap, refl, ◌∙◌, arith}
use Rattle.flow_net.specs.Load.{Load, job}
use Rattle.flow_net.specs.Inside.Reach.{Reached, IsSearch, IsKeptTo}

-- before a tick moves, all links are on the ticks that they had
pub kept_start : (f : ℕ → ℕ → ℕ) (q : Reached) (x : ℕ) → IsKeptTo f f q x
kept_start f q x = record { here = λ z h. refl; before = λ z h b. refl }

-- a link up to the one before is not of the same job
apart : (l : Load) (f : ℕ → ℕ → ℕ) (rv rk : ℕ) (q : Reached) (x z : ℕ) → IsSearch l f rv rk q
    → x < q.tail → 0 < q.back x
    → z ≤ q.back x - 1 → q.by z ≡ q.by x → job l (q.by z) (q.at z) ≡ job l (q.by x) (q.at x) → ⊥
apart l f rv rk q x z s h b le e e' =
    let in_x = s.back_le x h in
    let in_z : z < q.tail = omega (arith, h, b, le, in_x) in
    omega (arith, s.one_back z x in_z h e e', s.back_le z in_z, le, b)

-- a move at one link leaves the ticks under the links before it
pub kept_more : (l : Load) (f g g' : ℕ → ℕ → ℕ) (rv rk : ℕ) (q : Reached) (x : ℕ) → IsSearch l f rv rk q
    → x < q.tail → 0 < q.back x
    → ((w i : ℕ) → (w ≡ q.by x → job l (q.by x) i ≡ job l (q.by x) (q.at x) → ⊥) → g' w i ≡ g w i)
    → IsKeptTo f g q x → IsKeptTo f g' q (q.back x - 1)
kept_more l f g g' rv rk q x s h b others old =
    let in_x = s.back_le x h in
    record {
      here = λ z le. others (q.by z) (q.at z)
          (λ e e'. apart l f rv rk q x z s h b le e (ap (λ n. job l n (q.at z)) e ∙ e'))
          ∙ old.here z (omega (arith, le, b, in_x));
      before = λ z le b'. others (q.by z) (q.at (q.back z - 1))
          (λ e e'. apart l f rv rk q x z s h b le e
          (s.from_job z (omega (arith, h, b, le, in_x)) b' ∙ ap (λ n. job l n (q.at (q.back z - 1))) e ∙ e'))
          ∙ old.before z (omega (arith, le, b, in_x)) b';
    }
