-- Sums over the jobs of a list.
use Rattle.std.proofs.Common.{◌≡◌, ℕ, ◌+◌, ◌<◌, ◌≤◌, List, [], ◌∷◌, refl, subst, sym, inl, inr, arith}
use Rattle.std.specs.List.{sum_by}
use Rattle.std.proofs.lemmas.List.Sums.{sum_by-cons}
use Rattle.table_form.specs.Planning.Jobs.{Job}
use Rattle.edf_table.specs.Inside.Progress.{Among}

-- sums are compared term by term, over the jobs of the list alone
pub sum_le : (f g : Job → ℕ) (js : List Job) → ((j : Job) → Among js j → f j ≤ g j)
    → sum_by f js ≤ sum_by g js
sum_le f g [] h = omega arith
sum_le f g (i ∷ js) h =
    let rest : sum_by f js ≤ sum_by g js = sum_le f g js (λ j a. h j (inr a)) in
    let here : f i ≤ g i = h i (inl refl) in
    omega (arith, sum_by-cons f i js, sum_by-cons g i js)

-- a sum is less where one term is less and none is more
pub sum_lt : (f g : Job → ℕ) (js : List Job) → ((j : Job) → Among js j → f j ≤ g j) → (m : Job)
    → Among js m → f m < g m → sum_by f js < sum_by g js
sum_lt f g [] h m in_m lt = absurd in_m
sum_lt f g (i ∷ js) h m (inl e) lt =
    let rest : sum_by f js ≤ sum_by g js = sum_le f g js (λ j a. h j (inr a)) in
    let here : f i < g i = subst (λ (j : Job). f j < g j) (sym e) lt in
    omega (arith, sum_by-cons f i js, sum_by-cons g i js)
sum_lt f g (i ∷ js) h m (inr in_js) lt =
    let rest : sum_by f js < sum_by g js = sum_lt f g js (λ j a. h j (inr a)) m in_js lt in
    let here : f i ≤ g i = h i (inl refl) in
    omega (arith, sum_by-cons f i js, sum_by-cons g i js)

-- a sum of zeros
pub sum_zero : (f : Job → ℕ) (js : List Job) → ((j : Job) → Among js j → f j ≡ 0) → sum_by f js ≡ 0
sum_zero f [] h = refl
sum_zero f (i ∷ js) h =
    let rest : sum_by f js ≡ 0 = sum_zero f js (λ j a. h j (inr a)) in
    let here : f i ≡ 0 = h i (inl refl) in
    omega (arith, sum_by-cons f i js)

-- f grows over g by at most the sum of h
pub sum_le_add : (f g h : Job → ℕ) (js : List Job) → ((j : Job) → f j ≤ g j + h j)
    → sum_by f js ≤ sum_by g js + sum_by h js
sum_le_add f g h [] le = omega arith
sum_le_add f g h (i ∷ js) le =
    let rest : sum_by f js ≤ sum_by g js + sum_by h js = sum_le_add f g h js le in
    omega (arith, sum_by-cons f i js, sum_by-cons g i js, sum_by-cons h i js, le i)
