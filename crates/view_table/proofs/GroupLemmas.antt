-- What one more vCPU adds to the figures of a VM.
use Rattle.std.proofs.Common.{◌≡◌, ℕ, ◌+◌, ◌∙◌, ap, sym, max, ◌==◌, ◌&&◌, ◌||◌, nat_lt, Bool, cond, true, false, List, length, get_or, refl, arith, add-one, Option, None, ◌⊎◌, inl, inr}
use Rattle.tab_core.specs.declared.vcpu.Vcpu.{Vcpu}
use Rattle.view_table.specs.Groups.{any_below, asked_at, is_of_vm, least_in, lesser, most_in, sum_where, vm_end}
use Rattle.view_table.specs.Totals.{each}

-- ---- before the first

-- no byte of the name is seen
pub vm_end-zero : (name : List ℕ) → vm_end name 0 ≡ length name
unfolding vm_end
vm_end-zero name = refl

-- none passes
pub any_below-zero : (test : ℕ → Bool) → any_below test 0 ≡ false
unfolding any_below
any_below-zero test = refl

-- the sum is 0
pub sum_none : (test : ℕ → Bool) (f : ℕ → ℕ) → sum_where test f 0 ≡ 0
unfolding sum_where
sum_none test f = refl

-- the greatest is 0
pub most_in-zero : (f : ℕ → ℕ) (names : List (List ℕ)) (vm : List ℕ) → most_in f names vm 0 ≡ 0
unfolding most_in
most_in-zero f names vm = refl

-- nothing was promised
pub least_in-zero : (vcpus : List Vcpu) (names : List (List ℕ)) (vm : List ℕ) → least_in vcpus names vm 0 ≡ None
unfolding least_in
least_in-zero vcpus names vm = refl

-- ---- one more

-- to the least latency, as a loop has it
pub least_step : (vcpus : List Vcpu) (names : List (List ℕ)) (vm : List ℕ) (v : ℕ) (old new : Option ℕ)
    → old ≡ least_in vcpus names vm v
    → ((is_of_vm names vm v ≡ true) × (new ≡ lesser old (asked_at vcpus names v)))
    ⊎ ((is_of_vm names vm v ≡ false) × (new ≡ old))
    → new ≡ least_in vcpus names vm (v + 1)
unfolding least_in
least_step vcpus names vm v old new before (inl h) =
    h.1 ∙ (ap (λ n. lesser n (asked_at vcpus names v)) before
    ∙ sym (ap (least_in vcpus names vm) (add-one v) ∙ rw h.0 refl))
least_step vcpus names vm v old new before (inr h) =
    h.1 ∙ (before ∙ sym (ap (least_in vcpus names vm) (add-one v) ∙ rw h.0 refl))

-- to the end of the VM's part of a name
pub end_step : (name : List ℕ) (k old new : ℕ) → old ≡ vm_end name k
    → ((((get_or name k 0 == 46) && nat_lt 0 k) ≡ true) × (new ≡ k))
    ⊎ ((((get_or name k 0 == 46) && nat_lt 0 k) ≡ false) × (new ≡ old))
    → new ≡ vm_end name (k + 1)
unfolding vm_end
end_step name k old new before (inl h) = h.1 ∙ sym (ap (vm_end name) (add-one k) ∙ rw h.0 refl)
end_step name k old new before (inr h) = h.1 ∙ (before ∙ sym (ap (vm_end name) (add-one k) ∙ rw h.0 refl))

-- to whether some vCPU passes
pub any_step : (test : ℕ → Bool) (v : ℕ) (old new : Bool) → old ≡ any_below test v
    → ((test v ≡ true) × (new ≡ true)) ⊎ ((test v ≡ false) × (new ≡ old)) → new ≡ any_below test (v + 1)
unfolding any_below
any_step test v old new before (inl h) =
    h.1 ∙ sym (ap (any_below test) (add-one v) ∙ (ap (λ b. any_below test v || b) h.0 ∙ or_true (any_below test v)))
  where
    or_true : (b : Bool) → (b || true) ≡ true
    or_true true = refl
    or_true false = refl
any_step test v old new before (inr h) =
    h.1 ∙ (before ∙ sym (ap (any_below test) (add-one v) ∙ (ap (λ b. any_below test v || b) h.0 ∙ or_false (any_below test v))))
  where
    or_false : (b : Bool) → (b || false) ≡ b
    or_false true = refl
    or_false false = refl

-- to a sum
pub sum_step : (test : ℕ → Bool) (f : ℕ → ℕ) (v old new : ℕ) → old ≡ sum_where test f v
    → ((test v ≡ true) × (new ≡ old + f v)) ⊎ ((test v ≡ false) × (new ≡ old))
    → new ≡ sum_where test f (v + 1)
unfolding sum_where
sum_step test f v old new before (inl h) =
    let now : sum_where test f (v + 1) ≡ sum_where test f v + f v =
    ap (sum_where test f) (add-one v) ∙ ap (λ b. sum_where test f v + cond b (f v) 0) h.0 in
    omega (arith, before, h.1, now)
sum_step test f v old new before (inr h) =
    let now : sum_where test f (v + 1) ≡ sum_where test f v + 0 =
    ap (sum_where test f) (add-one v) ∙ ap (λ b. sum_where test f v + cond b (f v) 0) h.0 in
    omega (arith, before, h.1, now)

-- to a sum of all
pub sum_more : (f : ℕ → ℕ) (v : ℕ) → sum_where each f (v + 1) ≡ sum_where each f v + f v
unfolding sum_where
sum_more f v = ap (sum_where each f) (add-one v)

-- to the greatest
pub most_step : (f : ℕ → ℕ) (names : List (List ℕ)) (vm : List ℕ) (v old new : ℕ) → old ≡ most_in f names vm v
    → ((is_of_vm names vm v ≡ true) × (new ≡ max old (f v))) ⊎ ((is_of_vm names vm v ≡ false) × (new ≡ old))
    → new ≡ most_in f names vm (v + 1)
unfolding most_in
most_step f names vm v old new before (inl h) =
    let now : most_in f names vm (v + 1) ≡ max (most_in f names vm v) (f v) =
    ap (most_in f names vm) (add-one v) ∙ ap (λ b. max (most_in f names vm v) (cond b (f v) 0)) h.0 in
    omega (arith, before, h.1, now)
most_step f names vm v old new before (inr h) =
    let now : most_in f names vm (v + 1) ≡ max (most_in f names vm v) 0 =
    ap (most_in f names vm) (add-one v) ∙ ap (λ b. max (most_in f names vm v) (cond b (f v) 0)) h.0 in
    omega (arith, before, h.1, now)
