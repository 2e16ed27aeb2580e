-- Where the last dot of a name is, and whether a guest had a vCPU.
use Rattle.std.proofs.Common.{◌≡◌, ℕ, ◌+◌, ◌==◌, Bool, true, false, List, ap, sym, refl, ◌∙◌, ◌⊎◌, inl, inr, add-one, length, get_or}
use Rattle.std.specs.Str.{bytes_eq}
use Rattle.vcpu_names.specs.Names.{name_at}
use Rattle.view_schedulers.specs.Guests.{dot_below, guest_of}
use Rattle.view_schedulers.specs.LibvirtLines.{has_one_below}

pub dot_below-zero : (name : List ℕ) → dot_below name 0 ≡ length name
unfolding dot_below
dot_below-zero name = refl

-- one more byte is the last dot, or leaves it where it was
pub dot_step : (name : List ℕ) (k old new : ℕ) → old ≡ dot_below name k
    → (((get_or name k 0 == 46) ≡ true) × (new ≡ k)) ⊎ (((get_or name k 0 == 46) ≡ false) × (new ≡ old))
    → new ≡ dot_below name (k + 1)
unfolding dot_below
dot_step name k old new before (inl h) = h.1 ∙ sym (ap (dot_below name) (add-one k) ∙ rw h.0 refl)
dot_step name k old new before (inr h) = h.1 ∙ (before ∙ sym (ap (dot_below name) (add-one k) ∙ rw h.0 refl))

pub has_one_below-zero : (names : List (List ℕ)) (guest : List ℕ) → has_one_below names guest 0 ≡ false
unfolding has_one_below
has_one_below-zero names guest = refl

-- one more vCPU is the guest's, or leaves it to those before
pub one_more : (names : List (List ℕ)) (guest : List ℕ) (k : ℕ) (old new : Bool) → old ≡ has_one_below names guest k
    → ((bytes_eq (guest_of (name_at names k)) guest ≡ true) × (new ≡ true))
    ⊎ ((bytes_eq (guest_of (name_at names k)) guest ≡ false) × (new ≡ old))
    → new ≡ has_one_below names guest (k + 1)
unfolding has_one_below
one_more names guest k old new before (inl h) =
    h.1 ∙ sym (ap (has_one_below names guest) (add-one k) ∙ rw h.0 refl)
one_more names guest k old new before (inr h) =
    h.1 ∙ (before ∙ sym (ap (has_one_below names guest) (add-one k) ∙ rw h.0 refl))
