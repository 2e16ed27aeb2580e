-- How many vCPUs the plans of hosts split, host by host.
use Rattle.std.proofs.Common.{◌≡◌, ℕ, ◌+◌, ◌<◌, inl, inr, List, [], ◌∷◌, ◌++◌, Some, arith, ap, get_or, length, length-append, subst, sym, ◌∙◌}
use Rattle.std.specs.Prelude.{slice_get}
use Rattle.std.proofs.lemmas.Bool.{cases_lt}
use Rattle.std.proofs.lemmas.Option.{slice_get-get_or, slice_get_within}
use Rattle.tab_core.proofs.Lists.{push_new, push_old, same}
use Rattle.fleet_place.specs.Fits.{SplitsMany}
use Rattle.fleet_place.specs.Held.{Held}
use Rattle.fleet_place.specs.declared.policy.Policy.{Policy}

-- each of these counts is that of the host at its place
abbrev pub CountEach : Policy → List Held → List ℕ → Type 0
CountEach policy hosts splits = (number : ℕ) (held : Held) (count : ℕ) → slice_get hosts number ≡ Some held
    → slice_get splits number ≡ Some count → SplitsMany policy held count

-- one more host is counted
pub count_more : (policy : Policy) (hosts : List Held) (i : ℕ) (splits : List ℕ) (held : Held) (count : ℕ)
    → i < length hosts → held ≡ get_or hosts i held → length splits ≡ i → CountEach policy hosts splits
    → SplitsMany policy held count → CountEach policy hosts (splits ++ count ∷ [])
count_more policy hosts i splits held count low at many before is number other n here there =
    elim (cases_lt number (length splits)) [
      | inl less ↦
          let old : slice_get splits number ≡ Some (get_or splits number 0) = slice_get-get_or splits number 0 less in
          let kept : slice_get (splits ++ count ∷ []) number ≡ Some (get_or splits number 0) =
          push_old splits number count (get_or splits number 0) old in
          let one : get_or splits number 0 ≡ n =
          same (slice_get (splits ++ count ∷ []) number) (get_or splits number 0) n kept there in
          before number other n here (old ∙ ap Some one)
      | inr more ↦
          let within : number < length (splits ++ count ∷ []) =
          slice_get_within (splits ++ count ∷ []) number n there in
          let place : length splits ≡ number = omega (arith, within, more, length-append splits (count ∷ [])) in
          let new : slice_get (splits ++ count ∷ []) number ≡ Some count =
          subst (λ k. slice_get (splits ++ count ∷ []) k ≡ Some count) place (push_new splits count) in
          let one : count ≡ n = same (slice_get (splits ++ count ∷ []) number) count n new there in
          let mine : slice_get hosts i ≡ Some held = slice_get-get_or hosts i held low ∙ ap Some (sym at) in
          let mine_here : slice_get hosts number ≡ Some held =
          subst (λ k. slice_get hosts k ≡ Some held) (sym many ∙ place) mine in
          let host : held ≡ other = same (slice_get hosts number) held other mine_here here in
          subst (λ (h : Held). SplitsMany policy h n) host (subst (SplitsMany policy held) one is)
    ]
