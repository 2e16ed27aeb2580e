-- One line of an earlier placing, and the VMs that aren't back.
use Rattle.std.proofs.Common.{◌≡◌, ℕ, suc, ◌+◌, ◌<◌, ◌∙◌, Bool, true, false, if◌then◌else◌, List, [], ◌∷◌, ◌++◌, Some, ◌⊎◌, inl, inr, ap, append-nil, arith, get_or, length, refl, set, sym, take}
use Rattle.std.specs.Prelude.{slice_get, slice_index_or}
use Rattle.std.proofs.Math.Seq.{take-suc}
use Rattle.std.proofs.lemmas.List.{length-set, length-take-le, map-set}
use Rattle.std.proofs.lemmas.Option.{get_or_from_slice_get, same_Some, slice_get-get_or, slice_get-map}
use Rattle.std.specs.Option.{option_map}
use Rattle.fleet_place.specs.Deals.{with_vm}
use Rattle.fleet_place.specs.Held.{Held}
use Rattle.fleet_place.specs.declared.group.Group.{Group}
use Rattle.fleet_place.specs.declared.vm.Vm.{Vm}
use Rattle.tool_hosts.specs.Earlier.{IsPassed, PutBack, held_in, held_of, others_in}
use Rattle.tool_hosts.specs.Earlier.PutBack.{Back, Passed}
use Rattle.tool_hosts.specs.Inside.Turns.{IsTurn}
use Rattle.tool_hosts.specs.declared.earlier.Stay.{Stay}

-- a line that is passed over changes nothing
pub passes : (vms : List Vm) (hosts : List Held) (marks : List Bool) (s : Stay) → IsPassed vms hosts marks s
    → IsTurn vms s hosts marks hosts marks
passes vms hosts marks s h = record {
  many = refl;
  back = λ start stays before. Passed stays hosts marks s before h;
}

-- a VM that was put on a host is one more there
pub pushed : (gs : List Group) (n : ℕ) (g g' : Group) (vm : Vm) (held : Held) → slice_get gs n ≡ Some g
    → held_of g' ≡ with_vm (held_of g) vm → slice_get (held_in gs) n ≡ Some held
    → held_in (set gs n g') ≡ set (held_in gs) n (with_vm held vm)
pushed gs n g g' vm held at is there =
    let own : slice_get (held_in gs) n ≡ Some (held_of g) =
    slice_get-map held_of gs n ∙ ap (option_map held_of) at in
    let who : held_of g ≡ held = same_Some (held_of g) held (sym own ∙ there) in
    map-set held_of gs n g' ∙ ap (set (held_in gs) n) (is ∙ ap (λ h. with_vm h vm) who)

-- a VM goes back to its host
pub goes_back : (vms : List Vm) (hosts hosts' : List Held) (marks : List Bool) (s : Stay) (vm : Vm) (held : Held)
    → slice_get vms s.vm ≡ Some vm → slice_get hosts s.host ≡ Some held → slice_index_or marks s.vm false ≡ false
    → hosts' ≡ set hosts s.host (with_vm held vm) → IsTurn vms s hosts marks hosts' (set marks s.vm true)
goes_back vms hosts hosts' marks s vm held at there fresh gone = rw gone record {
  many = length-set marks s.vm true;
  back = λ start stays before. Back stays hosts marks s vm held before at there fresh;
}

-- one more VM is among the others where it isn't marked
others_append : (marks : List Bool) (vms : List Vm) (mark : Bool) (vm : Vm) → length marks ≡ length vms
    → others_in (marks ++ mark ∷ []) (vms ++ vm ∷ []) ≡ others_in marks vms ++ (if mark then [] else vm ∷ [])
others_append [] [] true vm same = refl
others_append [] [] false vm same = refl
others_append [] (w ∷ vms) mark vm same = absurd (omega (arith, same))
others_append (m ∷ marks) [] mark vm same = absurd (omega (arith, same))
others_append (true ∷ marks) (w ∷ vms) mark vm same = others_append marks vms mark vm (omega (arith, same))
others_append (false ∷ marks) (w ∷ vms) mark vm same =
    ap (λ vs. w ∷ vs) (others_append marks vms mark vm (omega (arith, same)))

next_one : {A : Type 0} (xs : List A) (i : ℕ) (x : A) → i < length xs → x ≡ get_or xs i x
    → take (i + 1) xs ≡ take i xs ++ x ∷ []
next_one xs i x low at =
    let count : i + 1 ≡ suc i = omega arith in
    rw count (take-suc xs i x low ∙ ap (λ y. take i xs ++ y ∷ []) (sym at))

pub others_next : (marks : List Bool) (vms : List Vm) (i : ℕ) (mark : Bool) (vm : Vm) → length marks ≡ length vms
    → i < length vms → mark ≡ get_or marks i mark → vm ≡ get_or vms i vm
    → others_in (take (i + 1) marks) (take (i + 1) vms)
    ≡ others_in (take i marks) (take i vms) ++ (if mark then [] else vm ∷ [])
others_next marks vms i mark vm same low marked at =
    let few : i < length marks = omega (arith, same, low) in
    let one : length (take i marks) ≡ i = length-take-le i marks (omega (arith, few)) in
    let other : length (take i vms) ≡ i = length-take-le i vms (omega (arith, low)) in
    rw (next_one marks i mark few marked, next_one vms i vm low at)
    (others_append (take i marks) (take i vms) mark vm (one ∙ sym other))

-- one more VM, as a loop has it
pub others_step : (marks : List Bool) (vms : List Vm) (i : ℕ) (old new : List Vm) (vm : Vm) → length marks ≡ length vms
    → i < length vms → vm ≡ get_or vms i vm → old ≡ others_in (take i marks) (take i vms)
    → ((get_or marks i false ≡ false) × (new ≡ old ++ vm ∷ [])) ⊎ ((get_or marks i false ≡ true) × (new ≡ old))
    → new ≡ others_in (take (i + 1) marks) (take (i + 1) vms)
others_step marks vms i old new vm same low at before (inl h) =
    let few : i < length marks = omega (arith, same, low) in
    let mark : get_or marks i false ≡ get_or marks i (get_or marks i false) =
    sym (get_or_from_slice_get marks i (get_or marks i false) (get_or marks i false) (slice_get-get_or marks i false few)) in
    let next = others_next marks vms i (get_or marks i false) vm same low mark at in
    h.1 ∙ (ap (λ vs. vs ++ vm ∷ []) before
    ∙ sym (next ∙ ap (λ (m : Bool). others_in (take i marks) (take i vms) ++ (if m then [] else vm ∷ [])) h.0))
others_step marks vms i old new vm same low at before (inr h) =
    let few : i < length marks = omega (arith, same, low) in
    let mark : get_or marks i false ≡ get_or marks i (get_or marks i false) =
    sym (get_or_from_slice_get marks i (get_or marks i false) (get_or marks i false) (slice_get-get_or marks i false few)) in
    let next = others_next marks vms i (get_or marks i false) vm same low mark at in
    h.1 ∙ (before ∙ sym (next ∙ (ap (λ (m : Bool). others_in (take i marks) (take i vms) ++ (if m then [] else vm ∷ [])) h.0
    ∙ append-nil (others_in (take i marks) (take i vms)))))
