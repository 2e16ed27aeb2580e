-- One turn of the walks that place VMs.
use Rattle.std.proofs.Common.{◌≡◌, ℕ, suc, ◌+◌, ◌*◌, ◌<◌, ◌≤◌, inl, inr, List, [], ◌∷◌, ◌++◌, Option, None, Some, arith, drop, get_or, length, replicate, set, take, ap, refl, sym, subst, ◌∙◌}
use Rattle.std.specs.Prelude.{IfSome, IsSomeAnd, slice_get}
use Rattle.std.proofs.Math.Seq.{take-suc}
use Rattle.std.proofs.lemmas.Bool.{cases_eq}
use Rattle.std.proofs.lemmas.List.{append_assoc, length-append, length-set, length-take-le, take-append-drop, take-append-le, take_all}
use Rattle.std.proofs.lemmas.Option.{get_or_from_slice_get, slice_get_within}
use Rattle.tab_core.proofs.Lists.{get_or-replicate_same, same, set_here, set_other}
use Rattle.tab_core.specs.declared.TheConstants.{MAX_VCPUS, ROUND}
use Rattle.sizes_doc.specs.declared.size.Size.{Size}
use Rattle.fleet_place.specs.Deals.{IsBestHost, Joined, Joins, JoinsNone, JoinsNot, LeftOver, with_vm}
use Rattle.fleet_place.specs.Fits.{FitsHost, FitsNot, IsHostRefused, Refused}
use Rattle.fleet_place.specs.Held.{Held, load_of_vms, sizes_in, vcpu_count_of}
use Rattle.fleet_place.specs.Inside.Memory.{IsAlike, IsRefusedBeside, IsTurn, KnowsRefusals}
use Rattle.fleet_place.specs.Stays.{IsStay, NextHost, Stay}
use Rattle.fleet_place.specs.declared.group.Group.{Group}
use Rattle.fleet_place.specs.declared.policy.Policy.{Policy}
use Rattle.fleet_place.specs.declared.vm.Vm.{Vm}
use Rattle.fleet_place.proofs.AcceptLemmas.{refused_alike}
use Rattle.fleet_place.proofs.HeldLemmas.{count_push, load_push, sizes_push}

-- a VM that fits is within the limits
pub joins_much : (policy : Policy) (held : Held) (vm : Vm) → Joins policy held vm
    → load_of_vms held.vms + vm.demand ≤ held.cores * ROUND
joins_much policy held vm fits = subst (λ n. n ≤ held.cores * ROUND) (load_push held.vms vm) fits.load

pub joins_many : (policy : Policy) (held : Held) (vm : Vm) → Joins policy held vm
    → vcpu_count_of held.vms + vm.size.machines * vm.size.vcpus ≤ MAX_VCPUS
joins_many policy held vm fits = subst (λ n. n ≤ MAX_VCPUS) (count_push held.vms vm) fits.count

-- a host that takes a VM forgets what was refused there
pub forgets : (policy : Policy) (hosts : List Held) (refused : List (Option Size)) (n : ℕ) (held : Held)
    → n < length refused → KnowsRefusals policy hosts refused
    → KnowsRefusals policy (set hosts n held) (set refused n None)
forgets policy hosts refused n held low knows k other size here there = elim (cases_eq k n) [
  | inl is ↦
      let none : slice_get (set refused n None) n ≡ Some None = set_here refused n None low in
      let some : slice_get (set refused n None) n ≡ Some (Some size) =
      subst (λ j. slice_get (set refused n None) j ≡ Some (Some size)) is there in
      let both : Some None ≡ Some (Some size) = sym none ∙ some in
      absurd cc
  | inr not ↦ knows k other size (sym (set_other hosts n k held not) ∙ here)
      (sym (set_other refused n k None not) ∙ there)
]

-- what was refused at a host last is kept
pub learns : (policy : Policy) (hosts : List Held) (refused : List (Option Size)) (n : ℕ) (held : Held) (o : Option Size)
    → n < length refused → slice_get hosts n ≡ Some held → KnowsRefusals policy hosts refused
    → IfSome o (IsRefusedBeside policy held) → KnowsRefusals policy hosts (set refused n o)
learns policy hosts refused n held o low at knows own k other size here there = elim (cases_eq k n) [
  | inl is ↦
      let there_at : slice_get hosts n ≡ Some other = subst (λ j. slice_get hosts j ≡ Some other) is here in
      let who : held ≡ other = same (slice_get hosts n) held other at there_at in
      let some : slice_get (set refused n o) n ≡ Some (Some size) =
      subst (λ j. slice_get (set refused n o) j ≡ Some (Some size)) is there in
      let what : o ≡ Some size =
      same (slice_get (set refused n o) n) o (Some size) (set_here refused n o low) some in
      let known : IfSome (Some size) (IsRefusedBeside policy held) =
      subst (λ x. IfSome x (IsRefusedBeside policy held)) what own in
      subst (λ (h : Held). IsRefusedBeside policy h size) who known
  | inr not ↦ knows k other size here (sym (set_other refused n k o not) ∙ there)
]

-- at first nothing is known
pub knows_none : (policy : Policy) (hosts : List Held) (n : ℕ) → KnowsRefusals policy hosts (replicate n None)
knows_none policy hosts n k held size here there =
    let low : k < length (replicate n None) = slice_get_within (replicate n None) k (Some size) there in
    let entry : get_or (replicate n None) k None ≡ Some size =
    get_or_from_slice_get (replicate n None) k (Some size) None there in
    let none : get_or (replicate n None) k None ≡ None = get_or-replicate_same n k None in
    let both : None ≡ Some size = sym none ∙ entry in
    absurd cc

-- a size that is alike was refused
pub known_again : (policy : Policy) (held : Held) (vm : Vm) (refused : Option Size)
    → IsSomeAnd refused (λ size. IsAlike size vm.size) → IfSome refused (IsRefusedBeside policy held)
    → JoinsNot policy held vm
known_again policy held vm None alike known = absurd alike
known_again policy held vm (Some size) alike known =
    Refused (subst (IsHostRefused policy held.cores) (sym (sizes_push held.vms vm))
    (refused_alike policy held.cores (sizes_in held.vms) size vm.size alike known))

-- the next group's host
pub stay_more : (policy : Policy) (groups : List Group) (n : ℕ) (group : Group) (hosts : List Held) (moved : List Vm)
    (held : Held) (mine : List Vm) → n < length groups → group ≡ get_or groups n group
    → Stay policy (take n groups) hosts moved → IsStay policy group held mine
    → Stay policy (take (n + 1) groups) (hosts ++ held ∷ []) (moved ++ mine)
stay_more policy groups n group hosts moved held mine low at before is =
    let count : n + 1 ≡ suc n = omega arith in
    let more : take (n + 1) groups ≡ take n groups ++ group ∷ [] =
    ap (λ k. take k groups) count ∙ (take-suc groups n group low
    ∙ ap (λ (x : Group). take n groups ++ x ∷ []) (sym at)) in
    rw more (NextHost (take n groups) hosts moved group held mine before is)

-- the VMs before a place, and the first of those after it
take_parts : {X : Type 0} (xs front more rest : List X) → xs ≡ front ++ (more ++ rest)
    → take (length front + length more) xs ≡ front ++ more
take_parts xs front more rest is =
    let whole : xs ≡ (front ++ more) ++ rest = is ∙ sym (append_assoc front more rest) in
    let count : length (front ++ more) ≡ length front + length more = length-append front more in
    let within : length front + length more ≤ length (front ++ more) = omega (arith, count) in
    let all : length (front ++ more) ≤ length front + length more = omega (arith, count) in
    rw whole (take-append-le (length front + length more) (front ++ more) rest within
    ∙ take_all (length front + length more) (front ++ more) all)

-- the longest prefix that fits stays
pub stays_first : (policy : Policy) (group : Group) (held : Held) (vms : List Vm) (count : ℕ)
    → group.vms.items ≡ vms → count ≤ length vms → held ≡ record { cores = group.cores; vms = take count vms }
    → (1 ≤ count → FitsHost policy group.cores (take count vms))
    → ((more : ℕ) → count < more → more ≤ length vms → FitsNot policy group.cores (take more vms))
    → IsStay policy group held (drop count vms)
stays_first policy group held vms count own few is fits longest =
    let size : length (take count vms) ≡ count = length-take-le count vms few in
    rw is record {
      cores_are = refl;
      parts = own ∙ sym (take-append-drop count vms);
      fits = λ some. fits (omega (arith, size, some));
      longest = λ more rest split one.
          let whole : vms ≡ take count vms ++ (more ++ rest) =
          sym (take-append-drop count vms) ∙ ap (λ xs. take count vms ++ xs) split in
          let parts : take (length (take count vms) + length more) vms ≡ take count vms ++ more =
          take_parts vms (take count vms) more rest whole in
          let total : length vms ≡ length (take count vms) + (length more + length rest) =
          ap length whole ∙ (length-append (take count vms) (more ++ rest)
          ∙ ap (λ n. length (take count vms) + n) (length-append more rest)) in
          subst (FitsNot policy group.cores) parts
          (longest (length (take count vms) + length more) (omega (arith, size, one)) (omega (arith, total)));
    }

-- a VM goes to the best host that it fits
pub goes_to : (policy : Policy) (vm : Vm) (hosts hosts' : List Held) (left : List Vm) (refused refused' : List (Option Size))
    (number : ℕ) → ((held : Held) × IsBestHost policy hosts vm number held) → length refused ≡ length hosts
    → KnowsRefusals policy hosts refused
    → ((held : Held) → slice_get hosts number ≡ Some held → hosts' ≡ set hosts number (with_vm held vm))
    → refused' ≡ set refused number None → IsTurn policy vm hosts left hosts' left refused'
goes_to policy vm hosts hosts' left refused refused' number full many knows gone forgot =
    let held = full.0 in
    let low : number < length hosts = slice_get_within hosts number held full.1.at in
    let within : number < length refused = omega (arith, low, many) in
    rw (gone held full.1.at, forgot) record {
      many = length-set refused number None ∙ (many ∙ sym (length-set hosts number (with_vm held vm)));
      knows = forgets policy hosts refused number (with_vm held vm) within knows;
      dealt = λ start order before. Joined order left hosts vm number held before full.1;
    }

-- a VM that fits no host is left over
pub left_alone : (policy : Policy) (vm : Vm) (hosts : List Held) (left left' : List Vm) (refused : List (Option Size))
    → JoinsNone policy hosts vm → length refused ≡ length hosts → KnowsRefusals policy hosts refused
    → left' ≡ left ++ vm ∷ [] → IsTurn policy vm hosts left hosts left' refused
left_alone policy vm hosts left left' refused none many knows more = rw more record {
  many = many;
  knows = knows;
  dealt = λ start order before. LeftOver order left hosts vm before none;
}
