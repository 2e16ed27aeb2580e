-- The faults of a document are those of its keys: none of them says that the bytes are no document.
use Rattle.std.proofs.Common.{◌≡◌, ℕ, ◌+◌, ℤ, pos, negsuc, Bool, true, false, if◌then◌else◌, List, [], ◌∷◌, ◌++◌, Option, Some, None, Result, Ok, Err, IfErr, IsErrOf, ◌⊎◌, inl, inr, refl, sym, ap, ◌∙◌, arith}
use Rattle.std.proofs.lemmas.Grind.{common_steps}
use Rattle.std.specs.Option.{option_or}
use Rattle.std.specs.Result.{result_err}
use Rattle.tab_core.specs.declared.host.Host.{Host}
use Rattle.tab_core.specs.declared.TheConstants.{MAX_CORES, MAX_LATENCY_NS, MAX_SLIVER, MAX_TICK_NS, MIN_TICK_NS, ROUND, TICK_NS, WHOLE_PPM}
use Rattle.toml.specs.Data.{Data, Items, no_items, item, Members, as_integer, as_table}
use Rattle.host_doc.specs.Document.{first_fault, members_fault}
use Rattle.host_doc.specs.Array.{items_or}
use Rattle.host_doc.specs.KeyTable.{admitted_of, capped_of, cores_of, document_keys, format_of, lag_of, latency_of, name_of, quantum_of, runnable_of, share_of, sliver_of, vcpu_keys, vcpus_of, is_second, tick_of}
use Rattle.host_doc.specs.OtherKeys.{unknown_key}
use Rattle.host_doc.specs.Text.{text_in, well_formed}
use Rattle.host_doc.specs.Value.{found_at, in_range, integer_or, truth_or}
use Rattle.host_doc.specs.VcpuFaults.{first_of, member_names, reservation_fault, same_name, settings_fault, vcpu_fault, vcpus_fault, where_admitted}
use Rattle.host_doc.specs.Path.{of_document, of_vcpu}
use Rattle.host_doc.specs.declared.fault.Key.{Key}
use Rattle.host_doc.specs.declared.fault.Key.TheVariants.{Format, Cores, Lag, Sliver, Quantum, Vcpu, Name, Admitted, Runnable, Share, Latency, Capped, Unknown, TickNs}
use Rattle.host_doc.specs.declared.fault.Path.{Path}
use Rattle.host_doc.specs.declared.fault.HostFault.{HostFault}
use Rattle.host_doc.specs.declared.fault.HostFault.TheVariants.{NotToml, BadKey, OutOfRange, SameName, TooMany, NoMemory}

-- no fault, or that of a key
abbrev pub is_of_key : Option HostFault → Bool
is_of_key None = true
is_of_key (Some NotToml) = false
is_of_key (Some NoMemory) = false
is_of_key (Some (BadKey path)) = true
is_of_key (Some (OutOfRange path)) = true
is_of_key (Some (SameName vcpu)) = true
is_of_key (Some (TooMany count)) = true

-- the first of two faults is of a key where both are
either : (a b : Option HostFault) → is_of_key a ≡ true → is_of_key b ≡ true → is_of_key (option_or a b) ≡ true
either None b of_a of_b = of_b
either (Some fault) b of_a of_b = of_a

-- each key's own faults
range : (path : Path) (least most : ℕ) (number : Option ℤ)
    → is_of_key (result_err (in_range path least most number)) ≡ true
range path least most None = refl
range path least most (Some (pos n)) = grind (arith, common_steps)
range path least most (Some (negsuc n)) = refl

-- a number at a key has no other fault than those of its key
whole : (path : Path) (least most : ℕ) (default : Option ℕ) (found : Option Data)
    → is_of_key (result_err (integer_or path least most default found)) ≡ true
whole path least most None None = refl
whole path least most (Some default) None = refl
whole path least most default (Some found) = range path least most (as_integer found)

-- a truth value at a key has no other fault than those of its key
truth : (path : Path) (default : Bool) (found : Option Data)
    → is_of_key (result_err (truth_or path default found)) ≡ true
truth path default None = refl
truth path default (Some found) = grind (arith, common_steps)

-- a name at a key has no other fault than those of its key
name : (path : Path) (found : Option Data)
    → is_of_key (result_err (well_formed path (text_in path found))) ≡ true
name path None = refl
name path (Some found) = grind (arith, common_steps)

-- an array at a key has no other fault than those of its key
items : (path : Path) (found : Option Data) → is_of_key (result_err (items_or path no_items found)) ≡ true
items path None = refl
items path (Some found) = grind (arith, common_steps)

-- a name that is there twice has no other fault than those of its key
same : (earlier : List (List ℕ)) (number : ℕ) (name : Result (List ℕ) HostFault)
    → is_of_key (same_name earlier number name) ≡ true
same earlier number (Ok name) = grind (arith, common_steps)
same earlier number (Err fault) = refl

-- a fault that counts only where the vCPU is admitted
admitted : (found : Result Bool HostFault) (fault : Option HostFault) → is_of_key fault ≡ true
    → is_of_key (where_admitted found fault) ≡ true
admitted (Ok true) fault of = of
admitted (Ok false) fault of = refl
admitted (Err refused) fault of = refl

-- the fault of an unknown key is that of a key
unknown : (path : Path) (keys : List Key) (ms : Members) → is_of_key (unknown_key path keys ms) ≡ true
unknown path keys ms = grind (arith, common_steps)

-- the faults of a reservation are those of its two keys
reservation : (number : ℕ) (ms : Members)
    → is_of_key
    (first_of (result_err (share_of number ms) ∷ result_err (latency_of number ms) ∷ [])) ≡ true
reservation number ms =
    either (result_err (share_of number ms)) _
    (whole (of_vcpu number Share) 1 WHOLE_PPM None (found_at (of_vcpu number Share) ms))
    (either (result_err (latency_of number ms)) None
    (whole (of_vcpu number Latency) 0 MAX_LATENCY_NS None
    (found_at (of_vcpu number Latency) ms)) refl)

-- the faults of a member, of all members, and of the document
settings : (number : ℕ) (ms : Members) → is_of_key (settings_fault number ms) ≡ true
settings number ms =
    either (result_err (admitted_of number ms)) _
    (truth (of_vcpu number Admitted) true (found_at (of_vcpu number Admitted) ms))
    (either (result_err (runnable_of number ms)) _
    (truth (of_vcpu number Runnable) true (found_at (of_vcpu number Runnable) ms))
    (either (reservation_fault number ms) _ (admitted (admitted_of number ms) _ (reservation number ms))
    (either (result_err (capped_of number ms)) _
    (truth (of_vcpu number Capped) false (found_at (of_vcpu number Capped) ms))
    (either (unknown_key (of_vcpu number Unknown) vcpu_keys ms) None
    (unknown (of_vcpu number Unknown) vcpu_keys ms) refl))))

-- the first fault of a member is that of a key
vcpu : (earlier : List (List ℕ)) (number : ℕ) (found : Option Members)
    → is_of_key (vcpu_fault earlier number found) ≡ true
vcpu earlier number None = refl
vcpu earlier number (Some ms) =
    either (result_err (name_of number ms)) _ (name (of_vcpu number Name) (found_at (of_vcpu number Name) ms))
    (either (same_name earlier number (name_of number ms)) _ (same earlier number (name_of number ms))
    (either (settings_fault number ms) None (settings number ms) refl))

-- the first fault of all members is that of a key
vcpus : (earlier : List (List ℕ)) (number : ℕ) (found : Items)
    → is_of_key (vcpus_fault earlier number found) ≡ true
unfolding vcpus_fault
vcpus earlier number no_items = refl
vcpus earlier number (item found more) =
    either _ _ (vcpu earlier number (as_table found))
    (vcpus (earlier ++ member_names number (as_table found)) (number + 1) more)

-- the first fault of the members of an array, if there is one, is that of a key
inside : (found : Result Items HostFault) → is_of_key (members_fault found) ≡ true
inside (Ok found) = vcpus [] 0 found
inside (Err fault) = refl

-- a tick, which one format names, has no other fault than those of its key
tick : (second : Bool) (ms : Members)
    → is_of_key (result_err (if second then integer_or (of_document TickNs) MIN_TICK_NS MAX_TICK_NS (Some TICK_NS)
    (found_at (of_document TickNs) ms) else Ok TICK_NS)) ≡ true
tick true ms = whole (of_document TickNs) MIN_TICK_NS MAX_TICK_NS (Some TICK_NS) (found_at (of_document TickNs) ms)
tick false ms = refl

-- every fault that a document can have is that of a key
pub first_is_of_key : (ms : Members) → is_of_key (first_fault ms) ≡ true
unfolding first_fault
first_is_of_key ms =
    either (result_err (format_of ms)) _
    (whole (of_document Format) 1 2 (Some 1) (found_at (of_document Format) ms))
    (either (result_err (tick_of ms)) _ (tick (is_second (format_of ms)) ms)
    (either (result_err (cores_of ms)) _
    (whole (of_document Cores) 1 MAX_CORES None (found_at (of_document Cores) ms))
    (either (result_err (lag_of ms)) _
    (whole (of_document Lag) 1 ROUND (Some 1000) (found_at (of_document Lag) ms))
    (either (result_err (sliver_of ms)) _
    (whole (of_document Sliver) 0 MAX_SLIVER (Some 30) (found_at (of_document Sliver) ms))
    (either (result_err (quantum_of ms)) _
    (whole (of_document Quantum) 1 ROUND (Some 1000) (found_at (of_document Quantum) ms))
    (either (result_err (vcpus_of ms)) _ (items (of_document Vcpu) (found_at (of_document Vcpu) ms))
    (either (unknown_key (of_document Unknown) (document_keys ms) ms) _
    (unknown (of_document Unknown) (document_keys ms) ms)
    (either (members_fault (vcpus_of ms)) None (inside (vcpus_of ms)) refl))))))))

-- an answer of such faults is never that the bytes are no document
pub no_not_toml : (result : Result Host HostFault) (ms : Members)
    → IfErr result (λ fault. (fault ≡ NoMemory) ⊎ (first_fault ms ≡ Some fault))
    → IsErrOf result NotToml → ⊥
no_not_toml (Ok host) ms of is = cc
no_not_toml (Err fault) ms (inl memory) is = cc
no_not_toml (Err fault) ms (inr first) is =
    let of_key = first_is_of_key ms in
    let toml : first_fault ms ≡ Some NotToml = cc in
    let wrong : is_of_key (Some NotToml) ≡ true = sym (ap is_of_key toml) ∙ of_key in
    cc
