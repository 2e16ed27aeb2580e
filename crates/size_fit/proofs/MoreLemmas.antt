-- More VMs of a size beside those of a host, and how many of them fit.
use Rattle.std.proofs.Common.{◌≡◌, Bool, ℕ, ◌+◌, ◌*◌, ◌/◌, ◌<◌, ◌≤◌, List, [], ◌∷◌, ◌++◌, length, length-append, map, get_or, take, replicate, suc, zero, inl, inr, refl, ap, subst, sym, ◌∙◌, arith}
use Rattle.std.proofs.lemmas.Bool.{cases_lt}
use Rattle.std.proofs.lemmas.List.{length-map, length-replicate, map-append}
use Rattle.std.proofs.Math.Nat.{le-div_iff_mul-le}
use Rattle.std.proofs.Math.Seq.{take-suc}
use Rattle.tab_core.specs.declared.TheConstants.{MAX_VCPUS}
use Rattle.tab_core.specs.declared.host.Host.{Host}
use Rattle.tab_core.specs.declared.vcpu.Vcpu.{Vcpu}
use Rattle.sizes_doc.specs.declared.size.Size.{Size}
use Rattle.size_fit.specs.Fits.{FitMore, FitNotWith, FitWith, TooMany}
use Rattle.size_fit.specs.declared.fit.Room.{Room}
use Rattle.size_fit.specs.MoreVms.{Nameless, nameless}

-- lists that are alike but for names are of one length
pub same_length : (xs ys : List Vcpu) → map nameless xs ≡ map nameless ys → length xs ≡ length ys
same_length xs ys same = sym (length-map xs nameless) ∙ (ap length same ∙ length-map ys nameless)

-- one more of the list
pub take_next : (xs : List Vcpu) (i : ℕ) (d : Vcpu) → i < length xs
    → map nameless (take (i + 1) xs) ≡ map nameless (take i xs) ++ nameless (get_or xs i d) ∷ []
take_next xs i d low =
    let count : i + 1 ≡ suc i = omega arith in
    rw count (ap (map nameless) (take-suc xs i d low) ∙ map-append nameless (take i xs) (get_or xs i d ∷ []))

-- one more of the same
pub replicate_next : (n : ℕ) (x : Nameless) → replicate (n + 1) x ≡ replicate n x ++ x ∷ []
replicate_next zero x = refl
replicate_next (suc n) x =
    let count : suc n + 1 ≡ suc (n + 1) = omega arith in
    rw count (ap (λ xs. x ∷ xs) (replicate_next n x))

-- how many there are with so many more
pub grown_length : (xs ys : List Vcpu) (n : ℕ) (x : Nameless) → map nameless xs ≡ map nameless ys ++ replicate n x
    → length xs ≡ length ys + n
grown_length xs ys n x same =
    omega (
      arith,
      ap length same,
      length-map xs nameless,
      length-map ys nameless,
      length-append (map nameless ys) (replicate n x),
      length-replicate n x,
    )

-- ---- sizes

-- the size of a room
abbrev pub size_in : Room → Size
size_in room = room.size

-- one more size is answered
pub rooms_next : (sizes : List Size) (i : ℕ) (rooms : List Room) (room : Room) → i < length sizes
    → room.size ≡ get_or sizes i room.size → map size_in rooms ≡ take i sizes
    → map size_in (rooms ++ room ∷ []) ≡ take (i + 1) sizes
rooms_next sizes i rooms room low at before =
    let count : i + 1 ≡ suc i = omega arith in
    let more : take (suc i) sizes ≡ take i sizes ++ room.size ∷ [] =
    take-suc sizes i room.size low ∙ ap (λ size. take i sizes ++ size ∷ []) (sym at) in
    rw count (map-append size_in rooms (room ∷ []) ∙ (ap (λ xs. xs ++ room.size ∷ []) before ∙ sym more))

-- ---- the search

-- so many more VMs fit, and so many don't; there may be less than these
pub record Between (no_split : Bool) (host : Host) (size : Size) (fits fails : ℕ) : Type 0 where
  pub order : fits < fails
  pub few : (count : ℕ) → count < fails → length host.vcpus + count * size.vcpus ≤ MAX_VCPUS
  pub fit : 1 ≤ fits → FitWith no_split host size fits
  pub full : FitNotWith no_split host size fails

-- before the search: none more, and more than the vCPUs that are left
pub begins : (no_split : Bool) (host : Host) (size : Size) (left : ℕ) → length host.vcpus ≤ MAX_VCPUS
    → left + length host.vcpus ≡ MAX_VCPUS → Between no_split host size 0 (left / size.vcpus + 1)
begins no_split host size left few all =
    let some : 0 < size.vcpus = (let one = size.some_vcpus in omega arith) in
    record {
      order = omega arith;
      few = λ count low.
          let within : count * size.vcpus ≤ left = (le-div_iff_mul-le some).0 (omega arith) in
          omega arith;
      fit = λ one. absurd (omega arith);
      full = elim (cases_lt left ((left / size.vcpus + 1) * size.vcpus)) [
        | inl more ↦ TooMany (omega arith)
        | inr less ↦ absurd (
            let within : left / size.vcpus + 1 ≤ left / size.vcpus = (le-div_iff_mul-le some).1 less in
            omega arith)
      ];
    }

-- so many fit
pub tried_fits : (no_split : Bool) (host : Host) (size : Size) (fits fails count : ℕ) → Between no_split host size fits fails → count < fails
    → FitWith no_split host size count → Between no_split host size count fails
tried_fits no_split host size fits fails count before low fit = record {
  order = low;
  few = before.few;
  fit = λ one. fit;
  full = before.full;
}

-- so many don't
pub tried_fails : (no_split : Bool) (host : Host) (size : Size) (fits fails count : ℕ) → Between no_split host size fits fails → fits < count
    → count < fails → FitNotWith no_split host size count → Between no_split host size fits count
tried_fails no_split host size fits fails count before high low full = record {
  order = high;
  few = λ k lt. before.few k (omega arith);
  fit = before.fit;
  full = full;
}

-- at the end one more doesn't fit
pub ends : (no_split : Bool) (host : Host) (size : Size) (fits fails : ℕ) → Between no_split host size fits fails → fails ≤ fits + 1
    → FitMore no_split host size fits
ends no_split host size fits fails before near =
    let next : fails ≡ fits + 1 = (let order = before.order in omega arith) in
    record { fit = before.fit; full = subst (FitNotWith no_split host size) next before.full }
