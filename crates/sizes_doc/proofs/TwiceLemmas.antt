-- The first vCPU with the name of an earlier one.
use Rattle.std.proofs.Common.{◌≡◌, ℕ, zero, suc, ◌+◌, ◌<◌, ◌≤◌, Bool, Bor, BTreeSet, true, false, ◌||◌, List, [], ◌∷◌, ◌++◌, length, take, get_or, Some, slice_get, refl, sym, ap, subst, ◌∙◌, bytes_eq, arith, add-one}
use Rattle.std.proofs.Math.Seq.{take-suc}
use Rattle.std.proofs.lemmas.List.{map-append, take_all}
use Rattle.std.proofs.lemmas.List.Elements.{All-append}
use Rattle.std.proofs.lemmas.List.Folds.{list_any-append}
use Rattle.std.proofs.lemmas.Option.{slice_get-get_or}
use Rattle.std.proofs.lemmas.Slice.Eq.{bytes_eq-Decides}
use Rattle.std.specs.List.{All, list_any}
use Rattle.tab_core.specs.Name.{IsName}
use Rattle.tab_core.specs.Vcpus.{HaveDistinctNames}
use Rattle.tab_core.specs.declared.vcpu.Vcpu.{Vcpu}
use Rattle.host_doc.proofs.VcpusLemmas.{distinct_with, names, or-last}
use Rattle.host_doc.specs.Inside.TextSets.{has_text}
use Rattle.sizes_doc.specs.SizedHost.{HaveGoodNames, IsTwice}

-- the set has the names of the vCPUs before this number, which are names, and all distinct
pub record AreNew (vcpus : List Vcpu) (index : ℕ) (texts : BTreeSet (Bor (List ℕ))) : Type 0 where
  pub held : (text : List ℕ) → has_text texts text ≡ list_any (bytes_eq text) (names (take index vcpus))
  pub good : All (λ vcpu. IsName vcpu.name) (take index vcpus)
  pub distinct : HaveDistinctNames (take index vcpus)

-- before the first vCPU
pub none_new : (vcpus : List Vcpu) (index : ℕ) (texts : BTreeSet (Bor (List ℕ))) → index ≡ 0
    → ((text : List ℕ) → has_text texts text ≡ false) → AreNew vcpus index texts
none_new vcpus index texts first empty =
    let none : take index vcpus ≡ [] = ap (λ n. take n vcpus) first in
    record {
      held = λ text. empty text ∙ ap (λ (vs : List Vcpu). list_any (bytes_eq text) (names vs)) (sym none);
      good = subst (λ (vs : List Vcpu). All (λ v. IsName v.name) vs) (sym none)
          (λ k d low. absurd (omega arith));
      distinct = subst HaveDistinctNames (sym none) (λ j k a b at_j at_k same. absurd cc);
    }

-- after a vCPU of a new name
pub more_new : (vcpus : List Vcpu) (index : ℕ) (texts more : BTreeSet (Bor (List ℕ))) (vcpu : Vcpu)
    → AreNew vcpus index texts → index < length vcpus → vcpu ≡ get_or vcpus index vcpu → IsName vcpu.name
    → has_text texts vcpu.name ≡ false
    → ((text : List ℕ) → has_text more text ≡ (bytes_eq text vcpu.name || has_text texts text))
    → AreNew vcpus (index + 1) more
more_new vcpus index texts more vcpu new within is good absent adds =
    let longer : take (index + 1) vcpus ≡ take index vcpus ++ vcpu ∷ [] =
    ap (λ n. take n vcpus) (add-one index) ∙ take-suc vcpus index vcpu within
    ∙ ap (λ v. take index vcpus ++ v ∷ []) (sym is) in
    let unlike : list_any (bytes_eq vcpu.name) (names (take index vcpus)) ≡ false =
    sym (new.held vcpu.name) ∙ absent in
    record {
      held = λ text. adds text ∙ rw (
        longer,
        map-append (λ (v : Vcpu). v.name) (take index vcpus) (vcpu ∷ []),
        list_any-append (bytes_eq text) (names (take index vcpus)) (vcpu.name ∷ []),
        new.held text,
      )
          (or-last (bytes_eq text vcpu.name) (list_any (bytes_eq text) (names (take index vcpus))));
      good = subst (λ (vs : List Vcpu). All (λ v. IsName v.name) vs) (sym longer)
          (All-append (λ (v : Vcpu). IsName v.name) (take index vcpus) (vcpu ∷ []) new.good
          (λ k d low. let first : k ≡ 0 = omega arith in rw first good));
      distinct = subst HaveDistinctNames (sym longer) (distinct_with (take index vcpus) vcpu new.distinct unlike);
    }

-- a vCPU before this number has the name
record IsEarlier (vcpus : List Vcpu) (index : ℕ) (name : List ℕ) : Type 0 where
  pub at : ℕ
  pub vcpu : Vcpu
  pub before : at < index
  pub is : slice_get vcpus at ≡ Some vcpu
  pub same : vcpu.name ≡ name

-- one has it where it is among the names before
earlier : (vcpus : List Vcpu) (index : ℕ) (name : List ℕ)
    → list_any (bytes_eq name) (names (take index vcpus)) ≡ true → IsEarlier vcpus index name
earlier [] zero name held = absurd cc
earlier [] (suc index) name held = absurd cc
earlier (v ∷ vcpus) zero name held = absurd cc
earlier (v ∷ vcpus) (suc index) name held = by_test (bytes_eq name v.name) refl held (earlier vcpus index name)
  where
    by_test : (b : Bool) → bytes_eq name v.name ≡ b
        → (b || list_any (bytes_eq name) (names (take index vcpus))) ≡ true
        → (list_any (bytes_eq name) (names (take index vcpus)) ≡ true → IsEarlier vcpus index name)
        → IsEarlier (v ∷ vcpus) (suc index) name
    by_test true is held behind = record {
      at = 0;
      vcpu = v;
      before = omega arith;
      is = refl;
      same = sym ((bytes_eq-Decides name v.name).0 is);
    }
    by_test false is held behind =
        let found = behind held in
        record {
          at = suc found.at;
          vcpu = found.vcpu;
          before = omega (arith, found.before);
          is = found.is;
          same = found.same;
        }

-- a vCPU whose name the set has is such
pub twice : (vcpus : List Vcpu) (index : ℕ) (texts : BTreeSet (Bor (List ℕ))) (vcpu : Vcpu)
    → AreNew vcpus index texts → index < length vcpus → vcpu ≡ get_or vcpus index vcpu
    → has_text texts vcpu.name ≡ true → IsTwice vcpus index
twice vcpus index texts vcpu new within is held =
    let found = earlier vcpus index vcpu.name (sym (new.held vcpu.name) ∙ held) in
    record {
      earlier = found.at;
      first = found.vcpu;
      second = vcpu;
      before = found.before;
      is_first = found.is;
      is_second = slice_get-get_or vcpus index vcpu within ∙ ap Some (sym is);
      same = found.same;
    }

-- after the last vCPU
pub all_new : (vcpus : List Vcpu) (index : ℕ) (texts : BTreeSet (Bor (List ℕ)))
    → AreNew vcpus index texts → length vcpus ≤ index → HaveGoodNames vcpus
all_new vcpus index texts new past =
    let whole : take index vcpus ≡ vcpus = take_all index vcpus past in
    record {
      good = subst (λ (vs : List Vcpu). All (λ v. IsName v.name) vs) whole new.good;
      distinct = subst HaveDistinctNames whole new.distinct;
    }
