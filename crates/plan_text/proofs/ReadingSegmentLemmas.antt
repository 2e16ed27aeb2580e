-- Lines that are no segment's, by their owner.
use Rattle.std.proofs.Common.{◌≡◌, ◌≢◌, ℕ, ◌<◌, true, false, List, [], ◌∷◌, length, codes, Option, Some, None, refl, sym, ap, ◌∙◌, subst, arith}
use Rattle.std.proofs.lemmas.Bool.{false≢true}
use Rattle.std.specs.Option.{ForSome}
use Rattle.tab_core.specs.Name.{IsName}
use Rattle.tab_core.specs.declared.periodic.Periodic.{Periodic}
use Rattle.tab_words.specs.Texts.{Line}
use Rattle.table_form.specs.Tables.Serves.{has_task}
use Rattle.vcpu_names.specs.Names.{IsUnknown, name_at, owner_word}
use Rattle.plan_text.specs.Names.{AreHostNames}
use Rattle.plan_text.specs.Inside.Reading.{IsNoSegmentLine}
use Rattle.table_form.proofs.TaskLemmas.{task_within}

-- `-` is no name
pub dash_is_no_name : IsName (codes "-") → ⊥
dash_is_no_name good = absurd (cc)

-- the lemma below, by the owner of a segment
unknown_owner : (names : List (List ℕ)) (tasks : List (Option Periodic)) (owner : List ℕ) (o : Option ℕ)
    → length names ≡ length tasks
    → owner ≢ codes "-" → IsUnknown names owner → ForSome o (λ v. has_task tasks v ≡ true)
    → owner ≡ owner_word names o → ⊥
unknown_owner names tasks owner None same other unknown owned is = absurd (other is)
unknown_owner names tasks owner (Some v) same other unknown owned is =
    unknown v (let low = task_within tasks v (owned v refl) in omega arith) (sym is)

-- a line with a name that no vCPU has is no segment's
pub owner_is_unknown : (names : List (List ℕ)) (tasks : List (Option Periodic)) (words : Line)
    (end owner : List ℕ)
    → length names ≡ length tasks
    → words ≡ end ∷ owner ∷ [] → owner ≢ codes "-" → IsUnknown names owner → IsNoSegmentLine names tasks words
owner_is_unknown names tasks words end owner same are other unknown s fine is =
    unknown_owner names tasks owner s.owner same other unknown fine.owned cc

-- the lemma below, by the owner of a segment
idle_owner : (names : List (List ℕ)) (tasks : List (Option Periodic)) (owner : List ℕ) (vcpu : ℕ)
    (o : Option ℕ)
    → length names ≡ length tasks
    → AreHostNames names → IsName owner → vcpu < length names → name_at names vcpu ≡ owner
    → has_task tasks vcpu ≡ false
    → ForSome o (λ v. has_task tasks v ≡ true) → owner ≡ owner_word names o → ⊥
idle_owner names tasks owner vcpu None same good name low here none owned is =
    dash_is_no_name (subst IsName is name)
idle_owner names tasks owner vcpu (Some v) same good name low here none owned is =
    let below : v < length names = let low = task_within tasks v (owned v refl) in omega arith in
    let one : vcpu ≡ v = good.distinct vcpu v low below (here ∙ is) in
    absurd (false≢true (sym none ∙ (ap (has_task tasks) one ∙ owned v refl)))

-- a line with the name of a vCPU without a task is no segment's
pub owner_is_idle : (names : List (List ℕ)) (tasks : List (Option Periodic)) (words : Line)
    (end owner : List ℕ)
    (vcpu : ℕ) → length names ≡ length tasks
    → AreHostNames names → words ≡ end ∷ owner ∷ [] → IsName owner → vcpu < length names
    → name_at names vcpu ≡ owner
    → has_task tasks vcpu ≡ false → IsNoSegmentLine names tasks words
owner_is_idle names tasks words end owner vcpu same good are name low here none s fine is =
    idle_owner names tasks owner vcpu s.owner same good name low here none fine.owned cc
