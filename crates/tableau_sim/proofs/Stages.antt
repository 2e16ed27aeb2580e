-- A command comes to its outcome in stages: at each a cause refuses the input, or something is read of which
-- the next stage makes the outcome. So one outcome is shown stage by stage, and not for each pair of causes.
use Rattle.std.proofs.Common.{◌≡◌, ◌⊎◌, ℕ, List, [], inl, inr, sym, ap, subst, ◌∙◌}
use Rattle.tab_core.specs.declared.host.Host.{Host}
use Rattle.tab_words.specs.Sections.{sections_of}
use Rattle.host_doc.specs.Document.{IsHostText}
use Rattle.host_doc.proofs.OneHost.{one_host}
use Rattle.tableau_sim.specs.declared.status.Status.TheVariants as status
use Rattle.tableau_sim.specs.Hosts.{OfHost}
use Rattle.tableau_sim.specs.Hosts.OfHost.{BadHost, Hosted}
use Rattle.tableau_sim.specs.Outcomes.{CallOutcome}
use Rattle.tableau_sim.specs.Outcomes.CallOutcome.{Refuses}
use Rattle.tableau_sim.specs.Sections.{OfSections, host_section}
use Rattle.tableau_sim.specs.Sections.OfSections.{BadSections, Sectioned}
use Rattle.tableau_sim.proofs.HostsLemmas.{no_host_fault, one_host_fault}

-- the outcome of one stage
abbrev pub Staged : {F X : Type 0} → (F → Type 0) → (F → CallOutcome) → (X → Type 0) → (X → CallOutcome → Type 0)
    → CallOutcome → Type 0
Staged {F} {X} Bad refusal Good Then outcome =
    ((f : F) × Bad f × (outcome ≡ refusal f)) ⊎ ((x : X) × Good x × Then x outcome)

-- what has to be shown at a stage: one cause, or one thing that is read, and never both
pub record IsOne {F X : Type 0} (Bad : F → Type 0) (Good : X → Type 0) : Type 0 where
  pub cause : (f g : F) → Bad f → Bad g → f ≡ g
  pub thing : (x y : X) → Good x → Good y → x ≡ y
  pub apart : (f : F) (x : X) → Bad f → Good x → ⊥

-- then the outcome is one where it is past the stage
pub one_staged : {F X : Type 0} (Bad : F → Type 0) (refusal : F → CallOutcome) (Good : X → Type 0)
    (Then : X → CallOutcome → Type 0) (a b : CallOutcome) → IsOne Bad Good
    → ((x : X) → Good x → Then x a → Then x b → a ≡ b)
    → Staged Bad refusal Good Then a → Staged Bad refusal Good Then b → a ≡ b
one_staged Bad refusal Good Then a b one next (inl p) (inl q) =
    p.2 ∙ ap refusal (one.cause p.0 q.0 p.1 q.1) ∙ sym q.2
one_staged Bad refusal Good Then a b one next (inl p) (inr q) = absurd (one.apart p.0 q.0 p.1 q.1)
one_staged Bad refusal Good Then a b one next (inr p) (inl q) = absurd (one.apart q.0 p.0 q.1 p.1)
one_staged Bad refusal Good Then a b one next (inr p) (inr q) =
    next q.0 q.1 (subst (λ x. Then x a) (one.thing p.0 q.0 p.1 q.1) p.2) q.2

-- the last stage writes what it makes of what was read
abbrev pub Ends : {F X : Type 0} → (F → Type 0) → (F → CallOutcome) → (X → Type 0) → (X → CallOutcome)
    → CallOutcome → Type 0
Ends Bad refusal Good made = Staged Bad refusal Good (λ x outcome. outcome ≡ made x)

-- nothing is left to show past the last stage
pub one_end : {F X : Type 0} (Bad : F → Type 0) (refusal : F → CallOutcome) (Good : X → Type 0)
    (made : X → CallOutcome) (a b : CallOutcome) → IsOne Bad Good → Ends Bad refusal Good made a
    → Ends Bad refusal Good made b → a ≡ b
one_end Bad refusal Good made a b one = one_staged Bad refusal Good (λ x outcome. outcome ≡ made x) a b one
    (λ x good p q. p ∙ sym q)

-- pairs with the same parts are one, for a stage that reads two things
pub same_pair : {A B : Type 0} (x y : A × B) → x.0 ≡ y.0 → x.1 ≡ y.1 → x ≡ y
same_pair {A} {B} x y first second =
    let pair : A → B → A × B = λ a b. (a, b) in
    ap (λ a. pair a x.1) first ∙ ap (λ b. pair y.0 b) second

-- ---- the stages that commands share

-- the number of sections is either as wanted or not
pub one_of_sections : (n : ℕ) (P : List (List ℕ) → CallOutcome → Type 0) (input : List ℕ) (a b : CallOutcome)
    → (P (sections_of input) a → P (sections_of input) b → a ≡ b)
    → OfSections n P input a → OfSections n P input b → a ≡ b
one_of_sections n P input a b each (Sectioned _ size p) (Sectioned _ size' q) = each p q
one_of_sections n P input a b each (Sectioned _ size p) (BadSections found is off) = absurd (off (is ∙ size))
one_of_sections n P input a b each (BadSections found is off) (Sectioned _ size p) = absurd (off (is ∙ size))
one_of_sections n P input a b each (BadSections found is off) (BadSections found' is' off') =
    ap (λ k. Refuses (status.BadSections k n) []) (is ∙ sym is')

-- the first section is one host, or has one fault
pub one_of_host : (Q : Host → List (List ℕ) → CallOutcome → Type 0) (s : List (List ℕ)) (a b : CallOutcome)
    → ((h : Host) → IsHostText (host_section s) h → Q h s a → Q h s b → a ≡ b)
    → OfHost Q s a → OfHost Q s b → a ≡ b
one_of_host Q s a b each (Hosted h _ is p) (Hosted g _ also q) =
    each h is p (subst (λ k. Q k s b) (one_host _ g h also is) q)
one_of_host Q s a b each (Hosted h _ is p) (BadHost f bad) = absurd (no_host_fault _ f h bad is)
one_of_host Q s a b each (BadHost f bad) (Hosted h _ is p) = absurd (no_host_fault _ f h bad is)
one_of_host Q s a b each (BadHost f bad) (BadHost g also) =
    ap (λ fault. Refuses (status.Host fault) []) (one_host_fault _ f g bad also)
