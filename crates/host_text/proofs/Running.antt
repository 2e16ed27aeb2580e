-- What the expressions of a host's text define: the document's members.
use Rattle.std.proofs.Common.{◌≡◌, pos, Bool, true, false, List, [], ◌∷◌, ◌++◌, codes, Some, refl, ap, ◌∙◌, append_assoc, ℕ, Option, None}
use Rattle.tab_core.specs.declared.host.Host.{Host}
use Rattle.toml.specs.Data.{string, integer, boolean, array, table, Items, no_items, item, push_item, Members, no_members, member}
use Rattle.toml.specs.Tables.{Nodes, no_nodes, node, value, open_array, close, Document, Expression, at_key, along_dots, along_header, define}
use Rattle.toml.proofs.ReadLines.{run}
use Rattle.host_text.proofs.Statements.{Statement, either_way, expressions_with, format_of, head_members, members_with, vcpu_expressions, vcpu_items, vcpu_members, vcpus_expressions}

-- the node of a named tick, before others
abbrev tick_node : Option ℕ → Nodes → Nodes
tick_node None rest = rest
tick_node (Some tick) rest = node (codes "tick_ns") (value (integer (pos tick))) rest

-- the nodes of the host's own numbers, before others
abbrev head_nodes : Option ℕ → Host → Nodes → Nodes
head_nodes named host rest =
    node (codes "cores") (value (integer (pos host.cores)))
    (node (codes "format") (value (integer (pos (format_of named))))
    (node (codes "lag") (value (integer (pos host.lag)))
    (node (codes "quantum") (value (integer (pos host.quantum)))
    (node (codes "sliver") (value (integer (pos host.sliver))) (tick_node named rest)))))

-- that of a capped vCPU, before others
abbrev capped_node : Bool → Nodes → Nodes
capped_node true rest = node (codes "capped") (value (boolean true)) rest
capped_node false rest = rest

-- those of an admitted vCPU
abbrev vcpu_nodes : Statement → Nodes
vcpu_nodes s =
    capped_node s.capped
    (node (codes "latency_ns") (value (integer (pos s.reservation.latency_ns)))
    (node (codes "name") (value (string s.name))
    (node (codes "runnable") (value (boolean s.runnable))
    (node (codes "share_ppm") (value (integer (pos s.reservation.share_ppm))) no_nodes))))

-- the document after the host's own numbers
abbrev after_head : Option ℕ → Host → Document
after_head named host = (head_nodes named host no_nodes, [])

-- the document after a vCPU, which others came before
abbrev after_vcpu : Option ℕ → Host → Items → Statement → Document
after_vcpu named host done s =
    (head_nodes named host (node (codes "vcpu") (open_array done (vcpu_nodes s)) no_nodes), codes "vcpu" ∷ [])

-- the host's own numbers go into the root table
head_run : (named : Option ℕ) (host : Host) (es : List Expression)
    → run (no_nodes, []) (expressions_with named host ++ es) ≡ run (after_head named host) es
unfolding define along_header along_dots at_key
head_run None host es = refl
head_run (Some tick) host es = refl

-- the first vCPU makes the array
first_run : (named : Option ℕ) (host : Host) (s : Statement) (es : List Expression)
    → run (after_head named host) (vcpu_expressions s ++ es) ≡ run (after_vcpu named host no_items s) es
unfolding define along_header along_dots at_key
first_run None host s es =
    either_way (λ s. run (after_head None host) (vcpu_expressions s ++ es)
    ≡ run (after_vcpu None host no_items s) es) (λ s. refl) (λ s. refl) s
first_run (Some tick) host s es =
    either_way (λ s. run (after_head (Some tick) host) (vcpu_expressions s ++ es)
    ≡ run (after_vcpu (Some tick) host no_items s) es) (λ s. refl) (λ s. refl) s

-- the expressions of the vCPU add the value of the one before it to the array
abbrev Adds : Option ℕ → Host → Items → List Expression → Statement → Statement → Type 0
Adds named host done es before s = run (after_vcpu named host done before) (vcpu_expressions s ++ es)
    ≡ run (after_vcpu named host (push_item done (table (vcpu_members before))) s) es

-- the expressions of each further vCPU add a value to the array
next_run : (named : Option ℕ) (host : Host) (done : Items) (u s : Statement) (es : List Expression)
    → run (after_vcpu named host done u) (vcpu_expressions s ++ es)
    ≡ run (after_vcpu named host (push_item done (table (vcpu_members u))) s) es
unfolding define along_header along_dots at_key
next_run None host done u s es =
    either_way (λ u. Adds None host done es u s)
    (λ u. either_way (Adds None host done es (record u { capped = true })) (λ s. refl) (λ s. refl) s)
    (λ u. either_way (Adds None host done es (record u { capped = false })) (λ s. refl) (λ s. refl) s) u
next_run (Some tick) host done u s es =
    either_way (λ u. Adds (Some tick) host done es u s)
    (λ u. either_way (Adds (Some tick) host done es (record u { capped = true })) (λ s. refl) (λ s. refl) s)
    (λ u. either_way (Adds (Some tick) host done es (record u { capped = false })) (λ s. refl) (λ s. refl) s) u

-- the members of a document of some vCPUs
abbrev with_vcpus : Option ℕ → Host → List Statement → Members
with_vcpus named host ss = head_members named host (member (codes "vcpu") (array (vcpu_items ss)) no_members)

-- one more vCPU is the array's last
items_last : (before : List Statement) (u : Statement)
    → push_item (vcpu_items before) (table (vcpu_members u)) ≡ vcpu_items (before ++ u ∷ [])
items_last [] u = refl
items_last (s ∷ before) u = ap (item (table (vcpu_members s))) (items_last before u)

-- the expressions lead to a document of these members
pub record Defines (doc : Document) (es : List Expression) (members : Members) : Type 0 where
  pub last : Document
  pub runs : run doc es ≡ Some last
  pub closes : close last.0 ≡ members

-- the members of a document of the host's own numbers alone
head_closes : (named : Option ℕ) (host : Host)
    → close (head_nodes named host no_nodes) ≡ head_members named host no_members
head_closes None host = refl
head_closes (Some tick) host = refl

-- the members of a document with these vCPUs and one more, whose value is added at the end of the
-- text
vcpus_close : (named : Option ℕ) (host : Host) (done : Items) (u : Statement)
    → close (after_vcpu named host done u).0
    ≡ head_members named host
    (member (codes "vcpu") (array (push_item done (table (vcpu_members u)))) no_members)
vcpus_close None host done u = either_way (λ u. close (after_vcpu None host done u).0
    ≡ head_members None host
    (member (codes "vcpu") (array (push_item done (table (vcpu_members u)))) no_members))
    (λ u. refl) (λ u. refl) u
vcpus_close (Some tick) host done u = either_way (λ u. close (after_vcpu (Some tick) host done u).0
    ≡ head_members (Some tick) host
    (member (codes "vcpu") (array (push_item done (table (vcpu_members u)))) no_members))
    (λ u. refl) (λ u. refl) u

-- the rest of the vCPUs, after some and this one
rest_run : (named : Option ℕ) (host : Host) (before : List Statement) (u : Statement) (ss : List Statement)
    → Defines (after_vcpu named host (vcpu_items before) u) (vcpus_expressions ss)
    (with_vcpus named host (before ++ u ∷ ss))
rest_run named host before u [] = record {
  last = after_vcpu named host (vcpu_items before) u;
  runs = refl;
  closes = vcpus_close named host (vcpu_items before) u
      ∙ ap (λ items. head_members named host (member (codes "vcpu") (array items) no_members))
      (items_last before u);
}
rest_run named host before u (s ∷ ss) =
    let more = rest_run named host (before ++ u ∷ []) s ss in record {
      last = more.last;
      runs =
          next_run named host (vcpu_items before) u s (vcpus_expressions ss)
          ∙ ap (λ items. run (after_vcpu named host items s) (vcpus_expressions ss)) (items_last before u)
          ∙ more.runs;
      closes = more.closes ∙ ap (with_vcpus named host) (append_assoc before (u ∷ []) (s ∷ ss));
    }

-- all expressions of a host, with this tick named, if one is
pub all_run : (named : Option ℕ) (host : Host) (ss : List Statement)
    → Defines (no_nodes, []) (expressions_with named host ++ vcpus_expressions ss) (members_with named host ss)
all_run named host [] =
    record { last = after_head named host; runs = head_run named host []; closes = head_closes named host }
all_run named host (s ∷ ss) =
    let rest = rest_run named host [] s ss in record {
      last = rest.last;
      runs =
          head_run named host (vcpus_expressions (s ∷ ss))
          ∙ first_run named host s (vcpus_expressions ss)
          ∙ rest.runs;
      closes = rest.closes;
    }
