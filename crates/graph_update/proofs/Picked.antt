-- What is picked is a clear node.
use Rattle.std.proofs.Common.{◌≡◌, ℕ, zero, suc, ◌<◌, ◌%◌, List, [], ◌∷◌, Option, Some, None, length, slice_get, refl, sym, ap, ◌∙◌, arith}
use Rattle.std.proofs.lemmas.Option.{slice_get-get_or, slice_get_read}
use Rattle.std.proofs.Math.Nat.{mod-eq_of_lt}
use lib.ListN.{length-map}
use Rattle.plain_laws.specs.Options.{some_injective, none_is_not_some}
use Rattle.kdg_graph.specs.declared.node_id.NodeId.{NodeId}
use Rattle.kdg_graph.specs.Node.{Node}
use Rattle.kdg_graph.specs.Nodes.{ids_of}
use Rattle.app_laws.specs.Applications.{Application}
use Rattle.run_laws.specs.Events.{IsOfClear, clear_nodes}

-- the node whose id stands at a place
pub id_at : (nodes : List Node) (i : ℕ) (id : NodeId) → Some id ≡ slice_get (ids_of nodes) i → (node : Node) × (slice_get nodes i ≡ Some node) × (node.id ≡ id)
id_at [] i id is = absurd (none_is_not_some id (sym is))
id_at (node ∷ nodes) zero id is = (node, refl, sym (some_injective id node.id is))
id_at (node ∷ nodes) (suc i) id is = id_at nodes i id is

none_left : (nodes : List Node) (pick : ℕ) → None ≡ slice_get (ids_of nodes) (pick % length (ids_of nodes)) → nodes ≡ []
none_left [] pick is = refl
none_left (node ∷ nodes) pick is =
    let ids = ids_of (node ∷ nodes) in
    let within : pick % length ids < length ids = omega arith in
    absurd (none_is_not_some _ (is ∙ slice_get-get_or ids (pick % length ids) node.id within))

module _ {V : Type 0} (app : Application V) where
  -- the id is that of the clear node at the remainder of a pick, in key order
  pub record IsPicked (nodes : List Node) (pick : ℕ) (id : NodeId) : Type 0 where
    pub node : Node
    pub chosen : slice_get (clear_nodes app nodes) (pick % length (clear_nodes app nodes)) ≡ Some node
    pub id_is : node.id ≡ id

  -- none is found where no node is clear
  abbrev pub IsPick : List Node → ℕ → Option NodeId → Type 0
  IsPick nodes pick None = clear_nodes app nodes ≡ []
  IsPick nodes pick (Some id) = IsPicked nodes pick id

  pub pick_is : (nodes : List Node) (pick : ℕ) (ids : List NodeId) (found : Option NodeId) → ids ≡ ids_of (clear_nodes app nodes) → found ≡ slice_get ids (pick % length ids) → IsPick nodes pick found
  pick_is nodes pick ids found are is =
      by_case found (is ∙ ap (λ (held : List NodeId). slice_get held (pick % length held)) are)
    where
      clear : List Node
      clear = clear_nodes app nodes

      by_case : (found : Option NodeId) → found ≡ slice_get (ids_of clear) (pick % length (ids_of clear)) → IsPick nodes pick found
      by_case None none = none_left clear pick none
      by_case (Some id) some =
          let many : length (ids_of clear) ≡ length clear = length-map clear (λ (n : Node). n.id) in
          let at = id_at clear (pick % length clear) id (some ∙ ap (λ m. slice_get (ids_of clear) (pick % m)) many) in
          record { node = at.0; chosen = at.1; id_is = at.2 }

  -- the place of a clear node's id among theirs is a pick of it
  pub picked_at : (nodes : List Node) (id : NodeId) (clear : IsOfClear app nodes id) → IsPicked nodes clear.0 id
  picked_at nodes id clear =
      let ids = ids_of (clear_nodes app nodes) in
      let small : clear.0 % length ids ≡ clear.0 = mod-eq_of_lt clear.1 in
      pick_is nodes clear.0 ids (Some id) refl (sym (slice_get_read ids (length ids) clear.0 id refl clear.1 (sym clear.2)) ∙ ap (slice_get ids) (sym small))
