-- A clear node stays clear until it is claimed.
use Rattle.std.proofs.Common.{◌≡◌, ◌≢◌, ⊎_elim, not, false, List, [], ◌∷◌, Some, sym, ap, subst, ◌∙◌}
use Rattle.std.specs.Prelude.{Contains}
use Rattle.std.proofs.lemmas.Bool.{and_from, and_parts, true≢false}
use Rattle.plain_laws.specs.Members.{in_map}
use Rattle.plain_laws.specs.Bools.{false_from_not}
use Rattle.cell_store.specs.Cells.{cells_given}
use Rattle.rw_sets.specs.Accesses.{Accesses}
use Rattle.kdg_graph.specs.Node.{Node}
use Rattle.kdg_graph.specs.Nodes.{node_at, started}
use Rattle.kdg_graph.specs.Rewrite.{set_after}
use Rattle.kdg_graph.specs.NodeLaws.{start}
use Rattle.app_laws.specs.Applications.{Application}
use Rattle.run_laws.specs.Jobs.{Done, Job}
use Rattle.run_laws.specs.Events.{renewals}
use Rattle.run_laws.specs.Basis.{Basis}
use Rattle.run_laws.specs.FinishBasis.{FinishBasis}
use Rattle.run_laws.specs.Finishes.{IsEnd}
use Rattle.run_laws.specs.Laws.{Event, FinishesKeepSound, IsSoundMoment, Leads, Moment}
use Rattle.run_laws.specs.Progress.{Progress}
use Rattle.run_laws.specs.Rest.{ActsLeaveClear, ClaimsNode, ClearNodesStayClear, IsClearNode}
use Rattle.run_laws.specs.Sound.{is_unblocked}
use Rattle.run_laws.proofs.ActsKeep.{beside}
use Rattle.run_laws.proofs.Claims.{claimed_is_clear, claims_keep_sound, is_home, own_covers, same_node}
use Rattle.run_laws.proofs.Ended.{ended_node, is_there}
use Rattle.run_laws.proofs.EndedNodes.{own_id, set_unchanged, stays}
use Rattle.run_laws.proofs.EndedOrder.{IsAnotherUnblocked, free_of_ended, unblocked_after}
use Rattle.run_laws.proofs.EventsKeep.{event_keeps_sound}
use Rattle.run_laws.proofs.Starting.{start_cases, unblocked_started}

module _ {V : Type 0} {app : Application V} (begun : Basis app) (ended : FinishBasis app) (finishes_sound : FinishesKeepSound app) where
  -- ---- another node is claimed

  clear_after_claim : (old now : Progress V) (node : Node) (claimed : Node) → now.nodes ≡ started claimed.id old.nodes → node.id ≢ claimed.id → IsClearNode app old.nodes node → IsClearNode app now.nodes node
  clear_after_claim old now node claimed nodes_are other (has, clear) =
      let same : start claimed.id node ≡ node = ⊎_elim (λ one. absurd (other one)) (λ same. same) (start_cases claimed.id node) in
      let there = subst (λ (n : Node). Contains (started claimed.id old.nodes) n) same (in_map (start claimed.id) old.nodes node has) in
      let unblocked : is_unblocked app (started claimed.id old.nodes) node ≡ is_unblocked app old.nodes node =
      ap (is_unblocked app (started claimed.id old.nodes)) (sym same) ∙ unblocked_started app begun.lower claimed.id old.nodes node in
      let parts = and_parts (not node.running) (is_unblocked app old.nodes node) clear in
      subst (λ nodes. IsClearNode app nodes node) (sym nodes_are)
      (there, and_from (not node.running) (is_unblocked app (started claimed.id old.nodes) node) parts.0 (unblocked ∙ parts.1))

  -- ---- a task ends

  module _ {old now : Progress V} {done : Done V} {job : Job V} {jobs others : List (Job V)} {values : List V} (end : IsEnd app old jobs values done job others now) where
    idle_is_another : (node : Node) → Contains old.nodes node → node.running ≡ false → node.id ≢ end.finished.node.id
    idle_is_another node has idle same =
        let is = own_id ended end node end.finished.node has (is_there ended end) same in
        true≢false (sym (ended_node ended end).running ∙ ap (λ (n : Node). n.running) (sym is) ∙ idle)

    clear_after_end : (node : Node) → IsClearNode app old.nodes node → IsClearNode app now.nodes node
    clear_after_end node (has, clear) =
        let parts = and_parts (not node.running) (is_unblocked app old.nodes node) clear in
        let apart = idle_is_another node has (false_from_not node.running parts.0) in
        let still : IsAnotherUnblocked ended end node = record {
          has = has;
          apart = apart;
          unblocked = parts.1;
          own = (own_covers begun old jobs values node end.sound has clear).home (is_home begun old jobs values node end.sound has clear);
        } in
        let same : set_after (renewals app (cells_given old.cells done.effect.bundle) old.nodes end.finished.node) node ≡ node.set =
        set_unchanged ended end node has (λ way. true≢false (sym way.1 ∙ free_of_ended ended end node still)) in
        let found : node_at now.nodes node.id ≡ Some node = subst (λ (set : Accesses). node_at now.nodes node.id ≡ Some (record node { set = set })) same (stays ended end node has apart) in
        ((ended.ids_find now.nodes node.id node found).0, and_from (not node.running) (is_unblocked app now.nodes node) parts.0 (unblocked_after ended end node still))

  -- ---- all events

  stays_clear : (event : Event V) (old now : Moment V) (node : Node) → IsSoundMoment app old → Leads app event old now → ¬ ClaimsNode app node event
      → IsClearNode app old.progress.nodes node → IsClearNode app now.progress.nodes node
  stays_clear (Event.claims pick job) old now node (values, sound) (may, claimed, jobs_are) other clear =
      clear_after_claim old.progress now.progress node claimed.node (ap (λ (progress : Progress V). progress.nodes) claimed.after)
      (λ same.
      let among = claimed_is_clear claimed in
      let is = same_node begun old.progress old.jobs values claimed.node sound among.0 among.1 node clear.0 same in
      other (ap (λ (job : Job V). job.task.key) claimed.job_is ∙ ap (λ (n : Node). n.task.key) (sym is))) clear
  stays_clear (Event.finishes done) old now node (values, sound) (performed, within, finished) other clear =
      clear_after_end (record { sound = sound; performed = performed.1; within = within; finished = finished }) node clear
  stays_clear (Event.exceeds done) old now node sound (performed, over, progress_is, jobs_are) other clear = subst (λ (progress : Progress V). IsClearNode app progress.nodes node) (sym progress_is) clear
  stays_clear Event.drains old now node sound (progress_is, jobs_are) other clear = subst (λ (progress : Progress V). IsClearNode app progress.nodes node) (sym progress_is) clear
  stays_clear Event.gives_up old now node sound (progress_is, jobs_are) other clear = subst (λ (progress : Progress V). IsClearNode app progress.nodes node) (sym progress_is) clear

  pub clear_nodes_stay_clear : ClearNodesStayClear app
  clear_nodes_stay_clear [] old now node sound same others clear = subst (λ (moment : Moment V). IsClearNode app moment.progress.nodes node) (sym same) clear
  clear_nodes_stay_clear (event ∷ events) old now node sound (next, leads, reaches) others clear =
      clear_nodes_stay_clear events next now node (event_keeps_sound begun finishes_sound event old next sound leads) reaches others.1
      (stays_clear event old next node sound leads others.0 clear)

  -- ---- an act

  pub acts_leave_clear : ActsLeaveClear app
  acts_leave_clear old now id node jobs values sound acted other clear =
      let played = acted.played in
      let claimed = played.started.claimed in
      let its : claimed.node.id ≡ id = ap (λ (job : Job V). job.node) (sym claimed.job_is) ∙ played.started.node in
      let midway = clear_after_claim old acted.midway node claimed.node (ap (λ (progress : Progress V). progress.nodes) claimed.after) (λ same. other (same ∙ its)) clear in
      let end : IsEnd app acted.midway (played.job ∷ jobs) values acted.done played.job jobs now = record {
        sound = claims_keep_sound begun old acted.midway played.started.pick played.job jobs values sound claimed;
        performed = beside played jobs;
        within = acted.within;
        finished = acted.finished;
      } in
      clear_after_end end node midway
