use Rattle.std.proofs.Common.{◌≡◌, ◌∙◌, ◌<◌, ℕ, Bool, List, Option, length, ap, arith, subst, sym, refl, true, false, ltb-true, true≢false, IfSome}
use Rattle.kdg_graph.proofs.Common.{Access, Read, Write, is_write, NodeId, BlocksNoneAlone, stoppers, IsRank, IsLaneAmong, Location, ids_for, writers_in, Node, node_at}
use Rattle.kdg_graph.proofs.Arriving.{blocked_if, first_if, last_if, stopped_if}
use Rattle.kdg_graph.proofs.location.Location.enter.Goals.{Joined-is_write-2, then-not-self+then-not-is_write, else-not-self, then-self+then-is_write, else-self, else-self-via-then-self+else-is_write, else-self-via-else-self, then-earlier-gt0, else-earlier-gt0, then-earlier-others, else-earlier-others}
use Rattle.kdg_graph.proofs.location.Location.enter.Goals as goal

write_by_test : (access : Access) → is_write access ≡ true → access ≡ Write
write_by_test Read is = absurd (true≢false (sym is))
write_by_test Write is = refl

read_by_test : (access : Access) → is_write access ≡ false → access ≡ Read
read_by_test Read is = refl
read_by_test Write is = absurd (true≢false is)

-- those that write may get a list of their own, which changes nothing of all
same_named : (c : Joined-is_write-2) → c.args.self.now.named ≡ c.if-not-self.self-inside.named.ids.items
same_named c =
    let named = ap (λ (l : Location). l.named) (sym c.self.view_is) in
    elim c.if-not-self.branch [
      | then-not-self+then-not-is_write w ↦ named ∙ ap (λ l. l.named.ids.items) (sym w.self-inside-is)
      | else-not-self w ↦ named ∙ ap (λ l. l.named.ids.items) (sym w.self-inside-is)
    ]

named_ranked : (c : Joined-is_write-2) (some : List Node) → IsLaneAmong c.args.nodes.now.nodes some (ids_for Write c.args.self.now) → IfSome (node_at c.args.nodes.now.nodes c.args.id) (λ node. IsRank node.task.key some c.put_into-earlier.result)
named_ranked c some among = c.put_into-earlier.ensures.place some (subst (IsLaneAmong c.args.nodes.now.nodes some) (same_named c) among)

-- those that write stand in a list of their own, or in that of all
own_writers : (c : Joined-is_write-2) → c.if-not-self.self-inside.apart ≡ true → is_write c.args.access ≡ true → c.args.self.now.writers ≡ c.if-not-self.self-inside.writers.ids.items
own_writers c apart writes =
    elim c.if-not-self.branch [
      | then-not-self+then-not-is_write w ↦ absurd (true≢false (sym writes ∙ sym w.is_write.ensures ∙ w.if-not-is_write.true))
      | else-not-self w ↦
          ap (λ (l : Location). l.writers) (sym c.self.view_is) ∙ ap (λ l. writers_in l.apart l.named.ids.items l.writers.ids.items) (sym w.self-inside-is)
          ∙ ap (λ b. writers_in b c.if-not-self.self-inside.named.ids.items c.if-not-self.self-inside.writers.ids.items) apart
    ]

all_write : (c : Joined-is_write-2) → c.if-not-self.self-inside.apart ≡ false → c.args.self.now.writers ≡ c.if-not-self.self-inside.named.ids.items
all_write c apart =
    elim c.if-not-self.branch [
      | then-not-self+then-not-is_write w ↦ absurd (true≢false (sym (ap (λ l. l.apart) w.self-inside-is) ∙ apart))
      | else-not-self w ↦
          ap (λ (l : Location). l.writers) (sym c.self.view_is) ∙ ap (λ l. writers_in l.apart l.named.ids.items l.writers.ids.items) (sym w.self-inside-is)
          ∙ ap (λ b. writers_in b c.if-not-self.self-inside.named.ids.items c.if-not-self.self-inside.writers.ids.items) apart
    ]

either_ranked : (found : Option Node) (access : Access) (some writers : List Node) (place : ℕ) → IfSome found (λ node. IsRank node.task.key some place) → IfSome found (λ node. IsRank node.task.key writers place) → IfSome found (λ node. IsRank node.task.key (stoppers access some writers) place)
either_ranked found Read some writers place all writing = all
either_ranked found Write some writers place all writing = writing

-- the place among those that stop all that the access may block
stoppers_ranked : (c : Joined-is_write-2) (some writers : List Node) → IsLaneAmong c.args.nodes.now.nodes some (ids_for Write c.args.self.now) → IsLaneAmong c.args.nodes.now.nodes writers (ids_for Read c.args.self.now)
    → IfSome (node_at c.args.nodes.now.nodes c.args.id) (λ node. IsRank node.task.key (stoppers c.args.access some writers) c.if-self.stoppers)
stoppers_ranked c some writers among writing =
    let found : Option Node = node_at c.args.nodes.now.nodes c.args.id in
    elim c.if-self.branch [
      | then-self+then-is_write w ↦
          let writes : is_write c.args.access ≡ true = sym w.is_write-then-self.ensures ∙ w.if-is_write.true in
          let ranked = w.put_into-stoppers.ensures.place writers (subst (IsLaneAmong c.args.nodes.now.nodes writers) (own_writers c w.if-self.true writes) writing) in
          subst (λ (access : Access). IfSome found (λ node. IsRank node.task.key (stoppers access some writers) c.if-self.stoppers)) (sym (write_by_test c.args.access writes))
          (subst (λ (place : ℕ). IfSome found (λ node. IsRank node.task.key writers place)) (sym w.stoppers-is) ranked)
      | else-self w ↦
          subst (λ (place : ℕ). IfSome found (λ node. IsRank node.task.key (stoppers c.args.access some writers) place)) (sym w.stoppers-is)
          (elim w.else-self.branch [
            | else-self-via-then-self+else-is_write v ↦
                subst (λ (access : Access). IfSome found (λ node. IsRank node.task.key (stoppers access some writers) c.put_into-earlier.result)) (sym (read_by_test c.args.access (sym v.is_write-then-self.ensures ∙ v.if-is_write.false)))
                (named_ranked c some among)
            | else-self-via-else-self v ↦
                either_ranked found c.args.access some writers c.put_into-earlier.result (named_ranked c some among) (c.put_into-earlier.ensures.place writers (subst (IsLaneAmong c.args.nodes.now.nodes writers) (all_write c v.if-self.false) writing))
          ])
    ]

blocked_by_write : (c : Joined-is_write-2) → c.if-earlier-gt0.blocked ≡ true → (0 < c.put_into-earlier.result) × (c.args.access ≡ Write)
blocked_by_write c is =
    elim c.if-earlier-gt0.branch [
      | then-earlier-gt0 w ↦ (w.if-earlier-gt0.true, write_by_test c.args.access (sym w.is_write-blocked.ensures ∙ sym w.blocked-is ∙ is))
      | else-earlier-gt0 w ↦ absurd (omega (arith, w.if-earlier-gt0.false, ltb-true 0 c.put_into-earlier.result (sym w.blocked-is ∙ is)))
    ]

pub returns-clause-first : goal.returns-clause-first
returns-clause-first c some among = first_if (node_at c.args.nodes.now.nodes c.args.id) some c.put_into-earlier.result (named_ranked c some among)

pub returns-clause-blocked : goal.returns-clause-blocked
returns-clause-blocked c some among = blocked_if _ (node_at c.args.nodes.now.nodes c.args.id) some c.put_into-earlier.result c.args.access (named_ranked c some among) (blocked_by_write c)

pub returns-clause-blocks_none : goal.returns-clause-blocks_none
returns-clause-blocks_none c some writers among writing =
    elim c.if-earlier-others.branch [
      | then-earlier-others w ↦
          last_if _ (node_at c.args.nodes.now.nodes c.args.id) c.args.access some writers c.args.self.now.named c.put_into-earlier.result c.len-others.result (c.len-others.ensures.len ∙ ap (λ (l : List NodeId). length l) (sym (same_named c))) among.ids_are w.if-earlier-others.true
          (named_ranked c some among)
      | else-earlier-others w ↦
          subst (λ (test : Bool). IfSome (node_at c.args.nodes.now.nodes c.args.id) (λ node. test ≡ true → BlocksNoneAlone c.args.access node.task.key some writers)) (sym w.blocks_none-is)
          (stopped_if (node_at c.args.nodes.now.nodes c.args.id) c.args.access some writers c.if-self.stoppers (stoppers_ranked c some writers among writing))
    ]
