use Rattle.std.proofs.Common.{◌∷◌, ◌++◌, sym, ◌∙◌, ap, subst}
use Rattle.std.proofs.lemmas.Bool.{false≢true}
use Rattle.output_log.specs.Entries.{IsInKeyOrder, IsNewEntry, with_entry, with_texts}
use Rattle.output_log.specs.LogState.{LogState}
use Rattle.output_log.proofs.Written.{written_in_order, written_put, written_where_some}
use Rattle.output_log.proofs.log.Log.put.Goals as goal

pub place_of-at-requires : goal.place_of-at-requires
place_of-at-requires c = subst IsInKeyOrder (sym c.self.invariant.1) (written_in_order c.self.inside.seen c.self.invariant.0)

pub invariant_of-self : goal.invariant_of-self
invariant_of-self c =
    let new : IsNewEntry c.args.key c.self.inside.seen = subst (λ (log : LogState). IsNewEntry c.args.key log.entries) (sym c.self.view_is) c.requires.new in (
      subst IsInKeyOrder (sym c.put.ensures) (c.put_laws.ensures.order c.args.key c.args.text c.self.inside.seen new c.self.invariant.0),
      c.insert.ensures.entries ∙ (λ i. c.place_of-at.ensures.before i ++ (c.args.key, c.args.text) ∷ c.place_of-at.ensures.from i)
          ∙ ap (λ entries. with_entry c.args.key c.args.text entries) c.self.invariant.1
          ∙ sym (written_put c.args.key c.args.text c.self.inside.seen (written_where_some c.args.text (λ none. false≢true (c.if-not-is_empty.ensures.1 none)))) ∙ ap with_texts (sym c.put.ensures),
    )
