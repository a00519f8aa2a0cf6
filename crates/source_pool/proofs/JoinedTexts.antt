-- The texts of a log where what is left of a run is joined to what came before it.
use Rattle.std.proofs.Common.{◌≡◌, List, [], ◌++◌, sym, ap, ◌∙◌}
use Rattle.output_log.specs.Entries.{Entry, IsInKeyOrder, ShareNoKey, joined_by_key, joined_texts, with_texts}
use Rattle.output_log.specs.EntryLaws.{joined_behind, share_turned}
use Rattle.app_laws.specs.Applications.{Application}
use Rattle.commuting.specs.Standing.{IsLaterLog}
use Rattle.source_pool.specs.Basis.{Basis}

-- ---- entries behind earlier ones

module _ {V : Type 0} {app : Application V} (basis : Basis app) where
  -- entries without text are not heard, wherever the rest comes among them
  silent_between : (front silent rest : List Entry) → IsInKeyOrder silent → with_texts silent ≡ [] → IsLaterLog front rest → ShareNoKey silent rest
      → joined_texts (joined_by_key (front ++ silent) rest) ≡ joined_texts front ++ joined_texts rest
  silent_between front silent rest ordered none logs new =
      let turned = share_turned silent rest new in
      let unheard = ap joined_texts (basis.joins_commute silent rest ordered logs.ordered new) ∙ basis.silent_joins rest silent logs.ordered ordered turned none in
      ap joined_texts (joined_behind front silent rest logs.later) ∙ basis.texts_follow front (joined_by_key silent rest) ∙ ap (λ texts. joined_texts front ++ texts) unheard

  pub texts_of_rest : (log entries drained silent rest : List Entry) → joined_by_key log entries ≡ drained ++ silent → IsInKeyOrder entries → IsInKeyOrder silent
      → with_texts silent ≡ [] → IsLaterLog drained rest → ShareNoKey entries rest → ShareNoKey silent rest
      → joined_texts (joined_by_key log (joined_by_key entries rest)) ≡ joined_texts drained ++ joined_texts rest
  texts_of_rest log entries drained silent rest all ordered silent_ordered none logs new unheard =
      ap joined_texts (sym (basis.joins_associate log entries rest ordered logs.ordered new) ∙ ap (λ first. joined_by_key first rest) all)
      ∙ silent_between drained silent rest silent_ordered none logs unheard
