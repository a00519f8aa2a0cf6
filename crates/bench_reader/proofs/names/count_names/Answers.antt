use Rattle.std.proofs.Common.{rules, ◌≡◌, ◌∙◌, ◌||◌, ap, true, [], ◌∷◌}
use Rattle.std.specs.Str.{bytes_eq}
use Rattle.bench_reader.specs.Decks.{is_long}
use Rattle.bench_reader.specs.LineForms.{is_name}
use Rattle.bench_reader.proofs.Counting.{HasCounted-more}
use Rattle.bench_reader.proofs.names.count_names.Goals as goal
use Rattle.bench_reader.proofs.names.count_names.Goals.{then-has_long, else-has_long}

pub loop-name-preserved : goal.loop-name-preserved
loop-name-preserved c =
    let named : is_name c.in_ok-name.name.now ≡ true = search rules in
    let comma : bytes_eq c.in_ok-mark.mark.now (44 ∷ []) ≡ true = search rules in
    let cut : c.loop-name.tokens ≡ c.in_ok-name.name.now ∷ c.in_ok-mark.mark.now ∷ c.token-in-loop-name.new.tokens =
    c.in_ok-name.ensures.found ∙ ap (λ rest. c.in_ok-name.name.now ∷ rest) c.in_ok-mark.ensures.found in
    let longer : c.if-has_long.has_long ≡ (c.loop-name.has_long || is_long c.in_ok-name.name.now) = elim c.if-has_long.branch [
      | then-has_long w ↦ search rules
      | else-has_long w ↦ search rules
    ] in
    HasCounted-more _ _ _ _ _ _ _ _ _ c.loop-name.invariant cut named comma c.one_more-count.ensures longer
