-- What is so of places in their order.
use Rattle.std.specs.declared.cmp.Ordering.TheVariants.{Less}
use Rattle.std.specs.Prelude.{refl, ◌<◌, ◌≡◌}
use Rattle.std.specs.Cmp.{IsTotalOrder}
use Rattle.std.proofs.lemmas.Cmp.{then_total, on_total, nat_cmp_total}
use Rattle.plain_laws.specs.Orderings.{nat_cmp-below}
use Rattle.mtx_reader.specs.Places.{Place, place_cmp}

pub lower_row_first : (place other : Place) → place.0 < other.0 → place_cmp place other ≡ Less
lower_row_first place other less = rw (nat_cmp-below place.0 other.0 less) refl

pub place_total : IsTotalOrder place_cmp
place_total = then_total (on_total (λ (place : Place). place.0) nat_cmp_total) (on_total (λ (place : Place). place.1) nat_cmp_total)
