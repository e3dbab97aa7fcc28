-- The texts of ranges and their values are those of their pieces.
use Rattle.std.proofs.Common.{◌≡◌, ℕ, ◌<◌, ◌+◌, List, [], ◌∷◌, Option, Some, refl, sym, ap, ◌∙◌, arith}
use Rattle.std.specs.Fmt.{◌++?◌, debug_items, comma_space}
use Rattle.std.specs.Range.{range_inclusive_end, range_inclusive_start}
use Rattle.std.specs.declared.ops.RangeInclusive.{RangeInclusive}
use Rattle.rsb_integer.specs.Rank.{interval_of}
use Rattle.rsb_streams.proofs.lemmas.sources.Known.{range-end, range-start}
use Rattle.range_map_blaze.specs.Map.{IsMapFrom}
use Rattle.range_map_blaze.specs.Storage.{pieces_in}
use Rattle.range_map_blaze.specs.Written.{item_text, piece_text, range_text}

module _ {T V : Type 0} (rank : T → ℕ) (n : ℕ) (seen : V → V) (value_at : ℕ → T)
    (placed : (x : T) → rank x < n → value_at (rank x) ≡ x) (key : T → Option (List ℕ))
    (value : V → Option (List ℕ)) (shown : (each : V) → value (seen each) ≡ value each) where
  pub items-pieces : (low : ℕ) (lead : List ℕ) (items : List (RangeInclusive T × V))
      → IsMapFrom n low (pieces_in rank seen items)
      → debug_items (item_text key value) lead items
      ≡ debug_items (piece_text (λ place. key (value_at place)) value) lead (pieces_in rank seen items)
  items-pieces low lead [] canonical = refl
  items-pieces low lead (item ∷ items) canonical =
      let order = canonical.1 in
      let below = canonical.2 in
      let first = range-start rank item.0 order in
      let last = range-end rank item.0 order in
      let start : key (range_inclusive_start item.0) ≡ key (value_at (interval_of rank item.0).first) =
      sym (ap key (ap value_at first
      ∙ placed (range_inclusive_start item.0) (omega (arith, order, below, first)))) in
      let end : key (range_inclusive_end item.0) ≡ key (value_at (interval_of rank item.0).last) =
      sym (ap key (ap value_at last ∙ placed (range_inclusive_end item.0) (omega (arith, below, last)))) in
      let one = sym (shown item.1) in
      let rest = items-pieces ((interval_of rank item.0).last + 1) comma_space items canonical.4 in
      λ i. Some lead ++? (range_text (start i) (end i) (one i) ++? rest i)
