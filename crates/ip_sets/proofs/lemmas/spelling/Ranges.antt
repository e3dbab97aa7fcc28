-- A text that writes no range.
use Rattle.std.proofs.Common.{◌≡◌, ℕ, ◌^◌, ◌<◌, List, ap, arith}
use Rattle.std.specs.Range.{range_inclusive_end, range_inclusive_start}
use Rattle.std.specs.declared.ops.RangeInclusive.{RangeInclusive}
use Rattle.ip_sets.specs.AddressRange.{WritesEnd, WritesSpan}
use Rattle.ip_sets.specs.LineParts.{trimmed}
use Rattle.ip_sets.specs.Reason.{IsReversedIn}
use Rattle.ip_sets.proofs.lemmas.spelling.OneMeaning.{one_end}

module _ (bits : ℕ) (small : bits < 2 ^ 32) (IsAddress : List ℕ → ℕ → Type 0)
    (unique : (text : List ℕ) (m n : ℕ) → IsAddress text m → IsAddress text n → m ≡ n) where
  -- If the second end is below the first one, there is no range.
  pub out_of_order : (first_text last_text : List ℕ) (first last : RangeInclusive ℕ)
      → WritesEnd bits IsAddress (trimmed first_text) first
      → WritesEnd bits IsAddress (trimmed last_text) last
      → range_inclusive_end last < range_inclusive_start first
      → (range : RangeInclusive ℕ) → ¬ WritesSpan bits IsAddress first_text last_text range
  out_of_order first_text last_text first last is is_too below range h =
      let same = one_end bits small IsAddress unique (trimmed first_text) h.first first
      h.first_written is in
      let same_too = one_end bits small IsAddress unique (trimmed last_text) h.last last
      h.last_written is_too in
      omega (arith, ap range_inclusive_start same, ap range_inclusive_end same_too, below, h.in_order)

  -- Two ends write a reversed range only if the second is below the first.
  pub reversed : (first_text last_text : List ℕ) (first last : RangeInclusive ℕ)
      → WritesEnd bits IsAddress first_text first → WritesEnd bits IsAddress last_text last
      → (h : IsReversedIn bits IsAddress first_text last_text)
      → range_inclusive_end last < range_inclusive_start first
  reversed first_text last_text first last is is_too h =
      let same = one_end bits small IsAddress unique first_text h.first first h.first_written is in
      let same_too = one_end bits small IsAddress unique last_text h.last last h.last_written is_too in
      omega (arith, ap range_inclusive_start same, ap range_inclusive_end same_too, h.reversed)
