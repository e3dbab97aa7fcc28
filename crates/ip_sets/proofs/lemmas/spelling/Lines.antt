-- A line that is not blank means addresses or nothing.
use Rattle.std.proofs.Common.{◌≡◌, ◌∙◌, ℕ, List, [], inl, inr}
use Rattle.std.specs.declared.ops.RangeInclusive.{RangeInclusive}
use Rattle.ip_sets.specs.declared.line.Line.{Line}
use Rattle.ip_sets.specs.declared.line.Line.TheVariants.{Nothing, V4, V6}
use Rattle.ip_sets.specs.Address.{IsV4, IsV6}
use Rattle.ip_sets.specs.AddressRange.{WritesBracketed, WritesRange}
use Rattle.ip_sets.specs.Line.{IsLine, content}

-- A line is bad if its content is not empty and writes no addresses of either family.
pub bad_line : (line text : List ℕ) → text ≡ content line → (text ≡ [] → ⊥)
    → ((range : RangeInclusive ℕ) → ¬ WritesRange 32 IsV4 text range)
    → ((range : RangeInclusive ℕ) → ¬ WritesRange 128 IsV6 text range)
    → ((range : RangeInclusive ℕ) → ¬ WritesBracketed IsV6 text range)
    → (what : Line) → ¬ IsLine line what
bad_line line text is some no_v4 no_v6 no_brackets Nothing h = some (is ∙ h)
bad_line line text is some no_v4 no_v6 no_brackets (V4 range) h = no_v4 range (rw is h)
bad_line line text is some no_v4 no_v6 no_brackets (V6 range) (inl h) = no_v6 range (rw is h)
bad_line line text is some no_v4 no_v6 no_brackets (V6 range) (inr h) = no_brackets range (rw is h)
