-- The most comparisons that one call of a merge or a sweep may make, for some numbers of streams.
use Rattle.std.proofs.Common.{◌≡◌, refl}
use Rattle.rsb_many.specs.Heads.{binary_digits}
use Rattle.rsb_many.specs.KMerge.{comparison_bound}

-- No stream has the same bound as one stream.
bound-of_none : comparison_bound 0 ≡ 8
unfolding binary_digits
bound-of_none = refl

-- One stream: 1 has one digit.
bound-of_one : comparison_bound 1 ≡ 8
unfolding binary_digits
bound-of_one = refl

-- Three streams: 3 has two digits.
bound-of_three : comparison_bound 3 ≡ 12
unfolding binary_digits
bound-of_three = refl

-- Four streams: 4 has three digits.
bound-of_four : comparison_bound 4 ≡ 16
unfolding binary_digits
bound-of_four = refl

-- A thousand streams: 1000 has ten digits.
bound-of_thousand : comparison_bound 1000 ≡ 44
unfolding binary_digits
bound-of_thousand = refl
