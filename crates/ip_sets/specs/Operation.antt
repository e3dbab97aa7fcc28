-- What an operation on lists of addresses selects.
use Rattle.std.specs.Prelude.{false, List, [], ◌∷◌}
use Rattle.range_set_blaze.specs.Selection.{Selection, all_of, any_of, at_least, complement, difference, odd_of}
use Rattle.ip_sets.specs.declared.operations.Operation.{Operation}
use Rattle.ip_sets.specs.declared.operations.Operation.TheVariants.{AtLeast, Common, Complement, Except, Odd, Union}

-- The addresses in the first of the sets and in none of the others. There are none if there are no
-- sets.
abbrev pub first_only : List Selection → Selection
first_only [] rank = false
first_only (first ∷ others) rank = difference first (any_of others) rank

-- The addresses that an operation selects from the sets of one family.
abbrev pub selected_by : Operation → List Selection → Selection
selected_by Union sets = any_of sets
selected_by Common sets = all_of sets
selected_by Except sets = first_only sets
selected_by Odd sets = odd_of sets
selected_by (AtLeast k) sets = at_least k sets
selected_by Complement sets = complement (any_of sets)
