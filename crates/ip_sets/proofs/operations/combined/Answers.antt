use Rattle.ip_sets.specs.declared.operations.Operation.TheVariants.{AtLeast, Common, Complement, Except, Odd, Union}
use Rattle.ip_sets.proofs.lemmas.Selecting.{as-made}
use Rattle.ip_sets.proofs.operations.combined.Goals as goal

-- What each operation selects was collected.
pub returns-in_ok-union-in-Union : goal.returns-in_ok-union-in-Union
returns-in_ok-union-in-Union g c = λ sets each.
    as-made g.T.Integer.value_count c.args.operation Union sets _
    c.from_ranges.result c.in-Union.is
    (c.in_ok-union-in-Union.ensures.selects sets each) c.from_ranges.ensures

pub returns-in_ok-common-in-Common : goal.returns-in_ok-common-in-Common
returns-in_ok-common-in-Common g c = λ sets each.
    as-made g.T.Integer.value_count c.args.operation Common sets _
    c.from_ranges-in-Common.result c.in-Common.is
    (c.in_ok-common-in-Common.ensures.selects sets each) c.from_ranges-in-Common.ensures

pub returns-in_ok-except-in-Except : goal.returns-in_ok-except-in-Except
returns-in_ok-except-in-Except g c = λ sets each.
    as-made g.T.Integer.value_count c.args.operation Except sets _
    c.from_ranges-in-Except.result c.in-Except.is
    (c.in_ok-except-in-Except.ensures.selects sets each) c.from_ranges-in-Except.ensures

pub returns-in_ok-odd-in-Odd : goal.returns-in_ok-odd-in-Odd
returns-in_ok-odd-in-Odd g c = λ sets each.
    as-made g.T.Integer.value_count c.args.operation Odd sets _
    c.from_ranges-in-Odd.result c.in-Odd.is
    (c.in_ok-odd-in-Odd.ensures.selects sets each) c.from_ranges-in-Odd.ensures

pub returns-in_ok-at_least-in-AtLeast : goal.returns-in_ok-at_least-in-AtLeast
returns-in_ok-at_least-in-AtLeast g c = λ sets each.
    as-made g.T.Integer.value_count c.args.operation (AtLeast c.in-AtLeast.k) sets _
    c.from_ranges-in-AtLeast.result c.in-AtLeast.is
    (c.in_ok-at_least-in-AtLeast.ensures.selects sets each) c.from_ranges-in-AtLeast.ensures

pub returns-in_ok-complement-in-Complement : goal.returns-in_ok-complement-in-Complement
returns-in_ok-complement-in-Complement g c = λ sets each.
    as-made g.T.Integer.value_count c.args.operation Complement sets _
    c.from_ranges-in-Complement.result c.in-Complement.is
    (c.in_ok-complement-in-Complement.ensures.selects sets each) c.from_ranges-in-Complement.ensures
