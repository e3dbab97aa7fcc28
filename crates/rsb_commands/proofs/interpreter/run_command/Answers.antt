use Rattle.std.proofs.Common.{◌≡◌, ◌∙◌, ◌&&◌, not, [], ap, get_or, subst, sym, arith}
use Rattle.std.proofs.lemmas.List.{get_or_read}
use Rattle.rsb_integer.specs.Runs.{members}
use Rattle.rsb_integer.specs.Selection.{difference, intersection, symmetric_difference, union, complement_in}
use Rattle.range_set_blaze.specs.Order.{HasOrder}
use Rattle.range_set_blaze.specs.laws.Order.{order-holds}
use Rattle.range_set_blaze.specs.Set.{only}
use Rattle.rsb_commands.specs.Interpreter.{most_of, sets_of}
use Rattle.rsb_commands.proofs.lemmas.replying.KeptSets.{sets_after-added, reply-added, sets_of-put}
use Rattle.rsb_commands.proofs.interpreter.run_command.Goals as goal

pub returns-in_ok-ranges_insert-in-Add-clause-after :
    goal.returns-in_ok-ranges_insert-in-Add-clause-after
returns-in_ok-ranges_insert-in-Add-clause-after g c =
    let kept = c.args.sets.now.items in
    let slot = c.index.result in
    let old = c.index_mut-set.result.now in
    let is : old ≡ get_or kept slot [] =
    get_or_read kept slot old (omega arith) c.index_mut-set.ensures.value [] in
    let added = rw (c.new.ensures.start, c.new.ensures.end)
    at (c.in_ok-ranges_insert-in-Add.ensures.members c.new.ensures.exhausted) in
    rw (c.in-Add.is, ← c.index.ensures.place)
    (sets_after-added g.T.Integer.rank g.T.Integer.value_count c.in-Add.first c.in-Add.last kept
    slot old
    c.ranges_insert.new.self (omega arith) is added)

pub returns-in_ok-ranges_insert-in-Add-clause-reply :
    goal.returns-in_ok-ranges_insert-in-Add-clause-reply
returns-in_ok-ranges_insert-in-Add-clause-reply g c =
    let kept = c.args.sets.now.items in
    let slot = c.index.result in
    let old = c.index_mut-set.result.now in
    let is : old ≡ get_or kept slot [] =
    get_or_read kept slot old (omega arith) c.index_mut-set.ensures.value [] in
    let added = rw (c.new.ensures.start, c.new.ensures.end)
    at (c.in_ok-ranges_insert-in-Add.ensures.added c.new.ensures.exhausted) in
    rw (c.in-Add.is, ← c.index.ensures.place)
    (reply-added g.T.Integer.rank g.T.Integer.value_count c.in-Add.first c.in-Add.last kept slot old
    c.in_ok-ranges_insert-in-Add.field-0 is added)

pub returns-in_ok-remove-in-Del-clause-after : goal.returns-in_ok-remove-in-Del-clause-after
returns-in_ok-remove-in-Del-clause-after g c =
    let kept = c.args.sets.now.items in
    let slot = c.index-in-Del.result in
    let old = c.index_mut-set-in-Del.result.now in
    let is : old ≡ get_or kept slot [] =
    get_or_read kept slot old (omega arith) c.index_mut-set-in-Del.ensures.value [] in
    let value = g.T.Integer.rank c.in-Del.value in
    rw (c.in-Del.is, ← c.index-in-Del.ensures.place)
    (sets_of-put kept slot c.remove.new.self (difference (sets_of kept slot) (only value))
    (omega arith) (λ at. c.in_ok-remove-in-Del.ensures.members at
    ∙ ap (λ runs. members runs at && not (only value at)) is))

-- The value that `cmp` returns is the order of the two sets.
pub returns-in-Compare-clause-reply : goal.returns-in-Compare-clause-reply
returns-in-Compare-clause-reply g c =
    let left = c.set_at-in-Compare.result.now in
    let right = c.set_at-in-Compare-2.result.now in
    rw (c.in-Compare.is, ← c.set_at-in-Compare.ensures, ← c.set_at-in-Compare-2.ensures)
    (subst (HasOrder g.T.Integer.value_count (members left) (members right))
    (sym c.cmp-order.ensures) (order-holds g.T.Integer.value_count (members left) (members right)))

pub returns-in_ok-set-in-Union-clause-reply : goal.returns-in_ok-set-in-Union-clause-reply
returns-in_ok-set-in-Union-clause-reply g c =
    let left = members c.set_at-in-Union.result.now in
    let right = members c.set_at-in-Union-2.result.now in
    rw (c.in-Union.is, ← c.set_at-in-Union.ensures, ← c.set_at-in-Union-2.ensures)
    (c.put_set.ensures.runs (union left right) c.in_ok-set-in-Union.ensures.members)

pub returns-in_ok-set-in-Intersection-clause-reply :
    goal.returns-in_ok-set-in-Intersection-clause-reply
returns-in_ok-set-in-Intersection-clause-reply g c =
    let left = members c.set_at-in-Intersection.result.now in
    let right = members c.set_at-in-Intersection-2.result.now in
    rw (
      c.in-Intersection.is,
      ← c.set_at-in-Intersection.ensures,
      ← c.set_at-in-Intersection-2.ensures,
    )
    (c.put_set-in-Intersection.ensures.runs (intersection left right)
    c.in_ok-set-in-Intersection.ensures.members)

pub returns-in_ok-set-in-Difference-clause-reply : goal.returns-in_ok-set-in-Difference-clause-reply
returns-in_ok-set-in-Difference-clause-reply g c =
    let left = members c.set_at-in-Difference.result.now in
    let right = members c.set_at-in-Difference-2.result.now in
    rw (c.in-Difference.is, ← c.set_at-in-Difference.ensures, ← c.set_at-in-Difference-2.ensures)
    (c.put_set-in-Difference.ensures.runs (difference left right)
    c.in_ok-set-in-Difference.ensures.members)

pub returns-in_ok-set-in-SymmetricDifference-clause-reply :
    goal.returns-in_ok-set-in-SymmetricDifference-clause-reply
returns-in_ok-set-in-SymmetricDifference-clause-reply g c =
    let left = members c.set_at-in-SymmetricDifference.result.now in
    let right = members c.set_at-in-SymmetricDifference-2.result.now in
    rw (
      c.in-SymmetricDifference.is,
      ← c.set_at-in-SymmetricDifference.ensures,
      ← c.set_at-in-SymmetricDifference-2.ensures,
    )
    (c.put_set-in-SymmetricDifference.ensures.runs (symmetric_difference left right)
    c.in_ok-set-in-SymmetricDifference.ensures.members)

pub returns-in_ok-set-in-Complement-clause-reply : goal.returns-in_ok-set-in-Complement-clause-reply
returns-in_ok-set-in-Complement-clause-reply g c =
    let source = members c.set_at-in-Complement.result.now in
    rw (c.in-Complement.is, ← c.set_at-in-Complement.ensures)
    (c.put_set-in-Complement.ensures.runs
    (complement_in g.T.Integer.value_count source)
    c.in_ok-set-in-Complement.ensures.members)

-- The set that is put has the members of at least two of the old sets.
pub returns-in_ok-set-in-Most-clause-after : goal.returns-in_ok-set-in-Most-clause-after
returns-in_ok-set-in-Most-clause-after g c =
    let sets = sets_of c.args.sets.now.items in
    rw c.in-Most.is
    (c.put_set-in-Most.ensures.put
    (most_of (sets c.in-Most.a) (sets c.in-Most.b) (sets c.in-Most.c))
    c.in_ok-set-in-Most.ensures)

pub returns-in_ok-set-in-Most-clause-reply : goal.returns-in_ok-set-in-Most-clause-reply
returns-in_ok-set-in-Most-clause-reply g c =
    let sets = sets_of c.args.sets.now.items in
    rw c.in-Most.is
    (c.put_set-in-Most.ensures.runs
    (most_of (sets c.in-Most.a) (sets c.in-Most.b) (sets c.in-Most.c))
    c.in_ok-set-in-Most.ensures)
