use Rattle.std.proofs.Common.{◌≡◌, ◌∙◌, subst, sym, true}
use Rattle.range_set_blaze.specs.Runs.{members}
use Rattle.ip_matches.specs.LineFilter.{has_found}
use Rattle.ip_matches.proofs.lemmas.FirstAddress.{one_first_address}
use Rattle.ip_matches.proofs.filter.has_match.Goals as goal

-- The text has one first address.
pub returns-in-Some : goal.returns-in-Some
returns-in-Some g c = (
  λ is. record {
    address = c.in-Some.address;
    first = c.in-Some.ensures;
    found = sym c.has_found.ensures ∙ is;
  },
  λ found.
      c.has_found.ensures
      ∙ subst
      (λ address.
      has_found (members c.args.lists.now.v4) (members c.args.lists.now.v6) address ≡ true)
      (one_first_address c.args.text.now found.address c.in-Some.address found.first
      c.in-Some.ensures) found.found,
)
